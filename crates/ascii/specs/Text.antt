-- Bytes as text: classes of bytes, runs, numbers, and texts that are equal but for the case of letters.
use Rattle.std.specs.Prelude.{ℕ, suc, ◌+◌, ◌-◌, ◌*◌, Bool, true, false, cond, not, ◌&&◌, ◌||◌, List, [], ◌∷◌, leb, eqb, length, get_or, take}
use Rattle.ascii.specs.declared.Class.{Class}
use Rattle.ascii.specs.declared.Class.TheVariants.{Blank, Name, Text, Digit}
use Rattle.ascii.specs.declared.Decimal.{Decimal}

-- a blank: space or tab
abbrev pub is_blank : ℕ → Bool
is_blank b = eqb b 32 || eqb b 9

-- a byte of a name: neither blank nor colon
abbrev pub is_name : ℕ → Bool
is_name b = not (is_blank b || eqb b 58)

-- a byte of a line: neither CR nor LF
abbrev pub is_text : ℕ → Bool
is_text b = not (eqb b 13 || eqb b 10)

abbrev pub is_digit : ℕ → Bool
is_digit b = leb 48 b && leb b 57

-- the classes by number
abbrev pub class_numbered : ℕ → Class
class_numbered n = cond (eqb n 0) Blank (cond (eqb n 1) Name (cond (eqb n 2) Text Digit))

-- the classes by name
abbrev pub in_class : Class → ℕ → Bool
in_class Blank b = is_blank b
in_class Name b = is_name b
in_class Text b = is_text b
in_class Digit b = is_digit b

-- how many bytes stand before the first place from which the test fails
abbrev pub run : (List ℕ → Bool) → List ℕ → ℕ
run f [] = 0
run f (b ∷ bs) = cond (f (b ∷ bs)) (suc (run f bs)) 0

-- how many bytes at the front pass the test
abbrev pub leading : (ℕ → Bool) → List ℕ → ℕ
leading f s = run (λ t. f (get_or t 0 0)) s

-- A to Z as a to z
unfoldable pub lower : ℕ → ℕ
lower b = cond (leb 65 b && leb b 90) (b + 32) b

-- the byte as it is compared: where `fold` is true the case of letters does not count
unfoldable pub compared : Bool → ℕ → ℕ
compared fold b = cond fold (lower b) b

abbrev pub same : Bool → List ℕ → List ℕ → Bool
same fold [] [] = true
same fold [] (b ∷ bs) = false
same fold (a ∷ rest) [] = false
same fold (a ∷ rest) (b ∷ bs) = eqb (compared fold a) (compared fold b) && same fold rest bs

-- equal names: the case of letters does not count
abbrev pub same_name : List ℕ → List ℕ → Bool
same_name a b = same true a b

-- the text starts with this one, in the same case
abbrev pub starts_with : List ℕ → List ℕ → Bool
starts_with p s = same false p (take (length p) s)

unfoldable pub digit_of : ℕ → ℕ
digit_of b = cond (is_digit b) (b - 48) 0

-- the decimal number of these digits, with n before them
abbrev pub decimal_from : ℕ → List ℕ → ℕ
decimal_from n [] = n
decimal_from n (d ∷ ds) = decimal_from (n * 10 + digit_of d) ds

-- the digits at the front, of which more than six are not looked at
abbrev pub digit_count : List ℕ → ℕ
digit_count s = leading is_digit (take 6 s)

unfoldable pub digit_value : List ℕ → ℕ
digit_value s = decimal_from 0 (take (digit_count s) s)

abbrev pub number_of : List ℕ → Decimal
number_of s = record { count = digit_count s; value = digit_value s }

-- ---- a text cut into pieces

-- a byte in front of the first of these pieces
abbrev pub onto : ℕ → List (List ℕ) → List (List ℕ)
onto b [] = (b ∷ []) ∷ []
onto b (p ∷ ps) = (b ∷ p) ∷ ps

-- the text cut at each byte that separates
unfoldable pub pieces : (ℕ → Bool) → List ℕ → List (List ℕ)
pieces separates [] = [] ∷ []
pieces separates (b ∷ bs) = cond (separates b) ([] ∷ pieces separates bs) (onto b (pieces separates bs))

-- empty pieces vanish
unfoldable pub filled : List (List ℕ) → List (List ℕ)
filled [] = []
filled ([] ∷ ps) = filled ps
filled ((b ∷ p) ∷ ps) = (b ∷ p) ∷ filled ps
