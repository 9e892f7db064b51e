-- The plain list that an area of names stands for (RULES 22): names in an order, at most 512, with so many bytes
-- together. There are no offsets, no gaps and no bytes of no name here, and no test that the contracts cite.
use Rattle.std.specs.Prelude.{ℕ, ◌+◌, Bool, true, false, cond, ◌&&◌, ◌||◌, List, [], ◌∷◌, ◌++◌, eqb, leb, ltb, length}

-- the calls that change the list, each with a name
pub data Edit : Type 0 where
  Add : List ℕ → Edit
  Remove : List ℕ → Edit

-- a text has no byte, or a byte that is zero
abbrev pub is_empty : List ℕ → Bool
is_empty [] = true
is_empty (b ∷ bs) = false

abbrev pub has_zero : List ℕ → Bool
has_zero [] = false
has_zero (b ∷ bs) = cond (eqb b 0) true (has_zero bs)

-- a name that is refused: empty, over 255 bytes, or with a zero byte
unfoldable pub is_unfit : List ℕ → Bool
is_unfit x = is_empty x || (ltb 255 (length x) || has_zero x)

-- two names have the same bytes; the case of letters counts
abbrev pub equal : List ℕ → List ℕ → Bool
equal [] [] = true
equal [] (b ∷ y) = false
equal (a ∷ x) [] = false
equal (a ∷ x) (b ∷ y) = eqb a b && equal x y

-- a name is one of these
abbrev pub is_one_of : List ℕ → List (List ℕ) → Bool
is_one_of x [] = false
is_one_of x (y ∷ ys) = cond (equal x y) true (is_one_of x ys)

-- the names but the first that has these bytes, in their order
abbrev pub others : List ℕ → List (List ℕ) → List (List ℕ)
others x [] = []
others x (y ∷ ys) = cond (equal x y) ys (y ∷ others x ys)

-- how many bytes names have together
abbrev pub bytes_in : List (List ℕ) → ℕ
bytes_in [] = 0
bytes_in (x ∷ xs) = length x + bytes_in xs

-- there are 512, or with one more they have over `room` bytes
unfoldable pub is_full : ℕ → List (List ℕ) → List ℕ → Bool
is_full room names x = leb 512 (length names) || ltb room (bytes_in names + length x)

-- what a call comes to: its answer, and the names after it
pub record Edited : Type 0 where
  pub answer : ℕ
  pub names : List (List ℕ)

abbrev pub told : ℕ → List (List ℕ) → Edited
told answer names = record { answer = answer; names = names }

-- an add: 6, 9 for one of the names, 20 where they are full, and else the name comes behind the others
-- a remove: 6, 10 for none of the names, and else the others are left
unfoldable pub edited : ℕ → List (List ℕ) → Edit → Edited
edited room names (Add x) =
    cond (is_unfit x) (told 6 names)
    (cond (is_one_of x names) (told 9 names) (cond (is_full room names x) (told 20 names) (told 0 (names ++ (x ∷ [])))))
edited room names (Remove x) =
    cond (is_unfit x) (told 6 names) (cond (is_one_of x names) (told 0 (others x names)) (told 10 names))

-- a list of calls: their answers, and the names at the end
unfoldable pub answers_from : ℕ → List (List ℕ) → List Edit → List ℕ
answers_from room names [] = []
answers_from room names (e ∷ es) = (edited room names e).answer ∷ answers_from room (edited room names e).names es

unfoldable pub names_from : ℕ → List (List ℕ) → List Edit → List (List ℕ)
names_from room names [] = names
names_from room names (e ∷ es) = names_from room (edited room names e).names es
