-- X-Try's pairs in the value of a field (RULES 15.11, 15.12).
use Rattle.std.specs.Prelude.{ℕ, Result, Ok, Err, ◌-◌, Bool, cond, not, ◌&&◌, List, [], ◌∷◌, ◌++◌, map, eqb, leb}
use Rattle.std.specs.Prelude.{length, take, get_or, replicate}
use Rattle.laws.specs.Tests.{first_of, every, all}
use Rattle.ascii.specs.Text.{is_digit, decimal_from, pieces, filled}
use Rattle.xtry.specs.declared.Pair.{Pair}
use Rattle.xtry.specs.declared.Pairs.{Pairs}
use Rattle.answer.specs.declared.Refusal.{Refusal}
use Rattle.answer.specs.Numbers.{number_of}

abbrev pub comma : ℕ
comma = 0x2C

abbrev pub dot : ℕ
dot = 0x2E

abbrev pub colon : ℕ
colon = 0x3A

abbrev pub space : ℕ
space = 0x20

-- ---- items

abbrev pub is_comma : ℕ → Bool
is_comma b = eqb b comma

-- without the one space that may stand in front
unfoldable pub bare : List ℕ → List ℕ
bare [] = []
bare (b ∷ bs) = cond (eqb b space) bs (b ∷ bs)

-- each piece but the first follows a comma, after which one space is dropped
abbrev pub after_commas : List (List ℕ) → List (List ℕ)
after_commas [] = []
after_commas (p ∷ ps) = p ∷ map bare ps

-- the items of a value, in order: the text cut at each comma, and empty ones ignored
unfoldable pub items_of : List ℕ → List (List ℕ)
items_of value = filled (after_commas (pieces is_comma value))

-- ---- a pair

-- what stands before the first s, or the whole text where there is none
unfoldable pub up_to : ℕ → List ℕ → List ℕ
up_to s [] = []
up_to s (b ∷ bs) = cond (eqb b s) [] (b ∷ up_to s bs)

-- what stands after the first s, or nothing where there is none
unfoldable pub past : ℕ → List ℕ → List ℕ
past s [] = []
past s (b ∷ bs) = cond (eqb b s) bs (past s bs)

-- the text cut once at each of these separators, in order: one text more than separators
abbrev pub cut_by : List ℕ → List ℕ → List (List ℕ)
cut_by [] text = text ∷ []
cut_by (s ∷ ss) text = up_to s text ∷ cut_by ss (past s text)

-- the texts of four octets, joined by dots, and after a colon that of the port
abbrev pub texts_of : List ℕ → List (List ℕ)
texts_of item = cut_by (dot ∷ dot ∷ dot ∷ colon ∷ []) item

-- the number that these digits write; leading zeros count for nothing
abbrev pub number : List ℕ → ℕ
number text = decimal_from 0 text

-- at least one digit, at most `widest`, and nothing else
abbrev pub is_number : ℕ → List ℕ → Bool
is_number widest text = every (leb 1 (length text) ∷ leb (length text) widest ∷ all is_digit text ∷ [])

-- one to three digits, at most 255
abbrev pub is_octet : List ℕ → Bool
is_octet text = is_number 3 text && leb (number text) 255

-- one to five digits, from 1 to 65,535
abbrev pub is_port : List ℕ → Bool
is_port text = is_number 5 text && (leb 1 (number text) && leb (number text) 65535)

-- the item is an address and a port, and nothing else
unfoldable pub good_pair : List ℕ → Bool
good_pair item = all is_octet (take 4 (texts_of item)) && is_port (get_or (texts_of item) 4 [])

-- the address and the port of a good item
unfoldable pub pair_in : List ℕ → Pair
pair_in item = record { address = map number (take 4 (texts_of item)); port = number (get_or (texts_of item) 4 []) }

-- ---- the pairs of a value

abbrev pub no_pair : Pair
no_pair = record { address = replicate 4 0; port = 0 }

-- up to 32 pairs, with zeros in the places that are not in use
unfoldable pub pairs_from : List Pair → Pairs
pairs_from ps = record { count = length ps; pairs = ps ++ replicate (32 - length ps) no_pair }

-- the first 32 are kept
unfoldable pub pairs_of : List ℕ → List Pair
pairs_of value = take 32 (map pair_in (items_of value))

-- any bad pair is 6, wherever it stands
unfoldable pub read_answer : List ℕ → ℕ
read_answer value = first_of ((not (all good_pair (items_of value)), 6) ∷ [])

-- what reading a value gives: the answer (RULES 2.1), and the pairs, none where it is not 0
pub record Tried : Type 0 where
  pub answer : ℕ
  pub pairs : Pairs

unfoldable pub tried_of : List ℕ → Tried
tried_of value =
    record { answer = read_answer value; pairs = pairs_from (cond (eqb (read_answer value) 0) (pairs_of value) []) }

-- what was read, with its answer
abbrev pub tried_by : Result Pairs Refusal → Tried
tried_by (Ok pairs) = record { answer = 0; pairs = pairs }
tried_by (Err refusal) = record { answer = number_of refusal; pairs = pairs_from [] }
