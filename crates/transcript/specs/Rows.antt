-- The rows of a session's text: the event's number, the answer, the lines that were sent to, and the age of the query
-- that was looked up.
use Rattle.std.specs.Prelude.{ℕ, ◌+◌, Bool, true, false, cond, List, [], ◌∷◌, ◌++◌}
use Rattle.digits.specs.Decimal.{digit, decimal}
use Rattle.protocol.specs.declared.Age.{Age}

abbrev pub space : ℕ
space = 0x20

abbrev pub comma : ℕ
comma = 0x2C

abbrev pub dash : ℕ
dash = 0x2D

abbrev pub newline : ℕ
newline = 0x0A

-- the numbers of the true flags, rising; the first flag is that of line k
abbrev pub flagged : ℕ → List Bool → List ℕ
flagged k [] = []
flagged k (true ∷ flags) = k ∷ flagged (k + 1) flags
flagged k (false ∷ flags) = flagged (k + 1) flags

-- each line with a comma in front of it
abbrev pub further_lines : List ℕ → List ℕ
further_lines [] = []
further_lines (k ∷ ks) = comma ∷ digit k ∷ further_lines ks

-- lines with commas between them, and a dash where there is none
abbrev pub line_list : List ℕ → List ℕ
line_list [] = dash ∷ []
line_list (k ∷ ks) = digit k ∷ further_lines ks

-- what the flag of line k adds to a list of lines, which has begun or not
abbrev pub flag_text : Bool → Bool → ℕ → List ℕ
flag_text started false k = []
flag_text false true k = digit k ∷ []
flag_text true true k = comma ∷ digit k ∷ []

-- the third column
unfoldable pub sent_text : List Bool → List ℕ
sent_text to = line_list (flagged 0 to)

-- a number and the space behind it
abbrev pub column_text : ℕ → List ℕ
column_text n = decimal n ++ (space ∷ [])

-- the last column (RULES 21.6): the age, 0 among them, and a dash where none was looked up or found
unfoldable pub age_text : Age → List ℕ
age_text age = cond age.known (decimal age.after) (dash ∷ [])

unfoldable pub row_text : ℕ → ℕ → List Bool → Age → List ℕ
row_text i answer to age =
    ((column_text i ++ column_text answer) ++ (sent_text to ++ (space ∷ []))) ++ (age_text age ++ (newline ∷ []))
