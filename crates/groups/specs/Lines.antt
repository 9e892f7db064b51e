-- A group of lines, and where it ends.
use Rattle.std.specs.Prelude.{ℕ, zero, suc, Option, Some, None, ◌+◌, ◌-◌, min, Bool, true, cond, not, ◌&&◌, ◌||◌, List}
use Rattle.std.specs.Prelude.{[], ◌∷◌, leb, eqb, length, get_or, take, drop}
use Rattle.ascii.specs.Text.{run, onto}

-- CR and LF stand at place i
abbrev pub pair_at : List ℕ → ℕ → Bool
pair_at m i = eqb (get_or m i 0) 13 && eqb (get_or m (i + 1) 0) 10

-- an empty line ends with byte n: CR and LF are the bytes before n, and stand at the start or after another CR and LF
unfoldable pub ends_at : List ℕ → ℕ → Bool
ends_at m n = pair_at m (n - 2) && (eqb n 2 || (leb 4 n && pair_at m (n - 4)))

-- the first of the k numbers from i that passes the test, and 0 where none does
abbrev pub first_from : (ℕ → Bool) → ℕ → ℕ → ℕ
first_from f zero i = 0
first_from f (suc k) i = cond (f i) i (first_from f k (i + 1))

-- a number, of which 0 stands for none
abbrev pub unless_zero : ℕ → Option ℕ
unless_zero n = cond (eqb n 0) None (Some n)

-- how long the group is: up to and with the first empty line that ends in the first 4,096 bytes; 0 where there is none
unfoldable pub group_length : List ℕ → ℕ
group_length m = first_from (ends_at m) (min (length m) 4096 - 1) 2

-- no CR and LF stand at the front
abbrev pub in_line : List ℕ → Bool
in_line s = not (pair_at s 0)

-- how many bytes stand before the first CR and LF
abbrev pub line_length : List ℕ → ℕ
line_length s = run in_line s

-- nothing is left, or CR and LF stand at the front
abbrev pub line_ends : List ℕ → Bool
line_ends [] = true
line_ends (b ∷ bs) = pair_at (b ∷ bs) 0

-- the line that starts at a place
unfoldable pub line_at : List ℕ → ℕ → List ℕ
line_at s at = take (line_length (drop at s)) (drop at s)

-- the lines of these bytes, each without the CR and LF that ends it
abbrev pub lines_of : List ℕ → List (List ℕ)
lines_of [] = []
lines_of (a ∷ []) = (a ∷ []) ∷ []
lines_of (a ∷ (b ∷ bs)) = cond (eqb a 13 && eqb b 10) ([] ∷ lines_of bs) (onto a (lines_of (b ∷ bs)))

-- the first line and the others
abbrev pub first_line : List (List ℕ) → List ℕ
first_line [] = []
first_line (l ∷ ls) = l

abbrev pub other_lines : List (List ℕ) → List (List ℕ)
other_lines [] = []
other_lines (l ∷ ls) = ls
