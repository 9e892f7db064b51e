-- What a line adds to the value of a name, when lines are gone through one after the other.
use Rattle.std.specs.Prelude.{ℕ, Option, Some, None, Result, Ok, Err, ◌+◌, ◌≡◌, Bool, true, false, cond, not, ◌&&◌}
use Rattle.std.specs.Prelude.{List, [], ◌∷◌, ◌++◌, leb, length, drop}
use Rattle.laws.specs.Parts.{over}
use Rattle.fields.specs.declared.Step.{Step}
use Rattle.fields.specs.declared.Value.{Value}
use Rattle.answer.specs.declared.Refusal.{Refusal}
use Rattle.ascii.specs.Text.{is_blank, leading, same_name}
use Rattle.groups.specs.Lines.{lines_of}
use Rattle.fields.specs.Fields.{continues, name_length, name_of, lines_ok, is_absent, value_for}

-- nothing is added
abbrev pub passed : Bool → ℕ → Step
passed found size = record { mine = false; found = found; separator = None; from = size }

-- `mine`: the last field has the name; `found`: a field with the name was met. A line that goes on adds to the name's
-- value where the last field has the name; a field does where it has the name, behind a comma where it is not the first
unfoldable pub step_from : Bool → Bool → Bool → Bool → ℕ → ℕ → ℕ → Step
step_from goes_on named mine found blanks start size =
    cond goes_on
    (cond mine (record { mine = true; found = found; separator = Some 32; from = blanks }) (passed found size))
    (cond named (record { mine = true; found = true; separator = cond found (Some 44) None; from = start }) (passed found size))

-- where the value starts
abbrev pub value_start : List ℕ → ℕ
value_start line = name_length line + 1 + leading is_blank (drop (name_length line + 1) line)

abbrev pub step_of : List ℕ → Bool → Bool → List ℕ → Step
step_of name mine found line =
    step_from (continues line) (same_name (name_of line) name) mine found (leading is_blank line)
    (value_start line) (length line)

-- the separator, where there is one
abbrev pub separated : Option ℕ → List ℕ
separated None = []
separated (Some b) = b ∷ []

-- what is added: the separator, and the line from a place on
abbrev pub added_by : Step → List ℕ → List ℕ
added_by s line = separated s.separator ++ drop s.from line

-- whether all lines are fields; then whether one of the name is there, and how long its value is
pub record Found : Type 0 where
  pub good : Bool
  pub there : Bool
  pub length : ℕ

abbrev pub no_fields : Found
no_fields = record { good = false; there = false; length = 0 }

-- whether the lines are fields; then whether one has the name, and how long its value is
unfoldable pub found_in : List ℕ → List (List ℕ) → Found
found_in name ls =
    cond (lines_ok false ls)
    (record { good = true; there = not (is_absent name ls); length = length (value_for name ls) })
    no_fields

-- the same, by what a function found: a refusal where not all lines are fields, and no length for a name that is absent
abbrev pub found_by : Result (Option ℕ) Refusal → Found
found_by (Ok (Some n)) = record { good = true; there = true; length = n }
found_by (Ok None) = record { good = true; there = false; length = 0 }
found_by (Err refusal) = no_fields

-- lines that are no fields are refused with 17
abbrev pub refused_in : List (List ℕ) → ℕ
refused_in ls = cond (lines_ok false ls) 0 17

-- the length alone of a value that was searched
abbrev pub lengths : Result (Option Value) Refusal → Result (Option ℕ) Refusal
lengths (Ok (Some value)) = Ok (Some value.length)
lengths (Ok None) = Ok None
lengths (Err refusal) = Err refusal

-- the lines from a place on have the whole value: those before it add nothing
abbrev pub WholeFrom : List ℕ → List ℕ → ℕ → Type 0
WholeFrom name s at = value_for name (lines_of (drop at s)) ≡ value_for name (lines_of s)

-- a value that was found has room
abbrev pub fits_in : Found → ℕ → Bool
fits_in f room = f.good && (f.there && leb f.length room)

-- the area afterwards: the value at its front where it was found and has room, else as it was
abbrev pub written_in : List ℕ → List (List ℕ) → List ℕ → List ℕ
written_in name ls out = cond (fits_in (found_in name ls) (length out)) (over 0 (value_for name ls) out) out
