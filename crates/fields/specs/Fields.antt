-- The fields of a group: lines of a name, a colon and a value, with the lines that go on with a value, and the value of
-- a name.
use Rattle.std.specs.Prelude.{ℕ, ◌+◌, Bool, true, false, cond, ◌&&◌, ◌||◌, List, [], ◌∷◌, ◌++◌, ltb, eqb, get_or, take}
use Rattle.std.specs.Prelude.{drop}
use Rattle.laws.specs.Tests.{all}
use Rattle.ascii.specs.Text.{is_blank, is_name, is_text, leading, same_name}

-- a line that begins with a blank goes on with the value before it
abbrev pub continues : List ℕ → Bool
continues line = is_blank (get_or line 0 0)

abbrev pub name_length : List ℕ → ℕ
name_length line = leading is_name line

-- RULES 15.6: a name, not empty and without a blank, and a colon right behind it
abbrev pub is_field : List ℕ → Bool
is_field line = ltb 0 (name_length line) && eqb (get_or line (name_length line) 0) 58

abbrev pub without_blanks : List ℕ → List ℕ
without_blanks s = drop (leading is_blank s) s

abbrev pub name_of : List ℕ → List ℕ
name_of line = take (name_length line) line

-- what stands behind the colon, without the blanks at its front
abbrev pub value_of : List ℕ → List ℕ
value_of line = without_blanks (drop (name_length line + 1) line)

-- a field, or, where a field stands before it, a line that goes on
abbrev pub field_ok : Bool → List ℕ → Bool
field_ok before line = is_field line || (before && continues line)

-- the same, and no CR or LF by itself
abbrev pub line_ok : Bool → List ℕ → Bool
line_ok before line = all is_text line && field_ok before line

-- the lines behind the first are fields, each with the lines that go on with it
abbrev pub lines_ok : Bool → List (List ℕ) → Bool
lines_ok before [] = true
lines_ok before (l ∷ ls) = line_ok before l && lines_ok true ls

-- what the lines that go on add to a value: each without its blanks, behind one space
abbrev pub continued : List (List ℕ) → List ℕ
continued [] = []
continued (l ∷ ls) = cond (continues l) (32 ∷ (without_blanks l ++ continued ls)) []

-- the fields, each a name and a value, in their order
abbrev pub fields_of : List (List ℕ) → List (List ℕ × List ℕ)
fields_of [] = []
fields_of (l ∷ ls) = cond (continues l) (fields_of ls) ((name_of l, value_of l ++ continued ls) ∷ fields_of ls)

-- the values of the fields of this name
abbrev pub values_of : List ℕ → List (List ℕ × List ℕ) → List (List ℕ)
values_of name [] = []
values_of name (f ∷ fs) = cond (same_name f.0 name) (f.1 ∷ values_of name fs) (values_of name fs)

-- each value behind a comma
abbrev pub comma_each : List (List ℕ) → List ℕ
comma_each [] = []
comma_each (v ∷ vs) = 44 ∷ (v ++ comma_each vs)

-- the values with a comma between each two
abbrev pub comma_between : List (List ℕ) → List ℕ
comma_between [] = []
comma_between (v ∷ vs) = v ++ comma_each vs

abbrev pub is_none : List (List ℕ) → Bool
is_none [] = true
is_none (v ∷ vs) = false

-- no field of the lines has the name
unfoldable pub is_absent : List ℕ → List (List ℕ) → Bool
is_absent name ls = is_none (values_of name (fields_of ls))

-- the value of the name: that of each of its fields, with commas between them
unfoldable pub value_for : List ℕ → List (List ℕ) → List ℕ
value_for name ls = comma_between (values_of name (fields_of ls))
