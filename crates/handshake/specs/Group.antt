-- A group read, and a field asked for: what is handed back, with the refusals in their order.
use Rattle.std.specs.Prelude.{ℕ, Option, Some, None, Result, Ok, Err, ◌≡◌, ◌-◌, true, Bool, false, cond, not, ◌&&◌}
use Rattle.std.specs.Prelude.{◌||◌, List, [], ◌∷◌, leb, ltb, eqb, length, take}
use Rattle.laws.specs.Tests.{first_of, all}
use Rattle.laws.specs.Parts.{over}
use Rattle.answer.specs.declared.Refusal.{Refusal}
use Rattle.answer.specs.Numbers.{number_of}
use Rattle.handshake.specs.declared.Opening.{Opening}
use Rattle.handshake.specs.declared.GroupRead.{GroupRead}
use Rattle.handshake.specs.declared.FieldRead.{FieldRead}
use Rattle.handshake.specs.declared.Group.{Group}
use Rattle.handshake.specs.declared.Asked.{Asked}
use Rattle.ascii.specs.Text.{is_text}
use Rattle.groups.specs.Lines.{group_length, lines_of, first_line, other_lines}
use Rattle.groups.specs.Start.{Start, start_by, start_of}
use Rattle.fields.specs.Fields.{lines_ok, is_absent, value_for}

-- ---- of the first n bytes, a group

-- the lines, without the empty one
abbrev pub lines_in : List ℕ → ℕ → List (List ℕ)
lines_in m n = lines_of (take (n - 2) m)

abbrev pub start_in : List ℕ → ℕ → Start
start_in m n = start_of (first_line (lines_in m n))

abbrev pub fields_in : List ℕ → ℕ → List (List ℕ)
fields_in m n = other_lines (lines_in m n)

-- the first line is of a kind, and no CR or LF stands by itself in it
abbrev pub is_start : List ℕ → ℕ → Bool
is_start first kind = all is_text first && not (eqb kind 0)

-- the first line is a greeting or a reply, and the others are fields
unfoldable pub understood : List ℕ → ℕ → Bool
understood m n = is_start (first_line (lines_in m n)) (start_in m n).kind && lines_ok false (fields_in m n)

-- ---- reading a group

-- RULES 15.2: where no end is found, 18 if 4,096 bytes were there to look at, else 4; then 17
abbrev pub group_rules : ℕ → ℕ → Bool → List (Bool × ℕ)
group_rules n size ok = (eqb n 0 && leb 4096 size, 18) ∷ (eqb n 0, 4) ∷ (not ok, 17) ∷ []

unfoldable pub group_number : ℕ → ℕ → Bool → ℕ
group_number n size ok = first_of (group_rules n size ok)

-- what reading is refused with, or 0
abbrev pub read_number : List ℕ → ℕ
read_number m = group_number (group_length m) (length m) (understood m (group_length m))

abbrev pub refused_group : ℕ → Group
refused_group a = record { answer = a; used = 0; kind = 0; major = 0; minor = 0; code = 0 }

unfoldable pub group_from : ℕ → ℕ → Start → Group
group_from a n s =
    cond (eqb a 0)
    (record { answer = 0; used = n; kind = s.kind; major = s.major; minor = s.minor; code = s.code })
    (refused_group a)

abbrev pub read_group : List ℕ → Group
read_group m = group_from (read_number m) (group_length m) (start_in m (group_length m))

-- what was read, as a group
abbrev pub group_by : Result GroupRead Refusal → Group
group_by (Ok r) = record {
  answer = 0;
  used = r.used;
  kind = (start_by (Some r.start)).kind;
  major = (start_by (Some r.start)).major;
  minor = (start_by (Some r.start)).minor;
  code = (start_by (Some r.start)).code;
}
group_by (Err refusal) = refused_group (number_of refusal)

-- a group whose first line is understood, at the front of the bytes
pub record Opened (m : List ℕ) (group : Opening) : Type 0 where
  pub length : group.used ≡ group_length m
  pub first : is_start (first_line (lines_in m group.used)) (start_in m group.used).kind ≡ true
  pub start : start_by (Some group.start) ≡ start_in m group.used
  pub fields : lines_of group.fields.now ≡ fields_in m group.used

-- or the refusal where there is none
pub record NotOpened (m : List ℕ) (refusal : Refusal) : Type 0 where
  pub number : number_of refusal ≡ group_number (group_length m) (length m) false
  pub not-understood : understood m (group_length m) ≡ false

-- ---- asking for a field

-- the value of the name
abbrev pub value_in : List ℕ → List ℕ → List ℕ
value_in m name = value_for name (fields_in m (group_length m))

-- as reading is refused; then 10 where no field has the name, and 2 where its value is longer than the room for it
abbrev pub asked_rules : ℕ → Bool → ℕ → ℕ → List (Bool × ℕ)
asked_rules read absent long room = (not (eqb read 0), read) ∷ (absent, 10) ∷ (ltb room long, 2) ∷ []

unfoldable pub asked_from : ℕ → Bool → ℕ → ℕ → ℕ
asked_from read absent long room = first_of (asked_rules read absent long room)

abbrev pub asked_number : List ℕ → List ℕ → ℕ → ℕ
asked_number m name room = asked_from (read_number m) (is_absent name (fields_in m (group_length m)))
    (length (value_in m name)) room

-- the group is used up by 0 and 10; only 0 writes
unfoldable pub asked_with : ℕ → ℕ → ℕ → Asked
asked_with a n long = record { answer = a; used = cond (eqb a 0 || eqb a 10) n 0; written = cond (eqb a 0) long 0 }

abbrev pub ask_field : List ℕ → List ℕ → ℕ → Asked
ask_field m name room = asked_with (asked_number m name room) (group_length m) (length (value_in m name))

-- what was read, as what was asked for: 10 where no field has the name
abbrev pub asked_for : ℕ → Option ℕ → Asked
asked_for used (Some long) = record { answer = 0; used = used; written = long }
asked_for used None = record { answer = 10; used = used; written = 0 }

abbrev pub asked_by : Result FieldRead Refusal → Asked
asked_by (Ok r) = asked_for r.used r.written
asked_by (Err refusal) = record { answer = number_of refusal; used = 0; written = 0 }

-- the area afterwards: the value at its front, and as it was where the answer is not 0
abbrev pub asked_out : List ℕ → List ℕ → List ℕ → List ℕ
asked_out m name out = cond (eqb (asked_number m name (length out)) 0) (over 0 (value_in m name) out) out
