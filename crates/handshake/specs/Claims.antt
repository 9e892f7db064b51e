-- What is proved of reading a group and asking for a field, besides the functions' contracts.
use Rattle.std.specs.Prelude.{ℕ, ◌≤◌, ◌<◌, ◌≡◌, List, ◌++◌, length, take}
use Rattle.groups.specs.Lines.{group_length}
use Rattle.groups.specs.Claims.{EndsIn}
use Rattle.handshake.specs.Group.{read_group, value_in, asked_number, ask_field, asked_out}

-- a group without an end is refused for that, whatever its bytes are: 18 where 4,096 of them are there, else 4
abbrev pub EndFirst : Type 0
EndFirst =
    (m : List ℕ) → ((p : ℕ) → EndsIn m p → ⊥)
    → (4096 ≤ length m → (read_group m).answer ≡ 18) × (length m < 4096 → (read_group m).answer ≡ 4)

-- what is refused when the group is read is refused alike when a field is asked for, whatever the name and the room:
-- 18, 4 and 17 come before 10 and 2
abbrev pub AskedAsRead : Type 0
AskedAsRead =
    (m name : List ℕ) (room : ℕ) → ((read_group m).answer ≡ 0 → ⊥)
    → ask_field m name room ≡ record { answer = (read_group m).answer; used = 0; written = 0 }

-- reading and asking are the same of both
abbrev pub SameAnswers : List ℕ → List ℕ → Type 0
SameAnswers a b =
    (read_group a ≡ read_group b)
    × ((name : List ℕ) (room : ℕ) → ask_field a name room ≡ ask_field b name room)
    × ((name out : List ℕ) → asked_out a name out ≡ asked_out b name out)

-- bytes behind a group are not read
abbrev pub NotReadBehind : Type 0
NotReadBehind = (m x : List ℕ) → 0 < group_length m → SameAnswers (m ++ x) m

-- the group alone is read as it is with all that stands behind it
abbrev pub GroupAlone : Type 0
GroupAlone = (m : List ℕ) → 0 < group_length m → SameAnswers (take (group_length m) m) m

-- an area of 4,096 bytes is never short
abbrev pub RoomEnough : Type 0
RoomEnough = (m name : List ℕ) (room : ℕ) → 4096 ≤ room → (length (value_in m name) ≤ room)
    × (asked_number m name room ≡ 2 → ⊥)
