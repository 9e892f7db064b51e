-- Adds and removes on an area of names, over lists of calls (RULES 22.5 to 22.10): they answer as the plain list does,
-- and leave its names, wherever texts come to lie.
use Rattle.std.specs.Prelude.{ℕ, ◌+◌, ◌-◌, ◌≤◌, ◌<◌, ◌≡◌, ◌↔◌, ◌⊎◌, List, [], ◌∷◌, length, get_or, take, replicate}
use Rattle.namearea.specs.Area.{names_in}
use Rattle.namearea.specs.Calls.{list_answer, Added, Removed}
use Rattle.namearea.specs.Words.{FineName}
use Rattle.namehistory.specs.Plain.{Edit, Add, Remove, bytes_in, answers_from, names_from}

-- one call, as its contract allows it: what the contract leaves free is free here
abbrev pub Stepped : List ℕ → Edit → ℕ → List ℕ → Type 0
Stepped area (Add x) = Added area x
Stepped area (Remove x) = Removed area x

-- a list of calls, each on the area that the one before it left: their answers, and the area after the last
pub data Ran : List ℕ → List Edit → List ℕ → List ℕ → Type 0 where
  Over : {area : List ℕ} → Ran area [] [] area
  Then : {area middle after : List ℕ} {e : Edit} {es : List Edit} {answer : ℕ} {answers : List ℕ}
      → Stepped area e answer middle
      → Ran middle es answers after
      → Ran area (e ∷ es) (answer ∷ answers) after

-- the bytes that are there for text
abbrev pub room_of : List ℕ → ℕ
room_of area = length area - 4100

-- answers and names are those of the plain list that starts with `names`; the area is as long as before, and the next
-- call answers neither 1 nor 2
pub record AsPlain (area : List ℕ) (names : List (List ℕ)) (es : List Edit) (answers after : List ℕ) : Type 0 where
  pub answered : answers ≡ answers_from (room_of area) names es
  pub listed : names_in after ≡ names_from (room_of area) names es
  pub long : length after ≡ length area
  pub good : list_answer after ≡ 0

-- from every good area
abbrev pub AsPlainList : Type 0
AsPlainList =
    (area : List ℕ) (es : List Edit) (answers after : List ℕ)
    → list_answer area ≡ 0
    → Ran area es answers after
    → AsPlain area (names_in area) es answers after

-- an area whose first four bytes are zero is good and lists no name; no call is needed to make it so
pub record Empty (area : List ℕ) : Type 0 where
  pub good : list_answer area ≡ 0
  pub none : names_in area ≡ []
  pub history : (es : List Edit) (answers after : List ℕ)
      → Ran area es answers after
      → AsPlain area [] es answers after

abbrev pub FromEmpty : Type 0
FromEmpty = (area : List ℕ) → 4100 ≤ length area → take 4 area ≡ 0 ∷ 0 ∷ 0 ∷ 0 ∷ [] → Empty area

-- a name is none of these
abbrev pub Absent : List ℕ → List (List ℕ) → Type 0
Absent x names = (i : ℕ) → i < length names → get_or names i [] ≡ x → ⊥

-- an add after a list of calls, where a name may be listed and is absent: 20 exactly if 512 are there or the bytes of
-- all together are more than there is room for, and else 0. Whatever was added and removed before, no room is lost
pub record RoomFor (room : ℕ) (names : List (List ℕ)) (x : List ℕ) (answer : ℕ) : Type 0 where
  pub full : (answer ≡ 20) ↔ ((512 ≤ length names) ⊎ (room < bytes_in names + length x))
  pub fits : (answer ≡ 0) ↔ ((length names < 512) × (bytes_in names + length x ≤ room))

abbrev pub RoomUsedAgain : Type 0
RoomUsedAgain =
    (area : List ℕ) (es : List Edit) (answers middle : List ℕ) (x : List ℕ) (answer : ℕ) (after : List ℕ)
    → list_answer area ≡ 0
    → Ran area es answers middle
    → Added middle x answer after
    → FineName x
    → Absent x (names_in middle)
    → RoomFor (room_of area) (names_in middle) x answer

-- an area that is not good answers every call with the same number, 2 or 1, and keeps every byte
pub record Stays (area : List ℕ) (es : List Edit) (answers after : List ℕ) : Type 0 where
  pub answered : answers ≡ replicate (length es) (list_answer area)
  pub kept : after ≡ area
  pub which : ((list_answer area ≡ 2) × (length area < 4100)) ⊎ ((list_answer area ≡ 1) × (4100 ≤ length area))

abbrev pub BadStays : Type 0
BadStays =
    (area : List ℕ) (es : List Edit) (answers after : List ℕ)
    → (list_answer area ≡ 0 → ⊥)
    → Ran area es answers after
    → Stays area es answers after

-- calls that are all refused, by whatever numbers, leave every byte
abbrev pub RefusalsKeep : Type 0
RefusalsKeep =
    (area : List ℕ) (es : List Edit) (answers after : List ℕ)
    → Ran area es answers after
    → ((i : ℕ) → i < length answers → get_or answers i 0 ≡ 0 → ⊥)
    → after ≡ area
