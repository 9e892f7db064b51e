-- What a find tells (RULES 22.6), and what it tells after an add and after a remove (RULES 22.7, 22.8).
use Rattle.std.specs.Prelude.{ℕ, ◌+◌, ◌-◌, ◌<◌, ◌≡◌, ◌↔◌, List, [], ◌∷◌, ◌++◌, length}
use Rattle.namearea.specs.declared.Found.{Found}
use Rattle.namearea.specs.Area.{count_in, name_at, names_in}
use Rattle.namearea.specs.Calls.{list_answer, finding, Added, Removed}

-- it is there, at place i; and it is not
abbrev pub at : ℕ → Found
at i = record { answer = 0; place = i }

abbrev pub absent : Found
absent = record { answer = 10; place = 0 }

-- the name of pair i is this one, in a good area
pub record NamedAt (area x : List ℕ) (i : ℕ) : Type 0 where
  pub good : list_answer area ≡ 0
  pub below : i < count_in area
  pub name : name_at area i ≡ x

-- place i is told exactly if pair i has the name, and no other pair has it
pub record FindingIs (area x : List ℕ) : Type 0 where
  pub exactly : (i : ℕ) → (finding area x ≡ at i) ↔ NamedAt area x i
  pub only : (i j : ℕ) → NamedAt area x i → NamedAt area x j → i ≡ j

abbrev pub FoundExactly : Type 0
FoundExactly = (area x : List ℕ) → FindingIs area x

-- an add that is answered 0: the name is the last, and every other find tells what it told
pub record IsLast (area x after : List ℕ) : Type 0 where
  pub names : names_in after ≡ names_in area ++ (x ∷ [])
  pub count : count_in after ≡ count_in area + 1
  pub found : finding after x ≡ at (length (names_in area))
  pub others : (y : List ℕ) → (y ≡ x → ⊥) → finding after y ≡ finding area y

abbrev pub AddedLast : Type 0
AddedLast = (area x after : List ℕ) → Added area x 0 after → IsLast area x after

-- a remove that is answered 0, of the name at place i: it is gone, names before it keep their place, those behind it
-- come one place forward, and every find that was refused is refused alike
pub record IsGone (area x : List ℕ) (i : ℕ) (after : List ℕ) : Type 0 where
  pub was : finding area x ≡ at i
  pub count : count_in after ≡ count_in area - 1
  pub gone : finding after x ≡ absent
  pub before : (y : List ℕ) (j : ℕ) → finding area y ≡ at j → j < i → finding after y ≡ at j
  pub behind : (y : List ℕ) (j : ℕ) → finding area y ≡ at j → i < j → finding after y ≡ at (j - 1)
  pub refused : (y : List ℕ) → ((finding area y).answer ≡ 0 → ⊥) → finding after y ≡ finding area y

abbrev pub RemovedGone : Type 0
RemovedGone =
    (area x after : List ℕ)
    → Removed area x 0 after
    → IsGone area x (finding area x).place after
