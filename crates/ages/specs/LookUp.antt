-- Looking a number up (RULES 21.1), from outside: where it is refused, and that what it tells is the query's place
-- among the remembered ones, the newest first. No list of tests and no search is read here.
use Rattle.std.specs.Prelude.{ℕ, ◌≤◌, ◌<◌, ◌≡◌, true, false, ◌↔◌, ◌⊎◌, List, ◌∷◌, ◌++◌, length}
use Rattle.protocol.specs.declared.Finding.{Finding}
use Rattle.protocol.specs.State.{Station, remembered, line_at}
use Rattle.protocol.specs.Memory.{capacity, Number, Query, query_at, place_behind}
use Rattle.protocol.specs.Order.{in_order}
use Rattle.protocol.specs.Calls.{looking_up}

-- a query with this number and this asker is remembered, behind n newer ones; how many hits it has had is not told
pub record RememberedAt (s : Station) (x : Number) (n asker : ℕ) : Type 0 where
  pub newer : List Query
  pub older : List Query
  pub hits : ℕ
  pub split : remembered s ≡ newer ++ (record { number = x; asker = asker; hits = hits } ∷ older)
  pub count : length newer ≡ n

-- none has this number
abbrev pub NotRemembered : Station → Number → Type 0
NotRemembered s x = (n a : ℕ) → RememberedAt s x n a → ⊥

-- who asked, as a caller is told: a line that is open, here or gone
abbrev pub IsAsker : Station → ℕ → Type 0
IsAsker s a = ((a ≤ 7) × ((line_at s a).live ≡ true)) ⊎ ((a ≡ 8) ⊎ (a ≡ 9))

-- 1 exactly where the state is not in order, 10 exactly where it is and none has the number, and else the one that has
-- it: its asker, and how many are newer. A refusal tells of nobody, 10, and of none
pub record FindingIs (s : Station) (x : Number) (f : Finding) : Type 0 where
  pub one : (f.answer ≡ 1) ↔ (in_order s ≡ false)
  pub ten : (f.answer ≡ 10) ↔ ((in_order s ≡ true) × NotRemembered s x)
  pub found : (n a : ℕ)
      → (f ≡ record { answer = 0; asker = a; after = n }) ↔ ((in_order s ≡ true) × RememberedAt s x n a)
  pub refused : (f.answer ≡ 0 → ⊥) → (f.asker ≡ 10) × (f.after ≡ 0)
  pub below : f.after < 512
  pub asker : f.answer ≡ 0 → IsAsker s f.asker
  -- and so it stands at this place of the ring
  pub place : f.answer ≡ 0
      → ((query_at s.memory (place_behind capacity s.memory f.after)).number ≡ x)
      × ((query_at s.memory (place_behind capacity s.memory f.after)).asker ≡ f.asker)

abbrev pub LookUpExactly : Type 0
LookUpExactly = (s : Station) (x : Number) → FindingIs s x (looking_up s x)
