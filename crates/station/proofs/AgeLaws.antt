-- Ages as the code hands them up: that of a query, read off its answer, and a step with another age.
-- Assumes nothing.
use Prim.Native.Nat.{ℕ}
use mathlib.Core.Path.{◌≡◌, refl, ap}
use mathlib.Core.Bool.{Bool, true, false, cond, not, ◌&&◌}
use mathlib.Core.List.{List, [], ◌∷◌, ◌++◌}
use lib.Dec.{eqb}
use borrow.Author.Tests.{not-true}
use Rattle.laws.specs.Tests.{first_of, all}
use Rattle.laws.proofs.Truth.{both_left, both_right}
use Rattle.protocol.specs.declared.Age.{Age}
use Rattle.protocol.specs.declared.Lookup.{Lookup}
use Rattle.protocol.specs.Memory.{no_age, age_after, pick_age, age_behind}
use Rattle.protocol.specs.Outcomes.{Step, hands_up}
use Rattle.protocol.specs.Queries.{query_after}
use Rattle.station.specs.declared.actions.Action.{Action}
use Rattle.station.specs.Actions.{aged_action, Does}

-- where the repeat check stands behind some others, none of which answers 9, an age is handed up exactly with 9
module _ (k : Lookup) where
  abbrev aged : ℕ → Age
  aged n = pick_age (eqb n 9) (age_after k.after) no_age

  abbrev checks : List (Bool × ℕ) → List (Bool × ℕ)
  checks before = before ++ query_after k

  found-by : (b : Bool) → aged (cond b 9 0) ≡ pick_age b (age_after k.after) no_age
  found-by true = refl
  found-by false = refl

  abbrev other : Bool × ℕ → Bool
  other c = not (eqb c.1 0) && not (eqb c.1 9)

  pub repeat_is : (before : List (Bool × ℕ)) → all other before ≡ true
      → aged (first_of (checks before)) ≡ age_behind before k
  repeat_is [] e = found-by k.found
  repeat_is (c ∷ cs) e = by c.0 (repeat_is cs (both_right (other c) (all other cs) e))
    where
      some : other c ≡ true
      some = both_left (other c) (all other cs) e

      no0 : eqb c.1 0 ≡ false
      no0 = not-true (eqb c.1 0) (both_left (not (eqb c.1 0)) (not (eqb c.1 9)) some)

      no9 : eqb c.1 9 ≡ false
      no9 = not-true (eqb c.1 9) (both_right (not (eqb c.1 0)) (not (eqb c.1 9)) some)

      by : (b : Bool) → aged (first_of (checks cs)) ≡ age_behind cs k
          → aged (cond b c.1 (first_of (checks cs)))
          ≡ pick_age (eqb (cond b c.1 (first_of cs)) 0) (pick_age k.found (age_after k.after) no_age) no_age
      by true _ = rw (no0, no9)
      by false r = r

-- a step with another age
pub does-aged : (a : Age) {r : Step} {act : Action} {out out' : List ℕ} → Does r act out out'
    → Does (hands_up a r) (aged_action a act) out out'
does-aged a d = record { action = ap (aged_action a) d.action; output = d.output }
