-- Bytes that a neighbour sent, taken by message calls one after another: each call gets what the calls before it have
-- not used.
use Rattle.std.specs.Prelude.{ℕ, zero, suc, ◌+◌, ◌≡◌, List, [], ◌∷◌, length, drop}
use Rattle.protocol.specs.State.{Station}
use Rattle.protocol.specs.Outcomes.{Terms, Outcome}
use Rattle.protocol.specs.Frames.{Silent}
use Rattle.protocol.specs.Calls.{message_outcome, message_report}

-- what the calls leave: the state, the route area, the outcome of each call, the first one first, and the bytes used
-- by all of them
pub record Fed : Type 0 where
  pub state : Station
  pub area : List ℕ
  pub outcomes : List Outcome
  pub used : ℕ

abbrev pub unfed : Station → List ℕ → Fed
unfed s area = record { state = s; area = area; outcomes = []; used = 0 }

-- one call, and the calls after it
abbrev pub then_fed : Outcome → ℕ → Fed → Fed
then_fed o used rest =
    record { state = rest.state; area = rest.area; outcomes = o ∷ rest.outcomes; used = used + rest.used }

-- the calls after it get the state and the area that it leaves, and the bytes that it has not used
abbrev pub call_then : Outcome → ℕ → (Station → List ℕ → List ℕ → Fed) → List ℕ → Fed
call_then o used others bytes = then_fed o used (others o.state o.route (drop used bytes))

-- at most n calls on line l, until no byte is left; t 0 is what the first of them brings, t 1 the second, and so on
unfoldable pub fed_by : ℕ → (ℕ → Terms) → ℕ → Station → List ℕ → List ℕ → Fed
fed_by zero t l s area bytes = unfed s area
fed_by (suc n) t l s area [] = unfed s area
fed_by (suc n) t l s area (b ∷ bs) =
    call_then (message_outcome s l (b ∷ bs) (t 0) area) (message_report s l (b ∷ bs) (t 0) area).used
    (fed_by n (λ i. t (suc i)) l)
    (b ∷ bs)

-- as many calls as there are bytes are enough, since a call that uses anything uses a header
abbrev pub fed : (ℕ → Terms) → ℕ → Station → List ℕ → List ℕ → Fed
fed t l s area bytes = fed_by (length bytes) t l s area bytes

-- answered 0, and nothing was sent, searched or delivered
abbrev pub Taken : Outcome → Type 0
Taken o = (o.answer ≡ 0) × Silent o

abbrev pub AllTaken : List Outcome → Type 0
AllTaken [] = Unit {0}
AllTaken (o ∷ os) = Taken o × AllTaken os
