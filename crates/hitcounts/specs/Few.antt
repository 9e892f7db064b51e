-- At most 200 answers to a query (RULES 24.1, 24.4), over lists of calls and from the log alone: since the last call
-- that took a number at most 200 hits of it were answered 0; after 200 the next good hit is answered 21, and before
-- that it is passed back or delivered, and counted.
use Rattle.std.specs.Prelude.{ℕ, suc, ◌+◌, ◌-◌, ◌≤◌, ◌<◌, ◌≡◌, true, false, ◌⊎◌, List, []}
use Rattle.laws.specs.Tests.{any}
use Rattle.wire.specs.Header.{ttl_of, hops_of, payload_of, number_of, message}
use Rattle.protocol.specs.State.{Station, remembered}
use Rattle.protocol.specs.Memory.{Number, number_in}
use Rattle.protocol.specs.Order.{in_order}
use Rattle.protocol.specs.Outcomes.{Terms, Outcome, nobody, only_to}
use Rattle.protocol.specs.Calls.{fresh}
use Rattle.protocol.specs.Runs.{Area, Call, Message, Made, World, lent, outcome_of, run, start}
use Rattle.protocol.specs.Kept.{Sized}
use Rattle.protocol.specs.Frames.{LeftAsItWas}
use Rattle.protocol.specs.Demand2.{brought_by, closed, taken_in, OneHitMore}
use Rattle.hitcounts.specs.History.{OneOf, hits_in, LastTaking}
use Rattle.hitcounts.specs.TwentyOne.{GoodHit}

-- a query with the number x awaits hits: the last call that took it did so by line k, or here, which is 8; fewer than
-- 512 were taken since, and the line has not closed since
pub record Awaits (log : List Made) (x : Number) (k : ℕ) (newer : List Made) : Type 0 where
  pub last : LastTaking log x newer
  pub by : brought_by last.taking.call ≡ k
  pub line : k ≤ 8
  pub among : taken_in newer < 512
  pub unclosed : any (λ d. closed d.call d.outcome.answer k) newer ≡ false

-- a hit of a query by line k, or here, that had had n: delivered here, or passed back to that line alone; and the
-- query has had one more
pub record Passed (s : Station) (m : List ℕ) (k n : ℕ) (o : Outcome) : Type 0 where
  pub answer : o.answer ≡ 0
  pub here : k ≡ 8 → (o.delivered ≡ true) × (o.to ≡ nobody) × (o.sent ≡ [])
  pub back : k ≤ 7 → (o.delivered ≡ false) × (o.to ≡ only_to k)
      × (o.sent ≡ message (number_of m) 0x81 (ttl_of m - 1) (hops_of m + 1) (payload_of m))
  pub raised : OneHitMore (number_in m) s o.state
  pub count : OneOf (record { number = number_in m; asker = k; hits = suc n }) (remembered o.state)

-- a hit for here may have any TTL and Hops; one that goes back must be able to
abbrev pub CanGo : ℕ → List ℕ → Type 0
CanGo k m = (k ≡ 8) ⊎ ((2 ≤ ttl_of m) × (hops_of m ≡ 255 → ⊥))

pub record Few (w : World) : Type 0 where
  -- whatever the number, remembered still or not
  pub most : (x : Number) (newer : List Made) → LastTaking w.log x newer → hits_in x newer ≤ 200
  -- the next good hit of one that awaits hits, by any line
  pub full : (l : ℕ) (m : List ℕ) (t : Terms) (a : Area) (k : ℕ) (newer : List Made)
      → GoodHit w.state l m t.out (lent a w.area)
      → Awaits w.log (number_in m) k newer
      → hits_in (number_in m) newer ≡ 200
      → LeftAsItWas (outcome_of w (Message l m t a)) 21 w.state (lent a w.area)
  pub more : (l : ℕ) (m : List ℕ) (t : Terms) (a : Area) (k : ℕ) (newer : List Made)
      → GoodHit w.state l m t.out (lent a w.area)
      → Awaits w.log (number_in m) k newer
      → hits_in (number_in m) newer < 200
      → CanGo k m
      → Passed w.state m k (hits_in (number_in m) newer) (outcome_of w (Message l m t a))

-- every list of calls from any state in order, and so from a fresh one
abbrev pub FewAnswers : Type 0
FewAnswers =
    (s : Station) (area : List ℕ) (cs : List Call) → Sized s → in_order s ≡ true → Few (run (start s area) cs)

abbrev pub FewFromFresh : Type 0
FewFromFresh = (n : ℕ) (area : List ℕ) (cs : List Call) → Few (run (start (fresh n).state area) cs)
