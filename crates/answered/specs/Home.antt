-- A hit that was written comes home (RULES 25.12): handed to a station that remembers its query, it is delivered where
-- the query was asked there, and else passed back by the line that the query came by. Demand 2 says what becomes of
-- any hit; a written one has what that asks for.
use Rattle.std.specs.Prelude.{ℕ, ◌≤◌, ◌<◌, ◌≡◌, true, false, List, [], length, take}
use Rattle.wire.specs.Header.{hops_of, number_of, payload_of, message}
use Rattle.protocol.specs.Memory.{capacity, number_in}
use Rattle.protocol.specs.State.{Station, line_at, remembered}
use Rattle.protocol.specs.Order.{in_order}
use Rattle.protocol.specs.Outcomes.{Terms, Outcome, nobody, only_to}
use Rattle.protocol.specs.Arrived.{Areas}
use Rattle.protocol.specs.Runs.{Area, Call, Message, World, lent, outcome_of, run, start}
use Rattle.protocol.specs.Kept.{Sized}
use Rattle.protocol.specs.Demand2.{Origin, Here, From, origin, hits_since, GoesBack}
use Rattle.hits.specs.declared.writing.Responder.{Responder}
use Rattle.hits.specs.Words.{Typed}
use Rattle.answering.specs.Writing.{writing, writing_out}
use Rattle.answering.specs.Words.{FourBytes}

-- a call that wrote a hit: what was brought to it, and that it answered 0
pub record Writing : Type 0 where
  pub limit : ℕ
  pub query : List ℕ
  pub names : List ℕ
  pub sizes : List ℕ
  pub from : Responder
  pub out : List ℕ
  pub typed : Typed from
  pub numbers : FourBytes sizes
  pub done : (writing limit query names sizes from (length out)).answer ≡ 0

-- the bytes that it wrote
abbrev pub hit_of : Writing → List ℕ
hit_of w =
    take (writing w.limit w.query w.names w.sizes w.from (length w.out)).written
    (writing_out w.limit w.query w.names w.sizes w.from w.out)

-- delivered here, with its payload as it was written
pub record Delivered (o : Outcome) : Type 0 where
  pub answer : o.answer ≡ 0
  pub delivered : o.delivered ≡ true
  pub to : o.to ≡ nobody
  pub sent : o.sent ≡ []

-- passed back by one line, which has not closed since the query came by it, with the query's Hops for its TTL
pub record PassedOver (l n : ℕ) (w : World) (query hit : List ℕ) (o : Outcome) : Type 0 where
  pub opened : GoesBack l n w
  pub answer : o.answer ≡ 0
  pub delivered : o.delivered ≡ false
  pub to : o.to ≡ only_to l
  pub sent : o.sent ≡ message (number_of query) 0x81 (hops_of query) 1 (payload_of hit)

-- by where the query came from, and how many hits of it there were: a query asked there was handed on with Hops 0 or
-- more; one that came by a line was handed on with Hops 1 or more, and so its hit has a TTL of 2 or more
pub record ComesTo (query hit : List ℕ) (w : World) (from : Origin) (hits : ℕ) (o : Outcome) : Type 0 where
  pub asked : from ≡ Here → hits < 200 → Delivered o
  pub brought : (l n : ℕ) → from ≡ From l n → 1 ≤ hops_of query → hits < 200 → PassedOver l n w query hit o

-- after any calls on any station in order, brought by any line that is open
abbrev pub ComesHome : Type 0
ComesHome =
    (v : Writing) (s : Station) (area : List ℕ) (cs : List Call)
    → Sized s
    → in_order s ≡ true
    → (l : ℕ) (t : Terms) (a : Area)
    → let w = run (start s area) cs in
    Areas w.state t.out (lent a w.area)
    → l ≤ 7
    → (line_at w.state l).live ≡ true
    → ComesTo v.query (hit_of v) w (origin capacity w.log (remembered s) (number_in v.query))
    (hits_since w.log (remembered s) (number_in v.query)) (outcome_of w (Message l (hit_of v) t a))
