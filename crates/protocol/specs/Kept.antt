-- What every call keeps: a state in order stays in order, a state out of order comes back untouched, and a refusal
-- leaves what stands.
-- And what a call does to the remembered queries and the stored pongs, as newest-first lists.
use Rattle.std.specs.Prelude.{ℕ, suc, ◌/◌, ◌≤◌, ◌<◌, ◌≡◌, Bool, true, false, cond, ◌&&◌, List, [], ◌∷◌, map, eqb, leb, ltb, length, take, replicate}
use Rattle.laws.specs.Tests.{all}
use Rattle.wire.specs.Header.{kind_of, route_update}
use Rattle.tables.specs.Tables.{marked, broken}
use Rattle.protocol.specs.declared.Pong.{Pong}
use Rattle.protocol.specs.declared.Line.{Line}
use Rattle.protocol.specs.declared.Age.{Age}
use Rattle.protocol.specs.State.{Station, remembered, line_at, with_line}
use Rattle.protocol.specs.Memory.{capacity, hit_limit, Number, same_number, Query, queries_in, no_twice, At, find}
use Rattle.protocol.specs.Memory.{remember, raise, left}
use Rattle.protocol.specs.Lines.{line_count, with_table, with_pong, pong_capacity, stored_pongs}
use Rattle.protocol.specs.Order.{in_order}
use Rattle.protocol.specs.Outcomes.{Terms, Outcome, quiet, hands_up}
use Rattle.protocol.specs.Calls.{fresh, opening, closed_state, closing, message_outcome, own_outcome}
use Rattle.protocol.specs.Runs.{Call, World, run}
use Rattle.protocol.specs.Frames.{LeftAsItWas, Bare, MarkedBroken}

-- the arrays of a state are as long as their types have them
abbrev pub sized_line : Line → Bool
sized_line x = eqb (length x.pongs) pong_capacity && all (λ p. eqb (length p.bytes) 14) x.pongs

pub record Sized (s : Station) : Type 0 where
  pub eight : length s.lines ≡ line_count
  pub lo : length s.memory.lo ≡ capacity
  pub hi : length s.memory.hi ≡ capacity
  pub asker : length s.memory.asker ≡ capacity
  pub hits : length s.memory.hits ≡ capacity
  pub pongs : all sized_line s.lines ≡ true

-- a state after a call, and the state before it
pub record Kept (s s' : Station) : Type 0 where
  pub order : in_order s' ≡ true
  pub sized : Sized s'
  pub room : s'.room ≡ s.room

-- a fresh state is in order, all its lines are closed, and no place has a hit
pub record FreshFacts (n : ℕ) : Type 0 where
  pub order : in_order (fresh n).state ≡ true
  pub sized : Sized (fresh n).state
  pub room : (fresh n).state.room ≡ cond (ltb n 32) 0 (n / 8)
  pub closed : (l : ℕ) → l < line_count → (line_at (fresh n).state l).live ≡ false
  pub hits : (fresh n).state.memory.hits ≡ replicate 512 0

abbrev pub FreshInOrder : Type 0
FreshInOrder = (n : ℕ) → FreshFacts n

-- each call keeps a state in order, whatever it is answered
pub record KeptByCalls (s : Station) : Type 0 where
  pub opens : (l : ℕ) → Kept s (opening s l).state
  pub closes : (l : ℕ) → Kept s (closing s l).state
  pub message : (l : ℕ) (m : List ℕ) (t : Terms) (route : List ℕ) → Kept s (message_outcome s l m t route).state
  pub asks : (number text : List ℕ) (out : ℕ) (route : List ℕ) → Kept s (own_outcome s number text out route).state

abbrev pub OrderKept : Type 0
OrderKept = (s : Station) → Sized s → in_order s ≡ true → KeptByCalls s

-- so does every list of calls
abbrev pub OrderKeptByLists : Type 0
OrderKeptByLists = (w : World) (cs : List Call) → Sized w.state → in_order w.state ≡ true
    → Kept w.state (run w cs).state

-- a state out of order is answered 1 and comes back as it was, with the area
pub record AnsweredOne (s : Station) : Type 0 where
  pub opens : (l : ℕ) → opening s l ≡ quiet 1 s []
  pub closes : (l : ℕ) → closing s l ≡ quiet 1 s []
  pub message : (l : ℕ) (m : List ℕ) (t : Terms) (route : List ℕ) → message_outcome s l m t route ≡ quiet 1 s route
  pub asks : (number text : List ℕ) (out : ℕ) (route : List ℕ) → own_outcome s number text out route ≡ quiet 1 s route

abbrev pub OutOfOrder : Type 0
OutOfOrder = (s : Station) → in_order s ≡ false → AnsweredOne s

-- RULES 2.5, 2.6: a refusal sends, writes, searches and delivers nothing, and leaves state and area; only the mark of a
-- line is set to broken, where its update is refused by 14, 15 or 16
abbrev pub marks_broken : ℕ → List ℕ → Bool
marks_broken n m = eqb (kind_of m) route_update && (leb 14 n && leb n 16)

abbrev pub broken_at : Station → ℕ → Station
broken_at s l = with_line s l (with_table (line_at s l) (marked broken (line_at s l).table))

-- in words: of the state only that mark changes
abbrev pub BrokenInWords : Type 0
BrokenInWords = (s : Station) (l : ℕ) → Sized s → l ≤ 7 → MarkedBroken l s (broken_at s l)

abbrev pub after_refusal : ℕ → Station → ℕ → List ℕ → Station
after_refusal n s l m = cond (marks_broken n m) (broken_at s l) s

-- an outcome that is refused is `quiet`, but for the age that it hands up; the state that it leaves may depend on the
-- answer
abbrev pub RefusedQuietly : Outcome → (ℕ → Station) → List ℕ → Type 0
RefusedQuietly o s route = (o.answer ≡ 0 → ⊥) → o ≡ hands_up o.age (quiet o.answer (s o.answer) route)

pub record RefusalsLeave (s : Station) : Type 0 where
  pub opens : (l : ℕ) → RefusedQuietly (opening s l) (λ n. s) []
  pub closes : (l : ℕ) → RefusedQuietly (closing s l) (λ n. s) []
  pub message : (l : ℕ) (m : List ℕ) (t : Terms) (route : List ℕ)
      → RefusedQuietly (message_outcome s l m t route) (λ n. after_refusal n s l m) route
  pub asks : (number text : List ℕ) (out : ℕ) (route : List ℕ) → RefusedQuietly (own_outcome s number text out route)
      (λ n. s) route

-- RULES 3.6, 3.7: a fresh state over less than 32 bytes is refused by 2, and is handed back all the same, with room 0:
-- nothing stands before it, and at the boundary it is written over the station that was lent. All its lines are closed
-- and bare, and nothing is remembered
pub record FreshRefused (n : ℕ) : Type 0 where
  pub answer : (fresh n).answer ≡ 2
  pub room : (fresh n).state.room ≡ 0
  pub lines : (l : ℕ) → Bare false (line_at (fresh n).state l)
  pub memory : remembered (fresh n).state ≡ []
  pub order : in_order (fresh n).state ≡ true

-- `quietly` is what `quiet` comes to, here and for a state out of order, with whatever age
pub record RefusalFrame : Type 0 where
  pub calls : (s : Station) → RefusalsLeave s
  pub quietly : (n : ℕ) (a : Age) (s : Station) (route : List ℕ)
      → LeftAsItWas (hands_up a (quiet n s route)) n s route
  pub fresh_refused : (n : ℕ) → n < 32 → FreshRefused n
  pub fresh_taken : (n : ℕ) → 32 ≤ n → ((fresh n).answer ≡ 0) × ((fresh n).state.room ≡ n / 8)

-- the remembered queries after one more, after a closing, after a hit of the number n that was passed back or
-- delivered, and the stored pongs after one more
abbrev pub asked : Number → ℕ → Query
asked n who = record { number = n; asker = who; hits = 0 }

abbrev pub left_by : ℕ → Query → Query
left_by l q = record { number = q.number; asker = left l q.asker; hits = q.hits }

abbrev pub hit_by : Number → Query → Query
hit_by n q =
    record {
      number = q.number;
      asker = q.asker;
      hits = cond (same_number q.number n) (suc q.hits) q.hits;
    }

abbrev pub RemembersNewest : Type 0
RemembersNewest =
    (s : Station) (n : Number) (who : ℕ)
    → Sized s → s.memory.count ≤ capacity → s.memory.next < capacity
    → queries_in capacity (remember capacity s.memory n who) ≡ take capacity (asked n who ∷ remembered s)

abbrev pub RemembersLeft : Type 0
RemembersLeft = (s : Station) (l : ℕ) → Sized s → remembered (closed_state s l) ≡ map (left_by l) (remembered s)

-- a query that was found and has had fewer than 200 hits has had one more, and no other query has
abbrev pub RemembersHit : Type 0
RemembersHit =
    (s : Station) (n : Number) (after who hits : ℕ)
    → Sized s → no_twice (remembered s) ≡ true → find (remembered s) n ≡ At after who hits → hits < hit_limit
    → queries_in capacity (raise capacity s.memory after) ≡ map (hit_by n) (remembered s)

abbrev pub StoresNewest : Type 0
StoresNewest =
    (x : Line) (p : Pong)
    → length x.pongs ≡ pong_capacity → x.pongcount ≤ pong_capacity → x.pongnext < pong_capacity
    → stored_pongs (with_pong x p) ≡ take pong_capacity (p ∷ stored_pongs x)
