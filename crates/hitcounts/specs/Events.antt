-- The counts of hits over lists that also bring bytes as the line does (RULES 24.1, 24.9): they are what the log of the
-- whole-message calls says to which the list comes; at most 200 hits of a query are answered 0, and the call that
-- brings the last byte of a hit passes it back or delivers it, or refuses it with 21, as a call with the whole message.
use Rattle.std.specs.Prelude.{ℕ, ◌<◌, ◌≡◌, true, List, [], ◌∷◌}
use Rattle.protocol.specs.State.{Station, remembered}
use Rattle.protocol.specs.Memory.{number_in}
use Rattle.protocol.specs.Order.{in_order}
use Rattle.protocol.specs.Outcomes.{Terms}
use Rattle.protocol.specs.Calls.{fresh}
use Rattle.protocol.specs.Runs.{Area, Message, Made, lent}
use Rattle.protocol.specs.Kept.{Sized}
use Rattle.protocol.specs.Frames.{LeftAsItWas}
use Rattle.receiving.specs.Events.{Event, Receiver, world_of, calls_of, reply_to, handle_all, begin}
use Rattle.receiving.specs.Bare.{bare, bare_outcome}
use Rattle.hitcounts.specs.History.{hits_in, CountIs, CountedSince}
use Rattle.hitcounts.specs.TwentyOne.{GoodHit}
use Rattle.hitcounts.specs.Few.{Awaits, Passed, CanGo, Few}

-- every list from any state in order
abbrev pub EventsCount : Type 0
EventsCount =
    (s : Station) (area : List ℕ) (held : ℕ → List ℕ) (es : List Event)
    → Sized s
    → in_order s ≡ true
    → CountIs (handle_all (begin s area held) es).state (world_of (handle_all (begin s area held) es)).log
    (remembered s)

-- and from a fresh one
abbrev pub EventsFreshCounts : Type 0
EventsFreshCounts =
    (n : ℕ) (area : List ℕ) (held : ℕ → List ℕ) (es : List Event)
    → CountedSince (handle_all (begin (fresh n).state area held) es).state
    (world_of (handle_all (begin (fresh n).state area held) es)).log

-- a good hit that an event makes whole, of a query that awaits hits; held bytes and shut marks are aside: the state
-- before and the outcome are read bare
pub record FewFed (w : Receiver) (e : Event) : Type 0 where
  pub full : (l : ℕ) (m : List ℕ) (t : Terms) (a : Area) (k : ℕ) (newer : List Made)
      → calls_of w e ≡ Message l m t a ∷ []
      → GoodHit w.state l m t.out (lent a w.area)
      → Awaits (world_of w).log (number_in m) k newer
      → hits_in (number_in m) newer ≡ 200
      → LeftAsItWas (bare_outcome (reply_to w e)) 21 (bare w.state) (lent a w.area)
  pub more : (l : ℕ) (m : List ℕ) (t : Terms) (a : Area) (k : ℕ) (newer : List Made)
      → calls_of w e ≡ Message l m t a ∷ []
      → GoodHit w.state l m t.out (lent a w.area)
      → Awaits (world_of w).log (number_in m) k newer
      → hits_in (number_in m) newer < 200
      → CanGo k m
      → Passed (bare w.state) m k (hits_in (number_in m) newer) (bare_outcome (reply_to w e))

-- at most 200, and what becomes of the next, brought whole or in scraps
abbrev pub EventsFew : Type 0
EventsFew =
    (s : Station) (area : List ℕ) (held : ℕ → List ℕ) (es : List Event)
    → Sized s
    → in_order s ≡ true
    → Few (world_of (handle_all (begin s area held) es))
    × ((e : Event) → FewFed (handle_all (begin s area held) es) e)
