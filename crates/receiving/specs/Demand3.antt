-- Demand 3 over lists that also bring bytes as the line does, one claim: what is expected of a line puts its messages
-- together itself, from the bytes that the calls bring. It sees no state, no area, no held area and no count, not even
-- that a call waits: of an answer only whether that is 1 to 5 or 19.
-- The claim is that of the base (protocol, specs/Demand3), at every place of such a list.
use Rattle.std.specs.Prelude.{ℕ, ◌≤◌, ◌≡◌, Bool, true, false, cond, not, ◌&&◌, ◌||◌, List, [], ◌∷◌, ◌++◌, map, eqb, length}
use Rattle.protocol.specs.State.{Station, line_at}
use Rattle.protocol.specs.Order.{in_order}
use Rattle.protocol.specs.Outcomes.{unused}
use Rattle.protocol.specs.Runs.{Call, Message, unsent}
use Rattle.protocol.specs.Expected.{Expected, Brought, opens, closes, brings, asks, brought, Fed, fed_all}
use Rattle.protocol.specs.History.{updates_of}
use Rattle.protocol.specs.Demand3.{Agrees, Stands}
use Rattle.receiving.specs.Feeding.{extent_of, front_of, held_bytes}
use Rattle.receiving.specs.Events.{Event, Plain, Feed, Handled, Receiver, world_of, calls_of, reply_to, handle_all}
use Rattle.receiving.specs.Events.{begin, FairEvents}

-- demand 3 counts an event as unsent that is so answered: 1 to 5, and of one that brings bytes also 19
abbrev pub unsent_event : Event → ℕ → Bool
unsent_event (Plain c) n = unsent c n
unsent_event (Feed l bytes t a h) n = unused n || eqb n 19

-- all that reaches what is expected: a call of document 01, or bytes by a line; and whether it was unsent
pub data Heard : Type 0 where
  hears : (call : Brought) (refused : Bool) → Heard
  gets : (line : ℕ) (bytes : List ℕ) (refused : Bool) → Heard

abbrev pub heard_of : Event → ℕ → Heard
heard_of (Plain c) n = hears (brought c) (unsent_event (Plain c) n)
heard_of (Feed l bytes t a h) n = gets l bytes (unsent_event (Feed l bytes t a h) n)

abbrev pub heard : Handled → Heard
heard d = heard_of d.event d.outcome.answer

-- what has come of line L: the bytes of a message that is not whole, and what the base's expected table is fed, the
-- newest first
pub record Gathered : Type 0 where
  pub begun : List ℕ
  pub whole : List Fed

-- an opening or a closing of line L
abbrev pub turns : ℕ → Brought → Bool
turns L (opens l) = eqb l L
turns L (closes l) = eqb l L
turns L (brings l m) = false
turns L asks = false

abbrev pub pick_gathered : Bool → Gathered → Gathered → Gathered
pick_gathered true a b = a
pick_gathered false a b = b

-- by what the bytes come to: unfinished, a whole message, or too large a payload, which is refused
abbrev pub gathering : ℕ → List ℕ → Gathered → Gathered
gathering L b g =
    pick_gathered (eqb (extent_of b) 4) (record { begun = b; whole = g.whole })
    (pick_gathered (eqb (extent_of b) 0)
    (record { begun = []; whole = record { call = brings L (front_of b); refused = false } ∷ g.whole }) g)

abbrev pub gather : ℕ → Heard → Gathered → Gathered
gather L (hears b refused) g =
    record {
      begun = cond (turns L b && not refused) [] g.begun;
      whole = record { call = b; refused = refused } ∷ g.whole;
    }
gather L (gets l bytes refused) g = pick_gathered (eqb l L && not refused) (gathering L (g.begun ++ bytes) g) g

abbrev pub gather_all : ℕ → List Heard → Gathered
gather_all L [] = record { begun = []; whole = [] }
gather_all L (h ∷ hs) = gather L h (gather_all L hs)

abbrev pub gathered_of : ℕ → List Handled → Gathered
gathered_of L log = gather_all L (map heard log)

-- what is expected of line L
abbrev pub expected_of : (L room : ℕ) → List Handled → Expected
expected_of L room log = fed_all L room (gathered_of L log).whole

-- bytes by line L that are not unsent come to no call while the message that is put together from what was brought is
-- not whole, and then to that message
abbrev pub OwnBytes : ℕ → Receiver → Event → Type 0
OwnBytes L w (Plain c) = Unit {0}
OwnBytes L w (Feed l bytes t a h) =
    l ≡ L
    → unsent_event (Feed l bytes t a h) (reply_to w (Feed l bytes t a h)).answer ≡ false
    → calls_of w (Feed l bytes t a h)
    ≡ cond (eqb (extent_of ((gathered_of L w.log).begun ++ bytes)) 4) []
    (Message L (front_of ((gathered_of L w.log).begun ++ bytes)) t a ∷ [])

-- at an event: the claim on the call of document 01 that it comes to
pub record EventAgrees (limit L room : ℕ) (w : Receiver) (e : Event) : Type 0 where
  pub call : (c : Call) → calls_of w e ≡ c ∷ []
      → Agrees limit L room (expected_of L room w.log) (updates_of L (world_of w).log) c (reply_to w e)
  pub own : OwnBytes L w e

pub record ReceiverStands (L room : ℕ) (w : Receiver) : Type 0 where
  pub table : Stands L room (expected_of L room w.log) (updates_of L (world_of w).log) w.state w.area
  -- while the line is open and not shut, its held bytes are those that were gathered
  pub begun : (line_at w.state L).live ≡ true → (line_at w.state L).pending.shut ≡ false
      → held_bytes (line_at w.state L) (w.held L) ≡ (gathered_of L w.log).begun

-- at each place of the list
pub record EventsClaimed (limit : ℕ) (w : Receiver) (L room : ℕ) (es : List Event) : Type 0 where
  pub stands : (before after : List Event) → es ≡ before ++ after → ReceiverStands L room (handle_all w before)
  pub events : (before : List Event) (e : Event) (after : List Event) → es ≡ before ++ (e ∷ after)
      → EventAgrees limit L room (handle_all w before) e

-- every list, from any state in order with the line closed, with any held areas at the start
abbrev pub EventsDemand3 : Type 0
EventsDemand3 =
    (s : Station) (area : List ℕ) (held : ℕ → List ℕ) (L : ℕ) (es : List Event)
    → length s.lines ≡ 8
    → in_order s ≡ true
    → L ≤ 7
    → (line_at s L).live ≡ false
    → FairEvents s.room es
    → EventsClaimed 7 (begin s area held) L s.room es
