-- Demand 3 after a list that also brings bytes as the line does, without an expected table: which lines the next query
-- goes on to, read off the updates of the line's opening, whole or put together from what was brought, and off what
-- then stands in state and route area. The claim is that of the base (protocol, specs/Periods).
use Rattle.std.specs.Prelude.{ℕ, ◌≤◌, ◌≡◌, true, false, List, length}
use Rattle.protocol.specs.State.{Station, line_at}
use Rattle.protocol.specs.Order.{in_order}
use Rattle.protocol.specs.Periods.{Forwards}
use Rattle.receiving.specs.Events.{Event, world_of, handle_all, begin, FairEvents}

-- after every list, from any state in order with the line closed, with any held areas at the start
abbrev pub EventsQuiet : Type 0
EventsQuiet =
    (s : Station) (area : List ℕ) (held : ℕ → List ℕ) (L : ℕ) (es : List Event)
    → length s.lines ≡ 8
    → in_order s ≡ true
    → L ≤ 7
    → (line_at s L).live ≡ false
    → FairEvents s.room es
    → Forwards 7 (world_of (handle_all (begin s area held) es)) L
