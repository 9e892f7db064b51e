-- Demand 2 over lists that also bring bytes as the line does: each message is routed as the base has it (protocol,
-- specs/Demand2), with the call that brought its last byte. Held bytes and shut marks are aside in it: the state before
-- and the outcome are read bare.
use Rattle.std.specs.Prelude.{ℕ, ◌<◌, ◌≡◌, true, false, ◌⊎◌, List, [], ◌∷◌, ◌++◌, get_or}
use Rattle.wire.specs.Header.{kind_of}
use Rattle.protocol.specs.State.{Station, remembered, line_at}
use Rattle.protocol.specs.Memory.{capacity, Number, Query, number_in}
use Rattle.protocol.specs.Order.{in_order}
use Rattle.protocol.specs.Outcomes.{Terms}
use Rattle.protocol.specs.Calls.{fresh}
use Rattle.protocol.specs.Runs.{Area, Call, Message}
use Rattle.protocol.specs.Kept.{Sized, Kept}
use Rattle.protocol.specs.Demand2.{Routed, MemoryIs, Brought, openings, origin, Gone, Unknown}
use Rattle.receiving.specs.Events.{Event, Receiver, world_of, calls_of, reply_to, handle, handle_all, begin}
use Rattle.receiving.specs.Bare.{bare_world, bare_outcome}

-- every event of a list, in turn: what it comes to is routed
abbrev pub AllFedRouted : (limit n : ℕ) → List Query → Receiver → List Event → Type 0
AllFedRouted limit n base w [] = Unit {0}
AllFedRouted limit n base w (e ∷ es) =
    ((c : Call) → calls_of w e ≡ c ∷ [] → Routed limit n base (bare_world (world_of w)) c (bare_outcome (reply_to w e)))
    × AllFedRouted limit n base (handle w e) es

abbrev pub EventsDemand2 : Type 0
EventsDemand2 =
    (s : Station) (area : List ℕ) (held : ℕ → List ℕ) (es : List Event)
    → Sized s
    → in_order s ≡ true
    → AllFedRouted 7 capacity (remembered s) (begin s area held) es

-- the remembered queries are the last 512 that were taken, the newest first, and the state stays in order
pub record EventsKeep (s : Station) (w : Receiver) : Type 0 where
  pub memory : MemoryIs capacity w.state (world_of w).log (remembered s)
  pub kept : Kept s w.state

abbrev pub EventsMemory : Type 0
EventsMemory =
    (s : Station) (area : List ℕ) (held : ℕ → List ℕ) (es : List Event)
    → Sized s
    → in_order s ≡ true
    → EventsKeep s (handle_all (begin s area held) es)

-- gone stays gone
abbrev pub EventsGone : Type 0
EventsGone =
    (s : Station) (area : List ℕ) (held : ℕ → List ℕ) (es later : List Event) (x : Number)
    → Sized s
    → in_order s ≡ true
    → origin capacity (world_of (handle_all (begin s area held) es)).log (remembered s) x ≡ Gone
    → (origin capacity (world_of (handle_all (begin s area held) (es ++ later))).log (remembered s) x ≡ Gone)
    ⊎ ((ps qs : List Event) × (later ≡ ps ++ qs)
    × (origin capacity (world_of (handle_all (begin s area held) (es ++ ps))).log (remembered s) x ≡ Unknown))

-- from a fresh state: where a hit goes to line k, whether it came whole or in scraps, that line is open, and some call
-- of the log took a query with its number by it; since then fewer than 512 were taken and the line was not closed
abbrev pub EventsAnswersBack : Type 0
EventsAnswersBack =
    (n : ℕ) (area : List ℕ) (held : ℕ → List ℕ) (es : List Event) (e : Event)
    (l : ℕ) (m : List ℕ) (t : Terms) (a : Area) (k : ℕ)
    → calls_of (handle_all (begin (fresh n).state area held) es) e ≡ Message l m t a ∷ []
    → kind_of m ≡ 0x81
    → k < 8
    → get_or (reply_to (handle_all (begin (fresh n).state area held) es) e).to k false ≡ true
    → ((line_at (handle_all (begin (fresh n).state area held) es).state k).live ≡ true)
    × Brought 512 (world_of (handle_all (begin (fresh n).state area held) es)).log (number_in m) k
    (openings k (world_of (handle_all (begin (fresh n).state area held) es)).log)
