-- Demand 3 after a list of calls, without an expected table: which lines the next query goes on to, read off the
-- updates of the line's opening and off what then stands in state and route area. A corollary of specs/Demand3.
use Rattle.std.specs.Prelude.{ℕ, ◌-◌, ◌≤◌, ◌≡◌, true, false, ◌↔◌, List, length, get_or}
use Rattle.wire.specs.Header.{kind_of, payload_of}
use Rattle.protocol.specs.State.{Station, line_at}
use Rattle.protocol.specs.Order.{in_order}
use Rattle.protocol.specs.Queries.{text_in}
use Rattle.protocol.specs.Outcomes.{Terms}
use Rattle.protocol.specs.Calls.{message_outcome, own_outcome}
use Rattle.protocol.specs.Runs.{Call, World, run, start, Fair}
use Rattle.protocol.specs.History.{updates_of, speaks}
use Rattle.protocol.specs.Demand3.{Stops, entries_at}
pub use Rattle.protocol.specs.Demand3.{life_left}

-- RULES 7.7, by the entries of line L that stand in the route area
abbrev pub StoppedNow : World → ℕ → List ℕ → ℕ → Type 0
StoppedNow w L =
    Stops (entries_at w.state L w.area) (line_at w.state L).table.length (line_at w.state L).table.infinity

-- line L withholds a text to be sent with this TTL: a keyword stops it, and none of the four quiet periods is (no RESET
-- accepted in the opening, no run ended after the newest, a run under way, an update refused and no RESET since)
abbrev pub WithheldNow : World → ℕ → List ℕ → ℕ → Type 0
WithheldNow w L text ttl = (speaks (updates_of L w.log) ≡ true) × StoppedNow w L text ttl

-- an arriving query answered 0 goes on to line L, an own query does
pub record Forwards (limit : ℕ) (w : World) (L : ℕ) : Type 0 where
  pub message : (l : ℕ) (m : List ℕ) (t : Terms)
      → (message_outcome w.state l m t w.area).answer ≡ 0
      → kind_of m ≡ 0x80
      → (get_or (message_outcome w.state l m t w.area).to L false ≡ true)
      ↔ (((line_at w.state L).live ≡ true) × (L ≡ l → ⊥) × (2 ≤ life_left limit m)
      × (WithheldNow w L (text_in (payload_of m)) (life_left limit m - 1) → ⊥))
  pub asks : (number text : List ℕ) (out : ℕ)
      → (own_outcome w.state number text out w.area).answer ≡ 0
      → (get_or (own_outcome w.state number text out w.area).to L false ≡ true)
      ↔ (((line_at w.state L).live ≡ true) × (WithheldNow w L text limit → ⊥))

-- after every list of calls, from any state in order with the line closed
abbrev pub QuietPeriods : Type 0
QuietPeriods =
    (s : Station) (area : List ℕ) (L : ℕ) (cs : List Call)
    → length s.lines ≡ 8
    → in_order s ≡ true
    → L ≤ 7
    → (line_at s L).live ≡ false
    → Fair s.room cs
    → Forwards 7 (run (start s area) cs) L
