-- A query passes a made table where it passes one hop on (RULES 23.10): if the table of another line of the maker,
-- settled, does not withhold it at some TTL, then the station that has read the made table sends it to the maker with a
-- TTL of one more.
use Rattle.std.specs.Prelude.{ℕ, ◌-◌, ◌≤◌, ◌≡◌, true, false, List, get_or}
use Rattle.wire.specs.Header.{kind_of, payload_of}
use Rattle.keywords.specs.Keywords.{keywords_of}
use Rattle.tables.specs.Tables.{Held, settled}
use Rattle.tables.specs.Admission.{withholds}
use Rattle.protocol.specs.Lines.{is_other}
use Rattle.protocol.specs.State.{Station, line_at, held_at}
use Rattle.protocol.specs.Outcomes.{Terms}
use Rattle.protocol.specs.Queries.{usual_limit, text_in}
use Rattle.protocol.specs.Periods.{life_left}
use Rattle.protocol.specs.Calls.{message_outcome, own_outcome}
use Rattle.relayed.specs.Settled.{Making, Done, Sending, Sent, read_by}

-- at a station with this state and route area, a query that is taken goes to line L if `next`, a table one hop
-- further, does not withhold it at the TTL that it would have there: one less than at L
pub record PassesTo (next : Held) (L : ℕ) (s : Station) (route : List ℕ) : Type 0 where
  pub arriving : (l : ℕ) (m : List ℕ) (t : Terms)
      → kind_of m ≡ 0x80
      → (L ≡ l → ⊥)
      → 2 ≤ life_left usual_limit m
      → withholds next (keywords_of (text_in (payload_of m))) (life_left usual_limit m - 2) ≡ false
      → (message_outcome s l m t route).answer ≡ 0
      → get_or (message_outcome s l m t route).to L false ≡ true
  pub own : (number text : List ℕ) (out : ℕ)
      → withholds next (keywords_of text) (usual_limit - 1) ≡ false
      → (own_outcome s number text out route).answer ≡ 0
      → get_or (own_outcome s number text out route).to L false ≡ true

-- the table of any other line of the maker that is settled is such a next one
abbrev pub PassedOn : Type 0
PassedOn = (m : Making) (w : Sending) → Done m → Sent m w → (k : ℕ) → k ≤ 7 → is_other m.line k ≡ true
    → (line_at m.state k).table.mark ≡ settled
    → PassesTo (held_at m.state k m.route) w.line (read_by m w).state (read_by m w).area
