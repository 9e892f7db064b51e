-- A name is found by any of its keywords (RULES 22.11, 13, 7.7, 8.3): a query all of whose keywords are keywords of
-- listed names passes the table of these names, at every length and Infinity that a RESET may carry; and so it does
-- through the calls, from the area of names to the lines that the query goes to.
use Rattle.std.specs.Prelude.{ℕ, ◌≤◌, ◌≡◌, Bool, true, false, length, get_or, take}
use mathlib.Core.List.{List, Memᴰ}
use Rattle.wire.specs.Header.{kind_of, payload_of}
use Rattle.keywords.specs.Keywords.{keywords_of}
use Rattle.tables.specs.Tables.{good_length, good_infinity}
use Rattle.tables.specs.Admission.{withholds}
use Rattle.tablemessages.specs.Writer.{writer_result, writer_out}
use Rattle.tablemessages.specs.RoundTrip.{settled_as}
use Rattle.namearea.specs.Area.{names_in}
use Rattle.nametable.specs.Table.{own_entries, table_answer, table_out}
use Rattle.protocol.specs.State.{Station, held_at}
use Rattle.protocol.specs.Outcomes.{Terms}
use Rattle.protocol.specs.Queries.{usual_limit, text_in}
use Rattle.protocol.specs.Periods.{life_left}
use Rattle.protocol.specs.Calls.{message_outcome, own_outcome}
use Rattle.roundtrip.specs.Feeding.{fed}
use Rattle.roundtrip.specs.RoundTrip.{Listening, SettledAt}

-- each keyword of the text is one of some name
abbrev pub Named : List (List ℕ) → List ℕ → Type 0
Named names text = (k : List ℕ) → Memᴰ k (keywords_of text)
    → (x : List ℕ) × Memᴰ x names × Memᴰ k (keywords_of x)

-- no table of the names withholds it
abbrev pub NamedPasses : Type 0
NamedPasses = (n infinity : ℕ) (names : List (List ℕ)) (text : List ℕ) (ttl : ℕ)
    → good_length n ≡ true
    → good_infinity infinity ≡ true
    → 1 ≤ ttl
    → Named names text
    → withholds (settled_as (own_entries n infinity names) infinity) (keywords_of text) ttl ≡ false

-- at a station with this state and route area, such a query that is taken goes to line L: an arriving one that comes
-- by another line and has a life of 2 or more, and an own one
pub record GoesTo (names : List (List ℕ)) (L : ℕ) (s : Station) (route : List ℕ) : Type 0 where
  pub arriving : (l : ℕ) (m : List ℕ) (t : Terms)
      → kind_of m ≡ 0x80
      → Named names (text_in (payload_of m))
      → (L ≡ l → ⊥)
      → 2 ≤ life_left usual_limit m
      → (message_outcome s l m t route).answer ≡ 0
      → get_or (message_outcome s l m t route).to L false ≡ true
  pub own : (number text : List ℕ) (out : ℕ)
      → Named names text
      → (own_outcome s number text out route).answer ≡ 0
      → get_or (own_outcome s number text out route).to L false ≡ true

-- the whole way: the table call on an area of names, the writer, and the neighbour's calls on line L with what was
-- written, the old table being there, settled, or none
abbrev pub FoundThroughCalls : Type 0
FoundThroughCalls =
    (area : List ℕ) (n infinity : ℕ) (out : List ℕ)
    (number : List ℕ) (had : Bool) (old : List ℕ) (old_infinity size : ℕ) (written : List ℕ)
    (t : ℕ → Terms) (s : Station) (L : ℕ) (route : List ℕ)
    → table_answer area n infinity (length out) ≡ 0
    → length number ≡ 16
    → (writer_result number had old old_infinity (take n (table_out area n infinity out)) infinity size written).answer ≡ 0
    → n ≤ s.room
    → Listening s L route
    → ((i : ℕ) → 4119 ≤ (t i).out)
    → (had ≡ true → SettledAt (held_at s L route) old infinity)
    → let bytes = take
    (writer_result number had old old_infinity (take n (table_out area n infinity out)) infinity size
    written).written
    (writer_out number had old old_infinity (take n (table_out area n infinity out)) infinity size written) in
    GoesTo (names_in area) L (fed t L s route bytes).state (fed t L s route bytes).area
