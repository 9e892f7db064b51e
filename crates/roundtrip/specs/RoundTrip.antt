-- RULES 13.5: the writer's bytes, taken by the message call of a station whose line has the old table, settled, or
-- where there was no old table anything at all, are each answered 0, and leave the new table, settled, and nothing
-- else changed.
use Rattle.std.specs.Prelude.{ℕ, ◌+◌, ◌*◌, ◌/◌, ◌≤◌, ◌<◌, ◌≡◌, Bool, true, List, length, take, drop}
use Rattle.laws.specs.Parts.{over}
use Rattle.tables.specs.Tables.{Held, settled}
use Rattle.tablemessages.specs.Writer.{messages_of, writer_result, writer_out}
use Rattle.tablemessages.specs.RoundTrip.{settled_table, settled_as}
use Rattle.protocol.specs.Lines.{with_table}
use Rattle.protocol.specs.State.{Station, remembered, line_at, with_line, held_at}
use Rattle.protocol.specs.Outcomes.{Terms}
use Rattle.protocol.specs.Order.{in_order}
use Rattle.protocol.specs.Kept.{Sized}
use Rattle.roundtrip.specs.Feeding.{Fed, fed, AllTaken}

-- a station in order with line L open, and a route area that fits it
pub record Listening (s : Station) (L : ℕ) (area : List ℕ) : Type 0 where
  pub sized : Sized s
  pub order : in_order s ≡ true
  pub line : L < 8
  pub live : (line_at s L).live ≡ true
  pub large : 32 ≤ length area
  pub room : length area / 8 ≡ s.room

-- what is held is the table that the differences are taken from
pub record SettledAt (h : Held) (es : List ℕ) (infinity : ℕ) : Type 0 where
  pub mark : h.table.mark ≡ settled
  pub long : h.table.length ≡ length es
  pub limit : h.table.infinity ≡ infinity
  pub entries : h.entries ≡ es

-- the new table stands at line L, and all else is as it was
pub record Exchanged (s : Station) (L : ℕ) (route new : List ℕ) (infinity messages bytes : ℕ) (f : Fed) : Type 0 where
  -- every message is one call, answered 0, with nothing sent, and every byte is used
  pub silent : AllTaken f.outcomes
  pub calls : length f.outcomes ≡ messages
  pub used : f.used ≡ bytes
  -- the whole state and the whole route area
  pub state : f.state ≡ with_line s L (with_table (line_at s L) (settled_table (length new) infinity))
  pub area : f.area ≡ over (L * s.room) new route
  -- and so, part by part: the table and its entries, the other lines, the remembered queries, the bytes outside the
  -- table
  pub held : held_at f.state L f.area ≡ settled_as new infinity
  pub others : (k : ℕ) → (k ≡ L → ⊥) → line_at f.state k ≡ line_at s k
  pub memory : remembered f.state ≡ remembered s
  pub before : take (L * s.room) f.area ≡ take (L * s.room) route
  pub behind : drop (L * s.room + length new) f.area ≡ drop (L * s.room + length new) route

-- the bytes are as many of the output area as the writer says it wrote
abbrev pub StationRoundTrip : Type 0
StationRoundTrip =
    (number : List ℕ) (had : Bool) (old : List ℕ) (old_infinity : ℕ) (new : List ℕ) (infinity size : ℕ) (out : List ℕ)
    (t : ℕ → Terms) (s : Station) (L : ℕ) (area : List ℕ)
    → length number ≡ 16
    → (writer_result number had old old_infinity new infinity size out).answer ≡ 0
    → length new ≤ s.room
    → Listening s L area
    → ((i : ℕ) → 4119 ≤ (t i).out)
    → (had ≡ true → SettledAt (held_at s L area) old infinity)
    → Exchanged s L area new infinity (length (messages_of number had old new infinity size))
    (writer_result number had old old_infinity new infinity size out).written
    (fed t L s area
    (take (writer_result number had old old_infinity new infinity size out).written
    (writer_out number had old old_infinity new infinity size out)))
