-- A made table, written with the Infinity that was handed up, sent, and read by a neighbour's station, stands there,
-- settled, entry for entry (RULES 23.9).
use Rattle.std.specs.Prelude.{ℕ, ◌≤◌, ◌≡◌, Bool, true, false, List, length, take}
use Rattle.tablemessages.specs.Writer.{good_table, messages_of, writer_result, writer_out}
use Rattle.namehistory.specs.Updates.{OnlyByLength}
use Rattle.protocol.specs.State.{Station, held_at}
use Rattle.protocol.specs.Outcomes.{Terms}
use Rattle.protocol.specs.Queries.{usual_limit}
use Rattle.roundtrip.specs.Feeding.{Fed, fed}
use Rattle.roundtrip.specs.RoundTrip.{Listening, SettledAt, Exchanged}
use Rattle.relaying.specs.Calls.{table_for, table_out_for}

-- a call on the maker's side: its station, the line of the neighbour that the table is for, and what else is lent
pub record Making : Type 0 where
  pub state : Station
  pub line : ℕ
  pub names : List ℕ
  pub size : ℕ
  pub out : List ℕ
  pub route : List ℕ

-- it was answered 0; the entries that it made, and the Infinity that it handed up
abbrev pub Done : Making → Type 0
Done m = (table_for usual_limit m.state m.line m.names m.size (length m.out) (length m.route)).answer ≡ 0

abbrev pub entries_of : Making → List ℕ
entries_of m =
    take m.size (table_out_for usual_limit m.state m.line m.names m.size m.out m.route)

abbrev pub infinity_of : Making → ℕ
infinity_of m =
    (table_for usual_limit m.state m.line m.names m.size (length m.out) (length m.route)).infinity

-- the writer takes it, as the first table and behind an earlier one of the same length: it is 14 only where the run
-- would have over 255 messages
pub record TakenByWriter (m : Making) : Type 0 where
  pub good : good_table (entries_of m) (infinity_of m) ≡ true
  pub first : (old : List ℕ) (size : ℕ) → 1 ≤ size → size ≤ 4091
      → OnlyByLength false old (entries_of m) (infinity_of m) size
  pub next : (before : Making) → Done before → before.size ≡ m.size → (size : ℕ) → 1 ≤ size → size ≤ 4091
      → OnlyByLength true (entries_of before) (entries_of m) (infinity_of m) size

abbrev pub WriterTakesMade : Type 0
WriterTakesMade = (m : Making) → Done m → TakenByWriter m

-- how it is written and sent: from an old table or none, in messages with so much data, by line L of a station with
-- this state and route area
pub record Sending : Type 0 where
  pub number : List ℕ
  pub had : Bool
  pub old : List ℕ
  pub old_infinity : ℕ
  pub size : ℕ
  pub room : List ℕ
  pub terms : ℕ → Terms
  pub state : Station
  pub line : ℕ
  pub route : List ℕ

-- the bytes that the writer makes of the table, and what the calls that read them leave
abbrev pub written_by : Making → Sending → List ℕ
written_by m w =
    take
    (writer_result w.number w.had w.old w.old_infinity (entries_of m) (infinity_of m) w.size
    w.room).written
    (writer_out w.number w.had w.old w.old_infinity (entries_of m) (infinity_of m) w.size w.room)

abbrev pub read_by : Making → Sending → Fed
read_by m w = fed w.terms w.line w.state w.route (written_by m w)

-- the writer answered 0, and the reader's line is open, has room, and has the old table if there was one
pub record Sent (m : Making) (w : Sending) : Type 0 where
  pub sixteen : length w.number ≡ 16
  pub written : (writer_result w.number w.had w.old w.old_infinity (entries_of m) (infinity_of m) w.size
      w.room).answer
      ≡ 0
  pub room : m.size ≤ w.state.room
  pub listening : Listening w.state w.line w.route
  pub outputs : (i : ℕ) → 4119 ≤ (w.terms i).out
  pub before : w.had ≡ true → SettledAt (held_at w.state w.line w.route) w.old (infinity_of m)

-- then every message is a call that is answered 0, every byte is used, and the reader's line holds exactly the made
-- table, settled; nothing else of the state and the route area is another
abbrev pub SettlesAsMade : Type 0
SettlesAsMade = (m : Making) (w : Sending) → Done m → Sent m w
    → Exchanged w.state w.line w.route (entries_of m) (infinity_of m)
    (length (messages_of w.number w.had w.old (entries_of m) (infinity_of m) w.size))
    (writer_result w.number w.had w.old w.old_infinity (entries_of m) (infinity_of m) w.size
    w.room).written
    (read_by m w)
