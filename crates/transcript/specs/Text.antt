-- The text of a session, from the bytes of its event file.
use Rattle.std.specs.Prelude.{ℕ, ◌+◌, ◌*◌, ◌≤◌, ◌≡◌, Bool, true, false, cond, List, [], ◌∷◌, ◌++◌, eqb, leb, length, replicate, Option, Some, None}
use Rattle.laws.specs.Tests.{all}
use Rattle.laws.specs.Parts.{over}
use Rattle.laws.specs.Text.{codes}
use Rattle.protocol.specs.declared.Own.{Own}
use Rattle.protocol.specs.State.{Station}
use Rattle.protocol.specs.Outcomes.{Outcome, terms_of}
use Rattle.protocol.specs.Calls.{fresh}
use Rattle.protocol.specs.Runs.{Call, Open, Close, Message, Same, outcome_of, area_after, start}
use Rattle.transcript.specs.declared.events.Answered.{Answered}
use Rattle.transcript.specs.Files.{kind_of, line_of, clock_of, message_of, event_at, count_from, count_of, longest}
use Rattle.transcript.specs.Files.{good_event, good_file}
use Rattle.transcript.specs.Rows.{row_text}

-- what the station says of itself: 127.0.0.1, port 6346, no files, and calls are taken
abbrev pub own_pong : Own
own_pong = record { port = 6346; address = 127 ∷ 0 ∷ 0 ∷ 1 ∷ []; files = 0; kilobytes = 0; calls = true }

-- the lengths of the route area and of the output area
abbrev pub route_size : ℕ
route_size = 16384

abbrev pub output_size : ℕ
output_size = 4119

abbrev pub pick_call : Bool → Call → Call → Call
pick_call true a b = a
pick_call false a b = b

-- the call that an event makes; only a message's event is read past its clock
unfoldable pub call_of : List ℕ → Call
call_of e =
    pick_call (eqb (kind_of e) 0) (Open (line_of e))
    (pick_call (eqb (kind_of e) 1) (Close (line_of e))
    (Message (line_of e) (message_of e) (terms_of (clock_of e) own_pong output_size) Same))

-- what an event's call leaves of a state and a route area
abbrev pub outcome_by : Station → List ℕ → List ℕ → Outcome
outcome_by s route e = outcome_of (start s route) (call_of e)

abbrev pub route_by : Station → List ℕ → List ℕ → List ℕ
route_by s route e = area_after (call_of e) route (outcome_by s route e).route

-- what is handed on, and the state after, are an outcome's
pub record Answers (o : Outcome) (r : Answered) (after : Station) : Type 0 where
  pub answer : r.answer ≡ o.answer
  pub to : r.to ≡ o.to
  pub age : r.age ≡ o.age
  pub state : after ≡ o.state

-- a row for each of these events, each call made on what the one before it left
unfoldable pub rows_from : List ℕ → Station → List ℕ → List ℕ → List ℕ
rows_from file s route [] = []
rows_from file s route (i ∷ is) =
    row_text i (outcome_by s route (event_at file i)).answer (outcome_by s route (event_at file i)).to
    (outcome_by s route (event_at file i)).age
    ++ rows_from file (outcome_by s route (event_at file i)).state (route_by s route (event_at file i)) is

-- all rows, from a fresh state over a route area of zeros
unfoldable pub all_rows : List ℕ → List ℕ
all_rows file = rows_from file (fresh route_size).state (replicate route_size 0) (count_from 0 (count_of file))

-- what the function that writes n rows from place `at` on needs: good events, whose offsets are there, an output area
-- of the right length, and room for rows of at most 36 bytes
pub record RowsFit (file : List ℕ) (n lent size at : ℕ) : Type 0 where
  pub good : all (good_event file) (count_from 0 n) ≡ true
  pub offsets : 8 + 4 * n ≤ length file
  pub short : length file ≤ longest
  pub output : lent ≡ output_size
  pub room : at + 36 * n ≤ size

abbrev pub heading : List ℕ
heading = codes "event answer to after\n"

abbrev pub bad_file : List ℕ
bad_file = codes "bad file\n"

unfoldable pub session_text : List ℕ → List ℕ
session_text file = cond (good_file file) (heading ++ all_rows file) bad_file

-- an area of this many bytes has room for every text
abbrev pub text_room : ℕ
text_room = 118784

-- whether there was room for the text, and its length, which is none where there was not
pub record Written : Type 0 where
  pub fits : Bool
  pub written : ℕ

-- as the code tells of it: the length, where there was room
abbrev pub handed_back : Option ℕ → Written
handed_back (Some n) = record { fits = true; written = n }
handed_back None = record { fits = false; written = 0 }

-- what is handed back, and the area after it; a shorter area stays as it is
abbrev pub written_of : ℕ → List ℕ → Written
written_of size text = record { fits = leb text_room size; written = cond (leb text_room size) (length text) 0 }

abbrev pub area_of : List ℕ → List ℕ → List ℕ
area_of text area = cond (leb text_room (length area)) (over 0 text area) area
