-- The call that makes the table to send the neighbour of a line (RULES 23): what it answers, and what it leaves of the
-- output. State, names and route area are only read.
use Rattle.std.specs.Prelude.{ℕ, Bool, cond, not, ◌&&◌, List, [], ◌∷◌, ◌++◌, eqb, ltb, length, Result, Ok, Err}
use Rattle.laws.specs.Tests.{first_of}
use Rattle.laws.specs.Parts.{over}
use Rattle.answer.specs.declared.Refusal.{Refusal}
use Rattle.answer.specs.Numbers.{number_of}
use Rattle.tables.specs.Tables.{Held, settled, good_length}
use Rattle.namearea.specs.Area.{names_in}
use Rattle.namearea.specs.Calls.{list_rules}
use Rattle.tablemerging.specs.Merging.{picked_tables, made_entries}
use Rattle.protocol.specs.declared.Line.{Line}
use Rattle.protocol.specs.Lines.{line_numbers, is_other, line_in, held_for}
use Rattle.protocol.specs.State.{Station}
use Rattle.protocol.specs.Order.{in_order}
use Rattle.protocol.specs.Queries.{infinity_written}
use Rattle.protocol.specs.Calls.{other_room, not_open}
use Rattle.relaying.specs.declared.Made.{Made}

-- line k has a say in what is sent to the neighbour of line l: it is another, and its table is settled
abbrev pub has_say : List Line → ℕ → ℕ → Bool
has_say lines l k = is_other l k && eqb (line_in lines k).table.mark settled

-- the tables of the lines that have, with their entries in the route area, in the order of lines
abbrev pub other_tables : ℕ → List Line → ℕ → List ℕ → List Held
other_tables room lines l route = picked_tables (has_say lines l) (λ k. held_for room lines k route) line_numbers

-- the entries to send, n of them, with the Infinity that goes with a limit
abbrev pub entries_for : ℕ → ℕ → List Line → ℕ → List ℕ → ℕ → List ℕ → List ℕ
entries_for limit room lines l names n route =
    made_entries (infinity_written limit) n (names_in names) (other_tables room lines l route)

-- the refusals by state, route area and line, given whether the state is in order and the line open, and the length of
-- the route area
abbrev pub station_rules : Bool → ℕ → ℕ → ℕ → Bool → List (Bool × ℕ)
station_rules order room route l live = (not order, 1) ∷ (other_room room route, 2) ∷ (not_open l live, 3) ∷ []

-- then those of a list of names, 14 for a length that no RESET may carry, whatever the room, and 2 for output that is
-- shorter than the table
abbrev pub make_rules : Bool → ℕ → ℕ → ℕ → Bool → List ℕ → ℕ → ℕ → List (Bool × ℕ)
make_rules order room route l live names n out =
    station_rules order room route l live ++ (list_rules names ++ ((not (good_length n), 14) ∷ (ltb out n, 2) ∷ []))

unfoldable pub make_answer : Bool → ℕ → List Line → ℕ → List ℕ → ℕ → ℕ → ℕ → ℕ
make_answer order room lines l names n out route =
    first_of (make_rules order room route l (line_in lines l).live names n out)

-- what the caller is told: the answer, and the Infinity to write the table with, 0 where it is refused
abbrev pub told_by : ℕ → ℕ → Made
told_by answer infinity = record { answer = answer; infinity = cond (eqb answer 0) infinity 0 }

-- the same of an outcome: the Infinity, or why there is no table
abbrev pub made_of : Result ℕ Refusal → Made
made_of (Ok infinity) = record { answer = 0; infinity = infinity }
made_of (Err refusal) = record { answer = number_of refusal; infinity = 0 }

unfoldable pub making : ℕ → Bool → ℕ → List Line → ℕ → List ℕ → ℕ → ℕ → ℕ → Made
making limit order room lines l names n out route =
    told_by (make_answer order room lines l names n out route) (infinity_written limit)

-- the output after it: the entries at its front, the rest as it was; all as it was where it is refused
unfoldable pub making_out : ℕ → Bool → ℕ → List Line → ℕ → List ℕ → ℕ → List ℕ → List ℕ → List ℕ
making_out limit order room lines l names n out route =
    cond (eqb (make_answer order room lines l names n (length out) (length route)) 0)
    (over 0 (entries_for limit room lines l names n route) out)
    out

-- the call on a station
abbrev pub table_for : ℕ → Station → ℕ → List ℕ → ℕ → ℕ → ℕ → Made
table_for limit s l names n out route = making limit (in_order s) s.room s.lines l names n out route

abbrev pub table_out_for : ℕ → Station → ℕ → List ℕ → ℕ → List ℕ → List ℕ → List ℕ
table_out_for limit s l names n out route = making_out limit (in_order s) s.room s.lines l names n out route
