-- The six calls: fresh, opening, closing, an arriving message, an own query, a look-up. Contracts cite these. A rule
-- takes what it reads; a call applies the rules to its state, and stores what they come to.
use Rattle.std.specs.Prelude.{ℕ, ◌+◌, ◌*◌, ◌/◌, Bool, true, false, cond, not, ◌||◌, Result, Ok, Err, List, [], ◌∷◌, ◌++◌, eqb, ltb, length, replicate}
use Rattle.laws.specs.Tests.{first_of, any}
use Rattle.laws.specs.Parts.{over}
use Rattle.wire.specs.Header.{
  header_size,
  largest_payload,
  largest_message,
  header_in,
  size_of,
  payload_of,
  ping_type,
  pong_type,
  route_update,
  query_type,
  hit_type,
}
use Rattle.answer.specs.declared.Refusal.{Refusal}
use Rattle.answer.specs.Numbers.{number_of}
use Rattle.tables.specs.Updates.{update_answer, updated}
use Rattle.protocol.specs.declared.Line.{Line}
use Rattle.protocol.specs.declared.Lookup.{Lookup}
use Rattle.protocol.specs.declared.Remembered.{Remembered}
use Rattle.protocol.specs.declared.Age.{Age}
use Rattle.protocol.specs.declared.Finding.{Finding}
use Rattle.protocol.specs.declared.Report.{Report}
use Rattle.protocol.specs.Memory.{Memory, Number, memory_of, capacity, here, nobody_asked, number_in, age_behind}
use Rattle.protocol.specs.Memory.{remember, left_all}
use Rattle.protocol.specs.Lines.{line_count, empty_line, with_table, held_by, line_in}
use Rattle.protocol.specs.State.{Station, line_only, station_of, line_at, with_line, with_memory, looked_up}
use Rattle.protocol.specs.Order.{in_order}
use Rattle.protocol.specs.Outcomes.{Terms, Outcome, Step, quiet, sends, refused_or, written_for, pick_result, stored}
use Rattle.protocol.specs.Outcomes.{hands_up, report_of, used_of}
use Rattle.protocol.specs.Queries.{usual_limit, query_after, query_step, own_lines, own_bytes}
use Rattle.protocol.specs.Hits.{hit_step}
use Rattle.protocol.specs.Pings.{ping_step, pong_step}

-- a fresh state over a route area of n bytes: room per neighbour n / 8; under 32 bytes the answer is 2 and the room 0
abbrev pub short_route : ℕ → Bool
short_route route = ltb route 32

abbrev pub fresh_room : ℕ → ℕ
fresh_room n = cond (short_route n) 0 (n / 8)

abbrev pub fresh_answer : ℕ → ℕ
fresh_answer n = cond (short_route n) 2 0

abbrev pub fresh_lines : List Line
fresh_lines = replicate line_count (empty_line false)

abbrev pub fresh_memory : Memory
fresh_memory =
    memory_of (replicate capacity 0) (replicate capacity 0) (replicate capacity 0) (replicate capacity 0) 0 0

unfoldable pub fresh : ℕ → Outcome
fresh n = quiet (fresh_answer n) (station_of (fresh_room n) fresh_lines fresh_memory) []

-- opening, given whether the state is in order and the line open
abbrev pub opening_rules : Bool → ℕ → Bool → List (Bool × ℕ)
opening_rules order l live = (not order, 1) ∷ (not (ltb l line_count) || live, 3) ∷ []

unfoldable pub opening : Station → ℕ → Outcome
opening s l =
    refused_or (first_of (opening_rules (in_order s) l (line_at s l).live)) s []
    (quiet 0 (with_line s l (empty_line true)) [])

-- closing: every remembered query from that line is marked as gone
abbrev pub closed_state : Station → ℕ → Station
closed_state s l = with_memory (with_line s l (empty_line false)) (left_all l s.memory)

abbrev pub not_open : ℕ → Bool → Bool
not_open l live = not (ltb l line_count) || not live

abbrev pub closing_rules : Bool → ℕ → Bool → List (Bool × ℕ)
closing_rules order l live = (not order, 1) ∷ (not_open l live, 3) ∷ []

unfoldable pub closing : Station → ℕ → Outcome
closing s l = refused_or (first_of (closing_rules (in_order s) l (line_at s l).live)) s [] (quiet 0 (closed_state s l) [])

-- the areas that a message or an own query needs, by their lengths
abbrev pub other_room : ℕ → ℕ → Bool
other_room room route = short_route route || not (eqb (route / 8) room)

abbrev pub unfit_areas : ℕ → ℕ → ℕ → Bool
unfit_areas room out route = ltb out largest_message || other_room room route

-- the extent of a message of which n bytes are there: short of its header, over the largest payload, short of its
-- payload, or whole
abbrev pub extent_rules : ℕ → ℕ → List (Bool × ℕ)
extent_rules n size = (ltb n header_size, 4) ∷ (ltb largest_payload size, 5) ∷ (ltb n (header_size + size), 4) ∷ []

-- the refusals of an arriving message before its type counts
abbrev pub early_rules : Bool → ℕ → ℕ → ℕ → ℕ → Bool → ℕ → ℕ → List (Bool × ℕ)
early_rules order room out route l live n size =
    (not order, 1)
    ∷ (unfit_areas room out route, 2)
    ∷ (not_open l live, 3)
    ∷ extent_rules n size

unfoldable pub early : Station → ℕ → List ℕ → ℕ → ℕ → ℕ
early s l m out route = first_of (early_rules (in_order s) s.room out route l (line_at s l).live (length m) (size_of m))

-- an update by line l with this record: the line's table and its entries as the table's rules have them; the rest of
-- the route area stays
unfoldable pub update_step : ℕ → ℕ → Line → List ℕ → List ℕ → Step
update_step room l x m route =
    quiet (update_answer room (held_by x room l route) (header_in m).ttl (header_in m).hops (payload_of m))
    (line_only
    (with_table x (updated room (held_by x room l route) (header_in m).ttl (header_in m).hops (payload_of m)).table))
    (over (l * room) (updated room (held_by x room l route) (header_in m).ttl (header_in m).hops (payload_of m)).entries
    route)

-- by type, of whose number the look-up found k; 7 for any other
unfoldable pub by_type : ℕ → ℕ → List Line → ℕ → Lookup → List ℕ → Terms → List ℕ → Step
by_type limit room lines l k m t route =
    pick_result (eqb (header_in m).kind ping_type) (ping_step lines l t m route)
    (pick_result (eqb (header_in m).kind pong_type) (pong_step (line_in lines l) t.clock m route)
    (pick_result (eqb (header_in m).kind route_update) (update_step room l (line_in lines l) m route)
    (pick_result (eqb (header_in m).kind query_type) (query_step limit room lines l k m route)
    (pick_result (eqb (header_in m).kind hit_type) (hit_step (line_in lines l) k m route)
    (quiet 7 (line_only (line_in lines l)) route)))))

-- what a message by line l does to a state by its type
abbrev pub arrived : ℕ → Station → ℕ → List ℕ → Terms → List ℕ → Outcome
arrived limit s l m t route =
    stored s l (number_in m) (by_type limit s.room s.lines l (looked_up s (number_in m)) m t route)

unfoldable pub arriving : ℕ → Station → ℕ → List ℕ → Terms → List ℕ → Outcome
arriving limit s l m t route = refused_or (early s l m t.out (length route)) s route (arrived limit s l m t route)

-- an own query: the refusals before its number is looked up, given the length of its text and whether that has a zero
-- byte; the one after is any query's
abbrev pub own_before : Bool → ℕ → ℕ → ℕ → ℕ → Bool → List (Bool × ℕ)
own_before order room out route size zero =
    (not order, 1)
    ∷ (unfit_areas room out route, 2)
    ∷ (ltb 4093 size, 5)
    ∷ (zero, 6)
    ∷ []

abbrev pub own_rules : Bool → ℕ → ℕ → ℕ → ℕ → Bool → Lookup → List (Bool × ℕ)
own_rules order room out route size zero k = own_before order room out route size zero ++ query_after k

-- the age that it hands up
abbrev pub own_age : Station → List ℕ → List ℕ → ℕ → ℕ → Age
own_age s number text out route =
    age_behind (own_before (in_order s) s.room out route (length text) (any (eqb 0) text))
    (looked_up s (number_in number))

unfoldable pub own_answer : Station → List ℕ → List ℕ → ℕ → ℕ → ℕ
own_answer s number text out route =
    first_of (own_rules (in_order s) s.room out route (length text) (any (eqb 0) text) (looked_up s (number_in number)))

abbrev pub own_taken : ℕ → Station → List ℕ → List ℕ → List ℕ → Outcome
own_taken limit s number text route =
    sends (own_lines limit s.room s.lines text route)
    (written_for (own_lines limit s.room s.lines text route) (own_bytes limit number text))
    (quiet 0 (with_memory s (remember capacity s.memory (number_in number) here)) route)

unfoldable pub asking : ℕ → Station → List ℕ → List ℕ → ℕ → List ℕ → Outcome
asking limit s number text out route =
    hands_up (own_age s number text out (length route))
    (refused_or (own_answer s number text out (length route)) s route (own_taken limit s number text route))

-- looking a number up (RULES 21.1), given whether the state is in order and what the look-up found: who asked, and how
-- many were remembered after it; refused, nobody and none. The state is only read
abbrev pub look_up_rules : Bool → Lookup → List (Bool × ℕ)
look_up_rules order k = (not order, 1) ∷ (not k.found, 10) ∷ []

abbrev pub found_by : ℕ → ℕ → Finding
found_by asker after = record { answer = 0; asker = asker; after = after }

abbrev pub unfound : ℕ → Finding
unfound n = record { answer = n; asker = nobody_asked; after = 0 }

-- as the code tells it
abbrev pub finding_in : Result Remembered Refusal → Finding
finding_in (Ok query) = found_by query.asker query.after
finding_in (Err refusal) = unfound (number_of refusal)

abbrev pub pick_finding : Bool → Finding → Finding → Finding
pick_finding true a b = a
pick_finding false a b = b

abbrev pub finding_by : Bool → Lookup → Finding
finding_by order k =
    pick_finding (eqb (first_of (look_up_rules order k)) 0) (found_by k.asker k.after)
    (unfound (first_of (look_up_rules order k)))

unfoldable pub looking_up : Station → Number → Finding
looking_up s x = finding_by (in_order s) (looked_up s x)

-- with the usual limit, and as a caller is told
abbrev pub message_outcome : Station → ℕ → List ℕ → Terms → List ℕ → Outcome
message_outcome = arriving usual_limit

abbrev pub message_report : Station → ℕ → List ℕ → Terms → List ℕ → Report
message_report s l m t route = report_of (message_outcome s l m t route) (used_of (message_outcome s l m t route).answer m)

abbrev pub own_outcome : Station → List ℕ → List ℕ → ℕ → List ℕ → Outcome
own_outcome = asking usual_limit

abbrev pub own_report : Station → List ℕ → List ℕ → ℕ → List ℕ → Report
own_report s number text out route = report_of (own_outcome s number text out route) 0
