-- What the contracts of the calls say: the outcome of crate protocol, in the report, the state and the areas after
-- the call; and what their parts are given and hand on.
use Rattle.std.specs.Prelude.{ℕ, ◌%◌, ◌≡◌, Bool, true, false, cond, ◌&&◌, List, eqb, length}
use Rattle.laws.specs.Parts.{over}
use Rattle.laws.specs.Tests.{first_of, any}
use Rattle.wire.specs.Header.{size_of}
use Rattle.protocol.specs.declared.Line.{Line}
use Rattle.protocol.specs.declared.Lookup.{Lookup}
use Rattle.protocol.specs.declared.Age.{Age}
use Rattle.protocol.specs.declared.Report.{Report}
use Rattle.protocol.specs.Memory.{age_behind}
use Rattle.protocol.specs.Lines.{line_in, empty_line}
use Rattle.protocol.specs.Order.{lines_in_order}
use Rattle.protocol.specs.State.{Station}
use Rattle.protocol.specs.Outcomes.{Terms, Result, Outcome, Step, written_for, report_of, used_of, quiet, sends}
use Rattle.protocol.specs.Outcomes.{refused_or}
use Rattle.protocol.specs.Queries.{own_lines, own_bytes}
use Rattle.protocol.specs.Calls.{fresh_room, fresh_answer, fresh_lines, opening_rules, closing_rules, early_rules, own_before}
use Rattle.protocol.specs.Calls.{own_rules, message_outcome, own_outcome}
use Rattle.station.specs.declared.actions.Action.{Action}
use Rattle.station.specs.declared.changes.LineChange.{LineChange}
use Rattle.station.specs.declared.changes.Beginning.{Beginning}
use Rattle.station.specs.Actions.{handed_on, acting}

-- a report, the state after, and the output and the route area after are an outcome's, of a message of which so many
-- bytes are used
pub record Met (o : Outcome) (used : ℕ) (r : Report) (after : Station) (out out' route' : List ℕ) : Type 0 where
  pub report : r ≡ report_of o used
  pub state : after ≡ o.state
  pub output : out' ≡ over 0 o.sent out
  pub area : route' ≡ o.route

abbrev pub MessageMet : Station → ℕ → List ℕ → Terms → List ℕ → Report → Station → List ℕ → List ℕ → List ℕ → Type 0
MessageMet before line m t route r after out out' route' =
    Met (message_outcome before line m t route) (used_of (message_outcome before line m t route).answer m) r
    after out out' route'

-- an own query uses no byte of a message, and its route area is only read
abbrev pub OwnMet : Station → List ℕ → List ℕ → List ℕ → Report → Station → List ℕ → List ℕ → Type 0
OwnMet before number text route r after out out' = Met (own_outcome before number text (length out) route) 0 r
    after out out' route

-- an answer and the state after are those of a fresh state, an opening or a closing
pub record Changed (o : Outcome) (answer : ℕ) (after : Station) : Type 0 where
  pub answered : answer ≡ o.answer
  pub state : after ≡ o.state

-- ---- what a call does but for the ring: given whether the ring is in order, and what it knows of the call's number

-- whether the station is in order
abbrev pub both_in_order : Bool → ℕ → List Line → Bool
both_in_order order room lines = order && lines_in_order room lines

-- a fresh state over a route area of so many bytes: its answer, its room and its lines
abbrev pub begun_over : ℕ → Beginning
begun_over n = record { answer = fresh_answer n; room = fresh_room n; lines = fresh_lines }

-- a line opened or closed with this answer: its record after it
abbrev pub changed_by : ℕ → Bool → Line → LineChange
changed_by n live x = record { answer = n; line = cond (eqb n 0) (empty_line live) x }

abbrev pub opened_by : Bool → ℕ → List Line → ℕ → LineChange
opened_by order room lines line =
    changed_by (first_of (opening_rules (both_in_order order room lines) line (line_in lines (line % 8)).live)) true
    (line_in lines (line % 8))

abbrev pub closed_by : Bool → ℕ → List Line → ℕ → LineChange
closed_by order room lines line =
    changed_by (first_of (closing_rules (both_in_order order room lines) line (line_in lines (line % 8)).live)) false
    (line_in lines (line % 8))

-- the first refusal of an arriving message, and its step
abbrev pub first_refusal : Bool → ℕ → List Line → ℕ → List ℕ → ℕ → ℕ → ℕ
first_refusal order room lines line m out route =
    first_of (early_rules (both_in_order order room lines) room out route line (line_in lines (line % 8)).live
    (length m) (size_of m))

unfoldable pub arrival_step : Bool → Lookup → ℕ → List Line → ℕ → List ℕ → Terms → List ℕ → Step
arrival_step order known room lines line m t route =
    acting (first_refusal order room lines line m t.out (length route)) room lines (line % 8) known m t route

-- a message's step is met by what is handed on, with the bytes used, and by the two areas
pub record Handed (r : Step) (m : List ℕ) (a : Action) (out out' route' : List ℕ) : Type 0 where
  pub action : a ≡ handed_on r (used_of r.answer m)
  pub output : out' ≡ over 0 r.sent out
  pub area : route' ≡ r.route

-- the answer to an own query, and what is told and written of one that is answered n (its state: whether the ring takes
-- the number in)
abbrev pub own_answer_by : Bool → Lookup → ℕ → List Line → List ℕ → ℕ → ℕ → ℕ
own_answer_by order known room lines text out route =
    first_of (own_rules (both_in_order order room lines) room out route (length text) (any (eqb 0) text) known)

-- the age that it hands up
abbrev pub own_age_by : Bool → Lookup → ℕ → List Line → List ℕ → ℕ → ℕ → Age
own_age_by order known room lines text out route =
    age_behind (own_before (both_in_order order room lines) room out route (length text) (any (eqb 0) text)) known

unfoldable pub own_query_sent : ℕ → ℕ → ℕ → List Line → List ℕ → List ℕ → List ℕ → Result Bool
own_query_sent limit n room lines number text route =
    refused_or n (eqb n 0) route
    (sends (own_lines limit room lines text route) (written_for (own_lines limit room lines text route)
    (own_bytes limit number text))
    (quiet 0 (eqb n 0) route))

-- it is met by what is told, and by the output area
pub record Sends (o : Result Bool) (r : Report) (out out' : List ℕ) : Type 0 where
  pub report : r ≡ report_of o 0
  pub output : out' ≡ over 0 o.sent out
