-- What a call that brings bytes does but for the ring of remembered queries, given whether that is in order and what it
-- knows of the message's number; and what the contracts say.
use Rattle.std.specs.Prelude.{ℕ, ◌+◌, ◌-◌, ◌%◌, ◌≤◌, ◌≡◌, Bool, true, false, cond, List, [], ◌++◌, length, take}
use Rattle.laws.specs.Tests.{first_of}
use Rattle.laws.specs.Parts.{over}
use Rattle.wire.specs.declared.Header.{Header}
use Rattle.wire.specs.Header.{header_size}
use Rattle.protocol.specs.declared.Line.{Line}
use Rattle.protocol.specs.declared.Lookup.{Lookup}
use Rattle.protocol.specs.declared.Report.{Report}
use Rattle.protocol.specs.Lines.{line_in}
use Rattle.protocol.specs.State.{Station, Change, line_only}
use Rattle.protocol.specs.Outcomes.{Terms, Step, quiet, leaving}
use Rattle.protocol.specs.Queries.{usual_limit}
use Rattle.protocol.specs.Calls.{by_type}
use Rattle.intake.specs.Joining.{held_with}
use Rattle.station.specs.Actions.{handed_on, Fit}
use Rattle.station.specs.Calls.{Met, both_in_order}
use Rattle.receiving.specs.Feeding.{
  Fed,
  feed_by,
  feed_rules,
  extent_of,
  size_at_front,
  front_of,
  held_bytes,
  joined,
  starts,
  holding,
  shut_line,
  waiting,
  whole_feed,
}
use Rattle.station.specs.declared.actions.Action.{Action}
use Rattle.station.specs.declared.feeding.Feeding.{Feeding}

-- the step of a whole message, with nothing held of its line
abbrev pub dropped_step : Step → Step
dropped_step r =
    leaving
    (record { line = holding 0 r.state.line; taken = r.state.taken; answered = r.state.answered }) r

-- by a line with this record, at place l
abbrev pub fed_by : Bool → Lookup → ℕ → List Line → ℕ → ℕ → Line → List ℕ → List ℕ → Terms → List ℕ → Fed Change
fed_by order known room lines line l x bytes held t route =
    feed_by x.pending.count bytes held route
    (first_of (feed_rules order room t.out (length route) (length held) line x (starts (held_bytes x held))))
    (extent_of (joined x held bytes))
    (size_at_front (joined x held bytes))
    (line_only x)
    (line_only (holding (x.pending.count + length bytes) x))
    (line_only (shut_line x))
    (dropped_step (by_type usual_limit room lines l known (front_of (joined x held bytes)) t route))

unfoldable pub fed_step : Bool → Lookup → ℕ → List Line → ℕ → List ℕ → List ℕ → Terms → List ℕ → Fed Change
fed_step order known room lines line bytes held t route =
    fed_by (both_in_order order room lines) known room lines line (line % 8) (line_in lines (line % 8)) bytes held t route

-- as the code hands it on
abbrev pub feeding_of : Fed Change → Feeding
feeding_of f = record { action = handed_on f.result f.used; within = f.within; waits = f.waits }

-- a report with another count of bytes used, and so what is handed on
abbrev pub used_in : Report → ℕ → Report
used_in r used =
    record {
      answer = r.answer;
      used = used;
      written = r.written;
      to = r.to;
      search = r.search;
      delivered = r.delivered;
      textat = r.textat;
      textlen = r.textlen;
      age = r.age;
    }

abbrev pub used_by : Action → ℕ → Action
used_by a used =
    record {
      report = used_in a.report used;
      line = a.line;
      remember = a.remember;
      answered = a.answered;
    }

-- answered n, so many bytes used, with this record of the line
abbrev pub quiet_feeding : ℕ → ℕ → Line → Bool → Feeding
quiet_feeding n used x waits =
    record { action = handed_on (quiet n (line_only x) []) used; within = false; waits = waits }

-- what a whole message did, so many bytes used, and nothing is held of its line
abbrev pub whole_feeding : Action → ℕ → Bool → Feeding
whole_feeding a used within =
    record {
      action = record {
        report = used_in a.report used;
        line = holding 0 a.line;
        remember = a.remember;
        answered = a.answered;
      };
      within = within;
      waits = false;
    }

-- so many bytes are brought of a message and do not end it, or else its payload is too large
abbrev pub unfinished_feeding : Bool → ℕ → Line → Feeding
unfinished_feeding true n x = quiet_feeding waiting n (holding (x.pending.count + n) x) true
unfinished_feeding false n x = quiet_feeding 5 (header_size - x.pending.count) (shut_line x) false

abbrev pub held_if : Bool → ℕ → List ℕ → List ℕ → List ℕ
held_if short count bytes held = cond short (held_with count bytes held) held

-- the message with this header, of which `count` bytes are held and the others are brought
abbrev pub message_of : Header → ℕ → List ℕ → List ℕ → List ℕ
message_of h count bytes held = take (header_size + h.size) (take count held ++ bytes)

abbrev pub taken_step : Header → ℕ → Lookup → ℕ → List Line → ℕ → List ℕ → List ℕ → Terms → List ℕ → Fed Change
taken_step h count known room lines l bytes held t route =
    whole_feed count bytes held route (header_size + h.size)
    (dropped_step (by_type usual_limit room lines l known (message_of h count bytes held) t route))

-- no more bytes are held than it has, all are there and have room in the held area, and no first refusal has met it
pub record Ends (room : ℕ) (h : Header) (count : ℕ) (bytes held : List ℕ) (out route : ℕ) : Type 0 where
  pub begun : count ≤ header_size + h.size
  pub there : header_size + h.size ≤ count + length bytes
  pub within : header_size + h.size ≤ length held
  pub fits : Fit room h (message_of h count bytes held) out route

-- a step is met by what is handed on, and by the three areas
pub record FeedHanded (f : Fed Change) (a : Feeding) (out out' held' route' : List ℕ) : Type 0 where
  pub action : a ≡ feeding_of f
  pub output : out' ≡ over 0 f.result.sent out
  pub held : held' ≡ f.held
  pub area : route' ≡ f.result.route

-- a call that brings bytes is met by the report, the flags, the state after and the three areas after
pub record FeedMet (f : Fed Station) (r : Report) (within waits : Bool) (after : Station)
    (out out' held' route' : List ℕ) : Type 0 where
  pub met : Met f.result f.used r after out out' route'
  pub held : held' ≡ f.held
  pub within' : within ≡ f.within
  pub waits' : waits ≡ f.waits
