-- What a step of an arriving message hands on, and what it is given. The rules are those of crate protocol.
use Rattle.std.specs.Prelude.{ℕ, ◌+◌, ◌/◌, ◌≤◌, ◌<◌, ◌≡◌, false, List, length}
use Rattle.laws.specs.Parts.{over}
use Rattle.wire.specs.declared.Header.{Header}
use Rattle.wire.specs.Header.{header_size, largest_payload, largest_message, header_in, size_of}
use Rattle.protocol.specs.declared.Line.{Line}
use Rattle.protocol.specs.declared.Lookup.{Lookup}
use Rattle.protocol.specs.declared.Age.{Age}
use Rattle.protocol.specs.declared.Report.{Report}
use Rattle.protocol.specs.Memory.{no_age}
use Rattle.protocol.specs.Lines.{line_in, lives_in, tables_in}
use Rattle.protocol.specs.State.{line_only}
use Rattle.protocol.specs.Order.{lines_in_order}
use Rattle.protocol.specs.Outcomes.{Terms, Step, nobody, refused_or, report_of}
use Rattle.protocol.specs.Queries.{usual_limit}
use Rattle.protocol.specs.Calls.{by_type}
use Rattle.station.specs.declared.actions.Action.{Action}
use Rattle.station.specs.declared.lines.View.{View}

-- a step as the code hands it on, with the bytes used, which are told last
abbrev pub handed_on : Step → ℕ → Action
handed_on r used =
    record {
      report = report_of r used;
      line = r.state.line;
      remember = r.state.taken;
      answered = r.state.answered;
    }

abbrev pub action_of : Step → Action
action_of r = handed_on r 0

-- what is read off the lines
abbrev pub view_of : List Line → ℕ → ℕ → View
view_of lines room l =
    record { order = lines_in_order room lines; line = line_in lines l; live = lives_in lines; tables = tables_in lines }

-- answered n, and nothing is used, sent, searched, delivered or handed up
abbrev pub quiet_report : ℕ → Report
quiet_report n =
    record {
      answer = n;
      used = 0;
      written = 0;
      to = nobody;
      search = false;
      delivered = false;
      textat = 0;
      textlen = 0;
      age = no_age;
    }

abbrev pub quiet_action : ℕ → Line → Action
quiet_action n x = record { report = quiet_report n; line = x; remember = false; answered = false }

-- a report and an action with another age
abbrev pub aged_report : Age → Report → Report
aged_report a q =
    record {
      answer = q.answer;
      used = q.used;
      written = q.written;
      to = q.to;
      search = q.search;
      delivered = q.delivered;
      textat = q.textat;
      textlen = q.textlen;
      age = a;
    }

abbrev pub aged_action : Age → Action → Action
aged_action a act =
    record {
      report = aged_report a act.report;
      line = act.line;
      remember = act.remember;
      answered = act.answered;
    }

-- a step is met by what is handed on and by the output area after it
pub record Does (r : Step) (a : Action) (out out' : List ℕ) : Type 0 where
  pub action : a ≡ action_of r
  pub output : out' ≡ over 0 r.sent out

-- a whole message, and its header
pub record Whole (h : Header) (m : List ℕ) : Type 0 where
  pub header : h ≡ header_in m
  pub small : size_of m ≤ largest_payload
  pub whole : header_size + size_of m ≤ length m

-- one of this type, and an output area in which it has room
pub record Sendable (h : Header) (kind : ℕ) (m : List ℕ) (out : ℕ) : Type 0 where
  pub message : Whole h m
  pub kind' : h.kind ≡ kind
  pub output : largest_message ≤ out

-- one by line l, with the route area of a station that has this room
pub record Arrived (room l : ℕ) (h : Header) (m : List ℕ) (route : ℕ) : Type 0 where
  pub message : Whole h m
  pub eight : l < 8
  pub rooms : route / 8 ≡ room

-- a message that no first refusal has met
pub record Fit (room : ℕ) (h : Header) (m : List ℕ) (out route : ℕ) : Type 0 where
  pub message : Whole h m
  pub output : largest_message ≤ out
  pub rooms : route / 8 ≡ room

-- what a message by line l does whose first refusal is n (0 for none)
abbrev pub acting : ℕ → ℕ → List Line → ℕ → Lookup → List ℕ → Terms → List ℕ → Step
acting n room lines l k m t route =
    refused_or n (line_only (line_in lines l)) route (by_type usual_limit room lines l k m t route)
