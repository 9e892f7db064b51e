-- Held bytes and shut marks aside: a state with every line's wiped. The calls of document 01 read neither and change
-- neither, but for an opening and a closing, which wipe their line's; and no state is in order or out of it by them.
use Rattle.std.specs.Prelude.{ℕ, ◌≡◌, List, map}
use Rattle.protocol.specs.declared.Line.{Line}
use Rattle.protocol.specs.Lines.{no_pending, with_pending}
use Rattle.protocol.specs.State.{Station, station_of, line_at}
use Rattle.protocol.specs.Order.{in_order}
use Rattle.protocol.specs.Outcomes.{Terms, Outcome, leaving}
use Rattle.protocol.specs.Calls.{opening, closing, arriving, asking}
use Rattle.protocol.specs.Runs.{Call, Made, World, outcome_of}

abbrev pub bare_line : Line → Line
bare_line x = with_pending x no_pending

abbrev pub bare : Station → Station
bare s = station_of s.room (map bare_line s.lines) s.memory

abbrev pub bare_outcome : Outcome → Outcome
bare_outcome o = leaving (bare o.state) o

abbrev pub bare_made : Made → Made
bare_made d = record { call = d.call; outcome = bare_outcome d.outcome }

abbrev pub bare_world : World → World
bare_world w = record { state = bare w.state; area = w.area; log = map bare_made w.log }

-- the held bytes and the shut mark of every line are as they were
abbrev pub SamePending : Station → Station → Type 0
SamePending s s' = (k : ℕ) → (line_at s' k).pending ≡ (line_at s k).pending

-- every call on a bare state has the outcome of the call on the state, whatever the limit; messages and own queries
-- leave what is held
pub record BlindOn (s : Station) : Type 0 where
  pub order : in_order (bare s) ≡ in_order s
  pub opens : (l : ℕ) → opening (bare s) l ≡ bare_outcome (opening s l)
  pub closes : (l : ℕ) → closing (bare s) l ≡ bare_outcome (closing s l)
  pub message : (limit l : ℕ) (m : List ℕ) (t : Terms) (route : List ℕ)
      → arriving limit (bare s) l m t route ≡ bare_outcome (arriving limit s l m t route)
  pub asks : (limit : ℕ) (number text : List ℕ) (out : ℕ) (route : List ℕ)
      → asking limit (bare s) number text out route ≡ bare_outcome (asking limit s number text out route)
  pub message_held : (limit l : ℕ) (m : List ℕ) (t : Terms) (route : List ℕ)
      → SamePending s (arriving limit s l m t route).state
  pub asks_held : (limit : ℕ) (number text : List ℕ) (out : ℕ) (route : List ℕ)
      → SamePending s (asking limit s number text out route).state

abbrev pub HeldUnread : Type 0
HeldUnread = (s : Station) → BlindOn s

-- so in a list of calls
abbrev pub CallUnread : Type 0
CallUnread = (w : World) (c : Call) → outcome_of (bare_world w) c ≡ bare_outcome (outcome_of w c)
