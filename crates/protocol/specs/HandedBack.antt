-- What a caller is told of an outcome (RULES 2.9), value by value. All else that is stated speaks of outcomes; the
-- contracts promise these values, and the state and the areas beside them.
use Rattle.std.specs.Prelude.{ℕ, ◌≡◌, List, [], length}
use Rattle.protocol.specs.State.{Station, remembered}
use Rattle.protocol.specs.declared.Report.{Report}
use Rattle.protocol.specs.Outcomes.{Terms, Outcome}
use Rattle.protocol.specs.Calls.{fresh, message_outcome, message_report, own_outcome, own_report}
use Rattle.protocol.specs.Blind.{used_after}

-- of a message or an own query: each value is the outcome's, `written` counts the bytes that were sent, and n bytes are
-- used
pub record HandedBack (h : Report) (o : Outcome) (n : ℕ) : Type 0 where
  pub answer : h.answer ≡ o.answer
  pub used : h.used ≡ n
  pub written : h.written ≡ length o.sent
  pub to : h.to ≡ o.to
  pub search : h.search ≡ o.search
  pub delivered : h.delivered ≡ o.delivered
  pub textat : h.textat ≡ o.textat
  pub textlen : h.textlen ≡ o.textlen
  pub age : h.age ≡ o.age

-- both: a message uses nothing where its answer is 1 to 5, else its header and its payload; an own query uses no byte
-- of a message
pub record AllHanded : Type 0 where
  pub message : (s : Station) (l : ℕ) (m : List ℕ) (t : Terms) (route : List ℕ)
      → HandedBack (message_report s l m t route) (message_outcome s l m t route)
      (used_after (message_outcome s l m t route).answer m)
  pub asks : (s : Station) (number text : List ℕ) (out : ℕ) (route : List ℕ)
      → HandedBack (own_report s number text out route) (own_outcome s number text out route) 0

-- a fresh state remembers nothing, over whatever route area it is made
abbrev pub FreshRemembersNothing : Type 0
FreshRemembersNothing = (n : ℕ) → remembered (fresh n).state ≡ []
