-- No query is answered 12: not by the message call, not in scraps, not by any call of any list; with the row for it
-- put back behind the checks of a query, and without.
use Rattle.std.specs.Prelude.{ℕ, ◌≤◌, ◌≡◌, Bool, true, false, not, ◌&&◌, List, eqb}
use Rattle.laws.specs.Tests.{all}
use Rattle.wire.specs.Header.{kind_of}
use Rattle.protocol.specs.State.{Station, line_at}
use Rattle.protocol.specs.Outcomes.{Terms, Outcome}
use Rattle.protocol.specs.Calls.{arriving}
use Rattle.protocol.specs.Runs.{Call, Open, Close, Message, Ask, Made, start, run}
use Rattle.receiving.specs.Feeding.{Fed, front_of, joined, feeding}
use Rattle.receiving.specs.Events.{Event, Handled, begin, handle_all}
use Rattle.hopsfull.specs.PutBack.{arriving_with_row, feeding_with_row, handle_all_with_row, handle_all_at}

-- a message call with a limit: whatever the state, the line, the bytes, the terms and the areas, a message of type
-- 0x80 is not answered 12, at every limit that a byte holds
abbrev pub NotOfMessages : (ℕ → Station → ℕ → List ℕ → Terms → List ℕ → Outcome) → Type 0
NotOfMessages call =
    (limit : ℕ)
    → limit ≤ 255
    → (s : Station) (l : ℕ) (m : List ℕ) (t : Terms) (route : List ℕ)
    → kind_of m ≡ 0x80
    → (call limit s l m t route).answer ≡ 12
    → ⊥

-- a call with bytes of a line: nor is it where the message at the front of the held and the new bytes has that type
abbrev pub NotOfScraps : (ℕ → Station → ℕ → List ℕ → List ℕ → Terms → List ℕ → Fed Station) → Type 0
NotOfScraps call =
    (limit : ℕ)
    → limit ≤ 255
    → (s : Station) (l : ℕ) (bytes held : List ℕ) (t : Terms) (route : List ℕ)
    → kind_of (front_of (joined (line_at s l) held bytes)) ≡ 0x80
    → (call limit s l bytes held t route).result.answer ≡ 12
    → ⊥

-- a call that brings a query, arriving or own
abbrev pub is_query : Call → Bool
is_query (Open l) = false
is_query (Close l) = false
is_query (Message l m t a) = eqb (kind_of m) 0x80
is_query (Ask number text t a) = true

-- a call that was answered n is no query that was answered 12
abbrev pub no_query_by12 : ℕ → Call → Bool
no_query_by12 n c = not (is_query c && eqb n 12)

-- of a log, the calls, and what its events came to, whether whole or in scraps
abbrev pub none_in : List Made → Bool
none_in log = all (λ d. no_query_by12 d.outcome.answer d.call) log

abbrev pub none_among : List Handled → Bool
none_among log = all (λ d. all (no_query_by12 d.outcome.answer) d.calls) log

-- any list from any state, in order or not, with any areas: of the calls, whole or in scraps, and at every limit that a
-- byte holds
pub record NoQueryIs12 : Type 0 where
  pub message : NotOfMessages arriving
  pub message_with_row : NotOfMessages arriving_with_row
  pub scrap : NotOfScraps feeding
  pub scrap_with_row : NotOfScraps feeding_with_row
  pub calls : (s : Station) (area : List ℕ) (cs : List Call) → none_in (run (start s area) cs).log ≡ true
  pub events : (s : Station) (area : List ℕ) (held : ℕ → List ℕ) (es : List Event)
      → none_among (handle_all (begin s area held) es).log ≡ true
  pub lists : (limit : ℕ) → limit ≤ 255
      → (s : Station) (area : List ℕ) (held : ℕ → List ℕ) (es : List Event)
      → none_among (handle_all_at limit (begin s area held) es).log ≡ true
  pub lists_with_row : (limit : ℕ) → limit ≤ 255
      → (s : Station) (area : List ℕ) (held : ℕ → List ℕ) (es : List Event)
      → none_among (handle_all_with_row limit (begin s area held) es).log ≡ true
