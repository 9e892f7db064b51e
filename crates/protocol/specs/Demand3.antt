-- Demand 3, one claim about a whole list of calls: a spoiled update never hides a neighbour.
-- `Demand3` takes the four kinds of calls in any order and number, whatever they are answered, from a state in order in
-- which line L is closed, over any route area. `Claimed` speaks of each place of the list, its end among them. What is
-- expected of a line (RULES 14) is specs/Expected; the updates of its opening are specs/History.
-- What the demand says, in our words (RULES has it phrase by phrase), and what carries each:
--   state and area go from call to call as they were left, but for an area of another room: Runs `run`, `Fair`
--   the line's updates are answered as the expected table answers them, which is exactly as their bytes and the updates
--     before them in the opening say (tables, specs/Answers): `Agrees`, the first part for a message
--   an update answered 1 to 5 has not been sent: Expected `fed`, History `noted`
--   the table is the expected one, mark, and length, Infinity and entries while there are any: `Stands`, live to closed
--   an entry is Infinity and all that accepted PATCHes have brought to it after the newest RESET: `Stands`, sums
-- a query answered 0 goes to L exactly where RULES 7 and 8, read with what is expected, have it go: `Forwarded`,
-- exactly
--   nothing is withheld while the opening has no accepted RESET: `Forwarded`, no_reset
--   nor while no run has ended after the newest one: `Forwarded`, no_run
--   nor while a run is under way: `Forwarded`, mid_run
--   nor after a refusal by 14, 15 or 16 until a RESET is accepted: `Forwarded`, after_refusal
--   at all other times a query is withheld exactly where a keyword stops it (RULES 7.7): `Forwarded`, otherwise
--   and the mark is settled exactly at those times: `Stands`, speaking
use Rattle.std.specs.Prelude.{ℕ, zero, suc, ◌-◌, ◌*◌, ◌/◌, ◌≤◌, ◌<◌, min, ◌≡◌, Bool, true, false, cond, ◌↔◌, ◌⊎◌, eqb, leb, pos, ◌+ℤ◌, length, get_or, take, drop}
use mathlib.Core.List.{List, [], ◌∷◌, ◌++◌, Memᴰ}
use Rattle.wire.specs.Header.{kind_of, ttl_of, hops_of, payload_of}
use Rattle.keywords.specs.Keywords.{keywords_of}
use Rattle.keywords.specs.Hash.{place_of}
use Rattle.tables.specs.Tables.{settled}
use Rattle.tables.specs.Answers.{Sent, Answers}
use Rattle.protocol.specs.State.{Station, line_at}
use Rattle.protocol.specs.Order.{in_order}
use Rattle.protocol.specs.Outcomes.{Outcome}
use Rattle.protocol.specs.Queries.{text_in}
use Rattle.protocol.specs.Runs.{Call, Open, Close, Message, Ask, World, unsent, outcome_of, run, start, Fair}
use Rattle.protocol.specs.Expected.{Expected, expected, expected_answer, is_update_of}
use Rattle.protocol.specs.History.{Update, updates_of, sum_at, before_reset, before_run, inside_run, spoiled, speaks}

-- b where n is 2 to the power b: how often n can be halved
abbrev pub halvings : ℕ → ℕ → ℕ
halvings zero n = 0
halvings (suc f) n = cond (leb n 1) 0 (suc (halvings f (n / 2)))

abbrev pub bits_of : ℕ → ℕ
bits_of n = halvings 32 n

-- the entry of a keyword, in a table of n entries
abbrev pub entry_in : List ℕ → (n : ℕ) → List ℕ → ℕ
entry_in es n k = get_or es (place_of (bits_of n) k) 0

-- RULES 7.7: a keyword stops the text, its entry being Infinity or above the TTL that the text would be sent with
abbrev pub Stops : List ℕ → (n infinity : ℕ) → List ℕ → ℕ → Type 0
Stops es n infinity text ttl =
    (k : List ℕ) × Memᴰ k (keywords_of text) × ((entry_in es n k ≡ infinity) ⊎ (ttl < entry_in es n k))

-- both, of what is expected
abbrev pub entry_for : Expected → List ℕ → ℕ
entry_for e = entry_in e.held.entries (length e.held.entries)

abbrev pub Stopped : Expected → List ℕ → ℕ → Type 0
Stopped e = Stops e.held.entries (length e.held.entries) e.held.table.infinity

-- a text to be sent with this TTL is withheld by what is expected
abbrev pub Withheld : Expected → List ℕ → ℕ → Type 0
Withheld e text ttl = (e.held.table.mark ≡ settled) × Stopped e text ttl

-- the life of a query (RULES 7.2)
abbrev pub life_left : ℕ → List ℕ → ℕ
life_left limit m = min (ttl_of m) (limit - hops_of m)

-- an arriving query, which came by line l, goes on to line L but for its table: that line is open, it is another one,
-- and life is 2 or more
abbrev pub MayGo : (limit : ℕ) → Expected → (L l : ℕ) → List ℕ → Type 0
MayGo limit e L l m = (e.live ≡ true) × (L ≡ l → ⊥) × (2 ≤ life_left limit m)

-- a query answered 0, with its text and the TTL to be sent. `may` says that it goes on to the line but for the line's
-- table, and `sent` whether it was sent there. Before it e was expected of the line, and us are the updates of the
-- line's opening until then
pub record Forwarded (e : Expected) (us : List Update) (may : Type 0) (text : List ℕ) (ttl : ℕ)
    (sent : Bool) : Type 0 where
  pub exactly : (sent ≡ true) ↔ (may × (Withheld e text ttl → ⊥))
  pub no_reset : before_reset us ≡ true → may → sent ≡ true
  pub no_run : before_run us ≡ true → may → sent ≡ true
  pub mid_run : inside_run us ≡ true → may → sent ≡ true
  pub after_refusal : spoiled us ≡ true → may → sent ≡ true
  pub otherwise : speaks us ≡ true → may → (sent ≡ false) ↔ Stopped e text ttl

-- an update as a message brings it
abbrev pub update_in : List ℕ → Sent
update_in m = record { ttl = ttl_of m; hops = hops_of m; payload = payload_of m }

-- a call and its outcome, read with what was expected before it and the updates until then. An opening or closing that
-- is not unsent is done
abbrev pub Agrees : (limit L room : ℕ) → Expected → List Update → Call → Outcome → Type 0
Agrees limit L room e us (Open l) o = unsent (Open l) o.answer ≡ false → o.answer ≡ 0
Agrees limit L room e us (Close l) o = unsent (Close l) o.answer ≡ false → o.answer ≡ 0
Agrees limit L room e us (Message l m t a) o =
    (unsent (Message l m t a) o.answer ≡ false → is_update_of L l m ≡ true
    → (o.answer ≡ expected_answer room e m) × Answers room us (update_in m) o.answer)
    × (o.answer ≡ 0 → kind_of m ≡ 0x80
    → Forwarded e us (MayGo limit e L l m) (text_in (payload_of m)) (life_left limit m - 1) (get_or o.to L false))
Agrees limit L room e us (Ask n text t a) o = o.answer ≡ 0 → Forwarded e us (e.live ≡ true) text limit
    (get_or o.to L false)

-- the entries of a line in an area
abbrev pub entries_at : Station → ℕ → List ℕ → List ℕ
entries_at s l area = take (line_at s l).table.length (drop (l * s.room) area)

-- what stands of line L is what is expected, and what the updates of the opening come to. Of a closed line no entries
-- are expected; an open one without an accepted RESET has length 0
pub record Stands (L room : ℕ) (e : Expected) (us : List Update) (s : Station) (area : List ℕ) : Type 0 where
  pub room' : s.room ≡ room
  pub live : (line_at s L).live ≡ e.live
  pub mark : (line_at s L).table.mark ≡ e.held.table.mark
  pub long : e.live ≡ true → (line_at s L).table.length ≡ length e.held.entries
  pub infinity : e.live ≡ true → (line_at s L).table.infinity ≡ e.held.table.infinity
  pub entries : e.live ≡ true → entries_at s L area ≡ e.held.entries
  pub closed : e.live ≡ false → e.held.entries ≡ []
  pub sums : (j : ℕ) → j < length e.held.entries
      → pos (get_or (entries_at s L area) j 0) ≡ pos (line_at s L).table.infinity +ℤ sum_at us j
  pub speaking : eqb (line_at s L).table.mark settled ≡ speaks us

-- where w has been reached: what stands there, and a call that is made there
abbrev pub StandsAt : (L room : ℕ) → World → Type 0
StandsAt L room w = Stands L room (expected L room w.log) (updates_of L w.log) w.state w.area

abbrev pub AgreesAt : (limit L room : ℕ) → World → Call → Type 0
AgreesAt limit L room w c = Agrees limit L room (expected L room w.log) (updates_of L w.log) c (outcome_of w c)

-- the whole claim of a list of calls: at each place of it, where the calls before have been made
pub record Claimed (limit : ℕ) (s : Station) (area : List ℕ) (L : ℕ) (cs : List Call) : Type 0 where
  pub stands : (before after : List Call) → cs ≡ before ++ after → StandsAt L s.room (run (start s area) before)
  pub calls : (before : List Call) (c : Call) (after : List Call) → cs ≡ before ++ (c ∷ after)
      → AgreesAt limit L s.room (run (start s area) before) c

-- every list of calls, from any state in order with the line closed, at the usual limit
abbrev pub Demand3 : Type 0
Demand3 =
    (s : Station) (area : List ℕ) (L : ℕ) (cs : List Call)
    → length s.lines ≡ 8
    → in_order s ≡ true
    → L ≤ 7
    → (line_at s L).live ≡ false
    → Fair s.room cs
    → Claimed 7 s area L cs
