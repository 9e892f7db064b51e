-- What calls leave alone (RULES 2.5, 2.6, 3.4, 12.15), and a line that begins anew: parts that several statements
-- share.
use Rattle.std.specs.Prelude.{ℕ, ◌+◌, ◌*◌, ◌≡◌, Bool, false, List, [], length, take, drop}
use Rattle.tables.specs.Tables.{none}
use Rattle.protocol.specs.declared.Line.{Line}
use Rattle.protocol.specs.State.{Station, remembered, line_at}
use Rattle.protocol.specs.Lines.{stored_pongs}
use Rattle.protocol.specs.Outcomes.{Outcome, nobody}

-- a line with no table, no pongs, no accepted ping and nothing held, not shut, open or closed
pub record Bare (live : Bool) (x : Line) : Type 0 where
  pub is_live : x.live ≡ live
  pub mark : x.table.mark ≡ none
  pub pongs : stored_pongs x ≡ []
  pub unpinged : x.pinged ≡ false
  pub unheld : x.pending.count ≡ 0
  pub unshut : x.pending.shut ≡ false

-- every line but l is as it was, and so is the room
pub record Beside (l : ℕ) (s s' : Station) : Type 0 where
  pub others : (k : ℕ) → (k ≡ l → ⊥) → line_at s' k ≡ line_at s k
  pub room : s'.room ≡ s.room

-- of line l nothing but its table may change, and of all else nothing
pub record TableOnly (l : ℕ) (s s' : Station) : Type 0 where
  pub live : (line_at s' l).live ≡ (line_at s l).live
  pub pinged : (line_at s' l).pinged ≡ (line_at s l).pinged
  pub time : (line_at s' l).pingtime ≡ (line_at s l).pingtime
  pub pongs : stored_pongs (line_at s' l) ≡ stored_pongs (line_at s l)
  pub beside : Beside l s s'
  pub memory : remembered s' ≡ remembered s

-- and of the table nothing but its mark: 4, broken; its length, its Infinity and the run position are as they were
pub record MarkedBroken (l : ℕ) (s s' : Station) : Type 0 where
  pub table_only : TableOnly l s s'
  pub mark : (line_at s' l).table.mark ≡ 4
  pub long : (line_at s' l).table.length ≡ (line_at s l).table.length
  pub infinity : (line_at s' l).table.infinity ≡ (line_at s l).table.infinity
  pub nextplace : (line_at s' l).table.nextplace ≡ (line_at s l).table.nextplace
  pub runsize : (line_at s' l).table.runsize ≡ (line_at s l).table.runsize
  pub runbits : (line_at s' l).table.runbits ≡ (line_at s l).table.runbits
  pub nextentry : (line_at s' l).table.nextentry ≡ (line_at s l).table.nextentry

-- of the route area only the first n bytes of line l's part may change, each part being `room` bytes long
pub record PartOnly (room l n : ℕ) (route route' : List ℕ) : Type 0 where
  pub before : take (l * room) route' ≡ take (l * room) route
  pub behind : drop (l * room + n) route' ≡ drop (l * room + n) route
  pub long : length route' ≡ length route

-- no text is offered to the local search
abbrev pub NotSearched : Outcome → Type 0
NotSearched o = (o.search ≡ false) × (o.textat ≡ 0) × (o.textlen ≡ 0)

-- nothing is sent, searched or delivered
pub record Silent (o : Outcome) : Type 0 where
  pub to : o.to ≡ nobody
  pub sent : o.sent ≡ []
  pub delivered : o.delivered ≡ false
  pub search : o.search ≡ false
  pub textat : o.textat ≡ 0
  pub textlen : o.textlen ≡ 0

-- answered n, and all that stands is left: the state, the route area, no byte written, no line sent to
pub record LeftAsItWas (o : Outcome) (n : ℕ) (s : Station) (route : List ℕ) : Type 0 where
  pub answer : o.answer ≡ n
  pub state : o.state ≡ s
  pub route' : o.route ≡ route
  pub silent : Silent o
