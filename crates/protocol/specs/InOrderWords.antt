-- When a state is in order (RULES 4), in words of numbers and places alone, clause by clause, with none of the tests
-- that the contracts cite. It is exactly this.
use Rattle.std.specs.Prelude.{ℕ, ◌+◌, ◌-◌, ◌%◌, ◌^◌, ◌≤◌, ◌<◌, ◌≡◌, true, false, ◌↔◌, ◌⊎◌, get_or}
use Rattle.tables.specs.declared.Table.{Table}
use Rattle.protocol.specs.declared.Line.{Line}
use Rattle.protocol.specs.State.{Station, line_at}
use Rattle.protocol.specs.Lines.{no_pong}
use Rattle.protocol.specs.Order.{in_order}
use Rattle.protocol.specs.Kept.{Sized}

-- the kept places of a ring are those just before its next, going round: the newest is number 0, and number i stands
-- i places before it. Of the 512 places for queries, and of the 10 for pongs
abbrev pub query_place : ℕ → ℕ → ℕ
query_place next i = (next + 511 - i) % 512

abbrev pub pong_place : ℕ → ℕ → ℕ
pong_place next i = (next + 9 - i) % 10

-- the run position of a table between runs, which is waiting (1) or settled (3): place 1 is next, and entry 0
pub record RestWords (t : Table) : Type 0 where
  pub place : t.nextplace ≡ 1
  pub entry : t.nextentry ≡ 0

-- and of a table that is running (2): the next place is 2 to the run's size, its bits are 4 or 8, and the next entry is
-- at most the length
pub record RunWords (t : Table) : Type 0 where
  pub second : 2 ≤ t.nextplace
  pub last : t.nextplace ≤ t.runsize
  pub width : (t.runbits ≡ 4) ⊎ (t.runbits ≡ 8)
  pub entry : t.nextentry ≤ t.length

-- the limits: a length of 2 ^ power for a power of 2 to 16, within the room; an Infinity of 2 to 127; the run position
pub record LimitWords (room : ℕ) (t : Table) : Type 0 where
  pub power : ℕ
  pub least : 2 ≤ power
  pub most : power ≤ 16
  pub long : t.length ≡ 2 ^ power
  pub within : t.length ≤ room
  pub above : 2 ≤ t.infinity
  pub below : t.infinity ≤ 127
  pub waiting : t.mark ≡ 1 → RestWords t
  pub running : t.mark ≡ 2 → RunWords t
  pub settled : t.mark ≡ 3 → RestWords t

-- a mark is none (0), waiting (1), running (2), settled (3) or broken (4), and the limits hold of 1, 2 and 3
pub record TableWords (room : ℕ) (t : Table) : Type 0 where
  pub mark : t.mark ≤ 4
  pub limits : 1 ≤ t.mark → t.mark ≤ 3 → LimitWords room t

-- RULES 4.5: of a closed line nothing is kept
pub record ClosedWords (x : Line) : Type 0 where
  pub table : x.table.mark ≡ 0
  pub pongs : x.pongcount ≡ 0
  pub ping : x.pinged ≡ false

pub record LineWords (room : ℕ) (x : Line) : Type 0 where
  pub closed : x.live ≡ false → ClosedWords x
  pub count : x.pongcount ≤ 10
  pub next : x.pongnext < 10
  pub hops : (i : ℕ) → i < x.pongcount → (get_or x.pongs (pong_place x.pongnext i) no_pong).hops ≤ 7
  pub table : TableWords room x.table

-- an asker is an open line, here (8) or gone (9)
abbrev pub AskerWords : Station → ℕ → Type 0
AskerWords s a = ((a ≤ 7) × ((line_at s a).live ≡ true)) ⊎ ((a ≡ 8) ⊎ (a ≡ 9))

-- two places hold one number: both halves of it are the same
abbrev pub OneNumber : Station → ℕ → ℕ → Type 0
OneNumber s p q = (get_or s.memory.lo p 0 ≡ get_or s.memory.lo q 0)
    × (get_or s.memory.hi p 0 ≡ get_or s.memory.hi q 0)

pub record InOrderWords (s : Station) : Type 0 where
  pub count : s.memory.count ≤ 512
  pub next : s.memory.next < 512
  pub once : (i j : ℕ) → i < j → j < s.memory.count
      → OneNumber s (query_place s.memory.next i) (query_place s.memory.next j) → ⊥
  pub askers : (i : ℕ) → i < s.memory.count
      → AskerWords s (get_or s.memory.asker (query_place s.memory.next i) 0)
  pub hits : (i : ℕ) → i < s.memory.count → get_or s.memory.hits (query_place s.memory.next i) 0 ≤ 200
  pub lines : (l : ℕ) → l < 8 → LineWords s.room (line_at s l)

-- a state whose arrays are as long as their types have them is in order exactly if these hold of it
abbrev pub InOrderExactly : Type 0
InOrderExactly = (s : Station) → Sized s → (in_order s ≡ true) ↔ InOrderWords s
