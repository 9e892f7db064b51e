-- The state of a station: one record, with the lines and the ring of remembered queries within. In code the room and
-- the lines go by value and the ring is lent.
use Rattle.std.specs.Prelude.{ℕ, Bool, false, List, set}
use Rattle.tables.specs.Tables.{Held}
use Rattle.protocol.specs.declared.Line.{Line}
use Rattle.protocol.specs.declared.Lookup.{Lookup}
use Rattle.protocol.specs.Memory.{Memory, Number, Query, capacity, queries_in, find, is_found, lookup_of}
use Rattle.protocol.specs.Memory.{remember_if, raise_if}
use Rattle.protocol.specs.Lines.{line_in, held_for}

-- the room for each neighbour's table, the eight lines, and the remembered queries
pub record Station : Type 0 where
  pub room : ℕ
  pub lines : List Line
  pub memory : Memory

abbrev pub station_of : ℕ → List Line → Memory → Station
station_of room lines memory = record { room = room; lines = lines; memory = memory }

abbrev pub line_at : Station → ℕ → Line
line_at s l = line_in s.lines l

abbrev pub with_line : Station → ℕ → Line → Station
with_line s l x = station_of s.room (set s.lines l x) s.memory

abbrev pub with_memory : Station → Memory → Station
with_memory s q = station_of s.room s.lines q

-- the table of line l with its entries in the route area
abbrev pub held_at : Station → ℕ → List ℕ → Held
held_at s l route = held_for s.room s.lines l route

-- the remembered queries, the newest first
abbrev pub remembered : Station → List Query
remembered s = queries_in capacity s.memory

-- what a look-up of the number finds, and whether it is remembered
abbrev pub looked_up : Station → Number → Lookup
looked_up s x = lookup_of (find (remembered s) x)

abbrev pub seen : Station → Number → Bool
seen s x = is_found (find (remembered s) x)

-- what a message leaves of the state: the record of its line, whether its number is to be remembered, and whether the
-- query with its number has had one hit more
pub record Change : Type 0 where
  pub line : Line
  pub taken : Bool
  pub answered : Bool

-- the line's record and nothing else
abbrev pub line_only : Line → Change
line_only x = record { line = x; taken = false; answered = false }

-- the state after a message with this number by line l
abbrev pub memory_after : Station → ℕ → Number → Change → Memory
memory_after s l x c =
    remember_if c.taken capacity (raise_if c.answered capacity s.memory (looked_up s x).after) x l

abbrev pub state_after : Station → ℕ → Number → Change → Station
state_after s l x c = station_of s.room (set s.lines l c.line) (memory_after s l x c)
