-- A route table with its entries, its marks, and when it is in order.
use Rattle.std.specs.Prelude.{ℕ, Bool, cond, not, ◌&&◌, ◌||◌, List, [], ◌∷◌, eqb, leb, take}
use Rattle.laws.specs.Tests.{any, every, all}
use Rattle.tables.specs.declared.Table.{Table}
use Rattle.tables.specs.Patch.{good_bits}

-- the marks of a table (RULES 4.7): none, waiting, running, settled, broken
abbrev pub none : ℕ
none = 0

abbrev pub waiting : ℕ
waiting = 1

abbrev pub running : ℕ
running = 2

abbrev pub settled : ℕ
settled = 3

abbrev pub broken : ℕ
broken = 4

-- a table and its entries
pub record Held : Type 0 where
  pub table : Table
  pub entries : List ℕ

-- the table whose entries stand at the front of a part
abbrev pub held_in : Table → List ℕ → Held
held_in t part = record { table = t; entries = take t.length part }

-- no table
abbrev pub no_table : Table
no_table = record { mark = none; length = 0; infinity = 0; nextplace = 0; runsize = 0; runbits = 0; nextentry = 0 }

-- a table between runs: place 1 and the first entry are next
abbrev pub at_rest : ℕ → ℕ → ℕ → Table
at_rest k n i = record { mark = k; length = n; infinity = i; nextplace = 1; runsize = 0; runbits = 0; nextentry = 0 }

-- only the mark is another
abbrev pub marked : ℕ → Table → Table
marked k t =
    record {
      mark = k;
      length = t.length;
      infinity = t.infinity;
      nextplace = t.nextplace;
      runsize = t.runsize;
      runbits = t.runbits;
      nextentry = t.nextentry;
    }

-- a length that a RESET may carry: a power of two, 4 to 65,536
abbrev pub lengths : List ℕ
lengths = 4 ∷ 8 ∷ 16 ∷ 32 ∷ 64 ∷ 128 ∷ 256 ∷ 512 ∷ 1024 ∷ 2048 ∷ 4096 ∷ 8192 ∷ 16384 ∷ 32768 ∷ 65536 ∷ []

unfoldable pub good_length : ℕ → Bool
good_length n = any (eqb n) lengths

-- an Infinity that a RESET may carry
abbrev pub good_infinity : ℕ → Bool
good_infinity n = leb 2 n && leb n 127

-- a table that a PATCH may come to: waiting, running or settled
abbrev pub ready : ℕ → Bool
ready k = eqb k waiting || (eqb k running || eqb k settled)

-- the run position: inside a run the next place, the run's size and bits and the next entry; else place 1 and entry 0
-- are next
abbrev pub inside_run : Table → Bool
inside_run t = every (leb 2 t.nextplace ∷ leb t.nextplace t.runsize ∷ good_bits t.runbits ∷ leb t.nextentry
    t.length ∷ [])

abbrev pub between_runs : Table → Bool
between_runs t = eqb t.nextplace 1 && eqb t.nextentry 0

-- the limits of a table that is waiting, running or settled, in a room of `room` entries
abbrev pub within_limits : ℕ → Table → Bool
within_limits room t =
    every
    (good_length t.length
    ∷ leb t.length room
    ∷ good_infinity t.infinity
    ∷ cond (eqb t.mark running) (inside_run t) (between_runs t)
    ∷ [])

-- a table in order (RULES 4.7, 4.8): a mark among the five, and within the limits where the mark is waiting, running or
-- settled
unfoldable pub table_in_order : ℕ → Table → Bool
table_in_order room t = leb t.mark broken && (not (ready t.mark) || within_limits room t)

-- an entry in 1..Infinity
abbrev pub in_bounds : ℕ → ℕ → Bool
in_bounds infinity e = leb 1 e && leb e infinity

-- entries in 1..Infinity, where the mark is waiting, running or settled
unfoldable pub entries_in_bounds : Held → Bool
entries_in_bounds h = not (ready h.table.mark) || all (in_bounds h.table.infinity) h.entries
