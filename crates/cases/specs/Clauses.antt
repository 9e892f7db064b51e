-- When a state is in order (RULES 4), clause by clause: a state in order that has something of everything, states that
-- break one clause of it, and states that differ from it in what no clause speaks of. One list; a clause that is lost
-- or added in definition and code alike makes a row wrong.
use Rattle.std.specs.Prelude.{ℕ, ◌≡◌, Bool, true, false, cond, not, List, [], ◌∷◌, ◌++◌, replicate, set}
use Rattle.laws.specs.Tests.{all}
use Rattle.wire.specs.Header.{message}
use Rattle.tables.specs.declared.Table.{Table}
use Rattle.protocol.specs.declared.Line.{Line}
use Rattle.protocol.specs.Memory.{memory_of}
use Rattle.protocol.specs.Lines.{empty_line, with_table, pinged_at, with_pending}
use Rattle.protocol.specs.State.{Station, line_at, with_line, with_memory}
use Rattle.protocol.specs.Order.{in_order}
use Rattle.protocol.specs.Runs.{Ask, Same, run}
use Rattle.cases.specs.Cases.{begun, at, by, query, eb, settles}
use Rattle.cases.specs.Precedence.{ping}

-- lines 0 and 1 open, line 1 with a table and line 0 with two pongs and a ping time, three queries remembered: by line
-- 0, by line 1, from here
unfoldable pub full : Station
full =
    (run begun
    (settles
    ++ (by 0 0 (query 3 1 eb)
    ∷ by 1 0 (message (replicate 16 2) 0x80 3 1 (0 ∷ 0 ∷ 0 ∷ []))
    ∷ Ask (replicate 16 3) eb (at 0) Same
    ∷ by 0 0 (message (replicate 16 4) 0x01 1 7 (replicate 14 5))
    ∷ by 0 0 (message (replicate 16 4) 0x01 1 0 (replicate 14 6))
    ∷ by 0 0 (ping 7 0)
    ∷ []))).state

-- the same state with other remembered queries
abbrev pub with_ring : List ℕ → List ℕ → ℕ → ℕ → Station → Station
with_ring lo asker count next s = with_memory s (memory_of lo s.memory.hi asker s.memory.hits count next)

abbrev pub numbers : List ℕ
numbers = full.memory.lo

abbrev pub askers : List ℕ
askers = full.memory.asker

abbrev pub with_asker : ℕ → ℕ → Station
with_asker place a = with_ring numbers (set askers place a) 3 3 full

-- with another count of hits at a place, and this many kept before this next place
abbrev pub with_hits : ℕ → ℕ → ℕ → ℕ → Station
with_hits place hits count next =
    with_memory full (memory_of numbers full.memory.hi askers (set full.memory.hits place hits) count next)

-- with another line record
abbrev pub pongs_of : ℕ → ℕ → ℕ → ℕ → Line → Line
pongs_of count next place hops x =
    record {
      live = x.live;
      pinged = x.pinged;
      pingtime = x.pingtime;
      pongcount = count;
      pongnext = next;
      pongs = set x.pongs place (record { bytes = replicate 14 0; hops = hops; clock = 0 });
      table = x.table;
      pending = x.pending;
    }

abbrev pub with_pongs : ℕ → ℕ → ℕ → ℕ → Station
with_pongs count next place hops = with_line full 0 (pongs_of count next place hops (line_at full 0))

-- line 2, which is closed, with a ping time, or with a table of this mark
abbrev pub pinged_closed : Station
pinged_closed = with_line full 2 (pinged_at (empty_line false) 0)

-- a line with any held count and shut mark
abbrev pub holds : ℕ → Line → Station
holds l x = with_line full l (with_pending x (record { count = 65535; shut = true }))

abbrev pub table : (mark length infinity place size bits at : ℕ) → Table
table mark length infinity place size bits at =
    record {
      mark = mark;
      length = length;
      infinity = infinity;
      nextplace = place;
      runsize = size;
      runbits = bits;
      nextentry = at;
    }

-- line 1, which is open, with this table, and line 2, which is closed
abbrev pub open_table : Table → Station
open_table t = with_line full 1 (with_table (line_at full 1) t)

abbrev pub closed_table : Table → Station
closed_table t = with_line full 2 (with_table (empty_line false) t)

pub record Judged : Type 0 where
  pub state : Station
  pub good : Bool

abbrev pub good : Station → Judged
good s = record { state = s; good = true }

abbrev pub bad : Station → Judged
bad s = record { state = s; good = false }

abbrev pub is_judged : Judged → Bool
is_judged j = cond j.good (in_order j.state) (not (in_order j.state))

-- all numbers are 0: one that is remembered is twice as soon as two are
abbrev pub alike : ℕ → Station
alike count = with_memory full (memory_of (replicate 512 0) (replicate 512 0) askers full.memory.hits count count)

-- the ring of remembered queries
unfoldable pub ring_clauses : List Judged
ring_clauses =
    good full
    -- 513 remembered; the next place past the ring
    ∷ bad (with_ring numbers askers 513 3 full)
    ∷ bad (with_ring numbers askers 0 512 full)
    -- a number twice among the kept places; one that a place which is not kept has too
    ∷ bad (alike 2)
    ∷ good (alike 1)
    -- askers: a closed line, 10, and either at a place that is not kept
    ∷ bad (with_asker 1 2)
    ∷ bad (with_asker 1 10)
    ∷ good (with_asker 3 2)
    ∷ good (with_asker 511 10)
    -- askers: here, gone, another open line; the kept places go round
    ∷ good (with_asker 1 8)
    ∷ good (with_asker 1 9)
    ∷ good (with_asker 1 1)
    ∷ bad (with_ring numbers (set askers 511 10) 3 1 full)
    -- one is kept: the place just before the next, going round, and no other place is asked
    ∷ good (with_ring numbers (set (set askers 511 9) 0 10) 1 0 full)
    ∷ bad (with_ring numbers (set (set askers 511 10) 0 9) 1 0 full)
    ∷ good (with_ring numbers (set askers 0 10) 1 2 full)
    ∷ bad (with_ring numbers (set askers 1 10) 1 2 full)
    -- counts of hits: 200, and more, of the newest, of the oldest and of one between; and at a place that is not kept
    ∷ good (with_hits 1 200 3 3)
    ∷ bad (with_hits 1 201 3 3)
    ∷ bad (with_hits 1 255 3 3)
    ∷ bad (with_hits 2 201 3 3)
    ∷ bad (with_hits 0 201 3 3)
    ∷ good (with_hits 3 255 3 3)
    -- one is kept, going round
    ∷ good (with_hits 511 200 1 0)
    ∷ bad (with_hits 511 201 1 0)
    ∷ good (with_hits 0 255 1 0)
    ∷ []

-- line records
unfoldable pub line_clauses : List Judged
line_clauses =
    -- a closed line with a ping time, with pongs, with a table
    bad pinged_closed
    ∷ bad (with_line full 2 (pongs_of 1 1 0 0 (empty_line false)))
    ∷ bad (closed_table (table 4 4 8 1 0 0 0))
    -- eleven pongs; the next place past the ring; stored Hops 7, 8, and 8 at a place that is not kept
    ∷ bad (with_pongs 11 2 0 0)
    ∷ bad (with_pongs 2 10 0 0)
    ∷ good (with_pongs 2 2 0 7)
    ∷ bad (with_pongs 2 2 0 8)
    ∷ good (with_pongs 2 2 2 8)
    ∷ bad (with_pongs 2 1 9 8)
    -- one is kept, going round; all ten, of which the oldest is the one at the next place
    ∷ good (with_pongs 1 0 9 7)
    ∷ bad (with_pongs 1 0 9 8)
    ∷ good (with_pongs 10 2 2 7)
    ∷ bad (with_pongs 10 2 2 8)
    -- a closed line's next place may be any under 10, and what stands at its places
    ∷ good (with_line full 2 (pongs_of 0 9 8 8 (empty_line false)))
    ∷ bad (with_line full 2 (pongs_of 0 10 8 8 (empty_line false)))
    -- held bytes and shut marks, of an open line and of a closed one
    ∷ good (holds 1 (line_at full 1))
    ∷ good (holds 2 (empty_line false))
    ∷ []

-- tables: mark, length, Infinity, next place, run size, bits, next entry; the room is 4
unfoldable pub table_clauses : List Judged
table_clauses =
    -- marks: none and broken say nothing of the rest; there is no mark 5
    good (open_table (table 0 5 200 9 9 9 9))
    ∷ good (open_table (table 4 5 200 9 9 9 9))
    ∷ good (open_table (table 0 4294967295 0 0 0 0 4294967295))
    ∷ good (open_table (table 4 4294967295 0 0 0 0 4294967295))
    ∷ bad (open_table (table 5 4 8 1 0 0 0))
    ∷ bad (open_table (table 255 4 8 1 0 0 0))
    -- waiting and settled: length, Infinity, next place and next entry
    ∷ good (open_table (table 1 4 2 1 9 9 0))
    ∷ good (open_table (table 3 4 127 1 9 9 0))
    ∷ bad (open_table (table 1 2 8 1 0 0 0))
    ∷ bad (open_table (table 3 3 8 1 0 0 0))
    ∷ bad (open_table (table 1 8 8 1 0 0 0))
    ∷ bad (open_table (table 1 4 1 1 0 0 0))
    ∷ bad (open_table (table 3 4 128 1 0 0 0))
    ∷ bad (open_table (table 1 4 8 2 0 0 0))
    ∷ bad (open_table (table 3 4 8 0 0 0 0))
    ∷ bad (open_table (table 3 4 8 1 0 0 1))
    ∷ bad (open_table (table 1 4 255 1 0 0 0))
    ∷ good (open_table (table 3 4 8 1 200 200 0))
    -- running: next place 2 to the run's size, bits 4 or 8, next entry at most the length
    ∷ good (open_table (table 2 4 8 2 2 4 0))
    ∷ good (open_table (table 2 4 8 255 255 8 4))
    ∷ bad (open_table (table 2 4 8 1 2 4 0))
    ∷ bad (open_table (table 2 4 8 3 2 4 0))
    ∷ bad (open_table (table 2 4 8 2 2 5 0))
    ∷ bad (open_table (table 2 4 8 2 2 4 5))
    ∷ bad (open_table (table 2 3 8 2 2 4 0))
    ∷ bad (open_table (table 2 4 1 2 2 4 0))
    ∷ bad (open_table (table 2 4 8 2 2 0 0))
    ∷ bad (open_table (table 2 8 8 2 2 4 0))
    ∷ []

-- each is judged so, by the definition that the contracts cite
pub record Clauses : Type 0 where
  pub ring : all is_judged ring_clauses ≡ true
  pub lines : all is_judged line_clauses ≡ true
  pub tables : all is_judged table_clauses ≡ true
