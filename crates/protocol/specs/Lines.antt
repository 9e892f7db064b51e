-- Lines, their tables in the route area, and their stored pongs.
use Rattle.std.specs.Prelude.{ℕ, ◌+◌, ◌-◌, ◌*◌, ◌%◌, ◌^◌, ◌≤◌, ◌<◌, min, ◌≡◌, Bool, true, false, not, List, [], ◌∷◌, map, eqb, get_or, set, take, drop, replicate}
use Rattle.laws.specs.Ring.{kept_places, onward}
use Rattle.tables.specs.declared.Table.{Table}
use Rattle.tables.specs.Tables.{Held, no_table, held_in}
use Rattle.protocol.specs.declared.Pong.{Pong}
use Rattle.protocol.specs.declared.Pending.{Pending}
use Rattle.protocol.specs.declared.Line.{Line}

abbrev pub line_count : ℕ
line_count = 8

abbrev pub line_numbers : List ℕ
line_numbers = 0 ∷ 1 ∷ 2 ∷ 3 ∷ 4 ∷ 5 ∷ 6 ∷ 7 ∷ []

-- line k is another than the line l: where a query from l may go, and whose pongs answer a ping from l
abbrev pub is_other : ℕ → ℕ → Bool
is_other l k = not (eqb k l)

abbrev pub no_pong : Pong
no_pong = record { bytes = replicate 14 0; hops = 0; clock = 0 }

-- of a message that is not whole, nothing is held, and the line is not shut
abbrev pub no_pending : Pending
no_pending = record { count = 0; shut = false }

-- a line just opened or closed (RULES 5.1, 5.2): all zero but whether it is open
abbrev pub empty_line : Bool → Line
empty_line live = record {
  live = live;
  pinged = false;
  pingtime = 0;
  pongcount = 0;
  pongnext = 0;
  pongs = replicate 10 no_pong;
  table = no_table;
  pending = no_pending;
}

-- what an index past the lines would read
abbrev pub nowhere : Line
nowhere = record {
  live = false;
  pinged = false;
  pingtime = 0;
  pongcount = 0;
  pongnext = 0;
  pongs = [];
  table = no_table;
  pending = no_pending;
}

-- line k of these
abbrev pub line_in : List Line → ℕ → Line
line_in lines k = get_or lines k nowhere

-- eight flags, one a line
abbrev pub each_line : (ℕ → Bool) → List Bool
each_line f = map f line_numbers

-- for each of the eight lines whether it is open, and its table
abbrev pub lives_in : List Line → List Bool
lives_in lines = each_line (λ k. (line_in lines k).live)

abbrev pub tables_in : List Line → List Table
tables_in lines = map (λ k. (line_in lines k).table) line_numbers

-- a line with another table, with another ping time, with one more pong
abbrev pub with_table : Line → Table → Line
with_table x t =
    record {
      live = x.live;
      pinged = x.pinged;
      pingtime = x.pingtime;
      pongcount = x.pongcount;
      pongnext = x.pongnext;
      pongs = x.pongs;
      table = t;
      pending = x.pending;
    }

abbrev pub pinged_at : Line → ℕ → Line
pinged_at x clock =
    record {
      live = x.live;
      pinged = true;
      pingtime = clock;
      pongcount = x.pongcount;
      pongnext = x.pongnext;
      pongs = x.pongs;
      table = x.table;
      pending = x.pending;
    }

-- a line with this much of a message held
abbrev pub with_pending : Line → Pending → Line
with_pending x p =
    record {
      live = x.live;
      pinged = x.pinged;
      pingtime = x.pingtime;
      pongcount = x.pongcount;
      pongnext = x.pongnext;
      pongs = x.pongs;
      table = x.table;
      pending = p;
    }

-- the largest Hops of a stored pong (RULES 4.7); it is another number than a query's usual life
abbrev pub pong_hops : ℕ
pong_hops = 7

-- pongs kept for each line
abbrev pub pong_capacity : ℕ
pong_capacity = 10

-- at the ring's next place
abbrev pub with_pong : Line → Pong → Line
with_pong x p =
    record {
      live = x.live;
      pinged = x.pinged;
      pingtime = x.pingtime;
      pongcount = min pong_capacity (x.pongcount + 1);
      pongnext = onward pong_capacity x.pongnext;
      pongs = set x.pongs (x.pongnext % pong_capacity) p;
      table = x.table;
      pending = x.pending;
    }

-- the stored pongs of a line, the newest first
unfoldable pub stored_pongs : Line → List Pong
stored_pongs x = map (λ p. get_or x.pongs p (record { bytes = []; hops = 0; clock = 0 }))
    (kept_places pong_capacity x.pongnext x.pongcount)

-- the part of the route area that belongs to line l, and the table with its entries there
abbrev pub part_of : ℕ → ℕ → List ℕ → List ℕ
part_of room l route = take room (drop (l * room) route)

abbrev pub held_by : Line → ℕ → ℕ → List ℕ → Held
held_by x room l route = held_in x.table (part_of room l route)

abbrev pub held_for : ℕ → List Line → ℕ → List ℕ → Held
held_for room lines k route = held_by (line_in lines k) room k route

-- elapsed time (RULES 10.1): the difference modulo 2 to the power 32
abbrev pub elapsed : ℕ → ℕ → ℕ
elapsed now then = (now + (2 ^ 32 - then)) % 2 ^ 32

-- from outside (RULES 10.1), for any two 32-bit clocks: below 2 to the power 32, and added to the one clock it comes to
-- the other, going round; so it is the plain difference where the clock has not gone round, and 2 to the power 32 more
-- where it has
pub record ElapsedIs (now then e : ℕ) : Type 0 where
  pub below : e < 4294967296
  pub comes : (then + e) % 4294967296 ≡ now
  pub plain : then ≤ now → then + e ≡ now
  pub round : now < then → then + e ≡ now + 4294967296

abbrev pub ElapsedRight : Type 0
ElapsedRight = (now then : ℕ) → now < 4294967296 → then < 4294967296 → ElapsedIs now then (elapsed now then)

-- past 2 to the power 31, and across 2 to the power 32
pub record ElapsedPoints : Type 0 where
  pub half : elapsed 2147483648 0 ≡ 2147483648
  pub most : elapsed 4294967295 0 ≡ 4294967295
  pub back : elapsed 0 1 ≡ 4294967295
  pub across : elapsed 743 4294967040 ≡ 999
  pub spaced : elapsed 744 4294967040 ≡ 1000
