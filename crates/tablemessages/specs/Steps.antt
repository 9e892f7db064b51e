-- The writer's steps: what its parts promise one another.
use Rattle.std.specs.Prelude.{ℕ, ◌+◌, ◌-◌, ◌*◌, ◌/◌, ◌≤◌, ◌≡◌, Bool, true, cond, ◌&&◌, List, [], ◌++◌, eqb, leb, length, get_or}
use Rattle.tables.specs.Patch.{packed}
use Rattle.tablemessages.specs.declared.Plan.{Plan}
use Rattle.tablemessages.specs.Writer.{base_of, all_near, raws, parts_of, update, reset_payload, patch_payload}
use Rattle.tablemessages.specs.Writer.{run_from, joined, good_table}

-- the tables and the data size may be written: all that is 14 but a run that is too long
unfoldable pub may_write : Bool → List ℕ → ℕ → List ℕ → ℕ → ℕ → Bool
may_write had old old_infinity new infinity size =
    leb 1 size
    && (leb size 4091
    && cond had
    (eqb (length old) (length new)
    && (eqb old_infinity infinity && (good_table old old_infinity && good_table new infinity)))
    (good_table new infinity))

-- e - b in two's complement, `full` being 2 to the power of the bits
abbrev pub raw_in : ℕ → ℕ → ℕ → ℕ
raw_in full e b = cond (leb b e) (e - b) (full + e - b)

-- entries i and i + 1 as one number, the first in its low byte
abbrev pub pair_of : List ℕ → ℕ → ℕ
pair_of es i = get_or es i 0 + 256 * get_or es (i + 1) 0

-- the differences of entries i and i + 1 in one byte
abbrev pub pair_in : List ℕ → List ℕ → ℕ → ℕ
pair_in new base i = raw_in 16 (get_or new i 0) (get_or base i 0) * 16 + raw_in 16 (get_or new (i + 1) 0) (get_or base (i + 1) 0)

-- bytes of data for n entries
abbrev pub data_length : Bool → ℕ → ℕ
data_length small n = cond small (n / 2) n

-- a plan's base, bits and data
abbrev pub base_by : Plan → List ℕ → List ℕ → List ℕ
base_by p old new = base_of p.had old new p.infinity

abbrev pub bits_by : Plan → ℕ
bits_by p = cond p.small 4 8

unfoldable pub data_by : Plan → List ℕ → List ℕ → List ℕ
data_by p old new = packed (bits_by p) (raws (bits_by p) new (base_by p old new))

-- the plan's message at `place` with the data d
unfoldable pub patch_with : List ℕ → Plan → ℕ → List ℕ → List ℕ
patch_with number p place d = update number (patch_payload place p.count (bits_by p) d)

-- the bytes of the messages from `place` on that carry the data d
unfoldable pub left_of : List ℕ → Plan → ℕ → List ℕ → List ℕ
left_of number p place d = joined (run_from number place p.count (bits_by p) (parts_of p.size d))

-- a plan that fits the tables: as many entries in the base, 4 bits only where every difference fits
pub record Sound (p : Plan) (old new : List ℕ) : Type 0 where
  pub like : length (base_by p old new) ≡ length new
  pub close : p.small ≡ true → all_near new (base_by p old new) ≡ true

-- such a plan with a data size in its range, as many messages as the data has parts, and room for them
pub record Runs (number : List ℕ) (p : Plan) (old new : List ℕ) (room : ℕ) : Type 0 where
  pub sound : Sound p old new
  pub some : 1 ≤ p.size
  pub most : p.size ≤ 4091
  pub parts : length (parts_of p.size (data_by p old new)) ≡ p.count
  pub fits : length (left_of number p 1 (data_by p old new)) ≤ room

-- a RESET takes 29 bytes, where there was no old table
abbrev pub reset_length : Bool → ℕ
reset_length had = cond had 0 29

-- all the messages of a plan: the RESET, then the run
unfoldable pub all_by : List ℕ → Plan → List ℕ → List ℕ → List ℕ
all_by number p old new = cond p.had [] (update number (reset_payload (length new) p.infinity)) ++ left_of number p
    1 (data_by p old new)

-- a plan whose messages have room, of tables that a RESET may carry
pub record Fits (number : List ℕ) (p : Plan) (old new : List ℕ) (room : ℕ) : Type 0 where
  pub reset : reset_length p.had ≤ room
  pub run : Runs number p old new (room - reset_length p.had)
  pub few : length new ≤ 65536
