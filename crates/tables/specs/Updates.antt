-- Updates (RULES 12): what each is answered and what it does to a table and its entries. `room` is how many entries
-- there is room for. `p` is the payload.
use Rattle.std.specs.Prelude.{ℕ, ◌+◌, Bool, true, false, cond, not, ◌&&◌, ◌||◌, List, [], ◌∷◌, ◌++◌, eqb, leb, length, get_or, take, drop, replicate}
use Rattle.laws.specs.Tests.{first_of, every}
use Rattle.laws.specs.Bytes.{little}
use Rattle.laws.specs.Parts.{over}
use Rattle.tables.specs.declared.Table.{Table}
use Rattle.tables.specs.Patch.{good_bits, numbers, added, all_fit}
use Rattle.tables.specs.Tables.{Held, at_rest, marked, waiting, running, settled, broken, good_length, good_infinity}
use Rattle.tables.specs.Tables.{ready}

-- the answer to an update, and the table after it
pub record Updated : Type 0 where
  pub answer : ℕ
  pub table : Table

-- RESET: 00, length (4 bytes), Infinity
abbrev pub length_in : List ℕ → ℕ
length_in p = little (take 4 (drop 1 p))

abbrev pub infinity_in : List ℕ → ℕ
infinity_in p = get_or p 5 0

-- PATCH: 01, place in run, run size, compressor, bits, data
abbrev pub place_in : List ℕ → ℕ
place_in p = get_or p 1 0

abbrev pub size_in : List ℕ → ℕ
size_in p = get_or p 2 0

abbrev pub bits_in : List ℕ → ℕ
bits_in p = get_or p 4 0

abbrev pub numbers_in : List ℕ → List ℕ
numbers_in p = numbers (bits_in p) (drop 5 p)

-- the last message of its run
abbrev pub is_last : List ℕ → Bool
is_last p = eqb (place_in p) (size_in p)

-- a RESET as it must be: exactly 6 bytes, a length within the room, an Infinity of 2 to 127
abbrev pub reset_tests : ℕ → List ℕ → List Bool
reset_tests room p =
    eqb (length p) 6
    ∷ eqb (get_or p 0 0) 0
    ∷ good_length (length_in p)
    ∷ leb (length_in p) room
    ∷ good_infinity (infinity_in p)
    ∷ []

unfoldable pub good_reset : ℕ → List ℕ → Bool
good_reset room p = every (reset_tests room p)

-- a PATCH as it must be: places 1 to size, compressor 0, bits 4 or 8
abbrev pub patch_tests : List ℕ → List Bool
patch_tests p =
    leb 5 (length p)
    ∷ eqb (get_or p 0 0) 1
    ∷ leb 1 (place_in p)
    ∷ leb (place_in p) (size_in p)
    ∷ eqb (get_or p 3 0) 0
    ∷ good_bits (bits_in p)
    ∷ []

unfoldable pub good_patch : List ℕ → Bool
good_patch p = every (patch_tests p)

-- a PATCH in turn: a table to add to, the place awaited, size and bits as the run's first, no data past the table's
-- end, and none left over after the last
abbrev pub turn_tests : Held → List ℕ → List Bool
turn_tests h p =
    ready h.table.mark
    ∷ eqb (place_in p) h.table.nextplace
    ∷ (not (eqb h.table.mark running) || (eqb (size_in p) h.table.runsize && eqb (bits_in p) h.table.runbits))
    ∷ leb (h.table.nextentry + length (numbers_in p)) (length h.entries)
    ∷ (not (is_last p) || eqb (h.table.nextentry + length (numbers_in p)) (length h.entries))
    ∷ []

unfoldable pub in_turn : Held → List ℕ → Bool
in_turn h p = every (turn_tests h p)

-- every entry that the data covers stays in 1..Infinity
unfoldable pub in_range : Held → List ℕ → Bool
in_range h p = all_fit (bits_in p) h.table.infinity (numbers_in p) (drop h.table.nextentry h.entries)

-- what each kind is answered
abbrev pub reset_answer : ℕ → List ℕ → ℕ
reset_answer room p = first_of ((not (good_reset room p), 14) ∷ [])

abbrev pub patch_answer : Held → List ℕ → ℕ
patch_answer h p = first_of ((not (good_patch p), 14) ∷ (not (in_turn h p), 15) ∷ (not (in_range h p), 16) ∷ [])

-- what an update is answered: 14; then, for a PATCH alone, 15; then 16
abbrev pub is_patch : List ℕ → Bool
is_patch p = eqb (get_or p 0 0) 1

unfoldable pub update_answer : ℕ → Held → ℕ → ℕ → List ℕ → ℕ
update_answer room h ttl hops p =
    first_of
    ((not (eqb ttl 1 && eqb hops 0), 14)
    ∷ (not (good_reset room p || good_patch p), 14)
    ∷ (is_patch p && not (in_turn h p), 15)
    ∷ (is_patch p && not (in_range h p), 16)
    ∷ [])

-- an accepted RESET: every entry Infinity, mark waiting, place 1 and the first entry next
unfoldable pub reset_by : List ℕ → Held
reset_by p =
    record { table = at_rest waiting (length_in p) (infinity_in p); entries = replicate (length_in p) (infinity_in p) }

-- an accepted PATCH moves the run on; its last message settles the table, and place 1 and the first entry are next
abbrev pub onward : Table → List ℕ → Table
onward t p =
    record {
      mark = running;
      length = t.length;
      infinity = t.infinity;
      nextplace = place_in p + 1;
      runsize = size_in p;
      runbits = bits_in p;
      nextentry = t.nextentry + length (numbers_in p);
    }

unfoldable pub moved_on : Table → List ℕ → Table
moved_on t p = cond (is_last p) (at_rest settled t.length t.infinity) (onward t p)

unfoldable pub patch_by : Held → List ℕ → Held
patch_by h p =
    record {
      table = moved_on h.table p;
      entries = take h.table.nextentry h.entries ++ added (bits_in p) (numbers_in p)
          (drop h.table.nextentry h.entries);
    }

-- refused: only the mark changes
unfoldable pub broken_by : Held → Held
broken_by h = record { table = marked broken h.table; entries = h.entries }

-- a refusal by this number, and the table it leaves
abbrev pub refused_by : ℕ → Table → Updated
refused_by n t = record { answer = n; table = marked broken t }

abbrev pub pick_held : Bool → Held → Held → Held
pick_held true a b = a
pick_held false a b = b

-- the table and its entries after an update
unfoldable pub updated : ℕ → Held → ℕ → ℕ → List ℕ → Held
updated room h ttl hops p =
    pick_held (eqb (update_answer room h ttl hops p) 0) (pick_held (is_patch p) (patch_by h p) (reset_by p)) (broken_by h)

-- the same for a RESET and for a PATCH by itself, whatever its TTL and Hops
unfoldable pub reset_held : ℕ → Held → List ℕ → Held
reset_held room h p = pick_held (eqb (reset_answer room p) 0) (reset_by p) (broken_by h)

unfoldable pub patched_held : Held → List ℕ → Held
patched_held h p = pick_held (eqb (patch_answer h p) 0) (patch_by h p) (broken_by h)

-- an answer with the table of what is then held
abbrev pub answered : ℕ → Held → Updated
answered n h = record { answer = n; table = h.table }

-- a part with the entries of what is held at its front; the rest of it stays
abbrev pub part_with : Held → List ℕ → List ℕ
part_with h part = over 0 h.entries part
