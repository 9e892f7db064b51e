-- The cases P1 to P4 and Q1 to Q3 of RULES 18 at the level of a table, and its known mistakes, by computation. The room
-- is 4 entries.
use Prim.Native.Nat.{ℕ}
use mathlib.Core.Path.{◌≡◌, refl}
use mathlib.Core.Bool.{true, false}
use mathlib.Core.List.{List, [], ◌∷◌}
use Rattle.keywords.specs.Keywords.{lower}
use Rattle.keywords.specs.Keywords.{is_separator, keywords_of, pieces, filled}
use Rattle.keywords.specs.Hash.{xor32, hash_of, word}
use Rattle.tables.specs.Tables.{Held, held_in, no_table, at_rest, settled, waiting, running, broken, good_length}
use Rattle.tables.specs.Tables.{table_in_order}
use Rattle.tables.specs.Patch.{numbers, added, all_fit}
use Rattle.tables.specs.Updates.{update_answer, updated, good_reset, good_patch, in_turn, in_range, reset_by, moved_on}
use Rattle.tables.specs.Updates.{patch_by, broken_by, part_with}
use Rattle.tables.specs.Admission.{far, withholds}

start : Held
start = held_in no_table []

-- what is held after an update, and its answer
after : Held → List ℕ → Held
after h p = updated 4 h 1 0 p

answer : Held → List ℕ → ℕ
answer h p = update_answer 4 h 1 0 p

reset : List ℕ
reset = 0 ∷ 4 ∷ 0 ∷ 0 ∷ 0 ∷ 8 ∷ []

p1 : Held
p1 = after start reset

p2 : Held
p2 = after p1 (1 ∷ 1 ∷ 1 ∷ 0 ∷ 4 ∷ 9 ∷ 9 ∷ [])

p3 : Held
p3 = after p1 (1 ∷ 1 ∷ 1 ∷ 0 ∷ 8 ∷ 0 ∷ 0xF9 ∷ 0 ∷ 0xF9 ∷ [])

-- the mark and the entries
record Seen (h : Held) (mark : ℕ) (entries : List ℕ) : Type 0 where
  marks : h.table.mark ≡ mark
  stands : h.entries ≡ entries

p1-stands : Seen p1 waiting (8 ∷ 8 ∷ 8 ∷ 8 ∷ [])
unfolding p1 start after reset updated update_answer good_reset good_patch in_turn in_range reset_by moved_on patch_by
    broken_by good_length
p1-stands = record { marks = refl; stands = refl }

p2-stands : Seen p2 settled (8 ∷ 1 ∷ 8 ∷ 1 ∷ [])
unfolding p2 p1 start after reset updated update_answer good_reset good_patch in_turn in_range reset_by moved_on patch_by
    broken_by good_length numbers added all_fit
p2-stands = record { marks = refl; stands = refl }

p3-stands : Seen p3 settled (8 ∷ 1 ∷ 8 ∷ 1 ∷ [])
unfolding p3 p1 start after reset updated update_answer good_reset good_patch in_turn in_range reset_by moved_on patch_by
    broken_by good_length numbers added all_fit
p3-stands = record { marks = refl; stands = refl }

-- P4; and a first number that fits before one that does not: nothing is added
p4-stands : (answer p1 (1 ∷ 1 ∷ 1 ∷ 0 ∷ 4 ∷ 0x10 ∷ 0 ∷ []) ≡ 16)
    × Seen (after p1 (1 ∷ 1 ∷ 1 ∷ 0 ∷ 4 ∷ 0x10 ∷ 0 ∷ [])) broken (8 ∷ 8 ∷ 8 ∷ 8 ∷ [])
    × Seen (after p1 (1 ∷ 1 ∷ 1 ∷ 0 ∷ 4 ∷ 0x91 ∷ 0 ∷ [])) broken (8 ∷ 8 ∷ 8 ∷ 8 ∷ [])
unfolding p1 start after answer reset updated update_answer good_reset good_patch in_turn in_range reset_by moved_on patch_by
    broken_by good_length numbers added all_fit
p4-stands = (refl, record { marks = refl; stands = refl }, record { marks = refl; stands = refl })

-- 14 before 15: TTL 2; a RESET past the room; a place past the size; size 0; on no table, a compressor; an empty
-- payload; another variant
fourteens : (update_answer 4 p1 2 0 reset ≡ 14)
    × (answer p1 (0 ∷ 8 ∷ 0 ∷ 0 ∷ 0 ∷ 8 ∷ []) ≡ 14)
    × (answer p1 (1 ∷ 2 ∷ 1 ∷ 0 ∷ 4 ∷ 9 ∷ 9 ∷ []) ≡ 14)
    × (answer p1 (1 ∷ 1 ∷ 0 ∷ 0 ∷ 4 ∷ []) ≡ 14)
    × (answer start (1 ∷ 1 ∷ 1 ∷ 1 ∷ 4 ∷ []) ≡ 14)
    × (answer p1 [] ≡ 14)
    × (answer p1 (2 ∷ 4 ∷ 0 ∷ 0 ∷ 0 ∷ 8 ∷ []) ≡ 14)
unfolding p1 start after answer reset updated update_answer good_reset good_patch in_turn in_range reset_by moved_on patch_by
    broken_by good_length numbers added all_fit
fourteens = (refl, refl, refl, refl, refl, refl, refl)

-- a run of two, the second without data; its first message again is 15, a RESET inside it is not
run : Held
run = after p1 (1 ∷ 1 ∷ 2 ∷ 0 ∷ 4 ∷ 9 ∷ 9 ∷ [])

runs : Seen run running (8 ∷ 1 ∷ 8 ∷ 1 ∷ [])
    × Seen (after run (1 ∷ 2 ∷ 2 ∷ 0 ∷ 4 ∷ [])) settled (8 ∷ 1 ∷ 8 ∷ 1 ∷ [])
    × (answer run (1 ∷ 1 ∷ 2 ∷ 0 ∷ 4 ∷ 9 ∷ 9 ∷ []) ≡ 15)
    × (answer run reset ≡ 0)
    × (answer p1 (1 ∷ 1 ∷ 1 ∷ 0 ∷ 4 ∷ 0x10 ∷ []) ≡ 15)
unfolding run p1 start after answer reset updated update_answer good_reset good_patch in_turn in_range reset_by
    moved_on patch_by broken_by
    good_length numbers added all_fit
runs = (record { marks = refl; stands = refl }, record { marks = refl; stands = refl }, refl, refl, refl)

-- a second run adds to what stands; a broken table takes no run, and a RESET heals it
again : Seen (after p2 (1 ∷ 1 ∷ 1 ∷ 0 ∷ 4 ∷ 0xF1 ∷ 0xF1 ∷ [])) settled (7 ∷ 2 ∷ 7 ∷ 2 ∷ [])
    × (answer (after p1 []) (1 ∷ 1 ∷ 1 ∷ 0 ∷ 4 ∷ 9 ∷ 9 ∷ []) ≡ 15)
    × Seen (after (after p1 []) reset) waiting (8 ∷ 8 ∷ 8 ∷ 8 ∷ [])
unfolding p2 p1 start after answer reset updated update_answer good_reset good_patch in_turn in_range reset_by
    moved_on patch_by broken_by
    good_length numbers added all_fit
again = (record { marks = refl; stands = refl }, refl, record { marks = refl; stands = refl })

-- a RESET writes its length and no more
no_further : part_with p1 (1 ∷ 2 ∷ 3 ∷ 4 ∷ 5 ∷ 6 ∷ []) ≡ 8 ∷ 8 ∷ 8 ∷ 8 ∷ 5 ∷ 6 ∷ []
unfolding p1 start after reset updated update_answer good_reset good_patch in_turn in_range reset_by moved_on patch_by
    broken_by good_length
no_further = refl

-- Q1, Q2, Q3 with TTL 2 on P2's table; a table inside a run withholds nothing
queries : (withholds p2 (keywords_of (0x65 ∷ 0x62 ∷ 0x20 ∷ 0x65 ∷ 0x62 ∷ 0x63 ∷ 0x6B ∷ 0x6C ∷ [])) 2 ≡ false)
    × (withholds p2 (keywords_of (0x65 ∷ 0x62 ∷ 0x63 ∷ 0x6B ∷ 0x6C ∷ 0x6D ∷ 0x65 ∷ 0x6E ∷ [])) 2 ≡ true)
    × (withholds p2 (keywords_of (0x20 ∷ [])) 2 ≡ false)
    × (withholds run (keywords_of (0x65 ∷ 0x62 ∷ 0x63 ∷ 0x6B ∷ 0x6C ∷ 0x6D ∷ 0x65 ∷ 0x6E ∷ [])) 2 ≡ false)
unfolding run p2 p1 start after reset updated update_answer good_reset good_patch in_turn in_range reset_by moved_on patch_by
    broken_by good_length
    numbers added all_fit withholds keywords_of is_separator lower pieces filled hash_of xor32 word
queries = (refl, refl, refl, refl)

-- an entry of 3 is far for TTL 2; an entry that is Infinity is far for any TTL
fars : (far 8 2 3 ≡ true) × (far 8 3 3 ≡ false) × (far 2 6 2 ≡ true)
fars = (refl, refl, refl)

-- in order: between runs place 1 is next; the mark of a broken table alone counts
orders : (table_in_order 4 (at_rest waiting 4 8) ≡ true)
    × (table_in_order 3 (at_rest waiting 4 8) ≡ false)
    × (table_in_order 4 (at_rest settled 5 8) ≡ false)
    × (table_in_order 4 (at_rest settled 4 128) ≡ false)
    × (table_in_order 4 (at_rest running 4 8) ≡ false)
    × (table_in_order 4 (at_rest broken 5 0) ≡ true)
    × (table_in_order 4 (at_rest 5 4 8) ≡ false)
unfolding table_in_order good_length
orders = (refl, refl, refl, refl, refl, refl, refl)
