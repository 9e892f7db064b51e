-- Tables and calls of a few names, by computation.
use Prim.Native.Nat.{ℕ}
use mathlib.Core.Path.{◌≡◌, refl}
use mathlib.Core.List.{List, [], ◌∷◌, ◌++◌}
use lib.ListN.{replicate}
use Rattle.ascii.specs.Text.{lower}
use Rattle.keywords.specs.Keywords.{keywords_of, pieces, filled, is_separator}
use Rattle.keywords.specs.Hash.{xor32, word, hash_of}
use Rattle.tables.specs.Tables.{good_length}
use Rattle.namearea.specs.Area.{count_in, span_in, spans_from}
use Rattle.namearea.specs.Good.{good_name, listable, pairwise, good_list}
use Rattle.nametable.specs.Table.{own_places, with_ones, own_entries, table_answer, table_out}

-- "eb", "ebckl", whose places in a table of four entries are 3 and 1, and both with a space between
eb : List ℕ
eb = 0x65 ∷ 0x62 ∷ []

ebckl : List ℕ
ebckl = 0x65 ∷ 0x62 ∷ 0x63 ∷ 0x6B ∷ 0x6C ∷ []

two : List ℕ
two = eb ++ (0x20 ∷ ebckl)

-- both keywords of one name; one each of two names; one keyword of two names, whatever the case of its letters; a name
-- of separators; and no name
entries : (own_entries 4 7 (two ∷ []) ≡ 7 ∷ 1 ∷ 7 ∷ 1 ∷ [])
    × (own_entries 4 7 (ebckl ∷ eb ∷ []) ≡ 7 ∷ 1 ∷ 7 ∷ 1 ∷ [])
    × (own_entries 4 7 (eb ∷ (0x20 ∷ 0x45 ∷ 0x42 ∷ []) ∷ []) ≡ 7 ∷ 7 ∷ 7 ∷ 1 ∷ [])
    × (own_entries 4 7 ((0x20 ∷ 0x20 ∷ []) ∷ []) ≡ 7 ∷ 7 ∷ 7 ∷ 7 ∷ [])
    × (own_entries 4 7 [] ≡ 7 ∷ 7 ∷ 7 ∷ 7 ∷ [])
unfolding eb ebckl two lower is_separator word xor32 hash_of keywords_of pieces filled own_places with_ones own_entries
entries = (refl, refl, refl, refl, refl)

-- an area that lists no name, one that lists "eb" at byte 4,100, and one whose count is 513
none : List ℕ
none = replicate 4100 0

one : List ℕ
one = 1 ∷ 0 ∷ 0 ∷ 0 ∷ 4 ∷ 16 ∷ 0 ∷ 0 ∷ 2 ∷ 0 ∷ 0 ∷ 0 ∷ (replicate 4088 0 ++ eb)

many : List ℕ
many = 1 ∷ 2 ∷ 0 ∷ 0 ∷ replicate 4096 0

-- 2 for a short area before all else, then 1, then 14 for the length and for Infinity, then 2 for the output
answers : (table_answer (replicate 4099 0) 6 1 0 ≡ 2)
    × (table_answer many 6 1 0 ≡ 1)
    × (table_answer none 6 7 0 ≡ 14)
    × (table_answer none 2 7 4 ≡ 14)
    × (table_answer none 4 1 4 ≡ 14)
    × (table_answer none 4 128 4 ≡ 14)
    × (table_answer none 4 7 3 ≡ 2)
    × (table_answer none 4 7 4 ≡ 0)
    × (table_answer one 4 127 4 ≡ 0)
unfolding eb none one many count_in span_in spans_from good_name listable pairwise good_list good_length table_answer
answers = (refl, refl, refl, refl, refl, refl, refl, refl, refl)

-- the entries at the front of the output; the byte behind them stays, and a refusal leaves all
outputs : (table_out one 4 7 (9 ∷ 9 ∷ 9 ∷ 9 ∷ 9 ∷ []) ≡ 7 ∷ 7 ∷ 7 ∷ 1 ∷ 9 ∷ [])
    × (table_out one 8 7 (9 ∷ 9 ∷ 9 ∷ 9 ∷ 9 ∷ []) ≡ 9 ∷ 9 ∷ 9 ∷ 9 ∷ 9 ∷ [])
unfolding eb one lower is_separator word xor32 hash_of keywords_of pieces filled own_places with_ones own_entries count_in
    span_in spans_from good_name listable pairwise good_list good_length table_answer table_out
outputs = (refl, refl)
