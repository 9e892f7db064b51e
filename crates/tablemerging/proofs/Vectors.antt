-- Made tables of a few entries, by computation.
-- Assumes nothing.
use Prim.Native.Nat.{ℕ}
use mathlib.Core.Path.{◌≡◌, refl}
use mathlib.Core.Bool.{not}
use mathlib.Core.List.{List, [], ◌∷◌, ◌++◌}
use lib.Dec.{eqb}
use lib.ListN.{length, replicate}
use Rattle.laws.specs.Text.{codes}
use Rattle.ascii.specs.Text.{lower}
use Rattle.keywords.specs.Keywords.{keywords_of, pieces, filled, is_separator}
use Rattle.keywords.specs.Hash.{xor32, word, hash_of}
use Rattle.tables.specs.Tables.{Held, at_rest, settled}
use Rattle.nametable.specs.Table.{own_places, with_ones}
use Rattle.tablemerging.specs.Merging.{covered, reaching, distances, nearest, relayed_entries, made_entries}
use Rattle.tablemerging.specs.Merging.{picked_tables}

-- a settled table
table : ℕ → List ℕ → Held
table infinity es = record { table = at_rest settled (length es) infinity; entries = es }

-- two tables of unlike length and Infinity: one has place 1 of 4 at distance 1, the other places 2 and 7 of 8 at 5 and
-- 7
near : Held
near = table 3 (3 ∷ 1 ∷ 3 ∷ 3 ∷ [])

far : Held
far = table 8 (8 ∷ 8 ∷ 5 ∷ 8 ∷ 8 ∷ 8 ∷ 8 ∷ 7 ∷ [])

-- of both, at the length of either, and at others; of the second alone
record Lengths : Type 0 where
  four : made_entries 8 4 [] (near ∷ far ∷ []) ≡ 8 ∷ 2 ∷ 8 ∷ 8 ∷ []
  eight : made_entries 8 8 [] (near ∷ far ∷ []) ≡ 8 ∷ 8 ∷ 2 ∷ 2 ∷ 8 ∷ 8 ∷ 8 ∷ 8 ∷ []
  sixteen : made_entries 8 16 [] (far ∷ [])
      ≡ 8 ∷ 8 ∷ 8 ∷ 8 ∷ 6 ∷ 6 ∷ 8 ∷ 8 ∷ 8 ∷ 8 ∷ 8 ∷ 8 ∷ 8 ∷ 8 ∷ 8 ∷ 8 ∷ []
  alone : made_entries 8 4 [] (far ∷ []) ≡ 8 ∷ 6 ∷ 8 ∷ 8 ∷ []
  swapped : made_entries 8 4 [] (far ∷ near ∷ []) ≡ 8 ∷ 2 ∷ 8 ∷ 8 ∷ []

lengths : Lengths
unfolding table near far covered reaching distances nearest relayed_entries made_entries own_places with_ones
lengths = record { four = refl; eight = refl; sixteen = refl; alone = refl; swapped = refl }

-- an entry that equals its own table's Infinity means none, and hides no other table's; one that equals another's
-- counts; none is above the Infinity that is written; bytes that no update leaves count as they stand; and without
-- tables all is Infinity
record Entries : Type 0 where
  none : made_entries 8 4 [] (table 3 (3 ∷ 3 ∷ 3 ∷ 3 ∷ []) ∷ far ∷ []) ≡ 8 ∷ 6 ∷ 8 ∷ 8 ∷ []
  another : made_entries 8 4 [] (table 3 (3 ∷ 3 ∷ 3 ∷ 3 ∷ []) ∷ table 8 (3 ∷ 4 ∷ 8 ∷ 8 ∷ []) ∷ []) ≡ 4 ∷ 5 ∷ 8 ∷ 8 ∷ []
  above : made_entries 8 4 [] (table 3 (4 ∷ 5 ∷ 6 ∷ 3 ∷ []) ∷ []) ≡ 5 ∷ 6 ∷ 7 ∷ 8 ∷ []
  others : made_entries 8 4 [] (table 127 (2 ∷ 3 ∷ 7 ∷ 8 ∷ []) ∷ table 2 (2 ∷ 2 ∷ 1 ∷ 2 ∷ []) ∷ []) ≡ 3 ∷ 4 ∷ 2 ∷ 8 ∷ []
  most : made_entries 8 4 [] (table 127 (6 ∷ 99 ∷ 126 ∷ 127 ∷ []) ∷ []) ≡ 7 ∷ 8 ∷ 8 ∷ 8 ∷ []
  bytes : made_entries 8 4 [] (table 8 (0 ∷ 200 ∷ 255 ∷ 9 ∷ []) ∷ []) ≡ 1 ∷ 8 ∷ 8 ∷ 8 ∷ []
  without : made_entries 8 4 [] [] ≡ 8 ∷ 8 ∷ 8 ∷ 8 ∷ []

entries : Entries
unfolding table far covered reaching distances nearest relayed_entries made_entries own_places with_ones
entries = record { none = refl; another = refl; above = refl; others = refl; most = refl; bytes = refl; without = refl }

-- a keyword of an own name, "eb" at place 3 of 4, is at 1, whatever the tables have there
own : made_entries 8 4 (codes "eb" ∷ []) (table 8 (8 ∷ 8 ∷ 4 ∷ 0 ∷ []) ∷ far ∷ []) ≡ 8 ∷ 6 ∷ 5 ∷ 1 ∷ []
unfolding table far covered reaching distances nearest relayed_entries made_entries own_places with_ones lower is_separator
    word xor32 hash_of keywords_of pieces filled
own = refl

-- a block of many: 64 entries into four, of which each takes 16
blocks : made_entries 8 4 [] (table 8 (replicate 48 8 ++ (5 ∷ replicate 15 8)) ∷ []) ≡ 8 ∷ 8 ∷ 8 ∷ 6 ∷ []
unfolding table covered reaching distances nearest relayed_entries made_entries own_places with_ones
blocks = refl

-- of three, the first and the last are picked
picked : picked_tables (λ k. not (eqb k 1)) (λ k. table 8 (k ∷ [])) (0 ∷ 1 ∷ 2 ∷ [])
    ≡ table 8 (0 ∷ []) ∷ table 8 (2 ∷ []) ∷ []
unfolding table picked_tables
picked = refl
