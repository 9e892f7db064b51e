-- The entries of a table that is made of the station's own names and of other tables (RULES 23.4 to 23.8).
use Rattle.std.specs.Prelude.{ℕ, ◌+◌, ◌*◌, ◌/◌, min, suc, Bool, cond, List, [], ◌∷◌, ◌++◌, map, eqb, leb, length, take, drop}
use Rattle.laws.specs.Numbers.{counting}
use Rattle.tables.specs.Tables.{Held}
use Rattle.nametable.specs.Table.{own_places, with_ones}

-- the entries of a table that place i of one of n entries takes the least of: into a shorter table those that it
-- covers, into a longer the one that covers it
unfoldable pub covered : ℕ → List ℕ → ℕ → List ℕ
covered n es i =
    cond (leb n (length es)) (take (length es / n) (drop (i * (length es / n)) es))
    (take 1 (drop (i / (n / length es)) es))

-- of these the entries that count: one that equals its own table's Infinity means none
unfoldable pub reaching : ℕ → List ℕ → List ℕ
reaching infinity [] = []
reaching infinity (e ∷ es) = cond (eqb e infinity) (reaching infinity es) (e ∷ reaching infinity es)

-- all that counts at place i of n, of some tables
unfoldable pub distances : ℕ → List Held → ℕ → List ℕ
distances n [] i = []
distances n (h ∷ hs) i = reaching h.table.infinity (covered n h.entries i) ++ distances n hs i

-- one more than the least of these, and never above Infinity, which also stands where there is none
unfoldable pub nearest : ℕ → List ℕ → ℕ
nearest infinity [] = infinity
nearest infinity (e ∷ es) = min (e + 1) (nearest infinity es)

-- the entries by the tables alone
unfoldable pub relayed_entries : ℕ → ℕ → List Held → List ℕ
relayed_entries infinity n hs = map (λ i. nearest infinity (distances n hs i)) (counting n 0)

-- and 1 at each place where a keyword of an own name falls
unfoldable pub made_entries : ℕ → ℕ → List (List ℕ) → List Held → List ℕ
made_entries infinity n names hs = with_ones (own_places n names) (relayed_entries infinity n hs)

-- ---- which tables

-- those of the tables that `held` gives for some numbers whose number is picked
unfoldable pub picked_tables : (ℕ → Bool) → (ℕ → Held) → List ℕ → List Held
picked_tables picked held [] = []
picked_tables picked held (k ∷ ks) = cond (picked k) (held k ∷ []) [] ++ picked_tables picked held ks

-- ---- one table after another, as the code has it

-- what f makes of each element and its place, places counting from i
unfoldable pub each_place : (ℕ → ℕ → ℕ) → ℕ → List ℕ → List ℕ
each_place f i [] = []
each_place f i (x ∷ xs) = f i x ∷ each_place f (suc i) xs

-- entries xs with one more table merged into them, of entries es and this Infinity
unfoldable pub merged : ℕ → List ℕ → List ℕ → List ℕ
merged infinity es xs = each_place (λ i x. nearest x (reaching infinity (covered (length xs) es i))) 0 xs

unfoldable pub merged_all : List Held → List ℕ → List ℕ
merged_all [] xs = xs
merged_all (h ∷ hs) xs = merged_all hs (merged h.table.infinity h.entries xs)
