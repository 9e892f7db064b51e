-- One table merged after another: what one more table does to an entry, that all of them leave as many entries, and
-- that merged into Infinity everywhere they come to the entries by the tables.
-- Assumes nothing.
use Prim.Native.Nat.{ℕ, zero, suc, ◌+◌, ◌≤◌, ◌<◌, min}
use mathlib.Core.Path.{◌≡◌, refl, sym, ap, ap₂, ◌∙◌}
use mathlib.Core.Bool.{Bool, cond}
use mathlib.Core.List.{List, [], ◌∷◌, ◌++◌}
use native.Mathlib.Omega.{arith}
use lib.ListN.{length, get_or, replicate, length-replicate, length-map, get_or-replicate}
use lib.Seq.{ext_get_or}
use Rattle.laws.specs.Numbers.{counting}
use Rattle.laws.proofs.Ranks.{each_at}
use Rattle.tables.specs.Tables.{Held}
use Rattle.tablemerging.specs.Merging.{covered, reaching, distances, nearest, relayed_entries}
use Rattle.tablemerging.specs.Merging.{picked_tables, each_place, merged, merged_all}
use Rattle.tablemerging.proofs.Lengths.{counting-length}

-- ---- the nearest of some entries, and then of more

nearest-min : (a x : ℕ) (es : List ℕ) → nearest (min a x) es ≡ min a (nearest x es)
unfolding nearest
nearest-min a x [] = refl
nearest-min a x (e ∷ es) = ap (min (e + 1)) (nearest-min a x es) ∙ omega arith

pub nearest_append : (x : ℕ) (ds es : List ℕ) → nearest (nearest x ds) es ≡ nearest x (ds ++ es)
unfolding nearest
nearest_append x [] es = refl
nearest_append x (d ∷ ds) es = nearest-min (d + 1) (nearest x ds) es ∙ ap (min (d + 1)) (nearest_append x ds es)

-- ---- what is made of each element and its place

module _ (f : ℕ → ℕ → ℕ) where
  pub place-length : (i : ℕ) (xs : List ℕ) → length (each_place f i xs) ≡ length xs
  unfolding each_place
  place-length i [] = refl
  place-length i (x ∷ xs) = ap suc (place-length (suc i) xs)

  pub place_at : (i k : ℕ) (xs : List ℕ) → k < length xs → get_or (each_place f i xs) k 0 ≡ f (i + k) (get_or xs k 0)
  unfolding each_place
  place_at i k [] h = absurd (omega arith)
  place_at i zero (x ∷ xs) h = let e : i ≡ i + 0 = omega arith in ap (λ n. f n x) e
  place_at i (suc k) (x ∷ xs) h =
      let e : suc i + k ≡ i + suc k = omega arith in
      place_at (suc i) k xs (omega arith) ∙ ap (λ n. f n (get_or xs k 0)) e

-- ---- numbers in a row

pub counting-at : (n k : ℕ) → k < n → get_or (counting n 0) k 0 ≡ k
counting-at n k h = by n 0 k h ∙ omega arith
  where
    by : (n from k : ℕ) → k < n → get_or (counting n from) k 0 ≡ from + k
    by zero from k h = absurd (omega arith)
    by (suc n) from zero h = omega arith
    by (suc n) from (suc k) h = by n (suc from) k (omega arith) ∙ omega arith

-- ---- which tables

-- what is picked goes by each number alone
pub picked_same : (f g : ℕ → Bool) (s t : ℕ → Held) (n from : ℕ)
    → ((k : ℕ) → from ≤ k → k < from + n → cond (f k) (s k ∷ []) [] ≡ cond (g k) (t k ∷ []) [])
    → picked_tables f s (counting n from) ≡ picked_tables g t (counting n from)
unfolding picked_tables
picked_same f g s t zero from h = refl
picked_same f g s t (suc n) from h =
    ap₂ ◌++◌ (h from (omega arith) (omega arith))
    (picked_same f g s t n (suc from) (λ k low high. h k (omega arith) (omega arith)))

-- ---- one more table

pub merged-length : (infinity : ℕ) (es xs : List ℕ) → length (merged infinity es xs) ≡ length xs
unfolding merged
merged-length infinity es xs = place-length _ 0 xs

pub merged-at : (infinity : ℕ) (es xs : List ℕ) (i : ℕ) → i < length xs
    → get_or (merged infinity es xs) i 0 ≡ nearest (get_or xs i 0) (reaching infinity (covered (length xs) es i))
unfolding merged
merged-at infinity es xs i h =
    let e : 0 + i ≡ i = omega arith in
    place_at _ 0 i xs h ∙ ap (λ n. nearest (get_or xs i 0) (reaching infinity (covered (length xs) es n))) e

-- ---- all tables

pub all-length : (hs : List Held) (xs : List ℕ) → length (merged_all hs xs) ≡ length xs
unfolding merged_all
all-length [] xs = refl
all-length (h ∷ hs) xs = all-length hs _ ∙ merged-length h.table.infinity h.entries xs

pub all_append : (hs gs : List Held) (xs : List ℕ) → merged_all (hs ++ gs) xs ≡ merged_all gs (merged_all hs xs)
unfolding merged_all
all_append [] gs xs = refl
all_append (h ∷ hs) gs xs = all_append hs gs (merged h.table.infinity h.entries xs)

pub all-at : (hs : List Held) (xs : List ℕ) (i : ℕ) → i < length xs
    → get_or (merged_all hs xs) i 0 ≡ nearest (get_or xs i 0) (distances (length xs) hs i)
unfolding merged_all distances nearest
all-at [] xs i l = refl
all-at (h ∷ hs) xs i l =
    let k = merged-length h.table.infinity h.entries xs in
    all-at hs (merged h.table.infinity h.entries xs) i (rw k l)
    ∙ rw (k, merged-at h.table.infinity h.entries xs i l, nearest_append)

pub relayed-length : (infinity n : ℕ) (hs : List Held) → length (relayed_entries infinity n hs) ≡ n
unfolding relayed_entries
relayed-length infinity n hs = length-map (counting n 0) _ ∙ counting-length n 0

pub relayed-at : (infinity n : ℕ) (hs : List Held) (i : ℕ) → i < n
    → get_or (relayed_entries infinity n hs) i 0 ≡ nearest infinity (distances n hs i)
unfolding relayed_entries
relayed-at infinity n hs i h = each_at (λ i. nearest infinity (distances n hs i)) 0 n i h

-- merged into a table that is Infinity everywhere
pub all-merged : (infinity n : ℕ) (hs : List Held) → merged_all hs (replicate n infinity) ≡ relayed_entries infinity n hs
all-merged infinity n hs =
    let xs : List ℕ = replicate n infinity in
    let k : length xs ≡ n = length-replicate n infinity in
    let l : length (merged_all hs xs) ≡ n = all-length hs xs ∙ k in
    ext_get_or 0 (merged_all hs xs) (relayed_entries infinity n hs) (l ∙ sym (relayed-length infinity n hs))
    (λ i h. all-at hs xs i (omega arith)
    ∙ rw (k, get_or-replicate n i infinity 0 (omega arith)) (sym (relayed-at infinity n hs i (omega arith))))
