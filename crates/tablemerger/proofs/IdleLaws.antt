-- A table whose Infinity lowers no entry: the entries that it is merged into are lowered by each of its entries. And
-- merging leaves no entry above what it was.
-- Assumes nothing.
use Prim.Native.Nat.{ℕ, zero, suc, ◌+◌, ◌≤◌, ◌<◌, min}
use mathlib.Core.Path.{◌≡◌, sym, ap, ◌∙◌}
use mathlib.Core.List.{List, [], ◌∷◌}
use native.Mathlib.Decide.{dec_le}
use native.Mathlib.Omega.{arith}
use lib.Dec.{eqb}
use lib.ListN.{length, get_or, replicate, get_or-eq_default}
use lib.Seq.{ext_get_or}
use borrow.Author.Tests.{eqb-true}
use Rattle.laws.proofs.Refusals.{of_choice}
use Rattle.tablemerging.specs.Merging.{covered, reaching, nearest, merged}
use Rattle.tablemerging.proofs.MergeLaws.{place-length, place_at, merged-length, merged-at}
use Rattle.tablemerging.proofs.Words.{nearest-most}
use Rattle.tablemerger.specs.Lowering.{lowered, Within}
use Rattle.tablemerger.proofs.MergeSteps.{covered_same}

-- ---- lowered entries

module _ (es xs : List ℕ) where
  pub lowered-length : length (lowered es xs) ≡ length xs
  unfolding lowered
  lowered-length = place-length _ 0 xs

  pub lowered-at : (i : ℕ) → i < length xs → get_or (lowered es xs) i 0 ≡ min (get_or es i 0 + 1) (get_or xs i 0)
  unfolding lowered
  lowered-at i h =
      let e : 0 + i ≡ i = omega arith in
      place_at _ 0 i xs h ∙ ap (λ n. min (get_or es n 0 + 1) (get_or xs i 0)) e

-- ---- no entry above the most

pub filled_within : (most n : ℕ) → Within most (replicate n most)
filled_within most zero i = omega arith
filled_within most (suc n) zero = omega arith
filled_within most (suc n) (suc i) = filled_within most n i

pub merged-within : (infinity most : ℕ) (es xs : List ℕ) → Within most xs → Within most (merged infinity es xs)
merged-within infinity most es xs w i = by (dec_le (length xs) i)
  where
    by : Dec (length xs ≤ i) → get_or (merged infinity es xs) i 0 ≤ most
    by (yes h) =
        let past : length (merged infinity es xs) ≤ i = rw merged-length h in
        omega (arith, get_or-eq_default (merged infinity es xs) 0 past)
    by (no h) =
        let ds = reaching infinity (covered (length xs) es i) in
        omega (arith, merged-at infinity es xs i (omega arith), nearest-most (get_or xs i 0) ds, w i)

-- ---- an Infinity that lowers nothing

module _ (infinity most : ℕ) (idle : most ≤ infinity + 1) where
  pub nearest_idle : (e x : ℕ) → x ≤ most → min (e + 1) x ≡ nearest x (reaching infinity (e ∷ []))
  unfolding nearest reaching
  nearest_idle e x h =
      of_choice (λ l. min (e + 1) x ≡ nearest x l) (eqb e infinity) [] (e ∷ [])
      (λ q. let s = eqb-true e infinity q in omega arith) (λ q. omega arith)

  pub lowered-merged : (es xs : List ℕ) → length es ≡ length xs → Within most xs
      → lowered es xs ≡ merged infinity es xs
  lowered-merged es xs l w =
      ext_get_or 0 (lowered es xs) (merged infinity es xs) (lowered-length es xs ∙ sym (merged-length infinity es xs))
      (λ i h. let low : i < length xs = rw (lowered-length es xs) at h in
      lowered-at es xs i low
      ∙ nearest_idle (get_or es i 0) (get_or xs i 0) (w i)
      ∙ ap (λ ds. nearest (get_or xs i 0) (reaching infinity ds)) (sym (covered_same (length xs) es i l low))
      ∙ sym (merged-at infinity es xs i low))

-- two such tables
pub lowered-two : (most i j : ℕ) → most ≤ min i j + 1 → (es ds xs : List ℕ) → length es ≡ length xs
    → length ds ≡ length xs → Within most xs → lowered ds (lowered es xs) ≡ merged j ds (merged i es xs)
lowered-two most i j idle es ds xs l k w =
    ap (lowered ds) (lowered-merged i most (omega arith) es xs l w)
    ∙ lowered-merged j most (omega arith) ds (merged i es xs) (k ∙ sym (merged-length i es xs))
    (merged-within i most es xs w)

-- entries each of which is lowered by two tables
pub lowered_by : (es ds xs ys : List ℕ) → length ys ≡ length xs
    → ((i : ℕ) → i < length xs → get_or ys i 0 ≡ min (min (get_or es i 0) (get_or ds i 0) + 1) (get_or xs i 0))
    → ys ≡ lowered ds (lowered es xs)
lowered_by es ds xs ys long f =
    ext_get_or 0 ys (lowered ds (lowered es xs))
    (long ∙ sym (lowered-length ds (lowered es xs) ∙ lowered-length es xs))
    (λ i h. let g : i < length xs = rw long at h in
    let k : i < length (lowered es xs) = rw (lowered-length es xs) g in
    omega (arith, f i g, lowered-at ds (lowered es xs) i k, lowered-at es xs i g))
