-- How many bytes the names of an area have: one, and all together, as sums over their places.
use Prim.Native.Nat.{ℕ, zero, suc, ◌+◌, ◌*◌, ◌≤◌, ◌<◌}
use mathlib.Core.Path.{◌≡◌, refl, sym, ap, ap₂, ◌∙◌}
use mathlib.Core.Bool.{true, not}
use mathlib.Core.List.{List, [], ◌∷◌, map}
use native.Mathlib.Omega.{arith}
use native.Mathlib.Numerals.{add-one}
use native.Mathlib.Decide.{ℕ_discrete}
use lib.Dec.{eqb, leb}
use lib.ListN.{length, drop}
use lib.Seq.{drop-drop}
use borrow.Author.Tests.{leb-true}
use Rattle.laws.specs.Tests.{any}
use Rattle.laws.proofs.Refusals.{each}
use Rattle.namearea.specs.declared.Span.{Span}
use Rattle.namearea.specs.Area.{count_in, span_in, span_at, spans_from, name_at, name_of, names_of, total}
use Rattle.namearea.specs.Good.{good_name, longest_name}
use Rattle.namearea.proofs.GoodLaws.{Listed, named-at, name-size}

-- a name that may be listed has 1 to 255 bytes
pub good-long : (x : List ℕ) → good_name x ≡ true → (1 ≤ length x) × (length x ≤ 255)
unfolding good_name
good-long x e =
    let t = each (leb 1 (length x) ∷ leb (length x) longest_name ∷ not (any (eqb 0) x) ∷ []) e in
    (leb-true 1 (length x) t.0, leb-true (length x) 255 t.1.0)

pub size-range : (a : List ℕ) → Listed a → (k : ℕ) → k < count_in a
    → (1 ≤ (span_at a k).size) × ((span_at a k).size ≤ 255)
size-range a l k h =
    rw (name-size a l k h) at (good-long (name_at a k) (named-at a l.named k h))

-- ---- the names together, one more each time

total-last : (f : Span → List ℕ) (n : ℕ) (d : List ℕ) → total (map f (spans_from (suc n) d))
    ≡ total (map f (spans_from n d)) + length (f (span_in (drop (8 * n) d)))
unfolding spans_from total
total-last f zero d = omega arith
total-last f (suc n) d =
    let h = total-last f n (drop 8 d) in
    let e : 8 + 8 * n ≡ 8 * suc n = omega arith in
    let g : drop (8 * n) (drop 8 d) ≡ drop (8 * suc n) d = drop-drop (8 * n) 8 d ∙ ap (λ k. drop k d) e in
    let i = ap (λ l. length (f (span_in l))) g in
    omega arith

pub total-next : (a : List ℕ) → Listed a → (i : ℕ) → i < count_in a
    → total (names_of (i + 1) a) ≡ total (names_of i a) + (span_at a i).size
total-next a l i h =
    ap (λ n. total (names_of n a)) (add-one i)
    ∙ total-last (name_of a) i (drop 4 a)
    ∙ ap (λ d. total (names_of i a) + length (name_of a (span_in d))) (drop-drop (8 * i) 4 a)
    ∙ ap (λ n. total (names_of i a) + n) (name-size a l i h)

pub total-none : (a : List ℕ) → total (names_of 0 a) ≡ 0
unfolding spans_from total
total-none a = refl

-- ---- sums of numbers, one for each place

unfoldable pub sum_to : (ℕ → ℕ) → ℕ → ℕ
sum_to f zero = 0
sum_to f (suc n) = sum_to f n + f n

pub sum_same : (f g : ℕ → ℕ) (n : ℕ) → ((j : ℕ) → j < n → f j ≡ g j) → sum_to f n ≡ sum_to g n
unfolding sum_to
sum_same f g zero h = refl
sum_same f g (suc n) h = ap₂ ◌+◌ (sum_same f g n (λ j l. h j (omega arith))) (h n (omega arith))

pub sum-none : (f : ℕ → ℕ) (n : ℕ) → ((j : ℕ) → j < n → f j ≡ 0) → sum_to f n ≡ 0
unfolding sum_to
sum-none f zero h = refl
sum-none f (suc n) h = ap₂ ◌+◌ (sum-none f n (λ j l. h j (omega arith))) (h n (omega arith))

-- one place adds its number, which was 0
pub sum_one : (f g : ℕ → ℕ) (n k : ℕ) → k < n → f k ≡ 0 → ((j : ℕ) → j < n → (j ≡ k → ⊥) → f j ≡ g j)
    → sum_to g n ≡ sum_to f n + g k
unfolding sum_to
sum_one f g zero k h z s = absurd (omega arith)
sum_one f g (suc n) k h z s = by (ℕ_discrete n k) (λ l. sum_one f g n k l z (λ j i. s j (omega arith)))
  where
    by : Dec (n ≡ k) → (k < n → sum_to g n ≡ sum_to f n + g k) → sum_to g (suc n) ≡ sum_to f (suc n) + g k
    by (yes e) rec =
        let o = sum_same f g n (λ j l. s j (omega arith) (λ i. omega arith)) in
        let p = ap f e in
        let q = ap g e in
        omega arith
    by (no e) rec =
        let o = rec (omega arith) in
        let p = s n (omega arith) e in
        omega arith

-- the sizes of all pairs are the bytes of all names
pub sizes-total : (a : List ℕ) → Listed a → (n : ℕ) → n ≤ count_in a
    → sum_to (λ j. (span_at a j).size) n ≡ total (names_of n a)
unfolding sum_to
sizes-total a l zero h = sym (total-none a)
sizes-total a l (suc n) h =
    let o = sizes-total a l n (omega arith) in
    let p = total-next a l n (omega arith) in
    let q = ap (λ m. total (names_of m a)) (add-one n) in
    omega arith

pub total-most : (a : List ℕ) → Listed a → (n : ℕ) → n ≤ count_in a → total (names_of n a) ≤ 255 * n
total-most a l zero h = let z = total-none a in omega arith
total-most a l (suc n) h =
    let o = total-most a l n (omega arith) in
    let p = total-next a l n (omega arith) in
    let q = ap (λ m. total (names_of m a)) (add-one n) in
    let r = size-range a l n (omega arith) in
    omega arith
