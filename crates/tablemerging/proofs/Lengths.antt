-- Tables of two lengths: the places of the one that a place of the other covers, by a common hash and in numbers, and
-- the entries at these places.
-- Assumes nothing.
use Prim.Native.Nat.{ℕ, zero, suc, ◌+◌, ◌*◌, ◌/◌, ◌-◌, ◌^◌, ◌≤◌, ◌<◌}
use mathlib.Core.Path.{◌≡◌, refl, sym, ap, ap₂, ◌∙◌}
use mathlib.Core.Bool.{Bool, true, false, cond}
use mathlib.Core.Logic.Iff
use mathlib.Core.Logic.{◌↔◌, ◌⊎◌, inl, inr, ⊎_elim}
use mathlib.Core.List.{List, [], ◌∷◌, map}
use mathlib.Core.List.{Memᴰ}
use native.Mathlib.Nat.{mul_comm, mul_left_comm, mul-le-mul_left, mul-le-mul_right, mul-div_right, mul-div_cancel}
use native.Mathlib.Nat.{mul-div-mul_left, div-eq_of_lt-le, div-mul-le_self, lt-div-mul-add, div-lt_iff_lt-mul}
use native.Mathlib.Decide.{dec_le}
use native.Mathlib.Omega.{arith}
use lib.Dec.{leb}
use lib.ListN.{length, get_or, take, drop, length-map}
use lib.Pow.{pow_pos, pow-add, shl_lt, shl-shr, shr-shr, shr_lt}
use lib.Seq.{ext_get_or}
use borrow.Author.Tests.{le-leb, lt-leb}
use Rattle.laws.specs.Numbers.{counting}
use Rattle.laws.proofs.Ranks.{each_at}
use Rattle.laws.proofs.Rings.{map-take}
use Rattle.keywords.specs.Hash.{hash_of, place_of}
use Rattle.keywords.proofs.HashLaws.{hash-below}
use Rattle.keywords.proofs.PlaceLaws.{place-below}
use Rattle.tablemerging.specs.Merging.{covered}
use Rattle.tablemerging.specs.Lengths.{Common, Covers, covered_places, OnceForAllLengths, CoveredByPlace}
use Rattle.tablemerging.specs.Lengths.{KeywordCovered}

-- ---- numbers in a row

pub counting-length : (n from : ℕ) → length (counting n from) ≡ n
counting-length zero from = refl
counting-length (suc n) from = ap suc (counting-length n (suc from))

-- of numbers in a row, the k from the p-th on
counting-part : (p k m from at : ℕ) → p + k ≤ m → at ≡ from + p → take k (drop p (counting m from)) ≡ counting k at
counting-part zero zero m from at h e = refl
counting-part zero (suc k) zero from at h e = absurd (omega arith)
counting-part zero (suc k) (suc m) from at h e =
    ap₂ ◌∷◌ (omega arith) (counting-part zero k m (suc from) (suc at) (omega arith) (omega arith))
counting-part (suc p) k zero from at h e = absurd (omega arith)
counting-part (suc p) k (suc m) from at h e = counting-part p k m (suc from) at (omega arith) (omega arith)

-- which numbers these are
counted : (j n from : ℕ) → Memᴰ j (counting n from) → (from ≤ j) × (j < from + n)
counted j zero from m = absurd (mathlib.Core.List.Memᴰ.not-nil m)
counted j (suc n) from m =
    ⊎_elim (λ e. (omega arith, omega arith)) (λ t. let r = counted j n (suc from) t in (omega arith, omega arith))
    (mathlib.Core.List.Memᴰ.cases_cons m)

counts : (j n from : ℕ) → (from ≤ j) × (j < from + n) → Memᴰ j (counting n from)
counts j zero from h = absurd (omega arith)
counts j (suc n) from h = by (dec_le j from) (λ g. counts j n (suc from) g)
  where
    by : Dec (j ≤ from) → ((suc from ≤ j) × (j < suc from + n) → Memᴰ j (counting n (suc from)))
        → Memᴰ j (counting (suc n) from)
    by (yes l) more = let e : j ≡ from = omega arith in mathlib.Core.List.Memᴰ.head e
    by (no g) more = mathlib.Core.List.Memᴰ.tail (more (omega arith))

-- ---- a length and k times as many

module _ (n k : ℕ) (some : 0 < n) (times : 0 < k) where
  -- a place of the short one covers k of the long one
  block : (i : ℕ) → i < n → covered_places n (n * k) i ≡ counting k (i * k)
  unfolding covered
  block i h =
      rw (counting-length (n * k) 0, le-leb n (n * k) (omega (arith, mul-le-mul_left n times)), mul-div_right k some)
      (counting-part (i * k) k (n * k) 0 (i * k) (omega (arith, mul-le-mul_right k h)) (omega arith))

  short : (i j : ℕ) → i < n → Memᴰ j (covered_places n (n * k) i) ↔ (j / k ≡ i)
  short i j h = rw (block i h) (
    (λ m. let r = counted j k (i * k) m in div-eq_of_lt-le k r.0 (omega arith)),
    (λ e. counts j k (i * k) (rw (← e) (div-mul-le_self j k, lt-div-mul-add times))),
  )

  -- scaled from one length to the other
  scales : (i j : ℕ) → ((j * n / (n * k) ≡ i) ⊎ (i * (n * k) / n ≡ j)) ↔ (j / k ≡ i)
  scales i j =
      let up : j * n / (n * k) ≡ j / k = rw (mul_comm j n) (mul-div-mul_left j k some) in
      let down : i * (n * k) / n ≡ i * k = rw (mul_left_comm i n k) (mul-div_right (i * k) some) in
      (⊎_elim (λ e. sym up ∙ e) (λ e. ap (λ p. p / k) (sym e ∙ down) ∙ mul-div_cancel i times), λ e. inl (up ∙ e))

-- and a place of the long one is covered by one of the short one
single : (n k : ℕ) → 0 < n → 0 < k → (j : ℕ) → j < n * k → covered_places (n * k) n j ≡ counting 1 (j / k)
unfolding covered
single n zero some times j h = absurd (omega arith)
single n (suc zero) some times j h =
    let e : n * 1 ≡ n = omega arith in
    let f : j * 1 ≡ j / 1 = omega arith in
    rw e (rw (e, f) at (block n 1 some times j (omega arith)))
single n (suc (suc k)) some times j h =
    rw (counting-length n 0, lt-leb (n * suc (suc k)) n (omega arith), mul-div_right (suc (suc k)) some)
    (counting-part (j / suc (suc k)) 1 n 0 (j / suc (suc k))
    (omega (arith, (div-lt_iff_lt-mul {y = n} times).1 h)) (omega arith))

long : (n k i j : ℕ) → 0 < n → 0 < k → j < n * k → Memᴰ i (covered_places (n * k) n j) ↔ (j / k ≡ i)
long n k i j some times h = rw (single n k some times j h)
    ((λ m. sym (mathlib.Core.List.Memᴰ.eq_of_singleton m)), (λ e. mathlib.Core.List.Memᴰ.head (sym e)))

-- ---- powers of two, the longer one second

-- a place that stands for some hash is one of the table's
pub common-below : {b i : ℕ} (c : ℕ) {j : ℕ} → Common b i c j → c ≤ 32 → j < 2 ^ c
common-below c m h =
    let e : c + (32 - c) ≡ 32 = omega arith in
    rw m.there at (shr_lt {n = m.hash} c (32 - c) (rw e m.below))

module _ (b c i j : ℕ) (order : b ≤ c) (most : c ≤ 32) where
  -- a common hash has the top bits of the longer one's place
  meets : j < 2 ^ c → Common b i c j ↔ (j / 2 ^ (c - b) ≡ i)
  meets h =
      let e : 32 - b ≡ 32 - c + (c - b) = omega arith in
      let w : c + (32 - c) ≡ 32 = omega arith in (
        (λ v. rw (← v.there, shr-shr, ← e) v.here),
        (λ q. record {
          hash = j * 2 ^ (32 - c);
          below = rw w at (shl_lt c (32 - c) h);
          here = rw (e, ← (shr-shr (j * 2 ^ (32 - c)) (32 - c) (c - b)), shl-shr) q;
          there = shl-shr j (32 - c);
        }),
      )

  longer : i < 2 ^ b → j < 2 ^ c → Covers b i c j
  longer hi hj =
      let e : b + (c - b) ≡ c = omega arith in
      let is : 2 ^ c ≡ 2 ^ b * 2 ^ (c - b) = rw e at (pow-add 2 b (c - b)) in
      let down : Memᴰ j (covered_places (2 ^ b) (2 ^ c) i) ↔ (j / 2 ^ (c - b) ≡ i) =
      rw is (short (2 ^ b) (2 ^ (c - b)) (pow_pos b) (pow_pos (c - b)) i j hi) in
      let up : Memᴰ i (covered_places (2 ^ c) (2 ^ b) j) ↔ (j / 2 ^ (c - b) ≡ i) =
      rw is (long (2 ^ b) (2 ^ (c - b)) i j (pow_pos b) (pow_pos (c - b)) (rw is at hj)) in
      record {
        common = Iff.trans down (Iff.symm (meets hj));
        scaled = Iff.trans down (Iff.symm (rw is (scales (2 ^ b) (2 ^ (c - b)) (pow_pos b) (pow_pos (c - b)) i j)));
        both_ways = Iff.trans down (Iff.symm up);
      }

-- the same with the longer one first
turned : (b i c j : ℕ) → Covers c j b i → Covers b i c j
turned b i c j v = record {
  common = Iff.trans (Iff.symm v.both_ways) (Iff.trans v.common (swap c j b i, swap b i c j));
  scaled = Iff.trans (Iff.symm v.both_ways) (Iff.trans v.scaled (⊎_elim inr inl, ⊎_elim inr inl));
  both_ways = Iff.symm v.both_ways;
}
  where
    swap : (b i c j : ℕ) → Common b i c j → Common c j b i
    swap b i c j w = record { hash = w.hash; below = w.below; here = w.there; there = w.here }

pub once_for_all-lengths : OnceForAllLengths
once_for_all-lengths b c hb hc i j hi hj = by (dec_le b c)
  where
    by : Dec (b ≤ c) → Covers b i c j
    by (yes h) = longer b c i j h hc hi hj
    by (no h) = turned b i c j (longer c b j i (omega arith) hb hj hi)

pub keyword_covered : KeywordCovered
keyword_covered b c hb hc k =
    (once_for_all-lengths b c hb hc (place_of b k) (place_of c k) (place-below b k hb) (place-below c k hc)).common.1
    (record { hash = hash_of k; below = hash-below k; here = refl; there = refl })

-- ---- the entries

module _ (f : ℕ → ℕ) where
  map-drop : (n : ℕ) (xs : List ℕ) → map f (drop n xs) ≡ drop n (map f xs)
  map-drop zero xs = refl
  map-drop (suc n) [] = refl
  map-drop (suc n) (x ∷ xs) = map-drop n xs

  map-either : (b : Bool) (k p q : ℕ) (xs : List ℕ) → map f (cond b (take k (drop p xs)) (take 1 (drop q xs)))
      ≡ cond b (take k (drop p (map f xs))) (take 1 (drop q (map f xs)))
  map-either true k p q xs = map-take f k (drop p xs) ∙ ap (take k) (map-drop p xs)
  map-either false k p q xs = map-take f 1 (drop q xs) ∙ ap (take 1) (map-drop q xs)

  map-covered : (n : ℕ) (es : List ℕ) (i : ℕ) → map f (covered n es i) ≡ covered n (map f es) i
  unfolding covered
  map-covered n es i =
      rw (length-map es f)
      (map-either (leb n (length es)) (length es / n) (i * (length es / n)) (i / (n / length es)) es)

pub covered-by-place : CoveredByPlace
covered-by-place n es i =
    let f : ℕ → ℕ = λ j. get_or es j 0 in
    let l = length-map (counting (length es) 0) f ∙ counting-length (length es) 0 in
    let e : map f (counting (length es) 0) ≡ es =
    ext_get_or 0 (map f (counting (length es) 0)) es l (λ j h. each_at f 0 (length es) j (rw l at h)) in
    sym (map-covered f n (counting (length es) 0) i ∙ ap (λ xs. covered n xs i) e)
