-- The data of a run: its length, and each byte from the entries it covers.
use Prim.Native.Nat.{ℕ, zero, suc, ◌+◌, ◌-◌, ◌*◌, ◌/◌, ◌%◌, ◌≤◌, ◌<◌, min}
use mathlib.Core.Path.{◌≡◌, refl, sym, ap, ap₂, ◌∙◌}
use mathlib.Core.Bool.{Bool, true, false, cond, ◌&&◌, and_assoc, and-eq-true_iff}
use mathlib.Core.List.{List, [], ◌∷◌}
use native.Mathlib.Omega.{arith}
use native.Mathlib.Numerals.{add-one}
use lib.ListN.{length, get_or, drop, length-replicate, get_or-replicate, drop_of_length-le}
use lib.Seq.{drop-cons}
use lib.Dec.{leb}
use borrow.Author.Tests.{le-leb, leb-true, leb-false}
use Rattle.tables.specs.Patch.{packed}
use Rattle.tables.proofs.TestLaws.{same_test}
use Rattle.tablemessages.specs.Writer.{base_of, near, all_near, raw, raws}
use Rattle.tablemessages.specs.Steps.{raw_in, pair_in, data_length}

-- one raw number for each entry
module _ (bits : ℕ) where
  pub raws-length : (es bs : List ℕ) → length bs ≡ length es → length (raws bits es bs) ≡ length es
  unfolding raws
  raws-length [] bs h = refl
  raws-length (e ∷ es) [] h = h
  raws-length (e ∷ es) (b ∷ bs) h = ap suc (raws-length es bs (omega arith))

  pub raws-at : (es bs : List ℕ) (i : ℕ) → length bs ≡ length es → i < length es
      → get_or (raws bits es bs) i 0 ≡ raw bits (get_or es i 0) (get_or bs i 0)
  unfolding raws
  raws-at [] bs i h k = absurd (omega arith)
  raws-at (e ∷ es) [] i h k = absurd (omega arith)
  raws-at (e ∷ es) (b ∷ bs) zero h k = refl
  raws-at (e ∷ es) (b ∷ bs) (suc i) h k = raws-at es bs i (omega arith) (omega arith)

-- 8 bits: each number is a byte
pub packed-eight : (rs : List ℕ) → packed 8 rs ≡ rs
unfolding packed
packed-eight [] = refl
packed-eight (u ∷ []) = refl
packed-eight (u ∷ v ∷ vs) = ap (λ l. u ∷ l) (packed-eight (v ∷ vs))

-- 4 bits: two numbers a byte
pub packed-four-length : (rs : List ℕ) → length (packed 4 rs) ≡ length rs / 2
unfolding packed
packed-four-length [] = refl
packed-four-length (u ∷ []) = refl
packed-four-length (u ∷ v ∷ vs) = omega (arith, packed-four-length vs)

pub packed-four-at : (rs : List ℕ) (j : ℕ) → 2 * j + 1 < length rs → get_or (packed 4 rs) j 0
    ≡ get_or rs (2 * j) 0 * 16 + get_or rs (2 * j + 1) 0
unfolding packed
packed-four-at [] j h = absurd (omega arith)
packed-four-at (u ∷ []) j h = absurd (omega arith)
packed-four-at (u ∷ v ∷ vs) zero h = refl
packed-four-at (u ∷ v ∷ vs) (suc j) h =
    let e : 2 * suc j ≡ suc (suc (2 * j)) = omega arith in
    let f : 2 * suc j + 1 ≡ suc (suc (2 * j + 1)) = omega arith in
    packed-four-at vs j (omega arith)
    ∙ sym (ap₂ (λ x y. get_or (u ∷ v ∷ vs) x 0 * 16 + get_or (u ∷ v ∷ vs) y 0) e f)

-- every difference fits: so does the one at i, and the test of those from i on
pub near-at : (es bs : List ℕ) (i : ℕ) → length bs ≡ length es → i < length es → all_near es bs ≡ true
    → near (get_or es i 0) (get_or bs i 0) ≡ true
unfolding all_near
near-at [] bs i h k a = absurd (omega arith)
near-at (e ∷ es) [] i h k a = absurd (omega arith)
near-at (e ∷ es) (b ∷ bs) zero h k a = ((and-eq-true_iff (near e b) (all_near es bs)).0 a).0
near-at (e ∷ es) (b ∷ bs) (suc i) h k a = near-at es bs i (omega arith) (omega arith)
    ((and-eq-true_iff (near e b) (all_near es bs)).0 a).1

module _ (es bs : List ℕ) (i : ℕ) where
  near_next : i < length es → i < length bs
      → all_near (drop i es) (drop i bs) ≡ near (get_or es i 0) (get_or bs i 0) && all_near (drop (i + 1) es)
      (drop (i + 1) bs)
  unfolding all_near
  near_next h k =
      ap₂ all_near (drop-cons es i 0 h) (drop-cons bs i 0 k)
      ∙ ap (λ n. near (get_or es i 0) (get_or bs i 0) && all_near (drop n es) (drop n bs)) (sym (add-one i))

  pub near-more : (good close : Bool) → i < length es → i < length bs → close ≡ near (get_or es i 0) (get_or bs i 0)
      → (good && all_near (drop i es) (drop i bs)) ≡ ((good && close) && all_near (drop (i + 1) es) (drop (i + 1) bs))
  near-more good close h k e =
      ap (λ t. good && t) (near_next h k)
      ∙ sym (and_assoc good (near (get_or es i 0) (get_or bs i 0)) (all_near (drop (i + 1) es) (drop (i + 1) bs)))
      ∙ rw e refl

  pub near-end : length es ≤ i → all_near (drop i es) (drop i bs) ≡ true
  unfolding all_near
  near-end h = ap (λ l. all_near l (drop i bs)) (drop_of_length-le es h)

-- what differences are taken from, entry by entry
pub base-at : (had : Bool) (old new : List ℕ) (infinity i : ℕ) → i < length new
    → get_or (base_of had old new infinity) i 0 ≡ cond had (get_or old i 0) infinity
base-at true old new infinity i h = refl
base-at false old new infinity i h = get_or-replicate (length new) i infinity 0 h

pub base-length : (had : Bool) (old new : List ℕ) (infinity : ℕ) → (had ≡ true → length old ≡ length new)
    → length (base_of had old new infinity) ≡ length new
base-length true old new infinity h = h refl
base-length false old new infinity h = length-replicate (length new) infinity

-- the run's data from the entries
module _ (new base : List ℕ) (like : length base ≡ length new) where
  pub data_length_lem : (small : Bool) → length (packed (cond small 4 8) (raws (cond small 4 8) new base))
      ≡ data_length small (length new)
  data_length_lem true = packed-four-length (raws 4 new base) ∙ ap (λ n. n / 2) (raws-length 4 new base like)
  data_length_lem false = ap length (packed-eight (raws 8 new base)) ∙ raws-length 8 new base like

  -- two entries a byte, the first in its first four bits
  pub pair-at : (j : ℕ) → j < length new / 2
      → get_or (packed 4 (raws 4 new base)) j 0
      ≡ pair_in new base (2 * j)
  pair-at j h =
      packed-four-at (raws 4 new base) j (omega (arith, raws-length 4 new base like))
      ∙ ap₂ (λ x y. x * 16 + y) (raws-at 4 new base (2 * j) like (omega arith))
      (raws-at 4 new base (2 * j + 1) like (omega arith))

  pub single-at : (j : ℕ) → j < length new → get_or (packed 8 (raws 8 new base)) j 0
      ≡ raw_in 256 (get_or new j 0) (get_or base j 0)
  single-at j h = ap (λ l. get_or l j 0) (packed-eight (raws 8 new base)) ∙ raws-at 8 new base j like h

-- a test against a sum that was cut at 255, which is as much as a byte can be
pub capped : (e n r : ℕ) → e < 256 → r ≡ min n 255 → leb e r ≡ leb e n
capped e n r h c =
    same_test (leb e r) (leb e n) (λ t. le-leb e n (omega (arith, leb-true e r t)))
    (λ t. le-leb e r (omega (arith, leb-true e n t)))

-- a difference taken modulo 256 ..
pub raw-eight : (e b : ℕ) → e < 256 → b < 256 → (e + 256 - b) % 256 ≡ raw_in 256 e b
raw-eight e b h k = by (leb b e) refl
  where
    by : (t : Bool) → leb b e ≡ t → (e + 256 - b) % 256 ≡ cond t (e - b) (256 + e - b)
    by true q = omega (arith, leb-true b e q)
    by false q = omega (arith, leb-false b e q)

-- .. and one in -8..7 modulo 16
raw-four : (e b m n : ℕ) → near e b ≡ true → m ≡ e % 16 → n ≡ b % 16 → (m + 16 - n) % 16 ≡ raw_in 16 e b
raw-four e b m n h p q = by (leb b e) refl (leb-true e (b + 7) k.0) (leb-true b (e + 8) k.1)
  where
    k : (leb e (b + 7) ≡ true) × (leb b (e + 8) ≡ true)
    k = (and-eq-true_iff (leb e (b + 7)) (leb b (e + 8))).0 h

    by : (t : Bool) → leb b e ≡ t → e ≤ b + 7 → b ≤ e + 8 → (m + 16 - n) % 16 ≡ cond t (e - b) (16 + e - b)
    by true t up down = omega (arith, leb-true b e t)
    by false t up down = omega (arith, leb-false b e t)

-- two such differences, of entries e and f from b and d, which are read as the numbers x and y
pub pair-raw : (e f b d x y r s : ℕ) → e < 256 → b < 256 → near e b ≡ true → near f d ≡ true
    → x ≡ e + 256 * f → y ≡ b + 256 * d
    → r ≡ (x % 16 + 16 - y % 16) % 16 → s ≡ (x / 256 % 16 + 16 - y / 256 % 16) % 16
    → r * 16 + s ≡ raw_in 16 e b * 16 + raw_in 16 f d
pair-raw e f b d x y r s h k n m p q u v =
    ap₂ (λ r s. r * 16 + s)
    (u ∙ raw-four e b (x % 16) (y % 16) n (omega arith) (omega arith))
    (v ∙ raw-four f d (x / 256 % 16) (y / 256 % 16) m (omega arith) (omega arith))
