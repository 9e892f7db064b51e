-- Differences of entries as numbers of `bits` bits: each is in range, and adding it to the old entry gives the new one.
-- Assumes nothing.
use Prim.Native.Nat.{ℕ, suc, ◌+◌, ◌-◌, ◌*◌, ◌^◌, ◌≤◌, ◌<◌}
use mathlib.Core.Path.{◌≡◌, refl, ap}
use mathlib.Core.Bool.{Bool, true, false, cond}
use mathlib.Core.List.{List, [], ◌∷◌}
use native.Mathlib.Omega.{arith}
use lib.Dec.{leb}
use borrow.Author.Tests.{leb-true, leb-false}
use lib.ListN.{length}
use Rattle.laws.proofs.Chunks.{Each, and_both, and_first, and_second}
use Rattle.tables.specs.Patch.{half, gain, loss, sum_of, fits, added, all_fit}
use Rattle.tables.proofs.PatchFacts.{Width, Below, small-number, large-number, twice_half, fits-exactly}
use Rattle.tablemessages.specs.Writer.{near, all_near, raw, raws}

-- the difference of two entries is a number of `bits` bits
pub record Reaches (bits e b : ℕ) : Type 0 where
  pub up : e < b + half bits
  pub down : b ≤ e + half bits

-- its raw number: in range, and adding it leads from b to e
pub record Leads (bits e b v : ℕ) : Type 0 where
  pub small : v < 2 ^ bits
  pub sum : b + gain bits v ≡ e + loss bits v

pub raw_leads : {bits : ℕ} → Width bits → (e b : ℕ) → Reaches bits e b → Leads bits e b (raw bits e b)
raw_leads {bits} w e b r = go (leb b e) refl (twice_half w)
  where
    go : (t : Bool) → leb b e ≡ t → (2 ^ bits ≡ half bits * 2) × (0 < half bits)
        → Leads bits e b (cond t (e - b) (2 ^ bits + e - b))
    go true q two =
        let le : b ≤ e = leb-true b e q in
        let up : e < b + half bits = r.up in
        let low : e - b < half bits = omega arith in
        let g : gain bits (e - b) ≡ e - b = (small-number bits (e - b) low).0 in
        let l : loss bits (e - b) ≡ 0 = (small-number bits (e - b) low).1 in
        record { small = omega arith; sum = rw (g, l) (omega arith) }
    go false q two =
        let lt : e < b = leb-false b e q in
        let down : b ≤ e + half bits = r.down in
        let high : half bits ≤ 2 ^ bits + e - b = omega arith in
        let g : gain bits (2 ^ bits + e - b) ≡ 0 = (large-number bits (2 ^ bits + e - b) high).0 in
        let l : loss bits (2 ^ bits + e - b) ≡ 2 ^ bits - (2 ^ bits + e - b) = (large-number bits
        (2 ^ bits + e - b) high).1 in
        record { small = omega arith; sum = rw (g, l) (omega arith) }

-- .. so the sum is e, and fits where e does
pub raw-sum : {bits : ℕ} → Width bits → (e b : ℕ) → Reaches bits e b → sum_of bits (raw bits e b) b ≡ e
raw-sum {bits} w e b r =
    let s : b + gain bits (raw bits e b) ≡ e + loss bits (raw bits e b) = (raw_leads w e b r).sum in
    omega arith

pub raw-fits : {bits : ℕ} → Width bits → (infinity e b : ℕ) → Reaches bits e b → (1 ≤ e) × (e ≤ infinity)
    → fits bits infinity (raw bits e b) b ≡ true
raw-fits {bits} w infinity e b r h =
    let s : b + gain bits (raw bits e b) ≡ e + loss bits (raw bits e b) = (raw_leads w e b r).sum in
    (fits-exactly bits infinity (raw bits e b) b).1 (record { low = omega arith; high = omega arith })

-- two tables of one length whose differences are all numbers of `bits` bits
abbrev pub AllReach : ℕ → List ℕ → List ℕ → Type 0
AllReach bits [] [] = Unit {0}
AllReach bits [] (b ∷ bs) = ⊥
AllReach bits (e ∷ es) [] = ⊥
AllReach bits (e ∷ es) (b ∷ bs) = Reaches bits e b × AllReach bits es bs

-- 4 bits exactly where every difference is in -8..7
pub near-reaches : (e b : ℕ) → near e b ≡ true → Reaches 4 e b
near-reaches e b h =
    let up : e ≤ b + 7 = leb-true e (b + 7) (and_first (leb e (b + 7)) (leb b (e + 8)) h) in
    let down : b ≤ e + 8 = leb-true b (e + 8) (and_second (leb e (b + 7)) (leb b (e + 8)) h) in
    record { up = omega arith; down = omega arith }

pub all_near_lem : (es bs : List ℕ) → length es ≡ length bs → all_near es bs ≡ true → AllReach 4 es bs
unfolding all_near
all_near_lem [] [] l h = tt
all_near_lem [] (b ∷ bs) l h = absurd (omega arith)
all_near_lem (e ∷ es) [] l h = absurd (omega arith)
all_near_lem (e ∷ es) (b ∷ bs) l h = (
  near-reaches e b (and_first (near e b) (all_near es bs) h),
  all_near_lem es bs (omega arith) (and_second (near e b) (all_near es bs) h),
)

-- entries up to 127 are within 8 bits of each other
abbrev pub Entries : ℕ → List ℕ → Type 0
Entries infinity es = Each (λ e. (1 ≤ e) × (e ≤ infinity)) es

pub byte-reaches : (e b : ℕ) → e ≤ 127 → b ≤ 127 → Reaches 8 e b
byte-reaches e b p q = record { up = omega arith; down = omega arith }

pub all-byte : (infinity : ℕ) → infinity ≤ 127 → (es bs : List ℕ) → length es ≡ length bs → Entries infinity es
    → Entries infinity bs → AllReach 8 es bs
all-byte infinity k [] [] l p q = tt
all-byte infinity k [] (b ∷ bs) l p q = absurd (omega arith)
all-byte infinity k (e ∷ es) [] l p q = absurd (omega arith)
all-byte infinity k (e ∷ es) (b ∷ bs) l p q =
    (byte-reaches e b (omega arith) (omega arith), all-byte infinity k es bs (omega arith) p.1 q.1)

-- the raw numbers of a table: one for each entry, all in range, all sums fit, and the sums are the new table
module _ {bits : ℕ} (w : Width bits) where
  pub raws-length : (es bs : List ℕ) → AllReach bits es bs → length (raws bits es bs) ≡ length es
  unfolding raws
  raws-length [] [] h = refl
  raws-length [] (b ∷ bs) h = absurd h
  raws-length (e ∷ es) [] h = absurd h
  raws-length (e ∷ es) (b ∷ bs) h = ap suc (raws-length es bs h.1)

  pub raws-below : (es bs : List ℕ) → AllReach bits es bs → Below (2 ^ bits) (raws bits es bs)
  unfolding raws
  raws-below [] [] h = tt
  raws-below [] (b ∷ bs) h = absurd h
  raws-below (e ∷ es) [] h = absurd h
  raws-below (e ∷ es) (b ∷ bs) h = ((raw_leads w e b h.0).small, raws-below es bs h.1)

  pub raws-added : (es bs : List ℕ) → AllReach bits es bs → added bits (raws bits es bs) bs ≡ es
  unfolding raws added
  raws-added [] [] h = refl
  raws-added [] (b ∷ bs) h = absurd h
  raws-added (e ∷ es) [] h = absurd h
  raws-added (e ∷ es) (b ∷ bs) h = rw (raw-sum w e b h.0, raws-added es bs h.1)

  pub raws-fit : (infinity : ℕ) (es bs : List ℕ) → AllReach bits es bs → Entries infinity es → all_fit bits infinity
      (raws bits es bs) bs ≡ true
  unfolding raws all_fit
  raws-fit infinity [] [] h k = refl
  raws-fit infinity [] (b ∷ bs) h k = absurd h
  raws-fit infinity (e ∷ es) [] h k = absurd h
  raws-fit infinity (e ∷ es) (b ∷ bs) h k = and_both (raw-fits w infinity e b h.0 k.0)
      (raws-fit infinity es bs h.1 k.1)
