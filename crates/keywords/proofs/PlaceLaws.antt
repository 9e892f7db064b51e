-- Laws of places, for every number of bits at once.
use mathlib.Core.Path.{◌≡◌, sym}
use mathlib.Core.List.{List, map}
use mathlib.Core.Logic.{◌⊎◌, inl, inr}
use Prim.Native.Nat.{ℕ, ◌+◌, ◌-◌, ◌*◌, ◌/◌, ◌^◌, ◌≤◌, ◌<◌}
use native.Mathlib.Nat.{mul_comm, mul-lt-mul_of_pos_right, div-lt_iff_lt-mul, mul-div-mul_right}
use native.Mathlib.Decide.{dec_le}
use native.Mathlib.Omega.{arith}
use lib.Pow.{pow_pos, pow-add, shr_lt, shr-shr}
use Rattle.ascii.specs.Text.{lower}
use Rattle.keywords.specs.Hash.{hash_of, place_of, scaled, place_in}
use Rattle.keywords.proofs.HashLaws.{hash-below, hash-lower}

pub place-lower : (b : ℕ) (k : List ℕ) → place_of b (map lower k) ≡ place_of b k
place-lower b k = rw (hash-lower k)

-- a place in a table is the place in a table with 2 to the power c times as many entries, cut down by as many
pub place-cut : (b c : ℕ) (k : List ℕ) → b + c ≤ 32 → place_of b k ≡ place_of (b + c) k / 2 ^ c
place-cut b c k h =
    let e : 32 - (b + c) + c ≡ 32 - b = omega arith in
    sym (rw e at (shr-shr (hash_of k) (32 - (b + c)) c))

even_or_odd : (p q : ℕ) → q ≡ p / 2 → (p ≡ 2 * q) ⊎ (p ≡ 2 * q + 1)
even_or_odd p q e = by (dec_le p (2 * q))
  where
    by : Dec (p ≤ 2 * q) → (p ≡ 2 * q) ⊎ (p ≡ 2 * q + 1)
    by (yes h) = inl (omega arith)
    by (no h) = inr (omega arith)

-- a place p is 2p or 2p + 1 with one bit more
pub place-more : (b : ℕ) (k : List ℕ) → b < 32 → (place_of (b + 1) k ≡ 2 * place_of b k)
    ⊎ (place_of (b + 1) k ≡ 2 * place_of b k + 1)
place-more b k h = even_or_odd (place_of (b + 1) k) (place_of b k) (place-cut b 1 k (omega arith))

pub place-below : (b : ℕ) (k : List ℕ) → b ≤ 32 → place_of b k < 2 ^ b
place-below b k h =
    let e : b + (32 - b) ≡ 32 = omega arith in
    shr_lt b (32 - b) (rw e (hash-below k))

-- no bits leave one place, and from 32 on the place is the whole hash
pub place_none : (k : List ℕ) → place_of 0 k ≡ 0
place_none k = let h = hash-below k in omega arith

pub place-whole : (b : ℕ) (k : List ℕ) → 32 ≤ b → place_of b k ≡ hash_of k
place-whole b k h =
    let e : 32 - b ≡ 0 = omega arith in
    rw e (omega arith)

pub scaled-below : (n h : ℕ) → h < 2 ^ 32 → 0 < n → scaled n h < n
scaled-below n h hh hn = (div-lt_iff_lt-mul (pow_pos 32)).1 (rw (mul_comm n (2 ^ 32)) (mul-lt-mul_of_pos_right hh hn))

scaled-power : (h d b : ℕ) → h * 2 ^ b / 2 ^ (d + b) ≡ h / 2 ^ d
scaled-power h d b = rw (pow-add 2 d b) (mul-div-mul_right h (2 ^ d) (pow_pos b))

-- a table whose length is a power of two
pub place-scaled : (b : ℕ) (k : List ℕ) → b ≤ 32 → place_in (2 ^ b) k ≡ place_of b k
place-scaled b k h =
    let e : 32 - b + b ≡ 32 = omega arith in
    rw e at (scaled-power (hash_of k) (32 - b) b)
