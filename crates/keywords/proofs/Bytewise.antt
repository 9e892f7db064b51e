-- Numbers byte by byte: an operation on bits, a difference and a quarter of a number, each from those of its bytes.
-- And facts about few numbers, by trying each.
use mathlib.Core.Path.{◌≡◌, refl, sym, ap, ap₂, ◌∙◌}
use mathlib.Core.Bool.{Bool, true, ◌&&◌}
use mathlib.Core.List.{List, [], ◌∷◌, map}
use Prim.Native.Nat.{ℕ, zero, suc, ◌+◌, ◌-◌, ◌*◌, ◌/◌, ◌%◌, ◌^◌, ◌≤◌, ◌<◌, min}
use native.Mathlib.Nat.{pow-suc}
use native.Mathlib.Decide.{dec_le}
use native.Mathlib.Omega.{arith}
use lib.Dec.{eqb}
use lib.Bits.{bit_and, bit_xor, differ, and_shr, xor_shr, and_mod, xor_mod, and_step, xor_step}
use borrow.Author.Tests.{eqb-true}
use Rattle.laws.specs.Bytes.{little}
use Rattle.laws.proofs.Chunks.{Each}
use Rattle.laws.proofs.Refusals.{and_fst, and_snd}

-- ---- bytes of a number

-- a function that makes a byte of a byte
abbrev pub Byte : (ℕ → ℕ) → Type 0
Byte f = (b : ℕ) → b < 256 → f b < 256

-- an operation that takes each bit by itself takes each byte by itself
module _ (op : ℕ → ℕ → ℕ)
    (block : (k a b r s : ℕ) → r < 2 ^ k → s < 2 ^ k → op (a * 2 ^ k + r) (b * 2 ^ k + s) ≡ op a b * 2 ^ k + op r s)
    (none : op 0 0 ≡ 0) (f g : ℕ → ℕ) (hf : Byte f) (hg : Byte g) where
  pub bytewise : (bs : List ℕ) → Each (λ b. b < 256) bs
      → op (little (map f bs)) (little (map g bs)) ≡ little (map (λ b. op (f b) (g b)) bs)
  bytewise [] w = none
  bytewise (b ∷ bs) w =
      let x = little (map f bs) in
      let y = little (map g bs) in
      let p : f b + 256 * x ≡ x * 2 ^ 8 + f b = omega arith in
      let q : g b + 256 * y ≡ y * 2 ^ 8 + g b = omega arith in
      ap₂ op p q ∙ block 8 x y (f b) (g b) (hf b w.0) (hg b w.0)
      ∙ ap (λ n. n * 2 ^ 8 + op (f b) (g b)) (bytewise bs w.1)
      ∙ omega arith

-- where no byte is less than n, n taken off each byte is taken off the number: no byte borrows from the next
pub difference : (f : ℕ → ℕ) (n : ℕ) (bs : List ℕ) → ((b : ℕ) → n ≤ f b)
    → little (map f bs) - little (map (λ b. n) bs) ≡ little (map (λ b. f b - n) bs)
difference f n bs h = let e = sum bs in omega arith
  where
    sum : (bs : List ℕ) → little (map (λ b. f b - n) bs) + little (map (λ b. n) bs) ≡ little (map f bs)
    sum [] = refl
    sum (b ∷ bs) = let e = sum bs in let l = h b in omega arith

-- where each byte is a multiple of four, the quarter of the number has their quarters as its bytes
pub quarter : (f : ℕ → ℕ) (bs : List ℕ) → ((b : ℕ) → f b % 4 ≡ 0)
    → little (map f bs) / 4 ≡ little (map (λ b. f b / 4) bs)
quarter f bs h = let e = four bs in omega arith
  where
    four : (bs : List ℕ) → little (map f bs) ≡ 4 * little (map (λ b. f b / 4) bs)
    four [] = refl
    four (b ∷ bs) = let e = four bs in let l = h b in omega arith

pub same-on : (f g : ℕ → ℕ) (bs : List ℕ) → ((b : ℕ) → b < 256 → f b ≡ g b) → Each (λ b. b < 256) bs
    → map f bs ≡ map g bs
same-on f g [] h w = refl
same-on f g (b ∷ bs) h w = ap₂ ◌∷◌ (h b w.0) (same-on f g bs h w.1)

-- ---- each of few numbers

unfoldable pub all_to : (ℕ → Bool) → ℕ → Bool
all_to f zero = true
all_to f (suc n) = f n && all_to f n

pub below : (f : ℕ → Bool) (n b : ℕ) → all_to f n ≡ true → b < n → f b ≡ true
unfolding all_to
below f zero b e h = absurd (omega arith)
below f (suc n) b e h = by (dec_le n b) (below f n b (and_snd (f n) (all_to f n) e))
  where
    by : Dec (n ≤ b) → (b < n → f b ≡ true) → f b ≡ true
    by (yes g) before = let p : b ≡ n = omega arith in ap f p ∙ and_fst (f n) (all_to f n) e
    by (no g) before = before (omega arith)

-- ---- exclusive or within a mask

pub and_xor : (k a b m : ℕ) → a < 2 ^ k → b < 2 ^ k → bit_and (bit_xor a b) m ≡ bit_xor (bit_and a m) (bit_and b m)
unfolding all_to
and_xor zero a b m ha hb =
    let za : a ≡ 0 = omega arith in
    let zb : b ≡ 0 = omega arith in
    ap₂ (λ p q. bit_and (bit_xor p q) m) za zb ∙ sym (ap₂ (λ p q. bit_xor (bit_and p m) (bit_and q m)) za zb)
and_xor (suc k) a b m ha hb =
    let pa = rw pow-suc at ha in
    let pb = rw pow-suc at hb in
    and_step (bit_xor a b) m
    ∙ ap₂ (λ p q. p * 2 + q)
    (ap (λ y. bit_and y (m / 2)) (xor_shr a b 1) ∙ and_xor k (a / 2) (b / 2) (m / 2) (omega arith) (omega arith)
    ∙ sym (ap₂ bit_xor (and_shr a m 1) (and_shr b m 1)))
    (ap (λ y. min y (m % 2)) (xor_mod a b 1) ∙ bit (a % 2) (b % 2) (m % 2) (omega arith) (omega arith) (omega arith)
    ∙ sym (ap₂ differ (and_mod a m 1) (and_mod b m 1)))
    ∙ sym (xor_step (bit_and a m) (bit_and b m))
  where
    holds : ℕ → ℕ → ℕ → Bool
    holds p q r = eqb (min (bit_xor p q) r) (differ (bit_and p r) (bit_and q r))

    bit : (p q r : ℕ) → p < 2 → q < 2 → r < 2 → min (bit_xor p q) r ≡ differ (bit_and p r) (bit_and q r)
    bit p q r hp hq hr =
        let of-p = below (λ x. all_to (λ y. all_to (holds x y) 2) 2) 2 p refl hp in
        let of-q = below (λ y. all_to (holds p y) 2) 2 q of-p hq in
        eqb-true _ _ (below (holds p q) 2 r of-q hr)
