-- Exclusive or of k bits, as specs/Bytes has it: it is what the code's `^` means, it regroups, and it adds numbers that
-- share no bit.
use mathlib.Core.Path.{◌≡◌, refl, sym, ap₂, ◌∙◌}
use Prim.Native.Nat.{ℕ, zero, suc, ◌+◌, ◌*◌, ◌/◌, ◌%◌, ◌^◌, ◌<◌}
use native.Mathlib.Nat.{pow-suc, le_of_lt, lt_of_le_of_lt, mul-le-mul_left, mul-lt-mul_of_pos_right}
use native.Mathlib.Omega.{arith}
use lib.Bits.{bit_xor, differ, xor_step, xor_comm, xor_zero_r, xor_shifted}
use lib.Pow.{pow_pos, pow-add}
use Rattle.laws.specs.Bytes.{xor}

pub xor_below : (k a b : ℕ) → xor k a b < 2 ^ k
xor_below zero a b = omega arith
xor_below (suc k) a b = let h = xor_below k (a / 2) (b / 2) in rw pow-suc (omega arith)

pub xor-swap : (k a b : ℕ) → xor k a b ≡ xor k b a
xor-swap zero a b = refl
xor-swap (suc k) a b = let h = xor-swap k (a / 2) (b / 2) in omega arith

-- the half of a result is the result of the halves, and its last bit that of the last bits
xor-half : (k a b : ℕ) → xor (suc k) a b / 2 ≡ xor k (a / 2) (b / 2)
xor-half k a b = omega arith

xor-last : (k a b : ℕ) → xor (suc k) a b % 2 ≡ (a % 2 + b % 2) % 2
xor-last k a b = omega arith

sum_odd : (x y z : ℕ) → ((x + y) % 2 + z) % 2 ≡ (x + (y + z) % 2) % 2
sum_odd x y z = omega arith

pub xor_regroup : (k a b c : ℕ) → xor k (xor k a b) c ≡ xor k a (xor k b c)
xor_regroup zero a b c = refl
xor_regroup (suc k) a b c =
    ap₂ (λ (x y : ℕ). (x + c % 2) % 2 + 2 * xor k y (c / 2)) (xor-last k a b) (xor-half k a b)
    ∙ ap₂ (λ (x y : ℕ). x + 2 * y) (sum_odd (a % 2) (b % 2) (c % 2)) (xor_regroup k (a / 2) (b / 2) (c / 2))
    ∙ sym (ap₂ (λ (x y : ℕ). (a % 2 + x) % 2 + 2 * xor k (a / 2) y) (xor-last k b c) (xor-half k b c))

-- two binary digits differ where their sum is odd
differ_odd : (x y : ℕ) → x < 2 → y < 2 → differ x y ≡ (x + y) % 2
differ_odd zero y hx hy = omega arith
differ_odd (suc zero) zero hx hy = refl
differ_odd (suc zero) (suc zero) hx hy = refl
differ_odd (suc zero) (suc (suc y)) hx hy = absurd (omega arith)
differ_odd (suc (suc x)) y hx hy = absurd (omega arith)

pub xor_is : (k a b : ℕ) → a < 2 ^ k → b < 2 ^ k → xor k a b ≡ bit_xor a b
xor_is zero a b ha hb =
    let za : a ≡ 0 = omega arith in let zb : b ≡ 0 = omega arith in sym (ap₂ bit_xor za zb)
xor_is (suc k) a b ha hb =
    let pa = rw pow-suc at ha in
    let pb = rw pow-suc at hb in
    let h = xor_is k (a / 2) (b / 2) (omega arith) (omega arith) in
    let d = differ_odd (a % 2) (b % 2) (omega arith) (omega arith) in
    let s = xor_step a b in
    omega arith

pub xor-none : (k a : ℕ) → a < 2 ^ k → xor k a 0 ≡ a
xor-none k a h = xor_is k a 0 h (pow_pos k) ∙ xor_zero_r a

-- numbers that share no bit are added: b stands above the j bits of a
pub xor_above : (k j a b : ℕ) → a < 2 ^ j → a < 2 ^ k → b * 2 ^ j < 2 ^ k → xor k a (b * 2 ^ j) ≡ a + b * 2 ^ j
xor_above k j a b h ha hb =
    let s = xor_shifted b j a h in
    xor_is k a (b * 2 ^ j) ha hb ∙ xor_comm a (b * 2 ^ j) ∙ (s ∙ omega arith)

-- a product has as many bits as its factors together
pub product_below : (k : ℕ) {a b : ℕ} → a < 2 ^ k → b < 2 ^ k → a * b < 2 ^ (k + k)
product_below k {a} {b} ha hb =
    rw (pow-add 2 k k) (lt_of_le_of_lt (mul-le-mul_left a (le_of_lt hb)) (mul-lt-mul_of_pos_right ha (pow_pos k)))
