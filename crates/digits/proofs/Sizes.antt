-- How long numbers are in decimal, and how their digits go on.
use Prim.Native.Nat.{ℕ, zero, suc, ◌+◌, ◌/◌, ◌%◌, ◌^◌, ◌≤◌, ◌<◌}
use mathlib.Core.Path.{◌≡◌, sym, ap, ◌∙◌}
use mathlib.Core.Bool.{cond}
use mathlib.Core.List.{[], ◌∷◌, ◌++◌}
use native.Mathlib.Omega.{arith}
use lib.Dec.{ltb}
use lib.ListN.{length, length-append}
use borrow.Author.Tests.{lt-ltb, le-ltb}
use Rattle.laws.proofs.Decimal.{tenth-below}
use Rattle.digits.specs.Decimal.{digits_of, decimal}

-- more digits than n has are not used
digits-enough : (k n : ℕ) → n < 10 ^ suc k → digits_of (suc (suc k)) n ≡ digits_of (suc k) n
digits-enough zero n h = rw (lt-ltb n 10 h)
digits-enough (suc k) n h = ap (λ x. cond (ltb n 10) ((48 + n) ∷ []) (x ++ ((48 + n % 10) ∷ [])))
    (digits-enough k (n / 10) (tenth-below (suc k) n h))

-- the digits of a number: one, or those of a tenth of it and the last one
pub decimal-one : (n : ℕ) → n < 10 → decimal n ≡ (48 + n) ∷ []
unfolding decimal
decimal-one n h = rw (lt-ltb n 10 h)

pub decimal-more : (n : ℕ) → 10 ≤ n → n < 100000 → decimal n ≡ decimal (n / 10) ++ ((48 + n % 10) ∷ [])
unfolding decimal
decimal-more n h b =
    let t : n / 10 < 10 ^ 4 = omega arith in
    rw (le-ltb n 10 h) (ap (λ x. x ++ ((48 + n % 10) ∷ [])) (sym (digits-enough 3 (n / 10) t)))

-- ---- how many digits

pub size-one : (n : ℕ) → n < 10 → length (decimal n) ≡ 1
size-one n h = rw (decimal-one n h)

pub size-more : (n : ℕ) → 10 ≤ n → n < 100000 → length (decimal n) ≡ length (decimal (n / 10)) + 1
size-more n h b = ap length (decimal-more n h b) ∙ length-append (decimal (n / 10)) ((48 + n % 10) ∷ [])

pub size-two : (n : ℕ) → 10 ≤ n → n < 100 → length (decimal n) ≡ 2
size-two n h b = omega (arith, size-more n h (omega arith), size-one (n / 10) (omega arith))

pub size-three : (n : ℕ) → 100 ≤ n → n < 1000 → length (decimal n) ≡ 3
size-three n h b = omega (arith, size-more n (omega arith) (omega arith), size-two (n / 10) (omega arith) (omega arith))

pub size-four : (n : ℕ) → 1000 ≤ n → n < 10000 → length (decimal n) ≡ 4
size-four n h b =
    omega (arith, size-more n (omega arith) (omega arith), size-three (n / 10) (omega arith) (omega arith))

pub size-five : (n : ℕ) → 10000 ≤ n → n < 100000 → length (decimal n) ≡ 5
size-five n h b = omega (arith, size-more n (omega arith) (omega arith), size-four (n / 10) (omega arith) (omega arith))

pub ruleset sizes = (size-one, size-two, size-three, size-four, size-five)
