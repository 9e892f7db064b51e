-- Laws of runs, of texts that are compared, and of numbers.
use mathlib.Core.Path.{◌≡◌, refl, sym, ap}
use mathlib.Core.Bool.{Bool, true, false, cond, ◌&&◌, and-false}
use mathlib.Core.List.{List, [], ◌∷◌}
use Prim.Native.Nat.{ℕ, zero, suc, ◌+◌, ◌-◌, ◌*◌, ◌^◌, ◌≤◌, ◌<◌}
use native.Mathlib.Nat.{pow-suc, pow-le-pow_right}
use native.Mathlib.Numerals.{add-one}
use native.Mathlib.Omega.{arith}
use lib.ListN.{length, get_or, take, drop, length-take, drop_of_length-le}
use lib.Seq.{drop-cons}
use lib.Dec.{eqb, leb}
use borrow.Author.Tests.{eq-eqb, ne_eqb, leb-true}
use Rattle.laws.specs.Tests.{all}
use Rattle.ascii.specs.Text.{run, leading, compared, same, digit_of, decimal_from, is_digit, digit_count}

module _ (f : List ℕ → Bool) (s : List ℕ) where
  -- a turn of a loop that counts a run: the byte at i is in it
  pub run_on : (i n : ℕ) → i < length s → f (drop i s) ≡ true → i + run f (drop i s) ≡ n → (i + 1) + run f
      (drop (i + 1) s) ≡ n
  run_on i n h t e =
      let u = rw (drop-cons s i 0 h) at t in
      let e' = rw (drop-cons s i 0 h, u) at e in
      rw add-one (omega (arith, e'))

  -- the byte at i is not
  pub run-stop : (i n : ℕ) → i < length s → f (drop i s) ≡ false → i + run f (drop i s) ≡ n → i ≡ n
  run-stop i n h t e =
      let u = rw (drop-cons s i 0 h) at t in
      let e' = rw (drop-cons s i 0 h, u) at e in
      omega (arith, e')

  -- there is none
  pub run_end : (i n : ℕ) → length s ≤ i → i + run f (drop i s) ≡ n → i ≡ n
  run_end i n h e =
      let e' = rw (drop_of_length-le s h) at e in
      omega (arith, e')

-- a run is no longer than the text
pub run_length : (f : List ℕ → Bool) (s : List ℕ) → run f s ≤ length s
run_length f [] = omega arith
run_length f (b ∷ bs) = run-case (f (b ∷ bs)) (run f bs) (length bs) (run_length f bs)
  where
    run-case : (t : Bool) (m n : ℕ) → m ≤ n → cond t (suc m) 0 ≤ suc n
    run-case true m n h = omega arith
    run-case false m n h = omega arith

-- the bytes at the front that pass a test
module _ (f : ℕ → Bool) where
  passes-case : (t : Bool) (b : ℕ) (bs : List ℕ) → f b ≡ t → ((i : ℕ) → i < leading f bs → f (get_or bs i 0) ≡ true)
      → (i : ℕ) → i < cond t (suc (leading f bs)) 0 → f (get_or (b ∷ bs) i 0) ≡ true
  passes-case true b bs e rec zero h = e
  passes-case true b bs e rec (suc i) h = rec i (omega arith)
  passes-case false b bs e rec i h = absurd (omega arith)

  pub leading-passes : (s : List ℕ) (i : ℕ) → i < leading f s → f (get_or s i 0) ≡ true
  leading-passes [] i h = absurd (omega arith)
  leading-passes (b ∷ bs) i h = passes-case (f b) b bs refl (leading-passes bs) i h

  stops-case : (t : Bool) (b : ℕ) (bs : List ℕ) → f b ≡ t → (leading f bs < length bs → f (get_or bs (leading f bs) 0)
      ≡ false)
      → cond t (suc (leading f bs)) 0 < length (b ∷ bs) → f (get_or (b ∷ bs) (cond t (suc (leading f bs)) 0) 0) ≡ false
  stops-case true b bs e rec h = rec (omega arith)
  stops-case false b bs e rec h = e

  pub leading-stops : (s : List ℕ) → leading f s < length s → f (get_or s (leading f s) 0) ≡ false
  leading-stops [] h = absurd (omega arith)
  leading-stops (b ∷ bs) h = stops-case (f b) b bs refl (leading-stops bs) h

  -- so many pass, and the next one fails
  pub leading-is : (s : List ℕ) (k : ℕ) → ((i : ℕ) → i < k → f (get_or s i 0) ≡ true) → k < length s
      → f (get_or s k 0) ≡ false
      → leading f s ≡ k
  leading-is [] k h n e = absurd (omega arith)
  leading-is (b ∷ bs) zero h n e = rw e
  leading-is (b ∷ bs) (suc k) h n e =
      rw (h 0 (omega arith)) (ap suc (leading-is bs k (λ i q. h (suc i) (omega arith)) (omega arith) e))

-- more than six digits are not looked at
pub digit-count : (s : List ℕ) → digit_count s ≤ 6
digit-count s = omega (arith, run_length (λ t. is_digit (get_or t 0 0)) (take 6 s), length-take 6 s)

-- texts of other lengths are not the same
pub same-lengths : (fold : Bool) (a b : List ℕ) → (length a ≡ length b → ⊥) → same fold a b ≡ false
same-lengths fold [] [] h = let z : ◌≡◌ {A = ℕ} 0 1 = omega (arith, h refl) in cc
same-lengths fold [] (y ∷ b) h = refl
same-lengths fold (x ∷ a) [] h = refl
same-lengths fold (x ∷ a) (y ∷ b) h =
    rw (same-lengths fold a b (λ e. h (ap suc e))) (and-false (eqb (compared fold x) (compared fold y)))

module _ (fold : Bool) (a b : List ℕ) where
  -- a turn of the comparison: the bytes at i are the same
  pub same-on : (i : ℕ) → i < length a → i < length b → compared fold (get_or a i 0) ≡ compared fold (get_or b i 0)
      → same fold (drop i a) (drop i b) ≡ same fold (drop (i + 1) a) (drop (i + 1) b)
  same-on i h k e = rw (add-one, drop-cons a i 0 h, drop-cons b i 0 k, eq-eqb _ _ e)

  -- they are not
  pub same_not : (i : ℕ) → i < length a → i < length b → (compared fold (get_or a i 0) ≡ compared fold (get_or b i 0) → ⊥)
      → same fold (drop i a) (drop i b) ≡ false
  same_not i h k e = rw (drop-cons a i 0 h, drop-cons b i 0 k, ne_eqb _ _ e)

  pub same_end : (i : ℕ) → length a ≤ i → length b ≤ i → same fold (drop i a) (drop i b) ≡ true
  same_end i h k = rw (drop_of_length-le a h, drop_of_length-le b k)

-- both tests hold
pub and-true : (s t : Bool) → (s && t) ≡ true → (s ≡ true) × (t ≡ true)
and-true true t e = (refl, e)
and-true false t e = let z : ◌≡◌ {A = Bool} true false = sym e in (cc, cc)

digit-case : (b : ℕ) (t : Bool) → is_digit b ≡ t → cond t (b - 48) 0 ≤ 9
digit-case b false e = omega arith
digit-case b true e = omega (arith, leb-true b 57 (and-true (leb 48 b) (leb b 57) e).1)

pub digit-small : (b : ℕ) → digit_of b ≤ 9
unfolding digit_of
digit-small b = digit-case b (is_digit b) refl

module _ (s : List ℕ) where
  -- a turn of reading a number
  pub decimal-on : (n i : ℕ) → i < length s → decimal_from n (drop i s) ≡ decimal_from (n * 10 + digit_of (get_or s i 0))
      (drop (i + 1) s)
  decimal-on n i h = rw (add-one, drop-cons s i 0 h)

  pub decimal-end : (n i : ℕ) → length s ≤ i → decimal_from n (drop i s) ≡ n
  decimal-end n i h = rw (drop_of_length-le s h)

-- one digit more
pub ten_times : (n d i : ℕ) → n < 10 ^ i → d ≤ 9 → n * 10 + d < 10 ^ (i + 1)
ten_times n d i h k = rw (add-one, pow-suc) (omega arith)

-- less than the power of six digits
pub six-digits : (n i : ℕ) → i ≤ 6 → n < 10 ^ i → n < 1000000
six-digits n i h k =
    let p : 10 ^ i ≤ 10 ^ 6 = pow-le-pow_right (omega arith) h in
    omega arith

-- ---- a run that is the whole text

all-case : (t u : Bool) (m n : ℕ) → (m ≡ n → u ≡ true) → cond t (suc m) 0 ≡ suc n → (t && u) ≡ true
all-case true u m n f e = f (omega arith)
all-case false u m n f e = let z : ◌≡◌ {A = ℕ} 0 1 = omega arith in cc

pub all-run : (f : ℕ → Bool) (s : List ℕ) → leading f s ≡ length s → all f s ≡ true
all-run f [] e = refl
all-run f (b ∷ bs) e = all-case (f b) (all f bs) (leading f bs) (length bs) (all-run f bs) e

not-all-case : (t u : Bool) (m n : ℕ) → ((m ≡ n → ⊥) → u ≡ false) → (cond t (suc m) 0 ≡ suc n → ⊥) → (t && u) ≡ false
not-all-case true u m n f e = f (λ g. e (ap suc g))
not-all-case false u m n f e = refl

pub not-all-run : (f : ℕ → Bool) (s : List ℕ) → (leading f s ≡ length s → ⊥) → all f s ≡ false
not-all-run f [] e = let z : ◌≡◌ {A = ℕ} 0 1 = omega (arith, e refl) in cc
not-all-run f (b ∷ bs) e = not-all-case (f b) (all f bs) (leading f bs) (length bs) (not-all-run f bs) e
