-- Walks over a ring's places: a step back, a step onward, and what is left of the places before one.
use mathlib.Core.Path.{◌≡◌, refl, ap, ◌∙◌}
use mathlib.Core.List.{◌∷◌, ◌++◌}
use Prim.Native.Nat.{ℕ, zero, suc, ◌+◌, ◌-◌, ◌≤◌, ◌<◌, min}
use native.Mathlib.Nat.{mod-eq_of_lt, add-mod_right, mod_self, sub-zero, min-zero, zero-min, suc-min-suc}
use native.Mathlib.Numerals.{add-one}
use native.Mathlib.Omega.{arith}
use lib.ListN.{length}
use Rattle.laws.specs.Ring.{back, onward, places_before}

module _ (capacity : ℕ) where
  -- the steps without a remainder
  pub back-pos : (p : ℕ) → 0 < p → p ≤ capacity → back capacity p ≡ p - 1
  back-pos p h k =
      let e : p + (capacity - 1) ≡ (p - 1) + capacity = omega arith in
      rw (e, add-mod_right) (mod-eq_of_lt (omega arith))

  back-zero : 0 < capacity → back capacity 0 ≡ capacity - 1
  back-zero h =
      let e : 0 + (capacity - 1) ≡ capacity - 1 = omega arith in
      rw e (mod-eq_of_lt (omega arith))

  pub onward-end : (p : ℕ) → p + 1 ≡ capacity → onward capacity p ≡ 0
  onward-end p e = rw e (mod_self capacity)

  pub onward_in : (p : ℕ) → p + 1 < capacity → onward capacity p ≡ p + 1
  onward_in p h = mod-eq_of_lt h

  -- going round: the places before 0 are those below the capacity
  places-end : 0 < capacity → (n : ℕ) → places_before capacity 0 n ≡ places_before capacity capacity n
  places-end h zero = refl
  places-end h (suc n) =
      rw (back-zero h, back-pos capacity h (omega arith))

  -- the n places before p: those below it, and the rest going round
  pub places-split : (p n : ℕ) → p < capacity → places_before capacity p n ≡ places_before capacity p (min n p)
      ++ places_before capacity capacity (n - min n p)
  places-split zero n h = rw (min-zero, sub-zero) (places-end h n)
  places-split (suc p) zero h = rw zero-min
  places-split (suc p) (suc n) h =
      let q : back capacity (suc p) ≡ p = back-pos (suc p) (omega arith) (omega arith) ∙ omega arith in
      let e : suc n - suc (min n p) ≡ n - min n p = omega arith in
      rw (suc-min-suc, e, q) (ap (◌∷◌ p) (places-split p n (omega arith)))

  -- the rest stands before the least of those below p
  pub places-rest : (p n : ℕ) → p < capacity → places_before capacity (p - min n p) (n - min n p) ≡ places_before capacity
      capacity (n - min n p)
  places-rest zero n h = rw (min-zero, sub-zero n) (places-end h n)
  places-rest (suc p) zero h = rw zero-min
  places-rest (suc p) (suc n) h =
      let d : suc p - suc (min n p) ≡ p - min n p = omega arith in
      let e : suc n - suc (min n p) ≡ n - min n p = omega arith in
      rw (suc-min-suc, d, e) (places-rest p n (omega arith))

  pub places-length : (p n : ℕ) → length (places_before capacity p n) ≡ n
  places-length p zero = refl
  places-length p (suc n) = ap suc (places-length (back capacity p) n)

  -- one more place, from the oldest on
  pub places-more : (p q i : ℕ) → back capacity q ≡ p → places_before capacity q (i + 1) ≡ p ∷ places_before capacity p i
  places-more p q i e = rw (add-one, e)
