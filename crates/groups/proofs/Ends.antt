-- A group ends with the first empty line.
use mathlib.Core.Path.{◌≡◌, refl, sym, ap, ◌∙◌}
use mathlib.Core.Logic.{◌⊎◌, inl, inr, ⊎_elim}
use mathlib.Core.Bool.{Bool, true, false, cond, ◌&&◌, ◌||◌, false≢true}
use mathlib.Core.List.{List}
use Prim.Native.Nat.{ℕ, zero, suc, ◌+◌, ◌-◌, ◌≤◌, ◌<◌, min}
use native.Mathlib.Omega.{arith}
use native.Mathlib.Decide.{dec_lt}
use lib.Dec.{eqb, leb}
use lib.ListN.{length, get_or}
use borrow.Author.Tests.{eq-eqb, le-leb, eqb-true, leb-true}
use Rattle.groups.specs.Lines.{pair_at, ends_at, first_from, group_length}
use Rattle.groups.specs.Claims.{EmptyLineAt, EndsIn, EndIsFirst, NoEnd}
use Rattle.ascii.proofs.TextLaws.{and-true}

-- ---- a search among numbers

module _ (f : ℕ → Bool) where
  -- what a search from i over k numbers says where it ends with n
  pub record Found (k i n : ℕ) : Type 0 where
    pub from : i ≤ n
    pub below : n < i + k
    pub passes : f n ≡ true
    pub first : (j : ℕ) → i ≤ j → j < n → f j ≡ true → ⊥

  -- at i the test fails, and from the next number on it never passes below n
  not-here : (i n j : ℕ) → f i ≡ false → ((j : ℕ) → i + 1 ≤ j → j < n → f j ≡ true → ⊥) → i ≤ j → j < n → f j ≡ true → ⊥
  not-here i n j u h a b t = later (dec_lt i j)
    where
      later : Dec (i < j) → ⊥
      later (yes q) = h j (omega arith) b t
      later (no q) = let g : i ≡ j = omega arith in false≢true (sym u ∙ ap f g ∙ t)

  none-case : (t : Bool) (k i : ℕ) → f i ≡ t → 0 < i → cond t i (first_from f k (i + 1)) ≡ 0
      → (first_from f k (i + 1) ≡ 0 → (j : ℕ) → i + 1 ≤ j → j < i + 1 + k → f j ≡ true → ⊥)
      → (j : ℕ) → i ≤ j → j < i + suc k → f j ≡ true → ⊥
  none-case true k i u p e rec j a b t = omega arith
  none-case false k i u p e rec j a b t = not-here i (i + 1 + k) j u (rec e) a (omega arith) t

  pub found_none : (k i : ℕ) → 0 < i → first_from f k i ≡ 0 → (j : ℕ) → i ≤ j → j < i + k → f j ≡ true → ⊥
  found_none zero i p e j a b t = omega arith
  found_none (suc k) i p e j a b t = none-case (f i) k i refl p e (found_none k (i + 1) (omega arith)) j a b t

  some-case : (t : Bool) (k i n : ℕ) → f i ≡ t → cond t i (first_from f k (i + 1)) ≡ n
      → (first_from f k (i + 1) ≡ n → Found k (i + 1) n) → Found (suc k) i n
  some-case true k i n u e rec =
      record { from = omega arith; below = omega arith; passes = ap f (sym e) ∙ u; first = λ j a b t. omega arith }
  some-case false k i n u e rec =
      let h = rec e in
      record {
        from = omega (arith, h.from);
        below = omega (arith, h.below);
        passes = h.passes;
        first = λ j a b t. not-here i n j u h.first a b t;
      }

  pub found_some : (k i n : ℕ) → 0 < n → first_from f k i ≡ n → Found k i n
  found_some zero i n p e = absurd (no_zero e)
    where
      no_zero : 0 ≡ n → ⊥
      no_zero e = omega arith
  found_some (suc k) i n p e = some-case (f i) k i n refl e (found_some k (i + 1) n p)

  is-case : (t : Bool) (k i n : ℕ) → f i ≡ t → Found (suc k) i n → (Found k (i + 1) n → first_from f k (i + 1) ≡ n)
      → cond t i (first_from f k (i + 1)) ≡ n
  is-case true k i n u h rec = here (dec_lt i n)
    where
      here : Dec (i < n) → i ≡ n
      here (yes q) = absurd (h.first i (omega arith) q u)
      here (no q) = omega (arith, h.from)
  is-case false k i n u h rec = rec (record {
    from = next (dec_lt i n);
    below = omega (arith, h.below);
    passes = h.passes;
    first = λ j a b t. h.first j (omega arith) b t;
  })
    where
      next : Dec (i < n) → i + 1 ≤ n
      next (yes q) = omega arith
      next (no q) = let g : i ≡ n = omega (arith, h.from) in absurd (false≢true (sym u ∙ ap f g ∙ h.passes))

  pub found-is : (k i n : ℕ) → Found k i n → first_from f k i ≡ n
  found-is zero i n h = omega (arith, h.from, h.below)
  found-is (suc k) i n h = is-case (f i) k i n refl h (found-is k (i + 1) n)

  pub none_is : (k i : ℕ) → ((j : ℕ) → i ≤ j → j < i + k → f j ≡ true → ⊥) → first_from f k i ≡ 0
  none_is zero i h = refl
  none_is (suc k) i h = rw (no_true (f i) (h i (omega arith) (omega arith)))
      (none_is k (i + 1) (λ j a b t. h j (omega arith) (omega arith) t))
    where
      no_true : (t : Bool) → (t ≡ true → ⊥) → t ≡ false
      no_true false g = refl
      no_true true g = absurd (g refl)

-- ---- the empty line

or_cases : (s t : Bool) → (s || t) ≡ true → (s ≡ true) ⊎ (t ≡ true)
or_cases true t e = inl refl
or_cases false t e = inr e

pair_is : (m : List ℕ) (i : ℕ) → pair_at m i ≡ true → (get_or m i 0 ≡ 13) × (get_or m (i + 1) 0 ≡ 10)
pair_is m i e =
    let h = and-true (eqb (get_or m i 0) 13) (eqb (get_or m (i + 1) 0) 10) e in
    (eqb-true _ _ h.0, eqb-true _ _ h.1)

is-pair : (m : List ℕ) (i : ℕ) → get_or m i 0 ≡ 13 → get_or m (i + 1) 0 ≡ 10 → pair_at m i ≡ true
is-pair m i a b = rw (eq-eqb _ _ a, eq-eqb _ _ b)

pub ends-true : (m : List ℕ) (p : ℕ) → ends_at m (p + 2) ≡ true → EmptyLineAt m p
unfolding ends_at
ends-true m p e =
    let e2 : p + 2 - 2 ≡ p = omega arith in
    let e4 : p + 2 - 4 ≡ p - 2 = omega arith in
    let h = and-true (pair_at m p) (eqb (p + 2) 2 || (leb 4 (p + 2) && pair_at m (p - 2))) (rw (e2, e4) at e) in
    let q = pair_is m p h.0 in
    (q.0, q.1, ⊎_elim at-start behind (or_cases (eqb (p + 2) 2) (leb 4 (p + 2) && pair_at m (p - 2)) h.1))
  where
    at-start : eqb (p + 2) 2 ≡ true → (p ≡ 0) ⊎ ((2 ≤ p) × (get_or m (p - 2) 0 ≡ 13) × (get_or m (p - 1) 0 ≡ 10))
    at-start t = inl (omega (arith, eqb-true (p + 2) 2 t))

    behind : (leb 4 (p + 2) && pair_at m (p - 2)) ≡ true → (p ≡ 0)
        ⊎ ((2 ≤ p) × (get_or m (p - 2) 0 ≡ 13) × (get_or m (p - 1) 0 ≡ 10))
    behind t =
        let h = and-true (leb 4 (p + 2)) (pair_at m (p - 2)) t in
        let l : 2 ≤ p = omega (arith, leb-true 4 (p + 2) h.0) in
        let q = pair_is m (p - 2) h.1 in
        let g : p - 2 + 1 ≡ p - 1 = omega arith in
        inr (l, q.0, rw g at q.1)

pub true-ends : (m : List ℕ) (p : ℕ) → EmptyLineAt m p → ends_at m (p + 2) ≡ true
unfolding ends_at
true-ends m p h =
    let e2 : p + 2 - 2 ≡ p = omega arith in
    let e4 : p + 2 - 4 ≡ p - 2 = omega arith in
    rw (e2, e4, is-pair m p h.0 h.1) (⊎_elim at-start behind h.2)
  where
    at-start : p ≡ 0 → (eqb (p + 2) 2 || (leb 4 (p + 2) && pair_at m (p - 2))) ≡ true
    at-start z = rw (eq-eqb (p + 2) 2 (omega arith))

    or-true : (t : Bool) → (t || true) ≡ true
    or-true true = refl
    or-true false = refl

    behind : (2 ≤ p) × (get_or m (p - 2) 0 ≡ 13) × (get_or m (p - 1) 0 ≡ 10)
        → (eqb (p + 2) 2 || (leb 4 (p + 2) && pair_at m (p - 2))) ≡ true
    behind q =
        let g : p - 1 ≡ p - 2 + 1 = omega (arith, q.0) in
        rw (le-leb 4 (p + 2) (omega (arith, q.0)), is-pair m (p - 2) q.1 (rw g at q.2)) (or-true (eqb (p + 2) 2))

pub end-is-first : EndIsFirst
unfolding group_length
end-is-first m p = (forth, back)
  where
    forth : group_length m ≡ p + 2 → EndsIn m p × ((k : ℕ) → k < p → EmptyLineAt m k → ⊥)
    forth e =
        let h = found_some (ends_at m) (min (length m) 4096 - 1) 2 (p + 2) (omega arith) e in (
          (omega (arith, h.below), omega (arith, h.below), ends-true m p h.passes),
          λ k q l. h.first (k + 2) (omega arith) (omega arith) (true-ends m k l),
        )

    back : EndsIn m p × ((k : ℕ) → k < p → EmptyLineAt m k → ⊥) → group_length m ≡ p + 2
    back h =
        found-is (ends_at m) (min (length m) 4096 - 1) 2 (p + 2) (record {
          from = omega arith;
          below = omega (arith, h.0);
          passes = true-ends m p h.0.2;
          first = λ j a b t. (let g : j ≡ j - 2 + 2 = omega arith in
              h.1 (j - 2) (omega arith) (ends-true m (j - 2) (rw g at t)));
        })

pub no_end : NoEnd
unfolding group_length
no_end m = (forth, back)
  where
    forth : group_length m ≡ 0 → (p : ℕ) → EndsIn m p → ⊥
    forth e p h = found_none (ends_at m) (min (length m) 4096 - 1) 2 (omega arith) e (p + 2) (omega arith)
        (omega (arith, h)) (true-ends m p h.2)

    back : ((p : ℕ) → EndsIn m p → ⊥) → group_length m ≡ 0
    back h =
        none_is (ends_at m) (min (length m) 4096 - 1) 2
        (λ j a b t. (let g : j ≡ j - 2 + 2 = omega arith in
        h (j - 2) (omega arith, omega arith, ends-true m (j - 2) (rw g at t))))
