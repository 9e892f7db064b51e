-- The filter: a number that was passed has left every bit of its first half in its word.
use mathlib.Core.Path.{◌≡◌, refl, sym, ◌∙◌}
use mathlib.Core.Bool.{Bool, true, false}
use mathlib.Core.List.{List, [], ◌∷◌}
use Prim.Native.Nat.{ℕ, ◌+◌, ◌*◌, ◌/◌, ◌%◌, max}
use native.Mathlib.Omega.{arith}
use lib.Arith.{bin_ind}
use lib.Bits.{bit_or, or_step, or_comm, or_self}
use lib.Dec.{eqb}
use lib.ListN.{length, set}
use lib.Seq.{get_or-set_same, get_or-set_other}
use borrow.Author.Tests.{eqb-true, eqb-false, eq-eqb}
use Rattle.laws.specs.Tests.{any, all}
use Rattle.laws.proofs.Truth.{both_left, both_right}
use Rattle.protocol.specs.Memory.{Query}
use Rattle.memory.specs.Order.{same_as, word_of, marked}

-- three numbers joined, by their lowest bits and the rest
or_three : (w a b : ℕ)
    → bit_or (bit_or w a) b ≡ bit_or (bit_or (w / 2) (a / 2)) (b / 2) * 2 + max (max (w % 2) (a % 2)) (b % 2)
or_three w a b =
    let e = or_step w a in
    let h : bit_or w a / 2 ≡ bit_or (w / 2) (a / 2) = omega (arith, e) in
    let m : bit_or w a % 2 ≡ max (w % 2) (a % 2) = omega (arith, e) in
    or_step (bit_or w a) b ∙ rw (h, m)

or_swap : (w a b : ℕ) → bit_or (bit_or w a) b ≡ bit_or (bit_or w b) a
or_swap =
    bin_ind (λ (n : ℕ). (a b : ℕ) → bit_or (bit_or n a) b ≡ bit_or (bit_or n b) a) or_comm
    (λ n ih a b.
    let m : max (max (n % 2) (a % 2)) (b % 2) ≡ max (max (n % 2) (b % 2)) (a % 2) = omega arith in
    or_three n a b ∙ rw (ih (a / 2) (b / 2), m) (sym (or_three n b a)))

or_again : (w a : ℕ) → bit_or (bit_or w a) a ≡ bit_or w a
or_again w a = rw (or_comm w a) (or_swap a w a ∙ rw (or_self a))

-- the filter after one number more
abbrev pub joined : List ℕ → ℕ → List ℕ
joined filter a = set filter (a % 1024) (bit_or (word_of filter a) a)

module _ (filter : List ℕ) (a : ℕ) (size : length filter ≡ 1024) where
  word_same : word_of (joined filter a) a ≡ bit_or (word_of filter a) a
  word_same = get_or-set_same filter (a % 1024) (bit_or (word_of filter a) a) 0 (omega (arith, size))

  pub marked-same : marked (joined filter a) a ≡ true
  marked-same = rw word_same (eq-eqb _ _ (or_again (word_of filter a) a))

  pub marked-stays : (b : ℕ) → marked filter b ≡ true → marked (joined filter a) b ≡ true
  marked-stays b e = by (eqb (b % 1024) (a % 1024)) refl
    where
      by : (t : Bool) → eqb (b % 1024) (a % 1024) ≡ t → marked (joined filter a) b ≡ true
      by false p = rw (get_or-set_other filter (a % 1024) (b % 1024) (bit_or (word_of filter a) a) 0 (eqb-false _ _ p)) e
      by true p =
          let s : b % 1024 ≡ a % 1024 = eqb-true _ _ p in
          let m = eqb-true (bit_or (word_of filter b) b) (word_of filter b) e in
          let w : bit_or (word_of filter a) b ≡ word_of filter a = rw s at m in
          rw (s, word_same) (eq-eqb _ _ (or_swap (word_of filter a) a b ∙ rw w))

-- a number with a bit that its word lacks was not passed
module _ (filter : List ℕ) (q : Query) (new : marked filter q.number.lo ≡ false) where
  no_same : (x : Query) → marked filter x.number.lo ≡ true → same_as q x ≡ false
  no_same x e = by (eqb x.number.lo q.number.lo) refl
    where
      by : (t : Bool) → eqb x.number.lo q.number.lo ≡ t → same_as q x ≡ false
      by false p = rw p
      by true p =
          let s : x.number.lo ≡ q.number.lo = eqb-true _ _ p in
          let z : true ≡ false = sym (rw s at e) ∙ new in
          cc

  pub unmarked_new : (qs : List Query) → all (λ x. marked filter x.number.lo) qs ≡ true → any (same_as q) qs ≡ false
  unmarked_new [] e = refl
  unmarked_new (x ∷ xs) e =
      rw (no_same x (both_left _ _ e)) (unmarked_new xs (both_right (marked filter x.number.lo) _ e))
