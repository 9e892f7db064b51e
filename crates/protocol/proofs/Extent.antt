-- 4 and 5 exactly where specs/Extent has them: three tests in order, case by case.
-- Assumes nothing.
use Prim.Native.Nat.{ℕ, ◌+◌, ◌≤◌, ◌<◌}
use native.Mathlib.Decide.{dec_le}
use native.Mathlib.Omega.{arith}
use mathlib.Core.List.{List}
use mathlib.Core.Path.{◌≡◌, refl, ap}
use mathlib.Core.Bool.{false, cond}
use mathlib.Core.Logic.{◌⊎◌, inl, inr}
use lib.Dec.{ltb}
use lib.ListN.{length}
use borrow.Author.Tests.{le-ltb, lt-ltb}
use Rattle.laws.specs.Tests.{first_of}
use Rattle.laws.proofs.Refusals.{clash}
use Rattle.wire.specs.Header.{size_of}
use Rattle.protocol.specs.Extent.{ByExtent, ExtentExactly}
use Rattle.protocol.proofs.Blind.{after_early, numbers, types_sent}
use Rattle.protocol.proofs.Arrived.{areas-fit}
use Rattle.protocol.specs.Outcomes.{unused}

-- three tests in order, over the length n and the payload's size k, and a number behind them that is neither 4 nor 5
module _ (m : List ℕ) (r : ℕ) (not4 : r ≡ 4 → ⊥) (not5 : r ≡ 5 → ⊥) where
  abbrev n : ℕ
  n = length m

  abbrev k : ℕ
  k = size_of m

  abbrev answer : ℕ
  answer = cond (ltb n 23) 4 (cond (ltb 4096 k) 5 (cond (ltb n (23 + k)) 4 r))

  abbrev Short : Type 0
  Short = (n < 23) ⊎ ((k ≤ 4096) × (n < 23 + k))

  no_header : n < 23 → ByExtent m answer
  no_header h =
      rw (lt-ltb n 23 h)
      (record {
        four = ((λ _. inl h), (λ _. refl));
        five = ((λ z. absurd (omega arith)), (λ v. absurd (omega (arith, v.0))));
      })

  too_large : 23 ≤ n → 4096 < k → ByExtent m answer
  too_large h g =
      rw (le-ltb n 23 h, lt-ltb 4096 k g)
      (record { four = ((λ z. absurd (omega arith)), back); five = ((λ _. (h, g)), (λ _. refl)) })
    where
      back : Short → ◌≡◌ {A = ℕ} 5 4
      back (inl x) = absurd (omega arith)
      back (inr x) = absurd (omega (arith, x.0))

  cut_short : 23 ≤ n → k ≤ 4096 → n < 23 + k → ByExtent m answer
  cut_short h g c =
      rw (le-ltb n 23 h, le-ltb 4096 k g, lt-ltb n (23 + k) c)
      (record {
        four = ((λ _. inr (g, c)), (λ _. refl));
        five = ((λ z. absurd (omega arith)), (λ v. absurd (omega (arith, v.1))));
      })

  whole : 23 ≤ n → k ≤ 4096 → 23 + k ≤ n → ByExtent m answer
  whole h g c =
      rw (le-ltb n 23 h, le-ltb 4096 k g, le-ltb n (23 + k) c)
      (record {
        four = ((λ z. absurd (not4 z)), back);
        five = ((λ z. absurd (not5 z)), (λ v. absurd (omega (arith, v.1))));
      })
    where
      back : Short → r ≡ 4
      back (inl x) = absurd (omega arith)
      back (inr x) = absurd (omega (arith, x.1))

  by-extent : Dec (23 ≤ n) → Dec (k ≤ 4096) → Dec (23 + k ≤ n) → ByExtent m answer
  by-extent (no h) x y = no_header (omega arith)
  by-extent (yes h) (no g) y = too_large h (omega arith)
  by-extent (yes h) (yes g) (no c) = cut_short h g (omega arith)
  by-extent (yes h) (yes g) (yes c) = whole h g c

pub extent-exactly : ExtentExactly
extent-exactly s l m t route o a d e =
    let rest : ℕ = first_of (after_early s l m t route) in
    let u : unused rest ≡ false = types_sent s l m t route in
    let below : l < 8 = omega arith in
    rw (numbers s l m t route, o, areas-fit s t.out route a, lt-ltb l 8 below, e)
    (by-extent m rest (λ z. clash (ap unused z) u) (λ z. clash (ap unused z) u)
    (dec_le 23 (length m)) (dec_le (size_of m) 4096) (dec_le (23 + size_of m) (length m)))
