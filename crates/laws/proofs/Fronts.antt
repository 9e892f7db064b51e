-- Entries written at the front of an output where an answer is 0, and nothing where it is not.
-- Assumes nothing.
use Prim.Native.Nat.{ℕ, ◌≤◌}
use mathlib.Core.Path.{◌≡◌, refl, sym, ap, ◌∙◌}
use mathlib.Core.Bool.{Bool, true, false, cond}
use mathlib.Core.List.{List}
use native.Mathlib.Omega.{arith}
use lib.Dec.{eqb}
use lib.ListN.{length, take, drop}
use borrow.Author.Tests.{eqb-true, eqb-false, ne_eqb}
use Rattle.laws.specs.Parts.{over}
use Rattle.laws.proofs.Over.{over-front, over-behind, over-length}

module _ (answer n : ℕ) (entries out after : List ℕ) (size : length entries ≡ n)
    (is : after ≡ cond (eqb answer 0) (over 0 entries out) out) where
  pub front-refused : (answer ≡ 0 → ⊥) → after ≡ out
  front-refused h = is ∙ rw (ne_eqb answer 0 h)

  pub front-written : answer ≡ 0 → after ≡ over 0 entries out
  front-written e = is ∙ rw e

  pub front_read : answer ≡ 0 → take n after ≡ entries
  front_read e =
      ap (take n) (front-written e) ∙ ap (λ m. take m (over 0 entries out)) (sym size) ∙ over-front entries out

  pub front-behind : answer ≡ 0 → drop n after ≡ drop n out
  front-behind e =
      ap (drop n) (front-written e)
      ∙ ap (λ m. drop m (over 0 entries out)) (sym size)
      ∙ over-behind entries out
      ∙ ap (λ m. drop m out) size

  pub front_long : (answer ≡ 0 → n ≤ length out) → length after ≡ length out
  front_long room = by (eqb answer 0) refl
    where
      by : (t : Bool) → eqb answer 0 ≡ t → length after ≡ length out
      by true q =
          let e = eqb-true answer 0 q in
          let fits = room e in
          ap length (front-written e) ∙ over-length 0 entries out (omega arith)
      by false q = ap length (front-refused (eqb-false answer 0 q))
