-- Two numbers compared, and what follows either way.
use Prim.Native.Nat.{ℕ, ◌≤◌, ◌<◌}
use mathlib.Core.Path.{◌≡◌, refl}
use mathlib.Core.Bool.{Bool, true, false}
use lib.Dec.{eqb, ltb}
use borrow.Author.Tests.{eqb-true, eqb-false, ltb-true, ltb-false}

module _ {P : Type 0} (m n : ℕ) where
  by_order : (b : Bool) → ltb n m ≡ b → (m ≤ n → P) → (n < m → P) → P
  by_order true e f g = g (ltb-true n m e)
  by_order false e f g = f (ltb-false n m e)

  -- at most the other, or above it
  pub either : (m ≤ n → P) → (n < m → P) → P
  either f g = by_order (ltb n m) refl f g

  by_equal : (b : Bool) → eqb m n ≡ b → (m ≡ n → P) → ((m ≡ n → ⊥) → P) → P
  by_equal true e f g = f (eqb-true m n e)
  by_equal false e f g = g (eqb-false m n e)

  -- the same, or not
  pub same_or : (m ≡ n → P) → ((m ≡ n → ⊥) → P) → P
  same_or f g = by_equal (eqb m n) refl f g
