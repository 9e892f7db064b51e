-- What is read off each of eight lines, one after another, is what is read off the lines at their numbers.
use Prim.Native.Nat.{ℕ}
use mathlib.Core.Path.{◌≡◌, refl}
use mathlib.Core.List.{List, [], ◌∷◌, map}
use native.Mathlib.Omega.{arith}
use lib.ListN.{length, get_or}
use Rattle.protocol.specs.Lines.{line_numbers}

pub each-is : {A B : Type 0} (f : A → B) (d : A) (xs : List A) → length xs ≡ 8
    → map f xs ≡ map (λ k. f (get_or xs k d)) line_numbers
each-is f d (a ∷ b ∷ c ∷ e ∷ g ∷ h ∷ i ∷ j ∷ []) n = refl
each-is f d (a ∷ b ∷ c ∷ e ∷ g ∷ h ∷ i ∷ j ∷ k ∷ xs) n = absurd (omega (arith, n))
each-is f d (a ∷ b ∷ c ∷ e ∷ g ∷ h ∷ i ∷ []) n = absurd (omega (arith, n))
each-is f d (a ∷ b ∷ c ∷ e ∷ g ∷ h ∷ []) n = absurd (omega (arith, n))
each-is f d (a ∷ b ∷ c ∷ e ∷ g ∷ []) n = absurd (omega (arith, n))
each-is f d (a ∷ b ∷ c ∷ e ∷ []) n = absurd (omega (arith, n))
each-is f d (a ∷ b ∷ c ∷ []) n = absurd (omega (arith, n))
each-is f d (a ∷ b ∷ []) n = absurd (omega (arith, n))
each-is f d (a ∷ []) n = absurd (omega (arith, n))
each-is f d [] n = absurd (omega (arith, n))
