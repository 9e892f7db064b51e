-- A text that starts with another, as the library tests it.
use Prim.Native.Nat.{ℕ}
use mathlib.Core.Path.{◌≡◌, refl, sym}
use mathlib.Core.Bool.{Bool, true, false}
use mathlib.Core.List.{List, [], ◌∷◌}
use lib.Dec.{eqb}
use lib.ListN.{length, take}
use borrow.Author.Tests.{eqb-true, eqb-false, eq-eqb, ne_eqb}
use Rattle.std.specs.Cmp.Lexicographic.{pointwise}
use Rattle.ascii.specs.Text.{compared, same, starts_with}

-- equal bytes, in either order
either : (x y : ℕ) → eqb x y ≡ eqb y x
either x y = go (eqb x y) refl
  where
    go : (t : Bool) → eqb x y ≡ t → t ≡ eqb y x
    go true e = sym (eq-eqb y x (sym (eqb-true x y e)))
    go false e = sym (ne_eqb y x (λ k. eqb-false x y e (sym k)))

equal : (a b : List ℕ) → pointwise eqb a b ≡ same false b a
unfolding compared
equal [] [] = refl
equal [] (y ∷ b) = refl
equal (x ∷ a) [] = refl
equal (x ∷ a) (y ∷ b) = rw (either x y, equal a b)

pub starting : (p s : List ℕ) → pointwise eqb (take (length p) s) p ≡ starts_with p s
starting p s = equal (take (length p) s) p
