-- What stands before a byte is what the library takes while no byte is that one.
use Prim.Native.Nat.{ℕ, suc, ◌+◌}
use mathlib.Core.Path.{◌≡◌, refl, ap}
use mathlib.Core.Bool.{Bool, true, false, cond, not}
use mathlib.Core.List.{List, [], ◌∷◌}
use native.Mathlib.Omega.{arith}
use lib.Dec.{eqb}
use lib.ListN.{take}
use Rattle.std.specs.List.{prefix_len, take_while}
use Rattle.rows.specs.Rows.{until}

pub until-taken : (b : ℕ) (s : List ℕ) → take_while (λ x. not (eqb x b)) s ≡ until b s
unfolding until
until-taken b [] = refl
until-taken b (y ∷ ys) = by (eqb y b) (until-taken b ys)
  where
    by : (t : Bool) → take_while (λ x. not (eqb x b)) ys ≡ until b ys
        → take (cond (not t) (1 + prefix_len (λ x. not (eqb x b)) ys) 0) (y ∷ ys) ≡ cond t [] (y ∷ until b ys)
    by true e = refl
    by false e =
        let f : ℕ → Bool = λ x. not (eqb x b) in
        let k : 1 + prefix_len f ys ≡ suc (prefix_len f ys) = omega arith in
        rw k (ap (λ l. y ∷ l) e)
