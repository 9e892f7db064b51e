-- The order of keywords, which are in lower case: the first bytes that differ decide; a keyword stands before every
-- longer one that begins with it.
use Rattle.std.specs.Prelude.{ℕ, Bool, true, false, cond, List, [], ◌∷◌, eqb, ltb}

unfoldable pub below : List ℕ → List ℕ → Bool
below [] [] = false
below [] (y ∷ b) = true
below (x ∷ a) [] = false
below (x ∷ a) (y ∷ b) = cond (eqb x y) (below a b) (ltb x y)
