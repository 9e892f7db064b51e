-- Tests over lists, and the first refusal of an ordered list.
use Rattle.std.specs.Prelude.{ℕ, Bool, true, false, cond, ◌&&◌, ◌||◌, List, [], ◌∷◌}

-- the number of the first test that holds, and 0 where none does
abbrev pub first_of : List (Bool × ℕ) → ℕ
first_of [] = 0
first_of (c ∷ cs) = cond c.0 c.1 (first_of cs)

-- all of these tests hold
abbrev pub every : List Bool → Bool
every [] = true
every (b ∷ bs) = b && every bs

module _ {A : Type 0} where
  -- the test holds of some element
  abbrev pub any : (A → Bool) → List A → Bool
  any f [] = false
  any f (x ∷ xs) = f x || any f xs

  -- the test holds of each element
  abbrev pub all : (A → Bool) → List A → Bool
  all f [] = true
  all f (x ∷ xs) = f x && all f xs
