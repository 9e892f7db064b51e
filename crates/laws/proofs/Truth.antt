-- Facts on tests: both hold, and all of a list.
use mathlib.Core.Path.{◌≡◌, refl}
use mathlib.Core.Bool.{Bool, true, false, ◌&&◌}
use mathlib.Core.List.{List, [], ◌∷◌}
use Rattle.std.specs.List.{list_all}
use Rattle.laws.specs.Tests.{all}

pub both_left : (x y : Bool) → (x && y) ≡ true → x ≡ true
both_left true y e = refl
both_left false y e = e

pub both_right : (x y : Bool) → (x && y) ≡ true → y ≡ true
both_right true y e = e
both_right false y e = cc

pub both_true : (x y : Bool) → x ≡ true → y ≡ true → (x && y) ≡ true
both_true x y e f = rw (e, f)

module _ {A : Type 0} (f g : A → Bool) where
  pub all_same : ((x : A) → f x ≡ g x) → (xs : List A) → all f xs ≡ all g xs
  all_same h [] = refl
  all_same h (x ∷ xs) = rw (h x, all_same h xs)

  pub all_more : ((x : A) → f x ≡ true → g x ≡ true) → (xs : List A) → all f xs ≡ true → all g xs ≡ true
  all_more h [] e = refl
  all_more h (x ∷ xs) e = both_true (g x) (all g xs) (h x (both_left (f x) (all f xs) e))
      (all_more h xs (both_right (f x) (all f xs) e))

-- as the library tests a list
pub all-is : {A : Type 0} (f : A → Bool) (xs : List A) → all f xs ≡ list_all f xs
all-is f [] = refl
all-is f (x ∷ xs) = rw (all-is f xs)
