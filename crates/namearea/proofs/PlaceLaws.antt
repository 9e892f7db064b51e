-- Places in a list: a test that holds somewhere, the place of a name, and the bytes of names up to a place.
use Prim.Native.Nat.{ℕ, zero, suc, ◌+◌, ◌<◌}
use mathlib.Core.Path.{◌≡◌, refl, ap, ◌∙◌}
use mathlib.Core.Bool.{Bool, true, false, cond, ◌||◌}
use mathlib.Core.Logic.{⊎_elim}
use mathlib.Core.List.{List, [], ◌∷◌, ◌++◌}
use native.Mathlib.Nat.{add-zero}
use native.Mathlib.Omega.{arith}
use lib.ListN.{length, get_or, take}
use lib.Seq.{take-suc}
use Rattle.laws.specs.Tests.{any}
use Rattle.laws.proofs.Refusals.{clash, or_split, or_left, or_right}
use Rattle.namearea.specs.Area.{total}
use Rattle.namearea.specs.Good.{same_text}
use Rattle.namearea.specs.Calls.{is_listed, place_among}

-- a test that holds of some element holds at some place
module _ {A : Type 0} (f : A → Bool) (d : A) where
  pub record Somewhere (xs : List A) : Type 0 where
    pub place : ℕ
    pub within : place < length xs
    pub holds : f (get_or xs place d) ≡ true

  pub any_at : (xs : List A) → any f xs ≡ true → Somewhere xs
  any_at [] e = absurd (clash e refl)
  any_at (x ∷ xs) e = ⊎_elim here (λ g. later (any_at xs g)) (or_split (f x) (any f xs) e)
    where
      here : f x ≡ true → Somewhere (x ∷ xs)
      here g = record { place = 0; within = omega arith; holds = g }

      later : Somewhere xs → Somewhere (x ∷ xs)
      later s = record { place = suc s.place; within = omega arith; holds = s.holds }

  pub at-any : (xs : List A) (i : ℕ) → i < length xs → f (get_or xs i d) ≡ true → any f xs ≡ true
  at-any [] i h e = absurd (omega arith)
  at-any (x ∷ xs) zero h e = or_left (f x) (any f xs) e
  at-any (x ∷ xs) (suc i) h e = or_right (f x) (any f xs) (at-any xs i (omega arith) e)

-- the place of a name that is listed is a place, and there it stands
pub place-holds : (x : List ℕ) (ys : List (List ℕ)) → is_listed x ys ≡ true
    → (place_among x ys < length ys) × (same_text x (get_or ys (place_among x ys) []) ≡ true)
unfolding place_among
place-holds x [] e = absurd (clash e refl)
place-holds x (y ∷ ys) e = go (same_text x y) refl e (place-holds x ys)
  where
    go : (t : Bool) → same_text x y ≡ t → (t || is_listed x ys) ≡ true
        → (is_listed x ys ≡ true → (place_among x ys < length ys) × (same_text x (get_or ys (place_among x ys) []) ≡ true))
        → (cond t 0 (suc (place_among x ys)) < length (y ∷ ys))
        × (same_text x (get_or (y ∷ ys) (cond t 0 (suc (place_among x ys))) []) ≡ true)
    go true h e f = (omega arith, h)
    go false h e f = let r = f e in (omega (arith, r.0), r.1)

-- one name more
pub total_append : (xs ys : List (List ℕ)) → total (xs ++ ys) ≡ total xs + total ys
unfolding total
total_append [] ys = omega arith
total_append (x ∷ xs) ys = omega (arith, total_append xs ys)

pub total-suc : (xs : List (List ℕ)) (n : ℕ) → n < length xs
    → total (take (suc n) xs) ≡ total (take n xs) + length (get_or xs n [])
unfolding total
total-suc xs n h =
    ap total (take-suc xs n [] h) ∙ total_append (take n xs) (get_or xs n [] ∷ [])
    ∙ ap (λ k. total (take n xs) + k) (add-zero (length (get_or xs n [])))
