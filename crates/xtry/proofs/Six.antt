-- A bad pair, wherever it stands, and nothing else is answered 6.
use Prim.Native.Nat.{ℕ}
use mathlib.Core.Path.{◌≡◌, refl, sym, ap, ◌∙◌}
use mathlib.Core.Bool.{Bool, true, false, not, ◌||◌, ◌&&◌}
use mathlib.Core.List.{List, [], ◌∷◌}
use native.Mathlib.Omega.{arith}
use Rattle.laws.specs.Tests.{first_of, any, all}
use Rattle.xtry.specs.Pairs.{items_of, good_pair, read_answer, tried_of}
use Rattle.xtry.specs.Claims.{SixExactly}

-- not all are good exactly where one is not
not-all : (items : List (List ℕ)) → not (all good_pair items) ≡ any (λ item. not (good_pair item)) items
not-all [] = refl
not-all (x ∷ xs) = go (good_pair x) (not-all xs)
  where
    go : (t : Bool) → not (all good_pair xs) ≡ any (λ item. not (good_pair item)) xs → not (t && all good_pair xs)
        ≡ (not t || any (λ item. not (good_pair item)) xs)
    go true h = h
    go false h = refl

six_where : (t : Bool) → first_of ((t, 6) ∷ []) ≡ 6 → t ≡ true
six_where true h = refl
six_where false h = absurd (omega arith)

pub six-exactly : SixExactly
unfolding tried_of read_answer
six-exactly value = (
  λ h. sym (not-all (items_of value)) ∙ six_where (not (all good_pair (items_of value))) h,
  λ h. ap (λ t. first_of ((t, 6) ∷ [])) (not-all (items_of value) ∙ h),
)
