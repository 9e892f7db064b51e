-- The plain list's tests are those that the contracts of the calls cite.
-- Assumes nothing.
use Prim.Native.Nat.{ℕ, zero, suc, ◌+◌, ◌≤◌, ◌<◌}
use native.Mathlib.Omega.{arith}
use native.Mathlib.Decide.{dec_le}
use mathlib.Core.Path.{◌≡◌, refl, sym, ap}
use mathlib.Core.Bool.{Bool, true, false, cond, not, ◌&&◌, ◌||◌}
use mathlib.Core.List.{List, [], ◌∷◌, ◌++◌}
use lib.Dec.{eqb, leb, ltb, eqb-zero-suc, eqb-suc-zero}
use lib.ListN.{length, take, drop}
use borrow.Author.Tests.{lt-ltb, le-ltb, lt-leb, le-leb}
use Rattle.laws.specs.Tests.{any}
use Rattle.ascii.specs.Text.{compared}
use Rattle.namearea.specs.Area.{total}
use Rattle.namearea.specs.Good.{good_name, same_text}
use Rattle.namearea.specs.Calls.{is_listed, place_among, without}
use Rattle.namehistory.specs.Plain.{has_zero, is_unfit, equal, is_one_of, others, bytes_in}

pub equal-same : (x y : List ℕ) → equal x y ≡ same_text x y
unfolding compared
equal-same [] [] = refl
equal-same [] (b ∷ y) = refl
equal-same (a ∷ x) [] = refl
equal-same (a ∷ x) (b ∷ y) = ap (◌&&◌ (eqb a b)) (equal-same x y)

chosen : (b c : Bool) → cond b true c ≡ b || c
chosen true c = refl
chosen false c = refl

pub one-listed : (x : List ℕ) (names : List (List ℕ)) → is_one_of x names ≡ is_listed x names
one-listed x [] = refl
one-listed x (y ∷ ys) = rw (equal-same x y, one-listed x ys) (chosen (same_text x y) (is_listed x ys))

pub bytes-total : (names : List (List ℕ)) → bytes_in names ≡ total names
unfolding total
bytes-total [] = refl
bytes-total (x ∷ xs) = ap (◌+◌ (length x)) (bytes-total xs)

eqb_swap : (b : ℕ) → eqb b 0 ≡ eqb 0 b
eqb_swap zero = refl
eqb_swap (suc b) = rw (eqb-suc-zero b, eqb-zero-suc b)

zero-any : (x : List ℕ) → has_zero x ≡ any (eqb 0) x
zero-any [] = refl
zero-any (b ∷ bs) = rw (eqb_swap b, zero-any bs) (chosen (eqb 0 b) (any (eqb 0) bs))

past-leb : (a b : ℕ) → ltb a b ≡ not (leb b a)
past-leb a b = by (dec_le b a)
  where
    by : Dec (b ≤ a) → ltb a b ≡ not (leb b a)
    by (yes h) = rw (le-ltb a b h, le-leb b a h)
    by (no h) = let g : a < b = omega arith in rw (lt-ltb a b g, lt-leb b a g)

pub unfit-good : (x : List ℕ) → is_unfit x ≡ not (good_name x)
unfolding is_unfit good_name
unfit-good [] = refl
unfit-good (b ∷ bs) =
    rw (zero-any (b ∷ bs), past-leb 255 (length (b ∷ bs)), le-leb 1 (length (b ∷ bs)) (omega arith))
    (neither (leb (length (b ∷ bs)) 255) (any (eqb 0) (b ∷ bs)))
  where
    neither : (p q : Bool) → (not p || q) ≡ not (p && (not q && true))
    neither true true = refl
    neither true false = refl
    neither false q = refl

-- the names but the first that is this one, by its place
pub others-without : (x : List ℕ) (names : List (List ℕ)) → others x names ≡ without names x
unfolding place_among
others-without x [] = refl
others-without x (y ∷ ys) = rw (equal-same x y, others-without x ys) (go (same_text x y))
  where
    go : (b : Bool)
        → cond b ys (y ∷ without ys x)
        ≡ take (cond b 0 (suc (place_among x ys))) (y ∷ ys) ++ drop (cond b 0 (suc (place_among x ys)) + 1) (y ∷ ys)
    go true = refl
    go false =
        let e : suc (place_among x ys) + 1 ≡ suc (place_among x ys + 1) = omega arith in
        ap (λ n. y ∷ (take (place_among x ys) ys ++ drop n (y ∷ ys))) (sym e)
