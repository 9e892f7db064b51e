-- Laws of tests, of facts that hold of each element, and of numbers and parts inside lists. Assumes nothing.
use Prim.Native.Nat.{ℕ, zero, suc, ◌+◌, ◌/◌, ◌<◌}
use mathlib.Core.Path.{◌≡◌, refl}
use mathlib.Core.Bool.{Bool, true, false, not, ◌&&◌, ◌||◌, false≢true}
use mathlib.Core.List.{List, [], ◌∷◌, ◌++◌}
use native.Mathlib.Omega.{arith}
use lib.Dec.{eqb}
use borrow.Author.Tests.{eqb-true}
use lib.ListN.{length, take, drop, replicate}
use lib.Seq.{take-append-add, drop-append-add}
use Rattle.laws.specs.Tests.{any, all}
use Rattle.laws.specs.Bytes.{little_bytes}

-- tests joined by `and`
pub and_both : {a b : Bool} → a ≡ true → b ≡ true → (a && b) ≡ true
and_both p q = rw p q

pub and_first : (a b : Bool) → (a && b) ≡ true → a ≡ true
and_first true b e = refl
and_first false b e = e

pub and_second : (a b : Bool) → (a && b) ≡ true → b ≡ true
and_second true b e = e
and_second false b e = absurd (false≢true e)

-- a test that cannot fail holds, and one that cannot hold fails
pub decided : (a : Bool) → (a ≡ false → ⊥) → a ≡ true
decided true f = refl
decided false f = absurd (f refl)

pub failed : (a : Bool) → (a ≡ true → ⊥) → a ≡ false
failed true f = absurd (f refl)
failed false f = refl

pub implied : (a b : Bool) → (a ≡ true → b ≡ true) → (not a || b) ≡ true
implied true b f = f refl
implied false b f = refl

-- a fact that holds of each element
module _ {A : Type 0} where
  abbrev pub Each : (A → Type 0) → List A → Type 0
  Each P [] = Unit {0}
  Each P (x ∷ xs) = P x × Each P xs

  pub each_append : (P : A → Type 0) (xs ys : List A) → Each P xs → Each P ys → Each P (xs ++ ys)
  each_append P [] ys p q = q
  each_append P (x ∷ xs) ys p q = (p.0, each_append P xs ys p.1 q)

  pub each_take : (P : A → Type 0) (n : ℕ) (xs : List A) → Each P xs → Each P (take n xs)
  each_take P zero xs p = tt
  each_take P (suc n) [] p = tt
  each_take P (suc n) (x ∷ xs) p = (p.0, each_take P n xs p.1)

  pub each-drop : (P : A → Type 0) (n : ℕ) (xs : List A) → Each P xs → Each P (drop n xs)
  each-drop P zero xs p = p
  each-drop P (suc n) [] p = tt
  each-drop P (suc n) (x ∷ xs) p = each-drop P n xs p.1

  pub each-replicate : (P : A → Type 0) (n : ℕ) (x : A) → P x → Each P (replicate n x)
  each-replicate P zero x h = tt
  each-replicate P (suc n) x h = (h, each-replicate P n x h)

  -- what a test says of each element where it holds of all
  pub each_all : (f : A → Bool) (P : A → Type 0) → ((x : A) → f x ≡ true → P x) → (xs : List A)
      → all f xs ≡ true → Each P xs
  each_all f P g [] e = tt
  each_all f P g (x ∷ xs) e = (g x (and_first (f x) (all f xs) e), each_all f P g xs (and_second (f x) (all f xs) e))

-- a test that holds of all numbers of a list holds of a number that is one of them
pub one_of : (f : ℕ → Bool) (n : ℕ) (ns : List ℕ) → all f ns ≡ true → any (eqb n) ns ≡ true → f n ≡ true
one_of f n [] a e = absurd (false≢true e)
one_of f n (m ∷ ns) a e = go (eqb n m) refl (one_of f n ns (and_second (f m) (all f ns) a)) e
  where
    go : (t : Bool) → eqb n m ≡ t → (any (eqb n) ns ≡ true → f n ≡ true) → (t || any (eqb n) ns) ≡ true → f n ≡ true
    go true q on h = rw (eqb-true n m q) (and_first (f m) (all f ns) a)
    go false q on h = on h

-- what stands past a front of n elements
module _ {A : Type 0} (p q : List A) (n : ℕ) (long : length p ≡ n) (k : ℕ) where
  pub take_past : take (n + k) (p ++ q) ≡ p ++ take k q
  take_past = rw (← long) (take-append-add p q k)

  pub drop_past : drop (n + k) (p ++ q) ≡ drop k q
  drop_past = rw (← long) (drop-append-add p q k)

-- a number written as bytes is bytes
pub little-bytes : (k n : ℕ) → Each (λ b. b < 256) (little_bytes k n)
little-bytes zero n = tt
little-bytes (suc k) n = (omega arith, little-bytes k (n / 256))
