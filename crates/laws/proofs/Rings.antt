-- Rings of any capacity: what is put at the next place becomes the newest, and the oldest of a full ring makes way.
-- Assumes nothing.
use Prim.Native.Nat.{ℕ, zero, suc, ◌+◌, ◌-◌, ◌%◌, ◌≤◌, ◌<◌, min}
use native.Mathlib.Nat.{zero-min, min-zero, suc-min-suc, mod-add-mod, add-mod_right, mod-eq_of_lt, mod-eq-sub-mod}
use native.Mathlib.Nat.{mod-lt}
use native.Mathlib.Omega.{arith}
use mathlib.Core.Path.{◌≡◌, refl, sym, ap, ap₂, ◌∙◌}
use mathlib.Core.Bool.{Bool, true, false, not}
use mathlib.Core.List.{List, [], ◌∷◌, map}
use lib.Dec.{eqb, leb, ltb}
use lib.ListN.{length, get_or, take}
use borrow.Author.Tests.{eqb-false, ne_eqb, not-true, lt-ltb, le-leb, leb-true, ltb-true, ltb-false}
use Rattle.laws.specs.Tests.{all}
use Rattle.laws.specs.Ring.{back, onward, places_before, ring_place, ring_fits, kept_places}
use Rattle.laws.proofs.Refusals.{and_fst, and_snd, and_intro, of_choice}
use Rattle.laws.proofs.RingScan.{places-length}

-- functions that agree where a test holds map a list that passes it alike
module _ {A B : Type 0} where
  pub map_where : (test : A → Bool) (f g : A → B) → ((x : A) → test x ≡ true → f x ≡ g x) → (xs : List A)
      → all test xs ≡ true → map f xs ≡ map g xs
  map_where test f g same [] e = refl
  map_where test f g same (x ∷ xs) e = ap₂ ◌∷◌ (same x (and_fst (test x) (all test xs) e))
      (map_where test f g same xs (and_snd (test x) (all test xs) e))

  pub map-take : (f : A → B) (n : ℕ) (xs : List A) → map f (take n xs) ≡ take n (map f xs)
  map-take f zero xs = refl
  map-take f (suc n) [] = refl
  map-take f (suc n) (x ∷ xs) = ap (◌∷◌ (f x)) (map-take f n xs)

  pub map-get_or : (f : A → B) (xs : List A) (i : ℕ) (d : A) (d' : B) → i < length xs
      → get_or (map f xs) i d' ≡ f (get_or xs i d)
  map-get_or f [] i d d' h = absurd (omega arith)
  map-get_or f (x ∷ xs) zero d d' h = refl
  map-get_or f (x ∷ xs) (suc i) d d' h = map-get_or f xs i d d' (omega arith)

pub map-map : {A B C : Type 0} (f : A → B) (g : B → C) (xs : List A) → map g (map f xs) ≡ map (λ x. g (f x)) xs
map-map f g [] = refl
map-map f g (x ∷ xs) = ap (◌∷◌ (g (f x))) (map-map f g xs)

module _ (c : ℕ) (some : 0 < c) where
  -- a step back is a step of c - 1 onward
  round : (a k : ℕ) → ((a + (c - 1)) % c + suc k) % c ≡ (a + k) % c
  round a k =
      let e : a + (c - 1) + suc k ≡ a + k + c = omega arith in
      mod-add-mod (a + (c - 1)) c (suc k) ∙ ap (λ x. x % c) e ∙ add-mod_right (a + k) c

  pub back_below : (p : ℕ) → back c p < c
  back_below p = mod-lt (p + (c - 1)) some

  pub onward-below : (p : ℕ) → onward c p < c
  onward-below p = mod-lt (p + 1) some

  pub back-onward : (p : ℕ) → p < c → back c (onward c p) ≡ p
  back-onward p h =
      let e : p + 1 + (c - 1) ≡ p + c = omega arith in
      mod-add-mod (p + 1) c (c - 1) ∙ ap (λ x. x % c) e ∙ add-mod_right p c ∙ mod-eq_of_lt h

  -- fewer than c places onward one is elsewhere
  elsewhere : (q k : ℕ) → q < c → 0 < k → k < c → (q + k) % c ≡ q → ⊥
  elsewhere q k hq hk kc e = go (ltb (q + k) c) refl
    where
      go : (b : Bool) → ltb (q + k) c ≡ b → ⊥
      go true z = let f : (q + k) % c ≡ q + k = mod-eq_of_lt (ltb-true (q + k) c z) in omega (arith, e, f)
      go false z =
          let w : c ≤ q + k = ltb-false (q + k) c z in
          let v : q + k - c < c = omega arith in
          let f : (q + k) % c ≡ q + k - c = mod-eq-sub-mod w ∙ mod-eq_of_lt v in
          omega (arith, e, f)

  places-below : (n p : ℕ) → all (λ x. ltb x c) (places_before c p n) ≡ true
  places-below zero p = refl
  places-below (suc n) p =
      and_intro (ltb (back c p) c) (all (λ x. ltb x c) (places_before c (back c p) n))
      (lt-ltb (back c p) c (back_below p)) (places-below n (back c p))

  -- q is k places onward from p: the n places before p are not q
  places-apart : (n q p k : ℕ) → q < c → (p + k) % c ≡ q → k + n < c → all (λ x. not (eqb x q)) (places_before c p n)
      ≡ true
  places-apart zero q p k hq e h = refl
  places-apart (suc n) q p k hq e h =
      let f : (back c p + suc k) % c ≡ q = round p k ∙ e in
      let ne : back c p ≡ q → ⊥ = λ z. elsewhere q (suc k) hq (omega arith) (omega arith)
      (ap (λ x. (x + suc k) % c) (sym z) ∙ f) in
      rw (ne_eqb (back c p) q ne) (places-apart n q (back c p) (suc k) hq f (omega arith))

  places-take : (m n p : ℕ) → take m (places_before c p n) ≡ places_before c p (min m n)
  places-take zero n p = rw zero-min
  places-take (suc m) zero p = rw min-zero
  places-take (suc m) (suc n) p = rw suc-min-suc (ap (◌∷◌ (back c p)) (places-take m n (back c p)))

  place_at : (n p i : ℕ) → i < n → n ≤ c → get_or (places_before c p n) i 0 ≡ ring_place c p i
  place_at zero p i h m = absurd (omega arith)
  place_at (suc n) p zero h m = refl
  place_at (suc n) p (suc i) h m =
      let e : c - suc i ≡ suc (c - suc (suc i)) = omega arith in
      place_at n (back c p) i (omega arith) (omega arith) ∙ rw e (round p (c - suc (suc i)))

  pub kept-below : (p n : ℕ) → all (λ x. ltb x c) (kept_places c p n) ≡ true
  unfolding kept_places
  kept-below p n = of_choice (λ (xs : List ℕ). all (λ x. ltb x c) xs ≡ true) (ring_fits c p n) (places_before c p n) []
      (λ _. places-below n p) (λ _. refl)

  kept-all : (p n : ℕ) → p < c → n ≤ c → kept_places c p n ≡ places_before c p n
  unfolding kept_places
  kept-all p n hp hn = rw (le-leb n c hn, lt-ltb p c hp)

-- the place of the i-th of the kept
pub kept_at : (c p n i : ℕ) → i < length (kept_places c p n) → get_or (kept_places c p n) i 0 ≡ ring_place c p i
unfolding kept_places
kept_at c p n i =
    of_choice (λ (xs : List ℕ). i < length xs → get_or xs i 0 ≡ ring_place c p i) (ring_fits c p n) (places_before c p n) []
    (λ f h.
    let m : n ≤ c = leb-true n c (and_fst (leb n c) (ltb p c) f) in
    let k : p < c = ltb-true p c (and_snd (leb n c) (ltb p c) f) in
    place_at c (omega arith) n p i (rw places-length at h) m)
    (λ f h. absurd (omega arith))

-- one more is put at the next place: reading the ring anew gives the new one and then the old ones, within the capacity
module _ {B : Type 0} (k p n : ℕ) (hp : p < suc k) (hn : n ≤ suc k) (new old : ℕ → B) where
  pub ring-push : (b : B) → new p ≡ b → ((x : ℕ) → (x ≡ p → ⊥) → new x ≡ old x)
      → map new (kept_places (suc k) (onward (suc k) p) (min (suc k) (n + 1))) ≡ take (suc k)
      (b ∷ map old (kept_places (suc k) p n))
  ring-push b e f =
      let some : 0 < suc k = omega arith in
      let m : min (suc k) (n + 1) ≡ suc (min k n) = omega arith in
      let p0 : (p + 0) % suc k ≡ p = ap (λ x. x % suc k) (omega arith) ∙ mod-eq_of_lt hp in
      ap (map new) (kept-all (suc k) some (onward (suc k) p) (min (suc k) (n + 1)) (onward-below (suc k) some p)
      (omega arith)
      ∙ ap (places_before (suc k) (onward (suc k) p)) m
      ∙ ap (λ x. x ∷ places_before (suc k) x (min k n)) (back-onward (suc k) some p hp))
      ∙ ap₂ ◌∷◌ e
      (map_where (λ x. not (eqb x p)) new old (λ x t. f x (eqb-false x p (not-true (eqb x p) t)))
      (places_before (suc k) p (min k n))
      (places-apart (suc k) some (min k n) p p 0 hp p0 (omega arith))
      ∙ ap (map old) (sym (places-take (suc k) some k n p) ∙ ap (take k) (sym (kept-all (suc k) some p n hp hn)))
      ∙ map-take old k (kept_places (suc k) p n))
