-- Askers that fit: pass by pass over a part of the slice, and the two parts that hold the kept ones.
use mathlib.Core.Path.{◌≡◌, refl, sym, ◌∙◌}
use mathlib.Core.Bool.{Bool, true, false, not, ◌&&◌, ◌||◌, and-true, and-false, and_comm, and_assoc, or-true, or-false}
use mathlib.Core.List.{List, [], ◌∷◌, ◌++◌}
use Prim.Native.Nat.{ℕ, zero, suc, ◌+◌, ◌-◌, ◌≤◌, ◌<◌, min}
use native.Mathlib.Omega.{arith}
use lib.Dec.{eqb, leb, ltb}
use lib.ListN.{length, get_or, take, drop, length-drop}
use lib.Seq.{take-suc, get_or-drop}
use borrow.Author.Tests.{leb-true, ltb-true, ltb-false, eqb-true, eqb-false, lt-ltb, le-ltb, le-leb, lt-leb, ne_eqb}
use Rattle.laws.specs.Tests.{all}
use Rattle.laws.specs.Ring.{back, places_before}
use Rattle.laws.proofs.Truth.{all_same}
use Rattle.laws.proofs.RingScan.{back-pos, places-split}
use Rattle.protocol.specs.Memory.{asker_fits}
use Rattle.memory.specs.Order.{fits_beside}

both-swap : (a b c d : Bool) → ((a && b) && (c && d)) ≡ ((a && c) && (b && d))
both-swap true b true d = refl
both-swap true b false d = and-false b
both-swap false b c d = refl

module _ (f g : ℕ → Bool) where
  all_both : (s : List ℕ) → (all f s && all g s) ≡ all (λ a. f a && g a) s
  all_both [] = refl
  all_both (a ∷ s) = both-swap (f a) (all f s) (g a) (all g s) ∙ rw (all_both s)

  -- a pass that is spared
  all_or : (b : Bool) (s : List ℕ) → (b || all g s) ≡ all (λ a. b || g a) s
  all_or false s = refl
  all_or true [] = refl
  all_or true (a ∷ s) = all_or true s

module _ (live : ℕ → Bool) where
  -- an asker fits as far as the lines below k are tested
  abbrev pub fits_to : ℕ → ℕ → Bool
  fits_to k a = leb a 9 && (not (ltb a k) || live a)

  first_fits : (a : ℕ) → fits_beside 10 a ≡ fits_to 0 a
  first_fits a = by (leb a 9) refl
    where
      by : (t : Bool) → leb a 9 ≡ t → fits_beside 10 a ≡ fits_to 0 a
      by false p = rw p
      by true p =
          let h : a ≤ 9 = leb-true a 9 p in
          rw (p, ne_eqb a 10 (λ z. omega arith), le-ltb a 0 (omega arith))

  pub pass-none : (s : List ℕ) → all (fits_beside 10) s ≡ all (fits_to 0) s
  pass-none = all_same (fits_beside 10) (fits_to 0) first_fits

  next_fits : (k a : ℕ) → (fits_to k a && (live k || fits_beside k a)) ≡ fits_to (k + 1) a
  next_fits k a = by (leb a 9) (ltb a k) refl (eqb a k) refl
    where
      by : (m t : Bool) → ltb a k ≡ t → (u : Bool) → eqb a k ≡ u
          → ((m && (not (ltb a k) || live a)) && (live k || (m && not (eqb a k))))
          ≡ (m && (not (ltb a (k + 1)) || live a))
      by false t p u q = refl
      by true true p u q =
          let h : a < k = ltb-true a k p in
          rw (p, ne_eqb a k (λ z. omega arith), lt-ltb a (k + 1) (omega arith), or-true) (and-true (live a))
      by true false p true q =
          let z : a ≡ k = eqb-true a k q in
          rw (p, q, lt-ltb a (k + 1) (omega arith), or-false, z)
      by true false p false q =
          let h : k ≤ a = ltb-false a k p in
          rw (p, q, le-ltb a (k + 1) (omega (arith, eqb-false a k q)), or-true)

  -- a pass more
  pub pass-more : (s : List ℕ) (k : ℕ) → (all (fits_to k) s && (live k || all (fits_beside k) s)) ≡ all (fits_to (k + 1)) s
  pass-more s k =
      rw (all_or (fits_to k) (fits_beside k) (live k) s) (all_both (fits_to k) (λ a. live k || fits_beside k a) s)
      ∙ all_same (λ a. fits_to k a && (live k || fits_beside k a)) (fits_to (k + 1)) (next_fits k) s

  all-fit : (a : ℕ) → fits_to 8 a ≡ asker_fits live a
  all-fit a = by (ltb a 8) refl (eqb a 8) refl (eqb a 9) refl
    where
      by : (t : Bool) → ltb a 8 ≡ t → (u : Bool) → eqb a 8 ≡ u → (v : Bool) → eqb a 9 ≡ v
          → fits_to 8 a ≡ asker_fits live a
      by true p u q v r =
          let h : a < 8 = ltb-true a 8 p in
          rw (p, ne_eqb a 8 (λ z. omega arith), ne_eqb a 9 (λ z. omega arith), le-leb a 9 (omega arith), or-false)
      by false p true q v r = let z : a ≡ 8 = eqb-true a 8 q in rw z
      by false p false q true r = let z : a ≡ 9 = eqb-true a 9 r in rw z
      by false p false q false r =
          let h : 8 ≤ a = ltb-false a 8 p in
          rw (q, r, lt-leb a 9 (omega (arith, eqb-false a 8 q, eqb-false a 9 r)), p)

  pub pass-last : (s : List ℕ) → all (fits_to 8) s ≡ all (asker_fits live) s
  pass-last = all_same (fits_to 8) (asker_fits live) all-fit

module _ (f : ℕ → Bool) where
  all_join : (xs ys : List ℕ) → all f (xs ++ ys) ≡ (all f xs && all f ys)
  all_join [] ys = refl
  all_join (x ∷ xs) ys = rw (all_join xs ys) (sym (and_assoc (f x) (all f xs) (all f ys)))

  -- a pass from the front: one element more
  pub all-suc : (s : List ℕ) (n : ℕ) → n < length s → all f (take (suc n) s) ≡ (all f (take n s) && f (get_or s n 0))
  all-suc s n h = rw (take-suc s n 0) (all_join (take n s) (get_or s n 0 ∷ []) ∙ rw and-true)

  -- the n elements below place p, the nearest first, are a part of the slice
  part-below : (s : List ℕ) (c n p : ℕ) → n ≤ p → p ≤ length s → p ≤ c
      → all (λ x. f (get_or s x 0)) (places_before c p n) ≡ all f (take n (drop (p - n) s))
  part-below s c zero p h m k = refl
  part-below s c (suc n) p h m k =
      let b : back c p ≡ p - 1 = back-pos c p (omega arith) k in
      let d : p - 1 - n ≡ p - suc n = omega arith in
      let e : p - suc n + n ≡ p - 1 = omega arith in
      let i : n < length (drop (p - suc n) s) = simp length-drop (omega arith) in
      let r = part-below s c n (p - 1) (omega arith) (omega arith) (omega arith) in
      rw (b, r, d, all-suc (drop (p - suc n) s) n i, get_or-drop, e)
      (and_comm (f (get_or s (p - 1) 0)) (all f (take n (drop (p - suc n) s))))

-- the kept elements: `first` below `next`, and the rest at the end
pub parts-kept : (f : ℕ → Bool) (s : List ℕ) (next count first : ℕ)
    → next < length s → count ≤ length s → first ≡ min count next
    → (all f (take (next - (next - first)) (drop (next - first) s))
    && all f (take (length s - (length s - (count - first))) (drop (length s - (count - first)) s)))
    ≡ all (λ x. f (get_or s x 0)) (places_before (length s) next count)
parts-kept f s next count first h m e =
    let a : next - (next - first) ≡ first = omega arith in
    let b : length s - (length s - (count - first)) ≡ count - first = omega arith in
    rw (
      places-split (length s) next count h,
      ← e,
      all_join (λ x. f (get_or s x 0)),
      a,
      b,
      part-below f s (length s) first next (omega arith) (omega arith) (omega arith),
      part-below f s (length s) (count - first) (length s) (omega arith) (omega arith) (omega arith),
    )
