-- Whether a name is among others, and its place among them.
-- Assumes nothing.
use Prim.Native.Nat.{ℕ, suc, ◌+◌, ◌-◌, ◌≤◌, ◌<◌}
use native.Mathlib.Omega.{arith}
use native.Mathlib.Decide.{dec_le}
use mathlib.Core.Path.{◌≡◌, refl, sym, ap, ◌∙◌}
use mathlib.Core.Bool.{Bool, true, false, cond, ◌||◌}
use mathlib.Core.List.{List, [], ◌∷◌, ◌++◌}
use lib.ListN.{length, get_or, take, drop, length-append, length-drop, get_or-append}
use lib.Seq.{get_or-take, get_or-drop, get_or-append-add, length-take-le}
use borrow.Author.Tests.{not-true}
use Rattle.laws.proofs.Refusals.{clash}
use Rattle.laws.proofs.Words.{refuted}
use Rattle.namearea.specs.Good.{same_text, differ, pairwise}
use Rattle.namearea.specs.Calls.{is_listed, place_among}
use Rattle.namearea.proofs.PlaceLaws.{at-any, place-holds}
use Rattle.namearea.proofs.GoodLaws.{pairwise-at, same-is, is_same}

-- no place has the name
pub unlisted : (x : List ℕ) (names : List (List ℕ)) → ((i : ℕ) → i < length names → get_or names i [] ≡ x → ⊥)
    → is_listed x names ≡ false
unlisted x [] h = refl
unlisted x (y ∷ ys) h =
    rw (refuted (same_text x y) (λ e. h 0 (omega arith) (sym (same-is x y e))))
    (unlisted x ys (λ i g. h (suc i) (omega arith)))

-- some place has it
pub listed_at : (x : List ℕ) (names : List (List ℕ)) (i : ℕ) → i < length names → get_or names i [] ≡ x
    → is_listed x names ≡ true
listed_at x names i h e = at-any (same_text x) [] names i h (is_same x (get_or names i []) (sym e))

-- the place that is told has it
pub record Place (x : List ℕ) (names : List (List ℕ)) (i : ℕ) : Type 0 where
  pub below : i < length names
  pub has : get_or names i [] ≡ x

pub place : (x : List ℕ) (names : List (List ℕ)) → is_listed x names ≡ true → Place x names (place_among x names)
place x names e =
    let r = place-holds x names e in
    record { below = r.0; has = sym (same-is x (get_or names (place_among x names) []) r.1) }

-- of names that differ no two places have the same
pub one_place : (names : List (List ℕ)) (i k : ℕ) → pairwise differ names ≡ true → i < length names → k < length names
    → get_or names i [] ≡ get_or names k [] → i ≡ k
one_place names i k d h g e = by (dec_le i k) (dec_le k i)
  where
    never : (m n : ℕ) → m < n → n < length names → get_or names m [] ≡ get_or names n [] → ⊥
    never m n b l q =
        clash (is_same (get_or names m []) (get_or names n []) q)
        (not-true (same_text (get_or names m []) (get_or names n [])) (pairwise-at differ [] names m n d b l))

    by : Dec (i ≤ k) → Dec (k ≤ i) → i ≡ k
    by (yes a) (yes b) = omega arith
    by (no a) c = absurd (never k i (omega arith) h (sym e))
    by (yes a) (no b) = absurd (never i k (omega arith) g e)

pub place_is : (x : List ℕ) (names : List (List ℕ)) (i : ℕ) → pairwise differ names ≡ true → Place x names i
    → place_among x names ≡ i
place_is x names i d p =
    let q : Place x names (place_among x names) = place x names (listed_at x names i p.below p.has) in
    one_place names (place_among x names) i d q.below p.below (q.has ∙ sym p.has)

-- one name more, which is another
module _ (y x : List ℕ) (other : same_text y x ≡ false) where
  pub listed_more : (names : List (List ℕ)) → is_listed y (names ++ (x ∷ [])) ≡ is_listed y names
  listed_more [] = rw other
  listed_more (z ∷ zs) = ap (λ b. same_text y z || b) (listed_more zs)

pub place-more : (y : List ℕ) (names more : List (List ℕ)) → is_listed y names ≡ true
    → place_among y (names ++ more) ≡ place_among y names
unfolding place_among
place-more y [] more e = absurd (clash e refl)
place-more y (z ∷ zs) more e = go (same_text y z) e (place-more y zs more)
  where
    go : (b : Bool) → (b || is_listed y zs) ≡ true
        → (is_listed y zs ≡ true → place_among y (zs ++ more) ≡ place_among y zs)
        → cond b 0 (suc (place_among y (zs ++ more))) ≡ cond b 0 (suc (place_among y zs))
    go true l rest = refl
    go false l rest = ap suc (rest l)

-- names with the one at place i cut out: those before it and those behind it
module _ (names : List (List ℕ)) (i : ℕ) (here : i < length names) where
  abbrev pub cut : List (List ℕ)
  cut = take i names ++ drop (i + 1) names

  front : length (take i names) ≡ i
  front = length-take-le i names (omega arith)

  pub cut-length : length cut ≡ length names - 1
  cut-length = rw (length-append (take i names) (drop (i + 1) names), front, length-drop (i + 1) names) (omega arith)

  pub cut-before : (j : ℕ) → j < i → get_or cut j [] ≡ get_or names j []
  cut-before j h =
      get_or-append (take i names) (drop (i + 1) names) [] j (omega (arith, front)) ∙ get_or-take i names j [] h

  pub cut-behind : (j : ℕ) → i ≤ j → get_or cut j [] ≡ get_or names (j + 1) []
  cut-behind j h =
      let e : length (take i names) + (j - i) ≡ j = omega (arith, front) in
      let f : i + 1 + (j - i) ≡ j + 1 = omega arith in
      ap (λ k. get_or cut k []) (sym e)
      ∙ get_or-append-add (take i names) (drop (i + 1) names) (j - i) []
      ∙ get_or-drop (i + 1) names (j - i) []
      ∙ ap (λ k. get_or names k []) f

  -- a name of another place
  pub place-before : (y : List ℕ) (j : ℕ) → Place y names j → j < i → Place y cut j
  place-before y j p h = record { below = rw cut-length (omega arith); has = cut-before j h ∙ p.has }

  pub place-behind : (y : List ℕ) (j : ℕ) → Place y names j → i < j → Place y cut (j - 1)
  place-behind y j p h =
      let e : j - 1 + 1 ≡ j = omega arith in
      record {
        below = rw cut-length (omega (arith, p.below));
        has = cut-behind (j - 1) (omega arith) ∙ ap (λ k. get_or names k []) e ∙ p.has;
      }

  -- and back: what stands there after the cut stood there before, at a place that is not i
  pub place-back : (y : List ℕ) (j : ℕ) → Place y cut j → (k : ℕ) × ((k ≡ i → ⊥) × Place y names k)
  place-back y j p = by (dec_le i j)
    where
      short : j < length names - 1
      short = rw cut-length at p.below

      by : Dec (i ≤ j) → (k : ℕ) × ((k ≡ i → ⊥) × Place y names k)
      by (yes h) =
          (j + 1, ((λ e. omega arith), record { below = omega (arith, short); has = sym (cut-behind j h) ∙ p.has }))
      by (no h) = (
        j,
        ((λ e. omega arith), record { below = omega (arith, short); has = sym (cut-before j (omega arith)) ∙ p.has }),
      )
