-- Tests of the pairs from place i on: the pair decides, or the test goes on, or there is none left; and what the
-- numbers of the pairs, and the bytes that the names lie among, tell of all names.
use Prim.Native.Nat.{ℕ, zero, suc, ◌+◌, ◌-◌, ◌≤◌, ◌<◌}
use mathlib.Core.Path.{◌≡◌, refl, sym, ap, ◌∙◌}
use mathlib.Core.Bool.{Bool, true, false, cond, not, ◌&&◌, and-true}
use mathlib.Core.Logic.{inl}
use mathlib.Core.List.{List, [], ◌∷◌}
use native.Mathlib.Decide.{dec_lt}
use native.Mathlib.Numerals.{add-one}
use native.Mathlib.Omega.{arith}
use lib.Dec.{eqb, leb}
use lib.ListN.{length, take, drop, drop_of_length-le, length-take}
use lib.Seq.{drop-cons, drop-drop, take-take}
use borrow.Author.Tests.{leb-true, le-leb, lt-leb, not-true}
use Rattle.laws.specs.Tests.{any, all}
use Rattle.laws.proofs.Over.{rest-front}
use Rattle.laws.proofs.Refusals.{clash, and_intro, or_left, or_snd, each, every_of, all_weaken, all_get_d, any-take}
use Rattle.laws.proofs.Words.{refuted}
use Rattle.namearea.specs.declared.Span.{Span}
use Rattle.namearea.specs.Area.{text_from, span_at, spans_from, spans_of, end_of, name_of}
use Rattle.namearea.specs.Good.{longest_name, good_name, listable, apart, pairwise, rising_from}
use Rattle.namearea.proofs.SpanLaws.{spans-length, span_here}
use Rattle.namearea.proofs.GoodLaws.{all-places, pairwise_of, is-apart, name-length, no_span, listable-parts, of_parts}
use Rattle.namearea.proofs.GoodLaws.{rising-at}
use Rattle.names.specs.Order.{placed, fits, order_of, along}

module _ (count : ℕ) (a : List ℕ) (i : ℕ) where
  pairs_next : i < count → drop i (spans_of count a) ≡ span_at a i ∷ drop (i + 1) (spans_of count a)
  pairs_next h =
      let l : i < length (spans_of count a) = rw spans-length h in
      rw add-one
      (drop-cons (spans_of count a) i no_span l
      ∙ ap (λ s. s ∷ drop (suc i) (spans_of count a)) (span_here count a i no_span h))

  pairs-none : count ≤ i → drop i (spans_of count a) ≡ []
  pairs-none h =
      let l : length (spans_of count a) ≤ i = rw spans-length h in
      drop_of_length-le (spans_of count a) l

  -- a test of each
  module _ (f : Span → Bool) where
    pub each-stop : i < count → f (span_at a i) ≡ false → all f (drop i (spans_of count a)) ≡ false
    each-stop h e = ap (all f) (pairs_next h) ∙ ap (λ b. b && all f (drop (i + 1) (spans_of count a))) e

    pub each_on : i < count → f (span_at a i) ≡ true
        → all f (drop i (spans_of count a)) ≡ all f (drop (i + 1) (spans_of count a))
    each_on h e = ap (all f) (pairs_next h) ∙ ap (λ b. b && all f (drop (i + 1) (spans_of count a))) e

    pub each-end : count ≤ i → all f (drop i (spans_of count a)) ≡ true
    each-end h = ap (all f) (pairs-none h)

  -- a test of each with those behind it
  module _ (f : Span → Span → Bool) where
    pub pairwise-stop : i < count → all (f (span_at a i)) (drop (i + 1) (spans_of count a)) ≡ false
        → pairwise f (drop i (spans_of count a)) ≡ false
    unfolding pairwise
    pairwise-stop h e = ap (pairwise f) (pairs_next h) ∙ ap (λ b. b && pairwise f (drop (i + 1) (spans_of count a))) e

    pub pairwise-on : i < count → all (f (span_at a i)) (drop (i + 1) (spans_of count a)) ≡ true
        → pairwise f (drop i (spans_of count a)) ≡ pairwise f (drop (i + 1) (spans_of count a))
    unfolding pairwise
    pairwise-on h e = ap (pairwise f) (pairs_next h) ∙ ap (λ b. b && pairwise f (drop (i + 1) (spans_of count a))) e

    pub pairwise-end : count ≤ i → pairwise f (drop i (spans_of count a)) ≡ true
    unfolding pairwise
    pairwise-end h = ap (pairwise f) (pairs-none h)

-- two pairs: the first ends in time, or the other decides
pub apart-first : (s t : Span) → end_of s ≤ t.offset → apart s t ≡ true
apart-first s t h = or_left (leb (end_of s) t.offset) (leb (end_of t) s.offset) (le-leb (end_of s) t.offset h)

pub apart_other : (s t : Span) → t.offset < end_of s → apart s t ≡ leb (end_of t) s.offset
apart_other s t h = rw (lt-leb (end_of s) t.offset h)

-- ---- no name

pub none-placed : (n : ℕ) (a : List ℕ) → n ≡ 0 → placed n a ≡ true
unfolding spans_from pairwise
none-placed n a e = rw e

-- ---- the numbers

-- a name that may be listed fits, so that one that does not fit is not placed
fits-first : (a : List ℕ) (s : Span) → listable a s ≡ true → fits (length a) s ≡ true
unfolding fits good_name
fits-first a s e =
    let p = listable-parts a s e in
    let l = name-length a s p.0.1 in
    let x = name_of a s in
    let g = each (leb 1 (length x) ∷ leb (length x) longest_name ∷ not (any (eqb 0) x) ∷ []) p.1 in
    every_of
    (leb text_from s.offset ∷ leb (end_of s) (length a) ∷ leb 1 s.size ∷ leb s.size longest_name ∷ []) (
      le-leb text_from s.offset p.0.0,
      (le-leb (end_of s) (length a) p.0.1, (rw l at g.0, (rw l at g.1.0, tt))),
    )

unfit : (n : ℕ) (a : List ℕ) → all (fits (length a)) (spans_of n a) ≡ false → placed n a ≡ false
unfit n a e =
    ap (λ b. b && pairwise apart (spans_of n a))
    (refuted (all (listable a) (spans_of n a))
    (λ t. clash (all_weaken (listable a) (fits (length a)) (spans_of n a) (fits-first a) t) e))

-- ---- bytes of which none is zero

any-drop : (f : ℕ → Bool) (n : ℕ) (xs : List ℕ) → any f xs ≡ false → any f (drop n xs) ≡ false
any-drop f zero xs e = e
any-drop f (suc n) [] e = refl
any-drop f (suc n) (x ∷ xs) e = any-drop f n xs (or_snd (f x) (any f xs) e)

-- a name that lies among them
module _ (a : List ℕ) (from to : ℕ) (s : Span) (h : from ≤ s.offset) (g : end_of s ≤ to) (l : end_of s ≤ length a) where
  among : take s.size (drop (s.offset - from) (drop from (take to a))) ≡ name_of a s
  among =
      let e : from + (s.offset - from) ≡ s.offset = omega arith in
      let m : s.size ≤ length (take to a) - s.offset = rw length-take (omega arith) in
      ap (take s.size)
      (drop-drop (s.offset - from) from (take to a)
      ∙ ap (λ n. drop n (take to a)) e
      ∙ sym (rest-front a s.offset to))
      ∙ take-take s.size (length (take to a) - s.offset) (drop s.offset a) m

  whole-among : any (eqb 0) (drop from (take to a)) ≡ false → any (eqb 0) (name_of a s) ≡ false
  whole-among e =
      let rest = drop (s.offset - from) (drop from (take to a)) in
      rw among at (any-take (eqb 0) s.size rest (any-drop (eqb 0) (s.offset - from) (drop from (take to a)) e))

-- a pair that fits, of a name with no zero byte
fits-listable : (a : List ℕ) (s : Span) → fits (length a) s ≡ true → (end_of s ≤ length a → any (eqb 0) (name_of a s)
    ≡ false) → listable a s ≡ true
unfolding fits good_name
fits-listable a s e z =
    let t =
    each (leb text_from s.offset ∷ leb (end_of s) (length a) ∷ leb 1 s.size ∷ leb s.size longest_name ∷ []) e in
    let inside = leb-true (end_of s) (length a) t.1.0 in
    let x = name_of a s in
    let l = name-length a s inside in
    of_parts a s (leb-true text_from s.offset t.0, inside)
    (every_of (leb 1 (length x) ∷ leb (length x) longest_name ∷ not (any (eqb 0) x) ∷ [])
    (rw l t.1.1.0, (rw l t.1.1.1.0, (ap not (z inside), tt))))

-- ---- offsets that rise

module _ (n : ℕ) (a : List ℕ) (r : rising_from 0 (spans_of n a) ≡ true) where
  rising-apart : pairwise apart (spans_of n a) ≡ true
  rising-apart =
      pairwise_of apart no_span (spans_of n a) (λ i k h b.
      let g : k < n = rw spans-length at b in
      let m : i < n = omega arith in
      rw (span_here n a i no_span m, span_here n a k no_span g)
      (is-apart (span_at a i) (span_at a k) (inl (rising-at n a r i k h g))))

  first-before : (i : ℕ) → i < n → (span_at a 0).offset ≤ (span_at a i).offset
  first-before zero h = omega arith
  first-before (suc i) h = let b = rising-at n a r 0 (suc i) (omega arith) h in omega arith

  last-behind : (i : ℕ) → i < n → end_of (span_at a i) ≤ end_of (span_at a (n - 1))
  last-behind i h = by (dec_lt i (n - 1))
    where
      by : Dec (i < n - 1) → end_of (span_at a i) ≤ end_of (span_at a (n - 1))
      by (yes l) = let b = rising-at n a r i (n - 1) l (omega arith) in omega arith
      by (no l) = let e : i ≡ n - 1 = omega arith in rw e (omega arith)

  -- no zero byte among the names
  rising_whole : all (fits (length a)) (spans_of n a) ≡ true → not (any (eqb 0) (along n a)) ≡ true
      → placed n a ≡ true
  rising_whole f z = and_intro (all (listable a) (spans_of n a)) (pairwise apart (spans_of n a)) listed rising-apart
    where
      good : (i : ℕ) → i < n → listable a (span_at a i) ≡ true
      good i h =
          let l : i < length (spans_of n a) = rw spans-length h in
          let t = rw (span_here n a i no_span h) at (all_get_d (fits (length a)) (spans_of n a) i no_span f l) in
          fits-listable a (span_at a i) t (λ b.
          whole-among a (span_at a 0).offset (end_of (span_at a (n - 1))) (span_at a i) (first-before i h)
          (last-behind i h) b (not-true (any (eqb 0) (along n a)) z))

      listed : all (listable a) (spans_of n a) ≡ true
      listed =
          all-places (listable a) no_span (spans_of n a) (λ i h.
          let g : i < n = rw spans-length at h in
          rw (span_here n a i no_span g) (good i g))

  -- name by name
  rising-listed : placed n a ≡ all (listable a) (spans_of n a)
  rising-listed = rw rising-apart (and-true (all (listable a) (spans_of n a)))

-- ---- the order of the pairs

abbrev told : Bool → Bool → ℕ
told f r = cond f (cond r 2 1) 0

module _ (n : ℕ) (ss : List Span) where
  no-order : order_of n ss ≡ 0 → all (fits n) ss ≡ false
  unfolding order_of
  no-order = go (all (fits n) ss) (rising_from 0 ss)
    where
      go : (f r : Bool) → told f r ≡ 0 → f ≡ false
      go true true e = absurd (omega arith)
      go true false e = absurd (omega arith)
      go false r e = refl

  full-order : (order_of n ss ≡ 0 → ⊥) → (order_of n ss ≡ 1 → ⊥)
      → (all (fits n) ss ≡ true) × (rising_from 0 ss ≡ true)
  unfolding order_of
  full-order = go (all (fits n) ss) (rising_from 0 ss)
    where
      go : (f r : Bool) → (told f r ≡ 0 → ⊥) → (told f r ≡ 1 → ⊥) → (f ≡ true) × (r ≡ true)
      go true true h g = (refl, refl)
      go true false h g = absurd (g refl)
      go false r h g = absurd (h refl)

-- what the number of the order tells
module _ (n : ℕ) (a : List ℕ) (o : ℕ) (e : o ≡ order_of (length a) (spans_of n a)) where
  pub told-unfit : o ≡ 0 → placed n a ≡ false
  told-unfit z = unfit n a (no-order (length a) (spans_of n a) (sym e ∙ z))

  told-full : (o ≡ 0 → ⊥) → (o ≡ 1 → ⊥)
      → (all (fits (length a)) (spans_of n a) ≡ true) × (rising_from 0 (spans_of n a) ≡ true)
  told-full h g = full-order (length a) (spans_of n a) (λ z. h (e ∙ z)) (λ z. g (e ∙ z))

  pub told-whole : (o ≡ 0 → ⊥) → (o ≡ 1 → ⊥) → not (any (eqb 0) (along n a)) ≡ true → placed n a ≡ true
  told-whole h g z = let t = told-full h g in rising_whole n a t.1 t.0 z

  pub told-listed : (o ≡ 0 → ⊥) → (o ≡ 1 → ⊥) → placed n a ≡ all (listable a) (spans_of n a)
  told-listed h g = rising-listed n a (told-full h g).1

-- what a pass over the pairs has told before place i
module _ (count : ℕ) (a : List ℕ) where
  pub record Seen (i low : ℕ) (rising : Bool) : Type 0 where
    pub most : i ≤ count
    pub fit : all (fits (length a)) (drop i (spans_of count a)) ≡ all (fits (length a)) (spans_of count a)
    pub rise : (rising && rising_from low (drop i (spans_of count a))) ≡ rising_from 0 (spans_of count a)

  pub seen_start : Seen 0 0 true
  seen_start = record { most = omega arith; fit = refl; rise = refl }

  module _ (i low : ℕ) (rising : Bool) (s : Seen i low rising) where
    pub seen-stop : i < count → fits (length a) (span_at a i) ≡ false → order_of (length a) (spans_of count a) ≡ 0
    unfolding order_of
    seen-stop h e = rw (sym s.fit ∙ each-stop count a i (fits (length a)) h e)

    pub seen_next : i < count → fits (length a) (span_at a i) ≡ true
        → Seen (i + 1) (end_of (span_at a i)) (rising && leb low (span_at a i).offset)
    unfolding rising_from
    seen_next h e =
        let first = leb low (span_at a i).offset in
        let rest = rising_from (end_of (span_at a i)) (drop (i + 1) (spans_of count a)) in
        record {
          most = omega arith;
          fit = sym (each_on count a i (fits (length a)) h e) ∙ s.fit;
          rise = sym (grouped rising first rest)
              ∙ sym (ap (λ l. rising && rising_from low l) (pairs_next count a i h))
              ∙ s.rise;
        }
      where
        grouped : (x y z : Bool) → (x && (y && z)) ≡ ((x && y) && z)
        grouped true y z = refl
        grouped false y z = refl

    pub seen_end : count ≤ i → order_of (length a) (spans_of count a) ≡ cond rising 2 1
    unfolding order_of rising_from
    seen_end h =
        let r = sym s.rise ∙ ap (λ l. rising && rising_from low l) (pairs-none count a i h) ∙ and-true rising in
        rw (sym s.fit ∙ each-end count a i (fits (length a)) h, r)
