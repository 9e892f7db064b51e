-- What a good area has, place by place: few names, each in its text, apart from one another, and distinct; and tests
-- of lists, element by element.
use Prim.Native.Nat.{ℕ, zero, suc, ◌≤◌, ◌<◌}
use mathlib.Core.Path.{◌≡◌, refl, sym, ap, ap₂, ◌∙◌}
use mathlib.Core.Bool.{Bool, true, false, not}
use mathlib.Core.Logic.{◌⊎◌, inl, inr, ⊎_elim}
use mathlib.Core.List.{List, [], ◌∷◌, map}
use native.Mathlib.Omega.{arith}
use lib.Dec.{eqb, leb}
use lib.ListN.{length, get_or, drop, length-take, length-drop, length-map, get_or-map}
use borrow.Author.Tests.{leb-true, le-leb, eqb-true, eq-eqb, not-true}
use Rattle.laws.specs.Tests.{all}
use Rattle.laws.proofs.Refusals.{clash, and_fst, and_snd, and_intro, or_split, or_left, or_right, each, every_of}
use Rattle.laws.proofs.Refusals.{all_get_d}
use Rattle.laws.proofs.Words.{refuted}
use Rattle.ascii.specs.Text.{compared}
use Rattle.namearea.specs.declared.Span.{Span}
use Rattle.namearea.specs.Area.{most_names, text_from, count_in, span_at, spans_of, spans_in, end_of}
use Rattle.namearea.specs.Area.{name_of, name_at, names_of, names_in}
use Rattle.namearea.specs.Good.{good_name, in_text, listable, apart, same_text, differ, pairwise, good_list}
use Rattle.namearea.specs.Good.{rising_from}
use Rattle.namearea.proofs.SpanLaws.{spans-length, span_here}

-- ---- tests of lists, by places

module _ {A : Type 0} (f : A → Bool) (d : A) where
  -- what holds at each place holds of all
  pub all-places : (xs : List A) → ((i : ℕ) → i < length xs → f (get_or xs i d) ≡ true) → all f xs ≡ true
  all-places [] h = refl
  all-places (x ∷ xs) h =
      and_intro (f x) (all f xs) (h 0 (omega arith)) (all-places xs (λ i g. h (suc i) (omega arith)))

module _ {A : Type 0} (f : A → A → Bool) (d : A) where
  -- of two places the test holds in the order of the list
  pub pairwise-at : (xs : List A) (i k : ℕ) → pairwise f xs ≡ true → i < k → k < length xs
      → f (get_or xs i d) (get_or xs k d) ≡ true
  unfolding pairwise
  pairwise-at [] i k e h g = absurd (omega arith)
  pairwise-at (x ∷ xs) i zero e h g = absurd (omega arith)
  pairwise-at (x ∷ xs) zero (suc k) e h g =
      all_get_d (f x) xs k d (and_fst (all (f x) xs) (pairwise f xs) e) (omega arith)
  pairwise-at (x ∷ xs) (suc i) (suc k) e h g =
      pairwise-at xs i k (and_snd (all (f x) xs) (pairwise f xs) e) (omega arith) (omega arith)

  pub pairwise_of : (xs : List A) → ((i k : ℕ) → i < k → k < length xs → f (get_or xs i d) (get_or xs k d) ≡ true)
      → pairwise f xs ≡ true
  unfolding pairwise
  pairwise_of [] h = refl
  pairwise_of (x ∷ xs) h =
      and_intro (all (f x) xs) (pairwise f xs)
      (all-places (f x) d xs (λ k g. h 0 (suc k) (omega arith) (omega arith)))
      (pairwise_of xs (λ i k g l. h (suc i) (suc k) (omega arith) (omega arith)))

-- ---- the same bytes

pub same-is : (x y : List ℕ) → same_text x y ≡ true → x ≡ y
unfolding compared
same-is [] [] e = refl
same-is [] (b ∷ y) e = absurd (clash e refl)
same-is (a ∷ x) [] e = absurd (clash e refl)
same-is (a ∷ x) (b ∷ y) e =
    ap₂ (λ n l. n ∷ l) (eqb-true a b (and_fst (eqb a b) (same_text x y) e))
    (same-is x y (and_snd (eqb a b) (same_text x y) e))

pub same_refl : (x : List ℕ) → same_text x x ≡ true
unfolding compared
same_refl [] = refl
same_refl (a ∷ x) = and_intro (eqb a a) (same_text x x) (eq-eqb a a refl) (same_refl x)

pub is_same : (x y : List ℕ) → x ≡ y → same_text x y ≡ true
is_same x y e = rw e (same_refl y)

pub same-swap : (x y : List ℕ) → same_text x y ≡ same_text y x
same-swap x y = go (same_text x y) (same_text y x) (λ e. is_same y x (sym (same-is x y e)))
    (λ e. is_same x y (sym (same-is y x e)))
  where
    go : (s t : Bool) → (s ≡ true → t ≡ true) → (t ≡ true → s ≡ true) → s ≡ t
    go true t f g = sym (f refl)
    go false true f g = g refl
    go false false f g = refl

-- ---- the name at a place

abbrev pub no_span : Span
no_span = record { offset = 0; size = 0 }

pub names-length : (n : ℕ) (a : List ℕ) → length (names_of n a) ≡ n
names-length n a = length-map (spans_of n a) (name_of a) ∙ spans-length n (drop 4 a)

pub names_at : (n : ℕ) (a : List ℕ) (i : ℕ) → i < n → get_or (names_of n a) i [] ≡ name_at a i
names_at n a i h = get_or-map (name_of a) (spans_of n a) i no_span ∙ ap (name_of a) (span_here n a i no_span h)

-- a name that ends within the area has the bytes that its pair tells of
pub name-length : (a : List ℕ) (s : Span) → end_of s ≤ length a → length (name_of a s) ≡ s.size
name-length a s h = simp (length-take, length-drop) (omega arith)

-- ---- offsets that rise

-- from `low` on, none lies before what lies before `low`
rising-behind : (m low : ℕ) (ss : List Span) → m ≤ low → rising_from low ss ≡ true
    → all (λ s. leb m s.offset) ss ≡ true
unfolding rising_from
rising-behind m low [] h e = refl
rising-behind m low (s ∷ ss) h e =
    let first = leb-true low s.offset (and_fst (leb low s.offset) (rising_from (end_of s) ss) e) in
    and_intro (leb m s.offset) (all (λ t. leb m t.offset) ss)
    (le-leb m s.offset (omega arith))
    (rising-behind m (end_of s) ss (omega arith) (and_snd (leb low s.offset) (rising_from (end_of s) ss) e))

rising-order : (low : ℕ) (ss : List Span) → rising_from low ss ≡ true
    → pairwise (λ s t. leb (end_of s) t.offset) ss ≡ true
unfolding pairwise rising_from
rising-order low [] e = refl
rising-order low (s ∷ ss) e =
    let r = and_snd (leb low s.offset) (rising_from (end_of s) ss) e in
    and_intro (all (λ t. leb (end_of s) t.offset) ss) (pairwise (λ s t. leb (end_of s) t.offset) ss)
    (rising-behind (end_of s) (end_of s) ss (omega arith) r)
    (rising-order (end_of s) ss r)

-- a name ends before one behind it begins, or just where it begins
pub rising-at : (n : ℕ) (a : List ℕ) → rising_from 0 (spans_of n a) ≡ true → (i k : ℕ) → i < k → k < n
    → end_of (span_at a i) ≤ (span_at a k).offset
rising-at n a e i k h g =
    let l : k < length (spans_of n a) = rw spans-length g in
    let m : i < n = omega arith in
    let o = rising-order 0 (spans_of n a) e in
    let t = pairwise-at (λ s t. leb (end_of s) t.offset) no_span (spans_of n a) i k o h l in
    leb-true (end_of (span_at a i)) (span_at a k).offset
    (rw (span_here n a i no_span m, span_here n a k no_span g) at t)

-- ---- a good area

pub record Listed (a : List ℕ) : Type 0 where
  pub few : count_in a ≤ most_names
  pub inside : (i : ℕ) → i < count_in a → (text_from ≤ (span_at a i).offset) × (end_of (span_at a i) ≤ length a)
  pub apart : (i k : ℕ) → i < k → k < count_in a
      → (end_of (span_at a i) ≤ (span_at a k).offset) ⊎ (end_of (span_at a k) ≤ (span_at a i).offset)
  pub named : all good_name (names_in a) ≡ true
  pub distinct : pairwise differ (names_in a) ≡ true

abbrev good_tests : List ℕ → List Bool
good_tests a =
    leb (count_in a) most_names
    ∷ all (listable a) (spans_in a)
    ∷ pairwise apart (spans_in a)
    ∷ pairwise differ (names_in a)
    ∷ []

-- the tests of a pair and of two, as they are listed
pub listable-at : (a : List ℕ) → all (listable a) (spans_in a) ≡ true → (i : ℕ) → i < count_in a
    → listable a (span_at a i) ≡ true
listable-at a e i h =
    let l : i < length (spans_in a) = rw spans-length h in
    rw (span_here (count_in a) a i no_span h) at (all_get_d (listable a) (spans_in a) i no_span e l)

module _ (s t : Span) where
  pub apart-is : apart s t ≡ true → (end_of s ≤ t.offset) ⊎ (end_of t ≤ s.offset)
  apart-is e =
      ⊎_elim (λ p. inl (leb-true (end_of s) t.offset p)) (λ p. inr (leb-true (end_of t) s.offset p))
      (or_split (leb (end_of s) t.offset) (leb (end_of t) s.offset) e)

  pub is-apart : (end_of s ≤ t.offset) ⊎ (end_of t ≤ s.offset) → apart s t ≡ true
  is-apart (inl p) = or_left (leb (end_of s) t.offset) (leb (end_of t) s.offset) (le-leb (end_of s) t.offset p)
  is-apart (inr p) = or_right (leb (end_of s) t.offset) (leb (end_of t) s.offset) (le-leb (end_of t) s.offset p)

pub apart-at : (a : List ℕ) → pairwise apart (spans_in a) ≡ true → (i k : ℕ) → i < k → k < count_in a
    → apart (span_at a i) (span_at a k) ≡ true
apart-at a e i k h g =
    let l : k < length (spans_in a) = rw spans-length g in
    let m : i < count_in a = omega arith in
    rw (span_here (count_in a) a i no_span m, span_here (count_in a) a k no_span g)
    at (pairwise-at apart no_span (spans_in a) i k e h l)

pub listable-parts : (a : List ℕ) (s : Span) → listable a s ≡ true
    → ((text_from ≤ s.offset) × (end_of s ≤ length a)) × (good_name (name_of a s) ≡ true)
unfolding listable
listable-parts a s e =
    let t = and_fst (in_text (length a) s) (good_name (name_of a s)) e in (
      (
        leb-true text_from s.offset (and_fst (leb text_from s.offset) (leb (end_of s) (length a)) t),
        leb-true (end_of s) (length a) (and_snd (leb text_from s.offset) (leb (end_of s) (length a)) t),
      ),
      and_snd (in_text (length a) s) (good_name (name_of a s)) e,
    )

pub of_parts : (a : List ℕ) (s : Span) → (text_from ≤ s.offset) × (end_of s ≤ length a) → good_name (name_of a s) ≡ true
    → listable a s ≡ true
unfolding listable
of_parts a s h e =
    and_intro (in_text (length a) s) (good_name (name_of a s))
    (and_intro (leb text_from s.offset) (leb (end_of s) (length a)) (le-leb text_from s.offset h.0)
    (le-leb (end_of s) (length a) h.1))
    e

pub all_named : (a : List ℕ) (ss : List Span) → all (listable a) ss ≡ true → all good_name (map (name_of a) ss) ≡ true
all_named a [] e = refl
all_named a (s ∷ ss) e =
    and_intro (good_name (name_of a s)) (all good_name (map (name_of a) ss))
    (listable-parts a s (and_fst (listable a s) (all (listable a) ss) e)).1
    (all_named a ss (and_snd (listable a s) (all (listable a) ss) e))

pub listed : (a : List ℕ) → good_list a ≡ true → Listed a
unfolding good_list
listed a e =
    let t = each (good_tests a) e in
    record {
      few = leb-true (count_in a) most_names t.0;
      inside = λ i h. (listable-parts a (span_at a i) (listable-at a t.1.0 i h)).0;
      apart = λ i k h g. apart-is (span_at a i) (span_at a k) (apart-at a t.1.1.0 i k h g);
      named = all_named a (spans_in a) t.1.0;
      distinct = t.1.1.1.0;
    }

-- a name of those listed may be listed
pub named-at : (a : List ℕ) → all good_name (names_in a) ≡ true → (i : ℕ) → i < count_in a → good_name (name_at a i) ≡ true
named-at a e i h =
    let l : i < length (names_in a) = rw names-length h in
    rw (names_at (count_in a) a i h) at (all_get_d good_name (names_in a) i [] e l)

pub of_listed : (a : List ℕ) → Listed a → good_list a ≡ true
unfolding good_list
of_listed a l =
    every_of (good_tests a)
    (le-leb (count_in a) most_names l.few, (every-listable, (every-apart, (l.distinct, tt))))
  where
    every-listable : all (listable a) (spans_in a) ≡ true
    every-listable =
        all-places (listable a) no_span (spans_in a) (λ i h.
        let g : i < count_in a = rw spans-length at h in
        rw (span_here (count_in a) a i no_span g)
        (of_parts a (span_at a i) (l.inside i g) (named-at a l.named i g)))

    every-apart : pairwise apart (spans_in a) ≡ true
    every-apart =
        pairwise_of apart no_span (spans_in a) (λ i k h b.
        let g : k < count_in a = rw spans-length at b in
        let m : i < count_in a = omega arith in
        rw (span_here (count_in a) a i no_span m, span_here (count_in a) a k no_span g)
        (is-apart (span_at a i) (span_at a k) (l.apart i k h g)))

-- each name has the bytes that its pair tells of
pub name-size : (a : List ℕ) → Listed a → (i : ℕ) → i < count_in a → length (name_at a i) ≡ (span_at a i).size
name-size a l i h = name-length a (span_at a i) (l.inside i h).1

-- two names of those listed, at two places, differ
pub distinct-at : (a : List ℕ) → pairwise differ (names_in a) ≡ true → (i k : ℕ) → i < k → k < count_in a
    → name_at a i ≡ name_at a k → ⊥
distinct-at a e i k h g q =
    let l : k < length (names_in a) = rw names-length g in
    let m : i < count_in a = omega arith in
    let d : differ (name_at a i) (name_at a k) ≡ true =
    rw (names_at (count_in a) a i m, names_at (count_in a) a k g) at (pairwise-at differ [] (names_in a) i k e h l) in
    clash (is_same (name_at a i) (name_at a k) q) (not-true (same_text (name_at a i) (name_at a k)) d)

pub of_distinct : (a : List ℕ) → ((i k : ℕ) → i < k → k < count_in a → name_at a i ≡ name_at a k → ⊥)
    → pairwise differ (names_in a) ≡ true
of_distinct a d =
    pairwise_of differ [] (names_in a) (λ i k h b.
    let g : k < count_in a = rw names-length at b in
    let m : i < count_in a = omega arith in
    rw (names_at (count_in a) a i m, names_at (count_in a) a k g)
    (ap not (refuted (same_text (name_at a i) (name_at a k)) (λ e. d i k h g (same-is (name_at a i) (name_at a k) e)))))

-- what holds of each name holds of all
pub of_named : (a : List ℕ) → ((i : ℕ) → i < count_in a → good_name (name_at a i) ≡ true)
    → all good_name (names_in a) ≡ true
of_named a n =
    all-places good_name [] (names_in a) (λ i h.
    let g : i < count_in a = rw names-length at h in
    rw (names_at (count_in a) a i g) (n i g))
