-- The rules in words, proved: each test says what its words say, and a number of an ordered list stands for the words
-- of its test where no test before it holds.
use Prim.Native.Nat.{ℕ, zero, suc, ◌+◌, ◌-◌, ◌*◌, ◌≤◌, ◌<◌}
use mathlib.Core.Path.{◌≡◌, refl, sym, ap, ap₂, ◌∙◌}
use mathlib.Core.Bool.{Bool, true, false, not}
use mathlib.Core.Logic.Iff
use mathlib.Core.Logic.{◌↔◌, ◌⊎◌, inl, inr, ⊎_elim}
use mathlib.Core.List.{List, [], ◌∷◌, ◌++◌}
use native.Mathlib.Omega.{arith}
use lib.Dec.{eqb, leb, ltb}
use lib.ListN.{length, get_or, take, drop}
use lib.Seq.{drop-drop, get_or-drop, get_or-take, ext_get_or, take-length}
use borrow.Author.Tests.{leb-true, leb-false, le-leb, ltb-true, ltb-false, eqb-true, eq-eqb, ne_eqb}
use Rattle.laws.specs.Tests.{first_of, any, all}
use Rattle.laws.specs.Bytes.{little}
use Rattle.laws.proofs.Refusals.{each, every_of}
use Rattle.laws.proofs.Text.{head-drop}
use Rattle.laws.proofs.Writing.{little-four}
use Rattle.laws.proofs.Words.{or_iff, none_iff, some_iff, no_iff, less_iff, not-less_iff, most_iff, first_iff, past_iff}
use Rattle.laws.proofs.Words.{refuted}
use Rattle.namearea.specs.declared.Span.{Span}
use Rattle.namearea.specs.Area.{text_from, count_in, span_in, span_at, end_of, name_at, names_in, total}
use Rattle.namearea.specs.Good.{good_name, same_text, good_list}
use Rattle.namearea.specs.Calls.{list_rules, list_answer, is_listed, place_among, find_rules, find_answer, finding}
use Rattle.namearea.specs.Calls.{no_room, add_rules, add_answer}
use Rattle.namearea.specs.Words.{number_at, count_field, offset_field, size_field, LayoutExactly, Belongs, SameName}
use Rattle.namearea.specs.Words.{WellListed, FineName, GoodExactly, Taken, StandsAt, Present, sizes_to, Full}
use Rattle.namearea.specs.Words.{AreaExactly, FindExactly, AddExactly, NamesExactly, CallsExactly}
use Rattle.namearea.proofs.GoodLaws.{same-is, is_same, same_refl, names-length, names_at, name-length, Listed}
use Rattle.namearea.proofs.GoodLaws.{listed}
use Rattle.namearea.proofs.GoodLaws.{of_listed, named-at, distinct-at, of_distinct, of_named}
use Rattle.namearea.proofs.PlaceLaws.{Somewhere, any_at, at-any, place-holds, total-suc}

-- ---- the layout

number_is : (a : List ℕ) (p : ℕ) → little (take 4 (drop p a)) ≡ number_at a p
unfolding number_at
number_is a p =
    little-four (drop p a) ∙ rw (head-drop a p 0, get_or-drop p a 1 0, get_or-drop p a 2 0, get_or-drop p a 3 0)

pub count-is : (a : List ℕ) → count_in a ≡ count_field a
unfolding count_in
count-is a = number_is a 0

abbrev pub pair_at : List ℕ → ℕ → Span
pair_at a i = record { offset = offset_field a i; size = size_field a i }

pub pair_is : (a : List ℕ) (i : ℕ) → span_at a i ≡ pair_at a i
unfolding span_in
pair_is a i =
    let pair : ℕ → ℕ → Span = λ o n. record { offset = o; size = n } in
    let e : 4 + 8 * i + 4 ≡ 8 + 8 * i = omega arith in
    ap₂ pair (number_is a (4 + 8 * i))
    (ap (λ l. little (take 4 l)) (drop-drop 4 (4 + 8 * i) a ∙ ap (λ p. drop p a) e) ∙ number_is a (8 + 8 * i))

pub layout : (a : List ℕ) → LayoutExactly a
layout a =
    record {
      count = count-is a;
      offset = λ i. ap (λ s. s.offset) (pair_is a i);
      size = λ i. ap (λ s. s.size) (pair_is a i);
    }

-- ---- a name that may be listed

zero_iff : (x : List ℕ) → (not (any (eqb 0) x) ≡ true) ↔ ((p : ℕ) → p < length x → get_or x p 0 ≡ 0 → ⊥)
zero_iff x =
    let n = none_iff (any (eqb 0) x) {X = Somewhere (eqb 0) 0 x}
    ((λ e. any_at (eqb 0) 0 x e), (λ s. at-any (eqb 0) 0 x s.place s.within s.holds)) in (
      (λ e p h z. n.0 e (record { place = p; within = h; holds = eq-eqb 0 (get_or x p 0) (sym z) })),
      (λ h. n.1 (λ s. h s.place s.within (sym (eqb-true 0 (get_or x s.place 0) s.holds)))),
    )

abbrev name_tests : List ℕ → List Bool
name_tests x = leb 1 (length x) ∷ leb (length x) 255 ∷ not (any (eqb 0) x) ∷ []

pub fine_iff : (x : List ℕ) → (good_name x ≡ true) ↔ FineName x
unfolding good_name
fine_iff x = (there, back)
  where
    there : good_name x ≡ true → FineName x
    there e =
        let t = each (name_tests x) e in
        record {
          some = leb-true 1 (length x) t.0;
          short = leb-true (length x) 255 t.1.0;
          whole = (zero_iff x).0 t.1.1.0;
        }

    back : FineName x → good_name x ≡ true
    back f =
        every_of (name_tests x)
        (le-leb 1 (length x) f.some, (le-leb (length x) 255 f.short, ((zero_iff x).1 f.whole, tt)))

-- ---- the name at a place, by its bytes

module _ (a : List ℕ) (i : ℕ) where
  size_is : end_of (span_at a i) ≤ length a → length (name_at a i) ≡ size_field a i
  size_is h = name-length a (span_at a i) h ∙ ap (λ s. s.size) (pair_is a i)

  byte-is : (p : ℕ) → p < size_field a i → get_or (name_at a i) p 0 ≡ get_or a (offset_field a i + p) 0
  byte-is p h =
      rw (pair_is a i)
      (get_or-take (size_field a i) (drop (offset_field a i) a) p 0 h ∙ get_or-drop (offset_field a i) a p 0)

  ends : offset_field a i + size_field a i ≤ length a → end_of (span_at a i) ≤ length a
  ends h = rw (pair_is a i) h

-- names at two places: the same bytes
module _ (a : List ℕ) (i k : ℕ) (h : end_of (span_at a i) ≤ length a) (g : end_of (span_at a k) ≤ length a) where
  same_name : SameName a i k → name_at a i ≡ name_at a k
  same_name s =
      ext_get_or 0 (name_at a i) (name_at a k) (size_is a i h ∙ s.size ∙ sym (size_is a k g)) (λ p b.
      let u : p < size_field a i = omega (arith, size_is a i h) in
      let v : p < size_field a k = omega (arith, s.size) in
      byte-is a i p u ∙ s.bytes p u ∙ sym (byte-is a k p v))

  name-same : name_at a i ≡ name_at a k → SameName a i k
  name-same e =
      let q : size_field a i ≡ size_field a k = sym (size_is a i h) ∙ ap length e ∙ size_is a k g in
      record {
        size = q;
        bytes = λ p u.
            let v : p < size_field a k = omega arith in
            sym (byte-is a i p u) ∙ ap (λ l. get_or l p 0) e ∙ byte-is a k p v;
      }

-- ---- a good area

not-below : (i k : ℕ) → (i < k → ⊥) → k ≤ i
not-below i k n = ltb-false i k (refuted (ltb i k) (λ e. n (ltb-true i k e)))

same_place : (i k : ℕ) → (i < k → ⊥) → (k < i → ⊥) → i ≡ k
same_place i k n m = omega (arith, not-below i k n, not-below k i m)

-- two ranges that are not empty and have no number in common: one ends before the other begins
ranges_apart : (o n q m : ℕ) → 1 ≤ n → 1 ≤ m
    → ((p : ℕ) → (o ≤ p) × (p < o + n) → (q ≤ p) × (p < q + m) → ⊥)
    → (o + n ≤ q) ⊎ (q + m ≤ o)
ranges_apart o n q m u v d = by (leb o q) refl
  where
    by : (t : Bool) → leb o q ≡ t → (o + n ≤ q) ⊎ (q + m ≤ o)
    by true e =
        let h = leb-true o q e in
        inl (not-below q (o + n) (λ b. d q (omega arith, omega arith) (omega arith, omega arith)))
    by false e =
        let h = leb-false o q e in
        inr (not-below o (q + m) (λ b. d o (omega arith, omega arith) (omega arith, omega arith)))

module _ (a : List ℕ) where
  below : (i : ℕ) → i < count_field a → i < count_in a
  below i h = rw (count-is a) h

  above : (i : ℕ) → i < count_in a → i < count_field a
  above i h = rw (count-is a) at h

  pub well : Listed a → WellListed a
  well l =
      record {
        few = rw (count-is a) at l.few;
        inside = λ i h. rw (pair_is a i) at (l.inside i (below i h));
        sized = λ i h. let f = fine i h in let n = size i h in (omega (arith, f.some), omega (arith, f.short));
        whole = λ i p h u z. let n = size i h in (fine i h).whole p (omega arith) (byte-is a i p u ∙ z);
        apart = λ i k p h g x y. same_place i k (λ b. no-common i k p b g x y) (λ b. no-common k i p b h y x);
        distinct = λ i k h g s.
            let e = same_name a i k (l.inside i (below i h)).1 (l.inside k (below k g)).1 s in
            same_place i k (λ b. distinct-at a l.distinct i k b (below k g) e)
            (λ b. distinct-at a l.distinct k i b (below i h) (sym e));
      }
    where
      fine : (i : ℕ) → i < count_field a → FineName (name_at a i)
      fine i h = (fine_iff (name_at a i)).0 (named-at a l.named i (below i h))

      size : (i : ℕ) → i < count_field a → length (name_at a i) ≡ size_field a i
      size i h = size_is a i (l.inside i (below i h)).1

      no-common : (i k p : ℕ) → i < k → k < count_field a → Belongs a i p → Belongs a k p → ⊥
      no-common i k p b g x y =
          ⊎_elim (λ u. omega arith) (λ u. omega arith)
          (rw (pair_is a i, pair_is a k) at (l.apart i k b (below k g)))

  pub of_well : WellListed a → Listed a
  of_well w =
      record {
        few = rw (count-is a) w.few;
        inside = λ i h. rw (pair_is a i) (w.inside i (above i h));
        apart = λ i k h g. rw (pair_is a i, pair_is a k) (one-first i k h (above k g));
        named = of_named a (λ i h. (fine_iff (name_at a i)).1 (fine i (above i h)));
        distinct = of_distinct a (λ i k h g e.
            let m : i < count_in a = omega arith in
            let q = w.distinct i k (above i m) (above k g)
            (name-same a i k (inside i (above i m)) (inside k (above k g)) e) in
            omega (arith, q));
      }
    where
      inside : (i : ℕ) → i < count_field a → end_of (span_at a i) ≤ length a
      inside i h = ends a i (w.inside i h).1

      fine : (i : ℕ) → i < count_field a → FineName (name_at a i)
      fine i h =
          let n = size_is a i (inside i h) in
          record {
            some = omega (arith, (w.sized i h).0);
            short = omega (arith, (w.sized i h).1);
            whole = λ p b z.
                let u : p < size_field a i = omega arith in
                w.whole i p h u (sym (byte-is a i p u) ∙ z);
          }

      one-first : (i k : ℕ) → i < k → k < count_field a
          → (offset_field a i + size_field a i ≤ offset_field a k) ⊎ (offset_field a k + size_field a k ≤ offset_field a i)
      one-first i k h g =
          let m : i < count_field a = omega arith in
          ranges_apart (offset_field a i) (size_field a i) (offset_field a k) (size_field a k)
          (w.sized i m).0 (w.sized k g).0
          (λ p x y. let q = w.apart i k p m g x y in omega (arith, q))

  pub well_iff : (good_list a ≡ true) ↔ WellListed a
  well_iff = ((λ e. well (listed a e)), (λ w. of_listed a (of_well w)))

pub good-exactly : GoodExactly
good-exactly = record { area = well_iff; name = fine_iff }

-- ---- the calls

module _ (a : List ℕ) (w : WellListed a) where
  within : (i : ℕ) → i < count_field a → end_of (span_at a i) ≤ length a
  within i h = ends a i (w.inside i h).1

  -- a name stands at a place exactly if it is the name there
  stands : (x : List ℕ) (i : ℕ) → i < count_field a → name_at a i ≡ x → StandsAt a x i
  stands x i h e =
      let n = size_is a i (within i h) in
      let q : size_field a i ≡ length x = sym n ∙ ap length e in
      record {
        within = h;
        size = q;
        bytes = λ p u.
            let v : p < size_field a i = omega arith in
            sym (byte-is a i p v) ∙ ap (λ l. get_or l p 0) e;
      }

  stood : (x : List ℕ) (i : ℕ) → StandsAt a x i → name_at a i ≡ x
  stood x i s =
      let n = size_is a i (within i s.within) in
      ext_get_or 0 (name_at a i) x (n ∙ s.size) (λ p b.
      let u : p < size_field a i = omega arith in
      let v : p < length x = omega (arith, s.size) in
      byte-is a i p u ∙ s.bytes p v)

  listed_at : (x : List ℕ) (i : ℕ) → i < length (names_in a) → same_text x (get_or (names_in a) i []) ≡ true
      → StandsAt a x i
  listed_at x i h e =
      let g : i < count_in a = rw names-length at h in
      let f = rw (names_at (count_in a) a i g) at e in
      stands x i (above a i g) (sym (same-is x (name_at a i) f))

  -- each of the names stands at its place
  names-exactly : NamesExactly a
  names-exactly =
      record {
        count = names-length (count_in a) a ∙ count-is a;
        each = λ i h.
            let e : length (names_in a) ≡ count_field a = names-length (count_in a) a ∙ count-is a in
            listed_at (get_or (names_in a) i []) i (omega arith) (same_refl (get_or (names_in a) i []));
      }

  present_iff : (x : List ℕ) → (is_listed x (names_in a) ≡ true) ↔ Present a x
  present_iff x = (there, back)
    where
      there : is_listed x (names_in a) ≡ true → Present a x
      there e =
          let s = any_at (same_text x) [] (names_in a) e in
          record { place = s.place; here = listed_at x s.place s.within s.holds }

      back : Present a x → is_listed x (names_in a) ≡ true
      back p =
          let i : ℕ = p.place in
          let g : i < count_in a = below a i p.here.within in
          let l : i < length (names_in a) = rw names-length g in
          at-any (same_text x) [] (names_in a) i l
          (rw (names_at (count_in a) a i g) (is_same x (name_at a i) (sym (stood x i p.here))))

  -- the bytes that the names have together
  sizes-to : (n : ℕ) → n ≤ count_in a → total (take n (names_in a)) ≡ sizes_to a n
  unfolding total sizes_to
  sizes-to zero h = refl
  sizes-to (suc n) h =
      let g : n < count_in a = omega arith in
      let l : n < length (names_in a) = rw names-length g in
      total-suc (names_in a) n l
      ∙ ap₂ (λ s t. s + t) (sizes-to n (omega arith))
      (ap length (names_at (count_in a) a n g) ∙ size_is a n (within n (above a n g)))

  total-is : total (names_in a) ≡ sizes_to a (count_field a)
  total-is =
      let e : total (take (length (names_in a)) (names_in a)) ≡ total (names_in a) = ap total (take-length (names_in a)) in
      let f = rw (names-length (count_in a) a) at e in
      sym f ∙ sizes-to (count_in a) (omega arith) ∙ ap (sizes_to a) (count-is a)

  full_iff : (x : List ℕ) → 4100 ≤ length a → (no_room (length a - text_from) (names_in a) x ≡ true) ↔ Full a x
  full_iff x h =
      let n : length (names_in a) ≡ count_field a = names-length (count_in a) a ∙ count-is a in
      let t : total (names_in a) ≡ sizes_to a (count_field a) = total-is in
      let m = most_iff 512 (length (names_in a)) in
      let r = less_iff (length a - 4100) (total (names_in a) + length x) in
      or_iff (leb 512 (length (names_in a))) (ltb (length a - 4100) (total (names_in a) + length x))
      ((λ e. omega (arith, m.0 e)), (λ g. m.1 (omega arith)))
      ((λ e. omega (arith, r.0 e)), (λ g. r.1 (omega arith)))

-- the rules of every call, and others behind them
module _ (a : List ℕ) (rest : List (Bool × ℕ)) where
  area-exactly : all (λ c. not (eqb c.1 2)) rest ≡ true → all (λ c. not (eqb c.1 1)) rest ≡ true
      → AreaExactly a (first_of (list_rules a ++ rest))
  area-exactly h g =
      let bad : List (Bool × ℕ) = (not (good_list a), 1) ∷ rest in
      record {
        two = Iff.trans (first_iff 2 (ltb (length a) 4100) bad h refl) (less_iff (length a) 4100);
        one = past_iff 1 (ltb (length a) 4100) 2 bad refl (not-less_iff (length a) 4100)
            (Iff.trans (first_iff 1 (not (good_list a)) rest g refl) (none_iff (good_list a) (well_iff a)));
      }

  pub past-area : (n : ℕ) {X : Type 0} → eqb 2 n ≡ false → eqb 1 n ≡ false → (Taken a → (first_of rest ≡ n) ↔ X)
      → (first_of (list_rules a ++ rest) ≡ n) ↔ (Taken a × X)
  past-area n h g x =
      let bad : List (Bool × ℕ) = (not (good_list a), 1) ∷ rest in
      let p = past_iff n (ltb (length a) 4100) 2 bad h (not-less_iff (length a) 4100)
      (past_iff n (not (good_list a)) 1 rest g (some_iff (good_list a) (well_iff a)) Iff.rfl) in (
        (λ e.
            let v = p.0 e in
            let t : Taken a = record { long = v.0; good = v.1.0 } in
            (t, (x t).0 v.1.1)),
        (λ v. p.1 (v.0.long, (v.0.good, (x v.0).1 v.1))),
      )

-- the last test, where no number is given
last_iff : {Y : Type 0} (b : Bool) (k : ℕ) → eqb k 0 ≡ false → (b ≡ false) ↔ Y → (first_of ((b, k) ∷ []) ≡ 0) ↔ Y
last_iff b k h y =
    let p = past_iff 0 b k [] h y (Iff.rfl {A = first_of [] ≡ 0}) in
    ((λ e. (p.0 e).0), (λ v. p.1 (v, refl)))

module _ (a x : List ℕ) where
  -- the rules behind the test of the name, of a find and of an add, and the last of an add
  abbrev missing : List (Bool × ℕ)
  missing = drop 3 (find_rules a x)

  abbrev double : List (Bool × ℕ)
  double = drop 3 (add_rules a x)

  abbrev full : List (Bool × ℕ)
  full = drop 4 (add_rules a x)

  -- past the test of the name
  past-name : (n : ℕ) {X : Type 0} (rest : List (Bool × ℕ)) → eqb 6 n ≡ false → (first_of rest ≡ n) ↔ X
      → (first_of ((not (good_name x), 6) ∷ rest) ≡ n) ↔ (FineName x × X)
  past-name n rest h y = past_iff n (not (good_name x)) 6 rest h (some_iff (good_name x) (fine_iff x)) y

  six_iff : (rest : List (Bool × ℕ)) → all (λ c. not (eqb c.1 6)) rest ≡ true
      → (first_of (list_rules a ++ ((not (good_name x), 6) ∷ rest)) ≡ 6) ↔ (Taken a × (FineName x → ⊥))
  six_iff rest h =
      past-area a ((not (good_name x), 6) ∷ rest) 6 refl refl (λ _.
      Iff.trans (first_iff 6 (not (good_name x)) rest h refl) (none_iff (good_name x) (fine_iff x)))

  finds : FindExactly a x (find_answer a x)
  unfolding find_answer
  finds =
      let rest : List (Bool × ℕ) = (not (good_name x), 6) ∷ missing in
      let b : Bool = is_listed x (names_in a) in
      record {
        area = area-exactly a rest refl refl;
        six = six_iff missing refl;
        ten = past-area a rest 10 refl refl (λ t.
            past-name 10 missing refl
            (Iff.trans (first_iff 10 (not b) [] refl refl) (none_iff b (present_iff a t.good x))));
        done = past-area a rest 0 refl refl (λ t.
            past-name 0 missing refl (last_iff (not b) 10 refl (some_iff b (present_iff a t.good x))));
      }

  adds : AddExactly a x (add_answer a x)
  unfolding add_answer
  adds =
      let rest : List (Bool × ℕ) = (not (good_name x), 6) ∷ double in
      let b : Bool = is_listed x (names_in a) in
      let f : Bool = no_room (length a - text_from) (names_in a) x in
      record {
        area = area-exactly a rest refl refl;
        six = six_iff double refl;
        nine = past-area a rest 9 refl refl (λ t.
            past-name 9 double refl (Iff.trans (first_iff 9 b full refl refl) (present_iff a t.good x)));
        twenty = past-area a rest 20 refl refl (λ t.
            past-name 20 double refl
            (past_iff 20 b 9 full refl (absent t)
            (Iff.trans (first_iff 20 f [] refl refl) (full_iff a t.good x t.long))));
        done = past-area a rest 0 refl refl (λ t.
            past-name 0 double refl
            (past_iff 0 b 9 full refl (absent t) (last_iff f 20 refl (lacks f (full_iff a t.good x t.long)))));
      }
    where
      lacks : (b : Bool) {X : Type 0} → (b ≡ true) ↔ X → (b ≡ false) ↔ (X → ⊥)
      lacks b y = Iff.trans (Iff.symm (no_iff b)) (none_iff b y)

      absent : Taken a → (is_listed x (names_in a) ≡ false) ↔ (Present a x → ⊥)
      absent t = lacks (is_listed x (names_in a)) (present_iff a t.good x)

  -- the place that a find tells
  place-told : find_answer a x ≡ 0 → (finding a x).place ≡ place_among x (names_in a)
  unfolding finding
  place-told e = rw (eq-eqb (find_answer a x) 0 e)

  stands-there : Taken a → Present a x → StandsAt a x (place_among x (names_in a))
  stands-there t p =
      let r = place-holds x (names_in a) ((present_iff a t.good x).1 p) in
      listed_at a t.good x (place_among x (names_in a)) r.0 r.1

  found : (i : ℕ) → (((finding a x).answer ≡ 0) × ((finding a x).place ≡ i)) ↔ (Taken a × (FineName x × StandsAt a x i))
  unfolding finding
  found i = (there, back)
    where
      there : (find_answer a x ≡ 0) × ((finding a x).place ≡ i) → Taken a × (FineName x × StandsAt a x i)
      there v =
          let d = finds.done.0 v.0 in
          let e : place_among x (names_in a) ≡ i = sym (place-told v.0) ∙ v.1 in
          (d.0, (d.1.0, rw e at (stands-there d.0 d.1.1)))

      back : Taken a × (FineName x × StandsAt a x i) → (find_answer a x ≡ 0) × ((finding a x).place ≡ i)
      back v =
          let t = v.0 in
          let s = v.1.1 in
          let p : Present a x = record { place = i; here = s } in
          let k : ℕ = place_among x (names_in a) in
          let r = stands-there t p in
          let z = finds.done.1 (t, (v.1.0, p)) in
          let e = stood a t.good x k r ∙ sym (stood a t.good x i s) in
          let q = name-same a k i (within a t.good k r.within) (within a t.good i s.within) e in
          (z, place-told z ∙ t.good.distinct k i r.within s.within q)

  pub calls-exactly : CallsExactly a x
  unfolding list_answer finding
  calls-exactly =
      let p = past-area a [] 0 refl refl (λ _. Iff.rfl {A = first_of [] ≡ 0}) in
      record {
        lists = area-exactly a [] refl refl;
        taken = ((λ e. (p.0 e).0), (λ t. p.1 (t, refl)));
        finds = finds;
        blank = λ n. rw (ne_eqb (find_answer a x) 0 n);
        removes = finds;
        adds = adds;
        names = names-exactly a;
        found = found;
      }
