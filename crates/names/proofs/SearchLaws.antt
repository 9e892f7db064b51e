-- The answers in their order, and the one place of a name that is listed.
use Prim.Native.Nat.{ℕ, ◌+◌, ◌-◌, ◌≤◌, ◌<◌}
use mathlib.Core.Path.{◌≡◌, refl, sym, ap, ◌∙◌}
use mathlib.Core.Bool.{Bool, true, false, cond, not, ◌&&◌, and-true, and_assoc}
use mathlib.Core.List.{List, [], ◌∷◌}
use native.Mathlib.Omega.{arith}
use lib.Dec.{eqb, leb}
use lib.ListN.{length, get_or}
use borrow.Author.Tests.{ne_eqb, lt-ltb, le-ltb, lt-leb, le-leb, ltb-false, not-true, not-false}
use Rattle.std.specs.Prelude.{Option, Some, None, Ok, Err, ok_or}
use Rattle.answer.specs.declared.Refusal.TheVariants.{NotFound}
use Rattle.laws.specs.Tests.{every, all, first_of}
use Rattle.laws.proofs.Refusals.{no-refusal, first_append}
use Rattle.laws.proofs.Words.{refuted}
use Rattle.namearea.specs.Area.{text_from, count_in, name_at, names_in, spans_in}
use Rattle.namearea.specs.Good.{good_name, listable, apart, pairwise, differ, same_text, good_list}
use Rattle.namearea.specs.Calls.{list_rules, list_answer, is_listed, place_among, find_answer, finding, found_of}
use Rattle.namearea.proofs.GoodLaws.{same-is, is_same, names_at, names-length, distinct-at, listed}
use Rattle.namearea.proofs.PlaceLaws.{any_at, at-any, place-holds}
use Rattle.names.specs.Order.{placed}
use Rattle.names.specs.Chains.{bucket_of, tag_of, told_of}
use Rattle.names.specs.Chains.{Chained, Walkable, Walked, ToldApart, Tested}
use Rattle.names.proofs.Cases.{either}
use Rattle.names.proofs.WalkLaws.{head-low, can-walk, walked_all}

-- ---- the test of an area

-- two of the tests are told as one
good-is : (a : List ℕ) (b₁ b₂ b₃ : Bool) → leb (count_in a) 512 ≡ b₁ → placed (count_in a) a ≡ b₂
    → pairwise differ (names_in a) ≡ b₃ → good_list a ≡ every (b₁ ∷ b₂ ∷ b₃ ∷ [])
unfolding good_list
good-is a b₁ b₂ b₃ e₁ e₂ e₃ =
    rw (e₁, e₃, sym e₂)
    (ap (λ b. b₁ && b) (sym (and_assoc (all (listable a) (spans_in a)) (pairwise apart (spans_in a)) (b₃ && true))))

module _ (a heads links tags : List ℕ) where
  answered : (n : ℕ) → (n ≡ 0 → ⊥) → list_answer a ≡ n → Tested a n heads links tags
  answered n some e = record { answers = sym e; chained = λ z. absurd (some z) }

  pub tested-short : length a < 4100 → Tested a 2 heads links tags
  unfolding list_answer
  tested-short h = answered 2 (λ z. omega arith) (rw (lt-ltb (length a) 4100 h))

  module _ (long : 4100 ≤ length a) (count : ℕ) (is : count ≡ count_in a) where
    bad : good_list a ≡ false → Tested a 1 heads links tags
    unfolding list_answer
    bad e = answered 1 (λ z. omega arith) (rw (le-ltb (length a) 4100 long, e))

    pub tested-many : 512 < count → Tested a 1 heads links tags
    tested-many h = bad (good-is a _ _ _ (lt-leb (count_in a) 512 (omega arith)) refl refl)

    module _ (few : count ≤ 512) (well : Bool) (f : well ≡ placed count a) where
      fits : leb (count_in a) 512 ≡ true
      fits = le-leb (count_in a) 512 (omega arith)

      own : placed (count_in a) a ≡ well
      own = sym (rw is at f)

      pub tested_misplaced : not well ≡ true → Tested a 1 heads links tags
      tested_misplaced e = bad (good-is a _ _ _ fits (own ∙ not-true well e) refl)

      module _ (e : not well ≡ false) (told : Bool) (t : ToldApart a told heads links tags) where
        good-told : good_list a ≡ told
        good-told = good-is a _ _ _ fits (own ∙ not-false well e) (sym t.tells) ∙ and-true told

        pub tested-twice : not told ≡ true → Tested a 1 heads links tags
        tested-twice k = bad (good-told ∙ not-true told k)

        pub tested-good : not told ≡ false → Tested a 0 heads links tags
        unfolding list_answer
        tested-good k =
            record {
              answers = rw (le-ltb (length a) 4100 long, good-told ∙ not-false told k);
              chained = λ _. t.chained (not-false told k);
            }

-- where no rule refuses, the area has room for the pairs and is good
pub find-long : (a : List ℕ) → list_answer a ≡ 0 → text_from ≤ length a
unfolding list_answer
find-long a e = ltb-false (length a) text_from (no-refusal (list_rules a) refl e).0

good-list : (a : List ℕ) → list_answer a ≡ 0 → good_list a ≡ true
unfolding list_answer
good-list a e = not-false (good_list a) (no-refusal (list_rules a) refl e).1.0

-- the name that was found in the list stands in the area
stands : (a x : List ℕ) (i : ℕ) → i < count_in a → same_text x (get_or (names_in a) i []) ≡ true → name_at a i ≡ x
stands a x i h e = sym (same-is x (get_or (names_in a) i []) e ∙ names_at (count_in a) a i h)

-- two places of one name are the same place
same_place : (a : List ℕ) → pairwise differ (names_in a) ≡ true → (i k : ℕ) → i < count_in a → k < count_in a
    → name_at a i ≡ name_at a k → i ≡ k
same_place a d i k h g e =
    either i k
    (λ l. either k i (λ r. omega arith) (λ r. absurd (distinct-at a d i k r g e)))
    (λ l. absurd (distinct-at a d k i l h (sym e)))

-- ---- what a find tells

module _ (a x : List ℕ) where
  abbrev name_rules : List (Bool × ℕ)
  name_rules = (not (good_name x), 6) ∷ (not (is_listed x (names_in a)), 10) ∷ []

  rest : find_answer a x ≡ cond (eqb (list_answer a) 0) (first_of name_rules) (list_answer a)
  unfolding find_answer list_answer
  rest = first_append (list_rules a) name_rules refl

  refused-is : (n : ℕ) → (n ≡ 0 → ⊥) → find_answer a x ≡ n → record { answer = n; place = 0 } ≡ finding a x
  unfolding finding
  refused-is n some e = rw (e, ne_eqb n 0 some)

  pub find-refused : (n : ℕ) → n ≡ list_answer a → (n ≡ 0 → ⊥) → record { answer = n; place = 0 } ≡ finding a x
  find-refused n e some = refused-is n some (rest ∙ rw (sym e, ne_eqb n 0 some))

  module _ (good : list_answer a ≡ 0) where
    next : find_answer a x ≡ first_of name_rules
    next = rest ∙ rw good

    few : count_in a ≤ 512
    few = (listed a (good-list a good)).few

    pub find-bad : good_name x ≡ false → record { answer = 6; place = 0 } ≡ finding a x
    find-bad e = refused-is 6 (λ z. omega arith) (next ∙ rw e)

    module _ (heads links tags : List ℕ) (c : Chained (name_at a) (count_in a) heads links tags) where
      pub find_walkable : Walkable (name_at a) links tags (get_or heads (bucket_of x) 0) x (tag_of x)
      find_walkable = can-walk (name_at a) (count_in a) heads links tags c few x

      module _ (g : good_name x ≡ true) where
        absent : Walked (name_at a) (get_or heads (bucket_of x) 0) x 0 → found_of (Err NotFound) ≡ finding a x
        absent w =
            let u = refuted (is_listed x (names_in a)) (λ q.
            let s = any_at (same_text x) [] (names_in a) q in
            let l : s.place < count_in a = rw names-length at s.within in
            walked_all (name_at a) (count_in a) heads links tags c few x 0 w s.place (omega arith) l
            (stands a x s.place l s.holds)) in
            refused-is 10 (λ y. omega arith) (next ∙ rw (g, u))

        there : (p : ℕ) → Walked (name_at a) (get_or heads (bucket_of x) 0) x (p + 1) → found_of (Ok p) ≡ finding a x
        unfolding finding
        there p w =
            let n : p < count_in a =
            omega (arith, w.low, head-low (name_at a) (count_in a) heads links tags c few x) in
            let l : p < length (names_in a) = rw names-length n in
            let k : p + 1 - 1 ≡ p = omega arith in
            let own : name_at a p ≡ x = rw k at (w.found (omega arith)) in
            let at : get_or (names_in a) p [] ≡ x = names_at (count_in a) a p n ∙ own in
            let is = at-any (same_text x) [] (names_in a) p l (is_same x _ (sym at)) in
            let answers : find_answer a x ≡ 0 = next ∙ rw (g, is) in
            let h = place-holds x (names_in a) is in
            let m : place_among x (names_in a) < count_in a = rw names-length at h.0 in
            let here = stands a x (place_among x (names_in a)) m h.1 in
            let place : place_among x (names_in a) ≡ p =
            same_place a (listed a (good-list a good)).distinct _ _ m n (here ∙ sym own) in
            rw (answers, place)

        -- the place that the walk told, or none
        pub find-told : (told : Option ℕ) → Walked (name_at a) (get_or heads (bucket_of x) 0) x (told_of told)
            → found_of (ok_or told NotFound) ≡ finding a x
        find-told None w = absent w
        find-told (Some p) w = there p w
