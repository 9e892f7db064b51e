-- What the answer of a find says of an add and of a remove.
use Prim.Native.Nat.{ℕ, ◌+◌, ◌-◌, ◌≤◌, ◌<◌}
use mathlib.Core.Path.{◌≡◌, refl, sym, ap, ◌∙◌}
use mathlib.Core.Bool.{Bool, true, false, cond, not, ◌||◌}
use mathlib.Core.List.{List}
use native.Mathlib.Omega.{arith}
use lib.Dec.{leb, ltb}
use lib.ListN.{length}
use borrow.Author.Tests.{ltb-false, leb-false, not-false, eq-eqb}
use Rattle.laws.proofs.Refusals.{or_fst, or_snd}
use Rattle.namearea.specs.declared.Found.{Found}
use Rattle.namearea.specs.Area.{most_names, text_from, count_in, names_in, total}
use Rattle.namearea.specs.Good.{good_name, good_list}
use Rattle.namearea.specs.Calls.{is_listed, place_among, find_answer, finding, no_room, add_answer}
use Rattle.namearea.specs.Calls.{with_last, without, Relisted, Changed, Added, Removed}
use Rattle.namearea.proofs.GoodLaws.{names-length}
use Rattle.namearea.proofs.PlaceLaws.{place-holds}
use Rattle.namelist.specs.Moves.{GoodArea, Insertable}
use Rattle.namelist.proofs.ListLaws.{less}

-- ---- the tests of the rules in order: an area that is short, one that is bad, a name that is bad, one that is
-- listed, and no room

abbrev find_of : Bool → Bool → Bool → Bool → ℕ
find_of s b m l = cond s 2 (cond b 1 (cond m 6 (cond (not l) 10 0)))

abbrev add_of : Bool → Bool → Bool → Bool → Bool → ℕ
add_of s b m l r = cond s 2 (cond b 1 (cond m 6 (cond l 9 (cond r 20 0))))

-- the name is tested, and that is its standing
record Standing (s b m l told : Bool) : Type 0 where
  long : s ≡ false
  good : b ≡ false
  named : m ≡ false
  stands : l ≡ told

found-there : (s b m l : Bool) → find_of s b m l ≡ 0 → Standing s b m l true
found-there true b m l e = absurd (omega arith)
found-there false true m l e = absurd (omega arith)
found-there false false true l e = absurd (omega arith)
found-there false false false true e = record { long = refl; good = refl; named = refl; stands = refl }
found-there false false false false e = absurd (omega arith)

found-absent : (s b m l : Bool) → find_of s b m l ≡ 10 → Standing s b m l false
found-absent true b m l e = absurd (omega arith)
found-absent false true m l e = absurd (omega arith)
found-absent false false true l e = absurd (omega arith)
found-absent false false false true e = absurd (omega arith)
found-absent false false false false e = record { long = refl; good = refl; named = refl; stands = refl }

other-same : (s b m l r : Bool) → (find_of s b m l ≡ 0 → ⊥) → (find_of s b m l ≡ 10 → ⊥)
    → find_of s b m l ≡ add_of s b m l r
other-same true b m l r z t = refl
other-same false true m l r z t = refl
other-same false false true l r z t = refl
other-same false false false true r z t = absurd (z refl)
other-same false false false false r z t = absurd (t refl)

-- ---- the same of an area and a name

pub record Told (a x : List ℕ) (told : Bool) : Type 0 where
  pub long : text_from ≤ length a
  pub good : good_list a ≡ true
  pub named : good_name x ≡ true
  pub stands : is_listed x (names_in a) ≡ told

module _ (a x : List ℕ) where
  told-by : (told : Bool)
      → Standing (ltb (length a) text_from) (not (good_list a)) (not (good_name x)) (is_listed x (names_in a)) told
      → Told a x told
  told-by told t =
      record {
        long = ltb-false (length a) text_from t.long;
        good = not-false (good_list a) t.good;
        named = not-false (good_name x) t.named;
        stands = t.stands;
      }

  pub find-there : find_answer a x ≡ 0 → Told a x true
  unfolding find_answer
  find-there e =
      told-by true
      (found-there (ltb (length a) text_from) (not (good_list a)) (not (good_name x)) (is_listed x (names_in a)) e)

  pub find_absent : find_answer a x ≡ 10 → Told a x false
  unfolding find_answer
  find_absent e =
      told-by false
      (found-absent (ltb (length a) text_from) (not (good_list a)) (not (good_name x)) (is_listed x (names_in a)) e)

  -- what an add answers then
  pub add-there : find_answer a x ≡ 0 → 9 ≡ add_answer a x
  unfolding find_answer add_answer
  add-there e =
      let t = found-there (ltb (length a) text_from) (not (good_list a)) (not (good_name x)) (is_listed x (names_in a))
      e in
      rw (t.long, t.good, t.named, t.stands)

  pub add-absent : find_answer a x ≡ 10 → (full : Bool) → full ≡ no_room (length a - text_from) (names_in a) x
      → cond full 20 0 ≡ add_answer a x
  unfolding find_answer add_answer
  add-absent e full q =
      let t = found-absent (ltb (length a) text_from) (not (good_list a)) (not (good_name x)) (is_listed x (names_in a))
      e in
      rw (t.long, t.good, t.named, t.stands) (ap (λ b. cond b 20 0) q)

  pub add-other : (find_answer a x ≡ 0 → ⊥) → (find_answer a x ≡ 10 → ⊥) → find_answer a x ≡ add_answer a x
  unfolding find_answer add_answer
  add-other z t =
      other-same (ltb (length a) text_from) (not (good_list a)) (not (good_name x)) (is_listed x (names_in a))
      (no_room (length a - text_from) (names_in a) x) z t

-- ---- a call's answer and what it leaves

pub refusal : (expected : ℕ) (a : List ℕ) (names : List (List ℕ)) (r : ℕ) → r ≡ expected → (r ≡ 0 → ⊥)
    → Changed expected a names r a
refusal expected a names r e h = record { answers = e; refused = λ _. refl; done = λ z. absurd (h z) }

pub change : (expected : ℕ) (a b : List ℕ) (names : List (List ℕ)) → 0 ≡ expected → Relisted a b names
    → Changed expected a names 0 b
change expected a b names e l = record { answers = e; refused = λ h. absurd (h refl); done = λ _. l }

-- ---- what the code does by what a find told

module _ (a x : List ℕ) (found : Found) (f : found ≡ finding a x) where
  answer-is : found.answer ≡ find_answer a x
  unfolding finding
  answer-is = ap (λ r. r.answer) f

  place_is : found.answer ≡ 0 → found.place ≡ place_among x (names_in a)
  unfolding finding
  place_is e = ap (λ r. r.place) f ∙ rw (eq-eqb (find_answer a x) 0 (sym answer-is ∙ e))

  pub told-absent : found.answer ≡ 10 → Told a x false
  told-absent e = find_absent a x (sym answer-is ∙ e)

  -- an add is refused: the name is there, or the find was refused for another reason than that it is absent
  pub add-listed : found.answer ≡ 0 → Added a x 9 a
  add-listed e =
      refusal (add_answer a x) a (with_last (names_in a) x) 9 (add-there a x (sym answer-is ∙ e)) (λ z. omega arith)

  pub add-refused : (found.answer ≡ 0 → ⊥) → (found.answer ≡ 10 → ⊥) → Added a x found.answer a
  add-refused z t =
      refusal (add_answer a x) a (with_last (names_in a) x) found.answer
      (answer-is ∙ add-other a x (λ e. z (answer-is ∙ e)) (λ e. t (answer-is ∙ e)))
      z

  -- the name is absent, and `full` says whether it finds no place
  module _ (e : found.answer ≡ 10) (count : ℕ) (q : count ≡ count_in a) (full : Bool)
      (r : full ≡ (leb most_names count || ltb (length a - text_from) (total (names_in a) + length x))) where
    full_is : full ≡ no_room (length a - text_from) (names_in a) x
    full_is =
        r
        ∙ ap (λ n. leb most_names n || ltb (length a - text_from) (total (names_in a) + length x))
        (q ∙ sym (names-length (count_in a) a))

    answered : cond full 20 0 ≡ add_answer a x
    answered = add-absent a x (sym answer-is ∙ e) full full_is

    pub add-full : full ≡ true → Added a x 20 a
    add-full t =
        refusal (add_answer a x) a (with_last (names_in a) x) 20 (ap (λ b. cond b 20 0) (sym t) ∙ answered)
        (λ z. omega arith)

    pub insertable : full ≡ false → Insertable a count x
    insertable t =
        let w = told-absent e in
        let room = total (names_in a) + length x in
        record {
          long = w.long;
          good = w.good;
          counted = q;
          few = leb-false most_names count (or_fst (leb most_names count) (ltb (length a - text_from) room) (sym r ∙ t));
          named = w.named;
          absent = w.stands;
          room = ltb-false (length a - text_from) room
              (or_snd (leb most_names count) (ltb (length a - text_from) room) (sym r ∙ t));
        }

    pub add_done : full ≡ false → (b : List ℕ) → Relisted a b (with_last (names_in a) x) → Added a x 0 b
    add_done t b l =
        change (add_answer a x) a b (with_last (names_in a) x) (ap (λ b. cond b 20 0) (sym t) ∙ answered) l

  -- a remove
  pub remove-refused : (found.answer ≡ 0 → ⊥) → Removed a x found.answer a
  remove-refused z = refusal (find_answer a x) a (without (names_in a) x) found.answer answer-is z

  pub removable : found.answer ≡ 0 → GoodArea a × (found.place < count_in a)
  removable e =
      let w = find-there a x (sym answer-is ∙ e) in
      let h = (place-holds x (names_in a) w.stands).0 in
      let n = names-length (count_in a) a in
      let p = place_is e in
      (record { long = w.long; good = w.good }, omega arith)

  pub remove-done : found.answer ≡ 0 → (b : List ℕ) → Relisted a b (less found.place (names_in a)) → Removed a x 0 b
  remove-done e b l =
      change (find_answer a x) a b (without (names_in a) x) (sym e ∙ answer-is) (rw (place_is e) at l)
