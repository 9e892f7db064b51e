-- What the call answers, and what it leaves of the output, in words.
use Prim.Native.Nat.{ℕ, ◌/◌, ◌≤◌}
use mathlib.Core.Path.{◌≡◌, refl, sym, ◌∙◌}
use mathlib.Core.Bool.{Bool, false, true, cond, not, ◌||◌}
use mathlib.Core.Logic.Iff
use mathlib.Core.Logic.{◌↔◌, ◌⊎◌, inl, inr, ⊎_elim}
use mathlib.Core.List.{List, [], ◌∷◌, ◌++◌}
use native.Mathlib.Omega.{arith}
use lib.Dec.{eqb, leb, ltb}
use lib.ListN.{length, take}
use borrow.Author.Tests.{eqb-true, eqb-false, ne_eqb, ltb-true, lt-ltb, leb-true}
use Rattle.laws.specs.Tests.{first_of}
use Rattle.laws.specs.Parts.{over}
use Rattle.laws.proofs.Refusals.{or_fst, or_snd, answer_in}
use Rattle.laws.proofs.Fronts.{front-refused, front-written, front_read, front-behind, front_long}
use Rattle.laws.proofs.Words.{or_iff, some_iff, no_iff, yes_iff, eqb_iff, other_iff, less_iff, not-less_iff, first_iff}
use Rattle.laws.proofs.Words.{past_iff}
use Rattle.tables.specs.Tables.{good_length}
use Rattle.namearea.specs.Area.{names_in}
use Rattle.namearea.specs.Calls.{list_rules}
use Rattle.nametable.specs.Table.{table_answer}
use Rattle.nametable.specs.Words.{Carried}
use Rattle.nametable.proofs.Answers.{table-refusals}
use Rattle.tablemerging.proofs.Words.{made-long}
use Rattle.protocol.specs.State.{Station, line_at}
use Rattle.protocol.specs.Order.{in_order}
use Rattle.protocol.specs.Queries.{usual_limit, infinity_written}
use Rattle.protocol.specs.Calls.{other_room, not_open}
use Rattle.protocol.specs.Exactly.{LineNotOpen}
use Rattle.protocol.proofs.Exactly.{closed_iff}
use Rattle.relaying.specs.Calls.{station_rules, make_answer, making, making_out, other_tables, entries_for}
use Rattle.relaying.specs.Calls.{table_for, table_out_for}
use Rattle.relaying.specs.Words.{RouteUnfit, RouteFits, MayCarry, Standing, MakeAnswers, MakeExactly, Left}
use Rattle.relaying.specs.Words.{MakeLeaves}
use Rattle.relaying.proofs.MakeLaws.{answer-is}

-- ---- tests and answers, two of each

neither_iff : (a b : Bool) {A B : Type 0} → (a ≡ false) ↔ A → (b ≡ false) ↔ B → ((a || b) ≡ false) ↔ (A × B)
neither_iff a b x y = (
  (λ e. (x.0 (or_fst a b e), y.0 (or_snd a b e))),
  (λ v. rw (x.1 v.0) (y.1 v.1)),
)

-- an answer, and a later one where it is 0
module _ (early late n : ℕ) {S X : Type 0} (s : (early ≡ 0) ↔ S) (x : (late ≡ n) ↔ X) where
  -- a number of both
  both_iff : {A : Type 0} → (early ≡ n) ↔ A → (n ≡ 0 → ⊥) → (cond (eqb early 0) late early ≡ n) ↔ (A ⊎ (S × X))
  both_iff {A} a z = by (eqb early 0) refl
    where
      by : (t : Bool) → eqb early 0 ≡ t → (cond t late early ≡ n) ↔ (A ⊎ (S × X))
      by true q = (
        (λ e. inr (s.0 (eqb-true early 0 q), x.0 e)),
        ⊎_elim (λ v. absurd (z (sym (a.1 v) ∙ eqb-true early 0 q))) (λ v. x.1 v.1),
      )
      by false q = ((λ e. inl (a.0 e)), ⊎_elim a.1 (λ v. absurd (eqb-false early 0 q (s.1 v.0))))

  -- a number of the later one
  late_iff : (early ≡ n → early ≡ 0) → (cond (eqb early 0) late early ≡ n) ↔ (S × X)
  late_iff never = by (eqb early 0) refl
    where
      by : (t : Bool) → eqb early 0 ≡ t → (cond t late early ≡ n) ↔ (S × X)
      by true q = ((λ e. (s.0 (eqb-true early 0 q), x.0 e)), (λ v. x.1 v.1))
      by false q =
          let other = eqb-false early 0 q in
          ((λ e. absurd (other (never e))), (λ v. absurd (other (s.1 v.0))))

-- ---- the answers

module _ (s : Station) (l : ℕ) (route : List ℕ) where
  abbrev order : Bool
  order = in_order s

  abbrev unfit : Bool
  unfit = other_room s.room (length route)

  abbrev closed : Bool
  closed = not_open l (line_at s l).live

  -- the first answer, by these tests
  abbrev tests : List (Bool × ℕ)
  tests = station_rules order s.room (length route) l (line_at s l).live

  abbrev early : ℕ
  early = first_of tests

  unfit_iff : (unfit ≡ true) ↔ RouteUnfit s route
  unfit_iff = or_iff (ltb (length route) 32) _ (less_iff (length route) 32) (other_iff (length route / 8) s.room)

  fits_iff : (unfit ≡ false) ↔ RouteFits s route
  fits_iff =
      neither_iff (ltb (length route) 32) _ (not-less_iff (length route) 32)
      (some_iff _ (eqb_iff (length route / 8) s.room))

  low_iff : (ltb l 8 ≡ true) ↔ (l ≤ 7)
  low_iff = ((λ e. let h = ltb-true l 8 e in omega arith), (λ h. lt-ltb l 8 (omega arith)))

  standing_iff : (early ≡ 0) ↔ Standing s l route
  standing_iff =
      let open' = neither_iff (not (ltb l 8)) _ (some_iff (ltb l 8) low_iff) (yes_iff (line_at s l).live) in
      let x = past_iff 0 (not order) 1 ((unfit, 2) ∷ (closed, 3) ∷ []) refl (yes_iff order)
      (past_iff 0 unfit 2 ((closed, 3) ∷ []) refl fits_iff (past_iff 0 closed 3 [] refl open' Iff.rfl)) in (
        (λ e. let v = x.0 e in
            record { order = v.0; fits = v.1.0; line = v.1.1.0.0; live = v.1.1.0.1 }),
        (λ v. x.1 (v.order, (v.fits, ((v.line, v.live), refl)))),
      )

  module _ (names : List ℕ) (n out : ℕ) where
    abbrev answer : ℕ
    answer = make_answer order s.room s.lines l names n out (length route)

    -- the later answer: that of the table of the own names, whose Infinity is one that a RESET may carry
    abbrev late : ℕ
    late = table_answer names n (infinity_written usual_limit) out

    chosen : answer ≡ cond (eqb early 0) late early
    chosen = answer-is order s.room s.lines l names n out (length route)

    carried : MayCarry n → Carried n (infinity_written usual_limit)
    carried v = (v, (omega arith, omega arith))

    three_iff : (answer ≡ 3) ↔ ((order ≡ true) × (RouteFits s route × LineNotOpen s l))
    unfolding make_answer
    three_iff =
        let behind = list_rules names ++ ((not (good_length n), 14) ∷ (ltb out n, 2) ∷ []) in
        past_iff 3 (not order) 1 ((unfit, 2) ∷ (closed, 3) ∷ behind) refl (yes_iff order)
        (past_iff 3 unfit 2 ((closed, 3) ∷ behind) refl fits_iff
        (Iff.trans (first_iff 3 closed behind refl refl) (closed_iff s l)))

    answers : MakeAnswers s l names n out route answer
    answers =
        let told = table-refusals names n (infinity_written usual_limit) out in
        let few : early ≤ 3 = leb-true early 3 (answer_in (λ k. leb k 3) tests refl refl) in
        let two = both_iff early late 2 standing_iff told.short
        (past_iff 2 (not order) 1 ((unfit, 2) ∷ (closed, 3) ∷ []) refl (yes_iff order)
        (Iff.trans (first_iff 2 unfit ((closed, 3) ∷ []) refl refl) unfit_iff))
        (λ z. omega arith) in
        let fourteen = late_iff early late 14 standing_iff told.wrong (λ e. absurd (omega arith)) in
        let done = late_iff early late 0 standing_iff told.made (λ e. e) in
        record {
          one =
              rw chosen
              (both_iff early late 1 standing_iff told.bad
              (Iff.trans (first_iff 1 (not order) ((unfit, 2) ∷ (closed, 3) ∷ []) refl refl) (no_iff order))
              (λ z. omega arith));
          two = rw chosen (
            (λ e. ⊎_elim inl
                (λ v. inr (⊎_elim (λ w. inl (v.0, w)) (λ w. inr (v.0, (w.0, (w.1.0, w.2)))) v.1))
                (two.0 e)),
            (λ v. two.1 (⊎_elim inl
                (λ w. inr (⊎_elim (λ y. (y.0, inl y.1))
                (λ y. (y.0, inr (y.1.0, carried y.1.1.0, y.1.1.1)))
                w))
                v)),
          );
          three = three_iff;
          fourteen = rw chosen (
            (λ e. let v = fourteen.0 e in (v.0, (v.1.0, (λ m. v.1.1 (carried m))))),
            (λ v. fourteen.1 (v.0, (v.1.0, (λ m. v.1.1 m.0)))),
          );
          done = rw chosen (
            (λ e. let v = done.0 e in (v.0, (v.1.0, (v.1.1.0, v.1.2)))),
            (λ v. done.1 (v.0, (v.1.0, carried v.1.1.0, v.1.1.1))),
          );
        }

pub make-exactly : MakeExactly
unfolding making
make-exactly limit s l names n out route = answers s l route names n out

-- ---- the output

module _ (limit : ℕ) (s : Station) (l : ℕ) (names : List ℕ) (n : ℕ) (out route : List ℕ) where
  abbrev given : ℕ
  given = (table_for limit s l names n (length out) (length route)).answer

  abbrev after : List ℕ
  after = table_out_for limit s l names n out route

  abbrev entries : List ℕ
  entries = entries_for limit s.room s.lines l names n route

  size : length entries ≡ n
  size = made-long (infinity_written limit) n (names_in names) (other_tables s.room s.lines l route)

  is : after ≡ cond (eqb given 0) (over 0 entries out) out
  unfolding making making_out
  is = refl

  pub written : given ≡ 0 → after ≡ over 0 entries out
  written = front-written given n entries out after size is

  pub front : given ≡ 0 → take n after ≡ entries
  front = front_read given n entries out after size is

  handed : given ≡ 0 → (table_for limit s l names n (length out) (length route)).infinity ≡ infinity_written limit
  unfolding making
  handed e = rw e

  kept : (given ≡ 0 → ⊥) → (table_for limit s l names n (length out) (length route)).infinity ≡ 0
  unfolding making
  kept h = rw (ne_eqb given 0 h)

  left : Left limit given (table_for limit s l names n (length out) (length route)).infinity n out after
  left =
      record {
        refused = λ h. (front-refused given n entries out after size is h, kept h);
        handed = handed;
        behind = front-behind given n entries out after size is;
        long = front_long given n entries out after size is
            (λ e. ((make-exactly limit s l names n (length out) route).done.0 e).1.1.1);
      }

pub make-leaves : MakeLeaves
make-leaves = left
