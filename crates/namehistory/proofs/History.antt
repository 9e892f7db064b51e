-- Adds and removes over lists of calls: each step of a run is a step of the plain list.
-- Assumes nothing.
use Prim.Native.Nat.{ℕ, suc, ◌+◌, ◌-◌, ◌≤◌, ◌<◌}
use native.Mathlib.Omega.{arith}
use mathlib.Core.Path.{◌≡◌, refl, sym, ap, ap₂, ◌∙◌}
use mathlib.Core.Bool.{Bool, true, false, cond, not, ◌||◌}
use mathlib.Core.Logic.{◌⊎◌, inl, inr}
use mathlib.Core.List.{List, [], ◌∷◌}
use lib.Dec.{eqb, leb, ltb}
use lib.ListN.{length, replicate, get_or}
use borrow.Author.Tests.{ltb-true, ltb-false, leb-true, leb-false, le-ltb, eqb-true, eqb-false}
use Rattle.namearea.specs.Area.{count_in, spans_from, names_in, total}
use Rattle.namearea.specs.Good.{pairwise, good_name, good_list}
use Rattle.namearea.specs.Calls.{list_answer, is_listed, find_answer, no_room, add_answer, with_last, without}
use Rattle.namearea.specs.Calls.{Relisted, Changed}
use Rattle.namearea.proofs.Words.{fine_iff}
use Rattle.namehistory.specs.Plain.{Edit, Add, Remove, others, is_full, Edited, told, edited}
use Rattle.namehistory.specs.Plain.{bytes_in, answers_from, names_from}
use Rattle.namehistory.specs.History.{Stepped, Ran, Over, Then, room_of, AsPlain, AsPlainList, FromEmpty}
use Rattle.namehistory.specs.History.{RoomFor, RoomUsedAgain, Stays, BadStays, RefusalsKeep}
use Rattle.namehistory.proofs.Answers.{add-good, add-bad, find-good, find-bad, good-answer, bad-which}
use Rattle.namehistory.proofs.Places.{unlisted}
use Rattle.namehistory.proofs.Plain.{one-listed, bytes-total, unfit-good, others-without}

-- One call on a good area
full-room : (room : ℕ) (names : List (List ℕ)) (x : List ℕ) → is_full room names x ≡ no_room room names x
unfolding is_full
full-room room names x = rw (bytes-total names)

-- what it answers, and what it leaves of names
pub record AsEdit (expected : ℕ) (names changed : List (List ℕ)) (e : Edited) : Type 0 where
  pub answer : expected ≡ e.answer
  pub stays : (expected ≡ 0 → ⊥) → e.names ≡ names
  pub moves : expected ≡ 0 → e.names ≡ changed

pick : (names changed : List (List ℕ)) (b : Bool) (n m : ℕ) (e : Edited) → (n ≡ 0 → ⊥) → AsEdit m names changed e
    → AsEdit (cond b n m) names changed (cond b (told n names) e)
pick names changed true n m e some r =
    record { answer = refl; stays = λ _. refl; moves = λ z. absurd (some z) }
pick names changed false n m e some r = r

module _ (area : List ℕ) (good : list_answer area ≡ 0) where
  add_edit : (x : List ℕ)
      → AsEdit (add_answer area x) (names_in area) (with_last (names_in area) x)
      (edited (room_of area) (names_in area) (Add x))
  unfolding edited
  add_edit x =
      rw (add-good area x good, unfit-good x, one-listed x (names_in area), full-room (room_of area) (names_in area) x)
      (pick (names_in area) _ (not (good_name x)) 6 _ _ (λ z. omega arith)
      (pick (names_in area) _ (is_listed x (names_in area)) 9 _ _ (λ z. omega arith)
      (pick (names_in area) _ (no_room (room_of area) (names_in area) x) 20 _ _ (λ z. omega arith)
      (record { answer = refl; stays = λ n. absurd (n refl); moves = λ _. refl }))))

  remove_edit : (x : List ℕ)
      → AsEdit (find_answer area x) (names_in area) (without (names_in area) x)
      (edited (room_of area) (names_in area) (Remove x))
  unfolding edited
  remove_edit x =
      rw (find-good area x good, unfit-good x, one-listed x (names_in area))
      (pick (names_in area) _ (not (good_name x)) 6 _ _ (λ z. omega arith)
      (go (is_listed x (names_in area))))
    where
      go : (b : Bool)
          → AsEdit (cond (not b) 10 0) (names_in area) (without (names_in area) x)
          (cond b (told 0 (others x (names_in area))) (told 10 (names_in area)))
      go true = record { answer = refl; stays = λ n. absurd (n refl); moves = λ _. others-without x (names_in area) }
      go false = record { answer = refl; stays = λ _. refl; moves = λ z. absurd (omega arith) }

-- so it is one call on the plain list
pub record OneStep (area : List ℕ) (e : Edited) (answer : ℕ) (after : List ℕ) : Type 0 where
  pub answered : answer ≡ e.answer
  pub listed : names_in after ≡ e.names
  pub long : length after ≡ length area
  pub good : list_answer after ≡ 0

module _ (area : List ℕ) (good : list_answer area ≡ 0) (expected answer : ℕ) (names : List (List ℕ)) (e : Edited)
    (after : List ℕ) (as-edit : AsEdit expected (names_in area) names e)
    (changed : Changed expected area names answer after) where
  changed-step : OneStep area e answer after
  changed-step = go (eqb answer 0) refl
    where
      go : (b : Bool) → eqb answer 0 ≡ b → OneStep area e answer after
      go true t =
          let z : answer ≡ 0 = eqb-true answer 0 t in
          let r : Relisted area after names = changed.done z in
          record {
            answered = changed.answers ∙ as-edit.answer;
            listed = r.listed ∙ sym (as-edit.moves (sym changed.answers ∙ z));
            long = r.long;
            good = good-answer area after good r.long r.good;
          }
      go false t =
          let z : answer ≡ 0 → ⊥ = eqb-false answer 0 t in
          let s : after ≡ area = changed.refused z in
          record {
            answered = changed.answers ∙ as-edit.answer;
            listed = ap names_in s ∙ sym (as-edit.stays (λ q. z (changed.answers ∙ q)));
            long = ap length s;
            good = ap list_answer s ∙ good;
          }

one-step : (area : List ℕ) (e : Edit) (answer : ℕ) (after : List ℕ) → list_answer area ≡ 0 → Stepped area e answer after
    → OneStep area (edited (room_of area) (names_in area) e) answer after
one-step area (Add x) answer after g s = changed-step area g _ answer _ _ after (add_edit area g x) s
one-step area (Remove x) answer after g s = changed-step area g _ answer _ _ after (remove_edit area g x) s

-- Lists of calls
as_plain : {area : List ℕ} {es : List Edit} {answers after : List ℕ} → Ran area es answers after → list_answer area ≡ 0
    → AsPlain area (names_in area) es answers after
unfolding answers_from names_from
as_plain Over g = record { answered = refl; listed = refl; long = refl; good = g }
as_plain {area = area} (Then {middle = middle} {e = e} {es = es} {answer = answer} s r) g =
    let o : OneStep area (edited (room_of area) (names_in area) e) answer middle = one-step area e answer middle g s in
    let p = as_plain r o.good in
    let room : room_of middle ≡ room_of area = ap (λ n. n - 4100) o.long in
    record {
      answered =
          ap₂ ◌∷◌ o.answered
          (p.answered ∙ ap₂ (λ n names. answers_from n names es) room o.listed);
      listed = p.listed ∙ ap₂ (λ n names. names_from n names es) room o.listed;
      long = p.long ∙ o.long;
      good = p.good;
    }

pub as_plain-list : AsPlainList
as_plain-list area es answers after g r = as_plain r g

-- an area that lists nothing
no_names : (area : List ℕ) → count_in area ≡ 0 → (names_in area ≡ []) × (good_list area ≡ true)
unfolding spans_from pairwise good_list
no_names area z = (rw z, rw z)

pub from_empty : FromEmpty
unfolding count_in list_answer
from_empty area long e =
    let z : count_in area ≡ 0 = rw e in
    let n = no_names area z in
    let g : list_answer area ≡ 0 = rw (le-ltb (length area) 4100 long, n.1) in
    record {
      good = g;
      none = n.0;
      history = λ es answers after r. rw n.0 at (as_plain-list area es answers after g r);
    }

-- One more name, of any that may be listed
room_for : (room : ℕ) (names : List (List ℕ)) (x : List ℕ) (answer : ℕ)
    → answer ≡ cond (no_room room names x) 20 0
    → RoomFor room names x answer
room_for room names x answer e =
    go (leb 512 (length names)) (ltb room (total names + length x)) refl refl e (bytes-total names)
  where
    go : (p q : Bool) → leb 512 (length names) ≡ p → ltb room (total names + length x) ≡ q
        → answer ≡ cond (p || q) 20 0 → bytes_in names ≡ total names → RoomFor room names x answer
    go true q t u a b =
        let l : 512 ≤ length names = leb-true 512 (length names) t in
        record {
          full = (λ _. inl l, λ _. a);
          fits = (λ z. absurd (omega arith), λ h. absurd (omega arith));
        }
    go false true t u a b =
        let l : room < total names + length x = ltb-true room (total names + length x) u in
        record {
          full = (λ _. inr (omega arith), λ _. a);
          fits = (λ z. absurd (omega arith), λ h. absurd (omega arith));
        }
    go false false t u a b =
        let l : length names < 512 = leb-false 512 (length names) t in
        let m : total names + length x ≤ room = ltb-false room (total names + length x) u in
        record {
          full = (λ z. absurd (omega arith), λ h. absurd (over h));
          fits = (λ _. (l, omega arith), λ _. a);
        }
      where
        over : (512 ≤ length names) ⊎ (room < bytes_in names + length x) → ⊥
        over (inl h) = omega (arith, leb-false 512 (length names) t)
        over (inr h) = omega (arith, ltb-false room (total names + length x) u)

pub room-used-again : RoomUsedAgain
room-used-again area es answers middle x answer after g r a f n =
    let p : AsPlain area (names_in area) es answers middle = as_plain-list area es answers middle g r in
    let e : answer ≡ cond (no_room (room_of middle) (names_in middle) x) 20 0 =
    a.answers ∙ add-good middle x p.good ∙ rw ((fine_iff x).1 f, unlisted x (names_in middle) n) in
    rw (ap (λ k. k - 4100) p.long) at (room_for (room_of middle) (names_in middle) x answer e)

-- Areas that are not good
module _ (area : List ℕ) (bad : list_answer area ≡ 0 → ⊥) where
  pub record Unmoved (answer : ℕ) (after : List ℕ) : Type 0 where
    pub answers : answer ≡ list_answer area
    pub kept : after ≡ area

  unmoved : (expected : ℕ) (names : List (List ℕ)) (answer : ℕ) (after : List ℕ) → expected ≡ list_answer area
      → Changed expected area names answer after → Unmoved answer after
  unmoved expected names answer after e c =
      record { answers = c.answers ∙ e; kept = c.refused (λ z. bad (sym e ∙ sym c.answers ∙ z)) }

  bad-step : (e : Edit) (answer : ℕ) (after : List ℕ) → Stepped area e answer after → Unmoved answer after
  bad-step (Add x) answer after s = unmoved (add_answer area x) _ answer after (add-bad area x bad) s
  bad-step (Remove x) answer after s = unmoved (find_answer area x) _ answer after (find-bad area x bad) s

bad-run : {area : List ℕ} {es : List Edit} {answers after : List ℕ} → Ran area es answers after
    → (list_answer area ≡ 0 → ⊥) → Stays area es answers after
bad-run {area = area} Over b = record { answered = refl; kept = refl; which = bad-which area b }
bad-run {area = area} (Then {middle = middle} {e = e} {es = es} {answer = answer} s r) b =
    let u : Unmoved area b answer middle = bad-step area b e answer middle s in
    let p = bad-run r (λ z. b (ap list_answer (sym u.kept) ∙ z)) in
    record {
      answered =
          ap₂ ◌∷◌ u.answers (p.answered ∙ ap (λ l. replicate (length es) (list_answer l)) u.kept);
      kept = p.kept ∙ u.kept;
      which = bad-which area b;
    }

pub bad-stays : BadStays
bad-stays area es answers after b r = bad-run r b

-- Refusals
step_kept : (area : List ℕ) (e : Edit) (answer : ℕ) (after : List ℕ) → Stepped area e answer after → (answer ≡ 0 → ⊥)
    → after ≡ area
step_kept area (Add x) answer after s n = s.refused n
step_kept area (Remove x) answer after s n = s.refused n

kept_run : {area : List ℕ} {es : List Edit} {answers after : List ℕ} → Ran area es answers after
    → ((i : ℕ) → i < length answers → get_or answers i 0 ≡ 0 → ⊥) → after ≡ area
kept_run Over n = refl
kept_run {area = area} (Then {middle = middle} {e = e} {answer = answer} s r) n =
    kept_run r (λ i h. n (suc i) (omega arith)) ∙ step_kept area e answer middle s (n 0 (omega arith))

pub refusals-keep : RefusalsKeep
refusals-keep area es answers after r n = kept_run r n
