-- Laws of the loop over the events, and of the whole text.
use Prim.Native.Nat.{ℕ, zero, suc, ◌+◌, ◌-◌, ◌*◌, ◌≤◌, ◌<◌}
use mathlib.Core.Path.{◌≡◌, refl, sym, ap, ◌∙◌}
use mathlib.Core.Bool.{true, false, ◌&&◌}
use mathlib.Core.List.{List, [], ◌∷◌, ◌++◌}
use native.Mathlib.Nat.{add-zero, zero-add}
use native.Mathlib.Omega.{arith}
use borrow.Author.Tests.{leb-true, le-leb}
use lib.Dec.{leb}
use lib.ListN.{length, replicate, length-take, length-drop}
use Rattle.std.specs.Prelude.{Some}
use Rattle.laws.specs.Tests.{every, all}
use Rattle.laws.specs.Parts.{over, Put}
use Rattle.laws.proofs.Refusals.{and_fst, and_snd}
use Rattle.laws.proofs.Text.{put_then}
use Rattle.protocol.specs.State.{Station}
use Rattle.protocol.specs.Calls.{fresh}
use Rattle.transcript.specs.declared.events.Answered.{Answered}
use Rattle.transcript.specs.Files.{count_of, offset_of, event_at, kind_of, count_from, longest, good_offsets, good_event}
use Rattle.transcript.specs.Files.{good_file}
use Rattle.transcript.specs.Rows.{row_text}
use Rattle.transcript.specs.Text.{RowsFit, route_size, output_size, Answers, outcome_by, route_by, rows_from, all_rows}
use Rattle.transcript.specs.Text.{heading, bad_file, text_room, session_text, handed_back, written_of, area_of}
use Rattle.transcript.proofs.Putting.{Left, left-on, left_end}
use Rattle.transcript.proofs.Reading.{count_next, count-end, offsets-fit, offsets-room, offsets-first}
use Rattle.transcript.proofs.Reading.{offsets-last}

-- what a good event's test says
module _ (file : List ℕ) (i : ℕ) (e : good_event file i ≡ true) where
  tests : every (leb (offset_of file i + 6) (offset_of file (i + 1)) ∷ leb (offset_of file (i + 1)) (length file)
      ∷ leb (kind_of (event_at file i)) 2 ∷ []) ≡ true
  unfolding good_event
  tests = e

  pub event-rises : offset_of file i + 6 ≤ offset_of file (i + 1)
  event-rises = leb-true (offset_of file i + 6) (offset_of file (i + 1))
      (and_fst (leb (offset_of file i + 6) (offset_of file (i + 1))) _ tests)

  pub event-within : offset_of file (i + 1) ≤ length file
  event-within =
      leb-true (offset_of file (i + 1)) (length file)
      (and_fst (leb (offset_of file (i + 1)) (length file)) _
      (and_snd (leb (offset_of file i + 6) (offset_of file (i + 1))) _ tests))

  pub event-size : 6 ≤ length (event_at file i)
  event-size = simp (length-take, length-drop) (omega (arith, event-rises, event-within))

  pub event-kind : kind_of (event_at file i) ≤ 2
  event-kind =
      leb-true (kind_of (event_at file i)) 2
      (and_fst (leb (kind_of (event_at file i)) 2) _
      (and_snd (leb (offset_of file (i + 1)) (length file)) _
      (and_snd (leb (offset_of file i + 6) (offset_of file (i + 1))) _ tests)))

-- the rows from event i on are still to be written
pub record Rows (file : List ℕ) (n at : ℕ) (s₀ : Station) (route₀ before : List ℕ) (area route out : List ℕ)
    (s : Station)
    (next i : ℕ) : Type 0 where
  pub within : i ≤ n
  pub near : next ≤ at + 36 * i
  pub output : length area ≡ output_size
  pub kept : length route ≡ length route₀
  pub good : all (good_event file) (count_from i (n - i)) ≡ true
  pub rest : Left at (rows_from file s₀ route₀ (count_from 0 n)) before next (rows_from file s route (count_from i (n - i)))
      out

pub rows_start : (file : List ℕ) (n at : ℕ) (s : Station) (area route out : List ℕ)
    → RowsFit file n (length area) (length out) at
    → Rows file n at s route out area route out s at 0
rows_start file n at s area route out f =
    let e : n ≡ n - 0 = omega arith in
    let q : rows_from file s route (count_from 0 (n - 0)) ≡ rows_from file s route (count_from 0 n) =
    ap (λ k. rows_from file s route (count_from 0 k)) (sym e) in
    record {
      within = omega arith;
      near = omega arith;
      output = f.output;
      kept = refl;
      good = ap (λ k. all (good_event file) (count_from 0 k)) (sym e) ∙ f.good;
      rest = record { size = refl; left = ap (λ x. over at x out) q; place = ap (λ x. at + length x) q };
    }

module _ {file : List ℕ} {n at : ℕ} {s₀ : Station} {route₀ before : List ℕ} {area route out : List ℕ}
    {s : Station} {next i : ℕ}
    (r : Rows file n at s₀ route₀ before area route out s next i) where
  both : i < n → good_event file i && all (good_event file) (count_from (i + 1) (n - (i + 1))) ≡ true
  both h = ap (all (good_event file)) (sym (count_next i n h)) ∙ r.good

  pub here-good : i < n → good_event file i ≡ true
  here-good h = and_fst (good_event file i) _ (both h)

  module _ (h : i < n) {a : Answered} {t : Station} {after : List ℕ}
      (e : Answers (outcome_by s route (event_at file i)) a t)
      (f : after ≡ route_by s route (event_at file i)) where
    rows_next : rows_from file s route (count_from i (n - i))
        ≡ row_text i a.answer a.to a.age ++ rows_from file t after (count_from (i + 1) (n - (i + 1)))
    unfolding rows_from
    rows_next = rw (count_next i n h, e.answer, e.to, e.age, e.state, f)

    pub rows_on : {used written : List ℕ} {j : ℕ} → length used ≡ length area → length after ≡ length route
        → Put next (row_text i a.answer a.to a.age) out written j → j ≤ next + 36 → at + 36 * n ≤ length before
        → Rows file n at s₀ route₀ before used after written t j (i + 1)
    rows_on u k p b room =
        let z : Left at (rows_from file s₀ route₀ (count_from 0 n)) before next
        (row_text i a.answer a.to a.age ++ rows_from file t after (count_from (i + 1) (n - (i + 1)))) out =
        rw rows_next at r.rest in
        let m = p.moved in
        let size = r.rest.size in
        let w = r.near in
        record {
          within = omega arith;
          near = omega arith;
          output = u ∙ r.output;
          kept = k ∙ r.kept;
          good = and_snd (good_event file i) _ (both h);
          rest = left-on (row_text i a.answer a.to a.age)
              (rows_from file t after (count_from (i + 1) (n - (i + 1)))) z p (omega arith);
        }

  pub rows_end : n ≤ i → Put at (rows_from file s₀ route₀ (count_from 0 n)) before out next
  unfolding rows_from
  rows_end h = left_end (rw (count-end i n h) at r.rest)

-- ---- the whole text

-- n events take 6 bytes each at least
events-rise : (file : List ℕ) (k i : ℕ) → all (good_event file) (count_from i k) ≡ true → offset_of file
    i + 6 * k ≤ offset_of file (i + k)
events-rise file zero i e = rw (add-zero i) (omega arith)
events-rise file (suc k) i e =
    let h = event-rises file i (and_fst (good_event file i) _ e) in
    let g = events-rise file k (i + 1) (and_snd (good_event file i) _ e) in
    let s : i + suc k ≡ i + 1 + k = omega arith in
    rw s (omega arith)

-- so there is room for the rows of every good file behind the heading
module _ (file : List ℕ) (e : good_file file ≡ true) where
  offsets-good : good_offsets file ≡ true
  offsets-good = and_fst (good_offsets file) _ e

  events-good : all (good_event file) (count_from 0 (count_of file)) ≡ true
  events-good = and_fst (all (good_event file) (count_from 0 (count_of file))) _ (and_snd (good_offsets file) _ e)

  pub few-events : 10 * count_of file + 8 ≤ longest
  few-events =
      let s : 0 + count_of file ≡ count_of file = omega arith in
      let g : offset_of file 0 + 6 * count_of file ≤ offset_of file (count_of file) =
      rw s at (events-rise file (count_of file) 0 events-good) in
      omega (arith, offsets-first file offsets-good, offsets-last file offsets-good, offsets-fit file offsets-good)

  pub rows_fit : (size at : ℕ) → text_room ≤ size → at ≤ 22 → RowsFit file (count_of file) output_size size at
  rows_fit size at h k =
      record {
        good = events-good;
        offsets = offsets-room file offsets-good;
        short = offsets-fit file offsets-good;
        output = refl;
        room = omega (arith, few-events);
      }

-- the heading and the rows
pub session_put : (file : List ℕ) {s : Station} {out mid after : List ℕ} {at next : ℕ} → s ≡ (fresh route_size).state
    → text_room ≤ length out → Put 0 heading out mid at
    → Put at (rows_from file s (replicate route_size 0) (count_from 0 (count_of file))) mid after next
    → Put 0 (heading ++ all_rows file) out after next
unfolding all_rows
session_put file {at = at} f room p q =
    let m : at ≡ 22 = p.moved in
    put_then p (rw f at q) (omega arith)

-- what is handed back by the file and an area with room: how long the text is, and the area after it
abbrev pub Handed : (file out : List ℕ) → ℕ → List ℕ → Type 0
Handed file out n after =
    (handed_back (Some n) ≡ written_of (length out) (session_text file)) × (after ≡ area_of (session_text file) out)

module _ (file : List ℕ) {out : List ℕ} (h : text_room ≤ length out) {after : List ℕ} {n : ℕ} where
  given : (text : List ℕ) → text ≡ session_text file → Put 0 text out after n → Handed file out n after
  given text e p =
      let m : n ≡ length (session_text file) = p.moved ∙ zero-add (length text) ∙ ap length e in (
        rw (le-leb text_room (length out) h, m),
        rw (le-leb text_room (length out) h) (p.written ∙ ap (λ t. over 0 t out) e),
      )

  pub bad-written : good_file file ≡ false → Put 0 bad_file out after n → Handed file out n after
  unfolding session_text
  bad-written e p = given bad_file (sym (rw e)) p

  pub good-written : good_file file ≡ true → Put 0 (heading ++ all_rows file) out after n → Handed file out n after
  unfolding session_text
  good-written e p = given (heading ++ all_rows file) (sym (rw e)) p
