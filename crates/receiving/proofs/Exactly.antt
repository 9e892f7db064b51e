-- The refusals of a call that brings bytes, proved in words: the tests before the bytes count, one by one in their
-- order; and what stands behind them by what the bytes are of a message.
-- Assumes nothing.
use Prim.Native.Nat.{ℕ, ◌+◌, ◌-◌, ◌/◌, ◌<◌}
use native.Mathlib.Omega.{arith}
use mathlib.Core.Path.{◌≡◌, refl, sym, ap, ◌∙◌}
use mathlib.Core.Bool.{Bool, true, false, not, ◌||◌, false≢true}
use mathlib.Core.Logic.Iff
use mathlib.Core.Logic.{◌↔◌, ◌⊎◌, inl, inr, ⊎_elim}
use mathlib.Core.List.{List, [], ◌∷◌}
use lib.Dec.{eqb, ltb}
use lib.ListN.{length, take}
use borrow.Author.Tests.{lt-ltb, le-ltb, ltb-false}
use Rattle.laws.specs.Tests.{first_of}
use Rattle.laws.proofs.Refusals.{or_fst, or_snd}
use Rattle.laws.proofs.Words.{or_iff, none_iff, no_iff, yes_iff, other_iff, less_iff, least_iff, first_iff, past_iff}
use Rattle.wire.specs.Header.{size_of}
use Rattle.protocol.specs.State.{Station, line_at}
use Rattle.protocol.specs.Order.{in_order}
use Rattle.protocol.specs.Outcomes.{Terms}
use Rattle.protocol.specs.Calls.{not_open}
use Rattle.protocol.specs.Exactly.{AreasUnfit, LineNotOpen}
use Rattle.protocol.proofs.Outcomes.{is_open}
use Rattle.protocol.proofs.Arrived.{bad_areas, areas_of, areas-fit}
use Rattle.receiving.specs.Feeding.{
  Fed,
  extent_of,
  starts,
  size_at_front,
  held_bytes,
  holding,
  shut_line,
  on_line,
  dropped,
  feed_by,
  feeding,
  waiting,
}
use Rattle.receiving.specs.Events.{unread}
use Rattle.receiving.specs.Calls.{Unfinished, TooLarge, fed, in_all, held_count}
use Rattle.receiving.specs.Exactly.{AreasFit, LineOpen, Reached, Fits, FedExactly, FeedExactly}
use Rattle.receiving.proofs.Extents.{four_is, is-four, five-is, is-five, is_zero}
use Rattle.receiving.proofs.Cases.{Passed, outcome}
use Rattle.receiving.proofs.Calls.{feed-starts}
use Rattle.receiving.proofs.ByCase.{not-unread, typed-read, refusal, of_feed, of_waits, of_over}

-- a number whose test is the first, and that stands behind it once more
again_iff : (n : ℕ) {X Y : Type 0} (b : Bool) (cs : List (Bool × ℕ)) → (b ≡ true) ↔ Y
    → ((b ≡ false) × (first_of cs ≡ n)) ↔ X → (first_of ((b, n) ∷ cs) ≡ n) ↔ (Y ⊎ X)
again_iff n true cs y x = ((λ _. inl (y.0 refl)), (λ _. refl))
again_iff n false cs y x = (
  (λ e. inr (x.0 (refl, e))),
  ⊎_elim (λ v. absurd (false≢true (y.1 v))) (λ v. (x.1 v).1),
)

-- the words of the tests, where they hold and where they do not
module _ (s : Station) (out : ℕ) (route held : List ℕ) where
  abbrev bad : Bool
  bad = bad_areas s out route

  abbrev short : Bool
  short = ltb (length held) 4119

  unfit_iff : ((bad || short) ≡ true) ↔ (AreasUnfit s out route ⊎ (length held < 4119))
  unfit_iff =
      let n : ℕ = length route in
      or_iff bad short
      (or_iff (ltb out 4119) (ltb n 32 || not (eqb (n / 8) s.room)) (less_iff out 4119)
      (or_iff (ltb n 32) (not (eqb (n / 8) s.room)) (less_iff n 32) (other_iff (n / 8) s.room)))
      (less_iff (length held) 4119)

  fit_iff : ((bad || short) ≡ false) ↔ AreasFit s out route held
  fit_iff = (
    (λ e. (areas_of s out route (or_fst bad short e), ltb-false (length held) 4119 (or_snd bad short e))),
    (λ v. rw (areas-fit s out route v.0, le-ltb (length held) 4119 v.1)),
  )

module _ (s : Station) (l : ℕ) where
  closed_iff : (not_open l (line_at s l).live ≡ true) ↔ LineNotOpen s l
  closed_iff = or_iff (not (ltb l 8)) (not (line_at s l).live) (least_iff l 8) (no_iff (line_at s l).live)

  open_iff : (not_open l (line_at s l).live ≡ false) ↔ LineOpen s l
  open_iff = (is_open s l, (λ v. rw (lt-ltb l 8 (omega (arith, v.0)), v.1)))

module _ (s : Station) (l : ℕ) (bytes held : List ℕ) (t : Terms) (route : List ℕ) where
  abbrev h : ℕ
  h = held_count s l bytes held t route

  abbrev j : List ℕ
  j = in_all s l bytes held t route

  abbrev has : List ℕ
  has = held_bytes (line_at s l) held

  abbrev call : Fed Station
  call = fed s l bytes held t route

  abbrev first : ℕ
  first = refusal s l bytes held t route

  -- the tests from one of them on
  abbrev from_held : List (Bool × ℕ)
  from_held = (not (starts has), 1) ∷ []

  abbrev from_shut : List (Bool × ℕ)
  from_shut = ((line_at s l).pending.shut, 19) ∷ from_held

  abbrev from_line : List (Bool × ℕ)
  from_line = (not_open l (line_at s l).live, 3) ∷ from_shut

  abbrev from_areas : List (Bool × ℕ)
  from_areas = (bad_areas s t.out route || ltb (length held) 4119, 2) ∷ from_line

  -- in order; with areas that fit; with an open line
  ordered : (n : ℕ) {X : Type 0} → eqb 1 n ≡ false → (first_of from_areas ≡ n) ↔ X
      → (first ≡ n) ↔ ((in_order s ≡ true) × X)
  ordered n e x = past_iff n (not (in_order s)) 1 from_areas e (yes_iff (in_order s)) x

  fitted : (n : ℕ) {X : Type 0} → eqb 2 n ≡ false → (first_of from_line ≡ n) ↔ X
      → (first_of from_areas ≡ n) ↔ (AreasFit s t.out route held × X)
  fitted n e x = past_iff n _ 2 from_line e (fit_iff s t.out route held) x

  opened : (n : ℕ) {X : Type 0} → eqb 3 n ≡ false → (first_of from_shut ≡ n) ↔ X
      → (first_of from_line ≡ n) ↔ (LineOpen s l × X)
  opened n e x = past_iff n _ 3 from_shut e (open_iff s l) x

  starts_iff : (starts has ≡ true) ↔ Unfinished has
  starts_iff = (feed-starts s l bytes held t route).exactly

  abbrev Counts : Type 0
  Counts = Fits s l held t.out route

  -- where the bytes count, none of the tests holds
  fits-pass : Counts → first ≡ 0
  fits-pass f =
      let r = f.reached in
      let areas = (fit_iff s t.out route held).1 (r.areas, r.long) in
      let line = (open_iff s l).1 (r.line, r.live) in
      rw (r.order, areas, line, r.unshut, is-four has f.begun)

  pass_fits : Passed s l bytes held t route → Counts
  pass_fits p =
      record {
        reached = record {
          order = p.order;
          areas = p.areas;
          long = p.long;
          line = p.line;
          live = p.live;
          unshut = p.open';
        };
        begun = four_is has p.begun;
      }

  -- the answer is a number of theirs exactly where the first that holds has it
  early_iff : (n : ℕ) → unread n ≡ true → (call.result.answer ≡ n) ↔ (first ≡ n)
  early_iff n u =
      of_feed s l bytes held t route (λ f. (f.result.answer ≡ n) ↔ (first ≡ n))
      (λ k e _ _. ((λ q. e ∙ q), (λ q. sym e ∙ q)))
      (λ _ z _. neither waiting z refl)
      (λ _ z _. neither 5 z refl)
      (λ _ z _ b. neither _ z (typed-read _ b.answer))
    where
      neither : (k : ℕ) → first ≡ 0 → unread k ≡ false → (k ≡ n) ↔ (first ≡ n)
      neither k z v = (
        (λ e. absurd (not-unread n k u v (sym e))),
        (λ e. absurd (not-unread n 0 u refl (sym e ∙ z))),
      )

  -- the call by the first refusal and by what the bytes are of a message
  fed_by : (r e : ℕ) → first ≡ r → extent_of j ≡ e
      → call
      ≡ feed_by h bytes held route r e (size_at_front j) s (on_line (holding (h + length bytes)) l s)
      (on_line shut_line l s) (dropped l (outcome s l bytes held t route))
  unfolding feeding
  fed_by r e p q = rw (p, q)

  full-front : extent_of j ≡ 0 → size_at_front j ≡ 23 + size_of j
  full-front e = rw e

  -- all before the held bytes, as one record
  reached_iff : {X : Type 0} → ((in_order s ≡ true)
      × (AreasFit s t.out route held × (LineOpen s l × (((line_at s l).pending.shut ≡ false) × X))))
      ↔ (Reached s l held t.out route × X)
  reached_iff = (
    (λ (o, ((a, g), ((i, v), (u, x)))).
        (record { order = o; areas = a; long = g; line = i; live = v; unshut = u }, x)),
    (λ (r, x). (r.order, ((r.areas, r.long), ((r.line, r.live), (r.unshut, x))))),
  )

  fed-exactly : FedExactly s l bytes held t route
  fed-exactly =
      record {
        one =
            Iff.trans (early_iff 1 refl)
            (again_iff 1 (not (in_order s)) from_areas (no_iff (in_order s))
            (Iff.trans (Iff.and (yes_iff (in_order s))
            (fitted 1 refl (opened 1 refl (past_iff 1 _ 19 from_held refl Iff.rfl
            (Iff.trans (first_iff 1 _ [] refl refl) (none_iff (starts has) starts_iff))))))
            reached_iff));
        two =
            Iff.trans (early_iff 2 refl)
            (ordered 2 refl (Iff.trans (first_iff 2 _ from_line refl refl) (unfit_iff s t.out route held)));
        three =
            Iff.trans (early_iff 3 refl)
            (ordered 3 refl (fitted 3 refl (Iff.trans (first_iff 3 _ from_shut refl refl) (closed_iff s l))));
        nineteen =
            Iff.trans (early_iff 19 refl)
            (ordered 19 refl (fitted 19 refl (opened 19 refl (first_iff 19 _ from_held refl refl))));
        five = (
          of_over s l bytes held t route (λ _. Counts × TooLarge j) (λ p _ e. (pass_fits p, five-is j e)),
          (λ v. ap (λ (f : Fed Station). f.result.answer) (fed_by 0 5 (fits-pass v.0) (is-five j v.1))),
        );
        waits = (
          of_waits s l bytes held t route (λ _. Counts × Unfinished j) (λ p _ e. (pass_fits p, four_is j e)),
          (λ v. ap (λ (f : Fed Station). f.waits) (fed_by 0 4 (fits-pass v.0) (is-four j v.1))),
        );
        whole = λ f w.
            let zero = is_zero j w in
            let same = fed_by 0 0 (fits-pass f) zero in (
              ap (λ (f : Fed Station). f.result) same,
              ap (λ n. take n j) (full-front zero),
              ap (λ (f : Fed Station). f.used) same ∙ ap (λ n. n - h) (full-front zero),
            );
        out_of_order = λ o. fed_by 1 (extent_of j) (rw o) refl;
      }

pub feed-exactly : FeedExactly
feed-exactly = fed-exactly
