-- A call that brings bytes, case by case: refused before they count, waiting, too large a payload, a whole message.
-- Assumes nothing.
use Prim.Native.Nat.{ℕ, ◌+◌, ◌≤◌, ◌<◌}
use native.Mathlib.Omega.{arith}
use mathlib.Core.Path.{◌≡◌, refl, ap, ◌∙◌}
use mathlib.Core.Bool.{Bool, true, false, ◌&&◌, ◌||◌}
use mathlib.Core.Logic.{◌⊎◌, inl, inr, ⊎_elim}
use mathlib.Core.List.{List}
use lib.Dec.{eqb, leb, ltb}
use lib.ListN.{length, take, length-take}
use borrow.Author.Tests.{eqb-true, eqb-false, leb-true, lt-ltb, ltb-false, not-false}
use Rattle.laws.specs.Tests.{first_of}
use Rattle.laws.proofs.Refusals.{and_fst, and_snd, or_fst, or_snd, or_split}
use Rattle.laws.proofs.Refusals.{NoRefusal, no-refusal, answer_in, refusal_in}
use Rattle.protocol.specs.State.{Station, line_at}
use Rattle.protocol.specs.Order.{in_order}
use Rattle.protocol.specs.Outcomes.{Terms, Outcome, quiet}
use Rattle.protocol.specs.Calls.{unfit_areas, early, arrived, arriving, message_outcome}
use Rattle.protocol.specs.Queries.{usual_limit}
use Rattle.protocol.specs.Arrived.{Areas, Arrived}
use Rattle.protocol.proofs.Outcomes.{is_open}
use Rattle.protocol.proofs.Arrived.{areas_of, areas-fit, by-type}
use Rattle.protocol.proofs.Blind.{after_early, type-number, types_all}
use Rattle.receiving.specs.Feeding.{
  extent_of,
  size_at_front,
  front_of,
  held_bytes,
  holding,
  shut_line,
  on_line,
  dropped,
  refused_feed,
  waiting_feed,
  over_feed,
  whole_feed,
  feeding,
  feed_outcome,
}
use Rattle.receiving.specs.Events.{unread}
use Rattle.receiving.specs.Calls.{in_all, held_count, before, WholeAt}
use Rattle.receiving.proofs.Extents.{
  IsExtent,
  Four,
  Five,
  Zero,
  extent-cases,
  zero_is,
  starts-short,
  front-extent,
}

-- held bytes that start a message are all there
pub count-there : (n : ℕ) (held : List ℕ) → 4119 ≤ length held → length (take n held) ≤ 4118 → length (take n held) ≡ n
count-there n held h u = let e = length-take n held in omega arith

-- an answer by the message's type: 0, 6 to 16, or 21
abbrev pub Typed : ℕ → Type 0
Typed n = (n ≡ 0) ⊎ (((6 ≤ n) × (n ≤ 16)) ⊎ (n ≡ 21))

abbrev of_type : ℕ → Bool
of_type n = eqb n 0 || (leb 6 n && leb n 16 || eqb n 21)

of_type_lem : (n : ℕ) → of_type n ≡ true → Typed n
of_type_lem n e =
    ⊎_elim (λ x. inl (eqb-true n 0 x))
    (λ x. inr (⊎_elim
    (λ y. inl (leb-true 6 n (and_fst (leb 6 n) (leb n 16) y), leb-true n 16 (and_snd (leb 6 n) (leb n 16) y)))
    (λ y. inr (eqb-true n 21 y))
    (or_split (leb 6 n && leb n 16) (eqb n 21) x)))
    (or_split (eqb n 0) (leb 6 n && leb n 16 || eqb n 21) e)

module _ (s : Station) (l : ℕ) (bytes held : List ℕ) (t : Terms) (route : List ℕ) where
  -- nothing refuses the call before its bytes count
  pub record Passed : Type 0 where
    pub order : in_order s ≡ true
    pub areas : Areas s t.out route
    pub long : 4119 ≤ length held
    pub line : l ≤ 7
    pub live : (line_at s l).live ≡ true
    pub open' : (line_at s l).pending.shut ≡ false
    pub begun : extent_of (held_bytes (line_at s l) held) ≡ 4
    pub short : held_count s l bytes held t route ≤ 4118
    pub counted : length (held_bytes (line_at s l) held) ≡ held_count s l bytes held t route

  -- the whole-message call with the message at the front of all bytes
  abbrev pub outcome : Outcome
  outcome = message_outcome s l (front_of (in_all s l bytes held t route)) t route

  -- it is refused by its type, or done
  pub record ByType : Type 0 where
    pub arrives : outcome ≡ arrived usual_limit s l (front_of (in_all s l bytes held t route)) t route
    pub answer : Typed outcome.answer

  pub data FeedCase : Type 0 where
    Refused : (n : ℕ) → first_of (before s l bytes held t route) ≡ n → (n ≡ 0 → ⊥) → unread n ≡ true
        → feed_outcome s l bytes held t route
        ≡ refused_feed (held_count s l bytes held t route) bytes held route n s
        → FeedCase
    Waits : Passed → first_of (before s l bytes held t route) ≡ 0
        → extent_of (in_all s l bytes held t route) ≡ 4
        → feed_outcome s l bytes held t route
        ≡ waiting_feed (held_count s l bytes held t route) bytes held route
        (on_line (holding (held_count s l bytes held t route + length bytes)) l s)
        → FeedCase
    Over : Passed → first_of (before s l bytes held t route) ≡ 0
        → extent_of (in_all s l bytes held t route) ≡ 5
        → feed_outcome s l bytes held t route
        ≡ over_feed (held_count s l bytes held t route) bytes held route (on_line shut_line l s)
        → FeedCase
    Whole : Passed → first_of (before s l bytes held t route) ≡ 0
        → extent_of (in_all s l bytes held t route) ≡ 0
        → ByType
        → feed_outcome s l bytes held t route
        ≡ whole_feed (held_count s l bytes held t route) bytes held route (size_at_front (in_all s l bytes held t route))
        (dropped l outcome)
        → FeedCase

  abbrev all : List ℕ
  all = in_all s l bytes held t route

  abbrev rules : List (Bool × ℕ)
  rules = before s l bytes held t route

  abbrev first : ℕ
  first = first_of rules

  pub passed : first ≡ 0 → Passed
  passed e =
      let p : NoRefusal rules = no-refusal rules refl e in
      let bad : Bool = unfit_areas s.room t.out (length route) in
      let o = is_open s l p.1.1.0 in
      let there : 4119 ≤ length held = ltb-false (length held) 4119 (or_snd bad (ltb (length held) 4119) p.1.0) in
      let has : List ℕ = held_bytes (line_at s l) held in
      let begun : extent_of has ≡ 4 = eqb-true (extent_of has) 4 (not-false (eqb (extent_of has) 4) p.1.1.1.1.0) in
      let short = starts-short has begun in
      let counted = count-there (held_count s l bytes held t route) held there short in
      record {
        order = not-false (in_order s) p.0;
        areas = areas_of s t.out route (or_fst bad (ltb (length held) 4119) p.1.0);
        long = there;
        line = o.0;
        live = o.1;
        open' = p.1.1.1.0;
        begun = begun;
        short = omega arith;
        counted = counted;
      }

  -- the message at the front has arrived, and its type answers
  pub by-its-type : Passed → extent_of all ≡ 0 → ByType
  by-its-type p e =
      let m : List ℕ = front_of all in
      let w : WholeAt m = zero_is m (front-extent all (λ z. omega arith) ∙ e) in
      let a : Arrived s l m t.out route
      = record { areas = p.areas; line = p.line; live = p.live; size = w.0; whole = w.1 } in
      let same : outcome ≡ arrived usual_limit s l m t route = by-type s l m t route p.order usual_limit a in
      let answer : outcome.answer ≡ first_of (after_early s l m t route)
      = ap (λ (o : Outcome). o.answer) same ∙ type-number s l m t route in
      record {
        arrives = same;
        answer = of_type_lem outcome.answer (rw answer
            (answer_in of_type (after_early s l m t route) refl
            (types_all s l m t route (λ c. of_type c.1) refl refl refl refl refl)));
      }

  pub feed-case : FeedCase
  unfolding feeding
  feed-case = by (eqb first 0) refl (extent-cases all)
    where
      by : (b : Bool) → eqb first 0 ≡ b → IsExtent all → FeedCase
      by false e x =
          let some = eqb-false first 0 e in
          Refused first refl some (refusal_in unread rules refl some) (rw e)
      by true e (Four x) = let z = eqb-true first 0 e in Waits (passed z) z x (rw (z, x))
      by true e (Five x) = let z = eqb-true first 0 e in Over (passed z) z x (rw (z, x))
      by true e (Zero x) = let z = eqb-true first 0 e in Whole (passed z) z x (by-its-type (passed z) x) (rw (z, x))

  -- where the payload is too large, the whole-message call with the header alone is answered 5, and leaves all
  pub over-whole : Passed → extent_of all ≡ 5 → outcome ≡ quiet 5 s route
  unfolding arriving early extent_of
  over-whole p e =
      let m : List ℕ = front_of all in
      let five : extent_of m ≡ 5 = front-extent all (λ z. omega arith) ∙ e in
      let below : l < 8 = let h = p.line in omega arith in
      rw (p.order, areas-fit s t.out route p.areas, lt-ltb l 8 below, p.live, five)
