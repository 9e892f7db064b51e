-- A call that brings bytes, from its parts: what it does but for the ring, stored, is its outcome, given what the ring
-- is surveyed to be. A line's number counts modulo eight: where it is over seven, the call is refused, and what stands
-- there is stored again.
-- Assumes nothing.
use Prim.Native.Nat.{ℕ, zero, suc, ◌+◌, ◌%◌, ◌≤◌, ◌<◌}
use native.Mathlib.Omega.{arith}
use mathlib.Core.Path.{◌≡◌, refl, sym, ap, subst, ◌∙◌}
use mathlib.Core.Bool.{Bool, true, false, not}
use mathlib.Core.List.{List, [], ◌∷◌, ◌++◌}
use lib.Dec.{eqb, ltb}
use lib.ListN.{length, get_or, set, drop, length-drop, take-append-drop}
use lib.Seq.{set-get_or, take-append-le, drop-append-le}
use borrow.Author.Tests.{eq-eqb, eqb-true, ltb-true, not-false}
use Rattle.laws.specs.Tests.{first_of}
use Rattle.laws.proofs.Refusals.{clash, or_fst, no-refusal, NoRefusal}
use Rattle.protocol.specs.declared.Line.{Line}
use Rattle.protocol.specs.declared.Lookup.{Lookup}
use Rattle.protocol.specs.Memory.{Memory, Number, number_in}
use Rattle.protocol.specs.Lines.{line_in, nowhere}
use Rattle.protocol.specs.State.{Station, Change, line_only, station_of, looked_up, memory_after, state_after}
use Rattle.protocol.specs.Order.{in_order}
use Rattle.protocol.specs.Outcomes.{Terms, Step, leaving, refused_or, stored}
use Rattle.protocol.specs.Queries.{usual_limit}
use Rattle.protocol.specs.Calls.{unfit_areas, not_open, early, by_type, arrived, arriving}
use Rattle.receiving.specs.Feeding.{
  Fed,
  pick_fed,
  feed_rules,
  feed_refusal,
  held_size,
  extent_of,
  size_at_front,
  front_of,
  held_bytes,
  joined,
  starts,
  holding,
  shut_line,
  on_line,
  dropped,
  waiting_feed,
  over_feed,
  whole_feed,
  refused_feed,
  feeding,
  feed_outcome,
}
use Rattle.receiving.proofs.Extents.{IsExtent, Four, Five, Zero, extent-cases, front-least, front_long, front-extent}
use Rattle.station.specs.declared.feeding.Feeding.{Feeding}
use Rattle.station.specs.Calls.{both_in_order}
use Rattle.station.specs.Feeding.{dropped_step, fed_by, fed_step, FeedHanded, FeedMet}
use Rattle.station.proofs.CallLaws.{change_of}

-- ---- lists

-- an element put where one was just put: made of that one
set-again : {A : Type 0} (f : A → A) (xs : List A) (i : ℕ) (x d : A)
    → set (set xs i x) i (f (get_or (set xs i x) i d)) ≡ set xs i (f x)
set-again f [] i x d = refl
set-again f (y ∷ ys) zero x d = refl
set-again f (y ∷ ys) (suc i) x d = ap (λ l. y ∷ l) (set-again f ys i x d)

-- the number of bytes is that of more bytes, once it is there
number_more : (b more : List ℕ) → 16 ≤ length b → number_in (b ++ more) ≡ number_in b
number_more b more h =
    let eight : 8 ≤ length (drop 8 b) = rw (length-drop 8 b) (omega arith) in
    rw (
      take-append-le 8 b more (omega arith),
      drop-append-le 8 b more (omega arith),
      take-append-le 8 (drop 8 b) more eight,
    )

-- the front of bytes has their number
number-front : (j : List ℕ) → (extent_of j ≡ 4 → ⊥) → number_in (front_of j) ≡ number_in j
number-front j ends =
    let least : 23 ≤ size_at_front j = front-least j in
    sym (number_more (front_of j) (drop (size_at_front j) j) (rw (front_long j ends) (omega arith)))
    ∙ ap number_in (take-append-drop (size_at_front j) j)

-- ---- a fed call, stored

-- what a call that brought bytes with this number by line l does, stored
abbrev stored_fed : Station → ℕ → Number → Fed Change → Fed Station
stored_fed s l x f =
    record {
      result = stored s l x f.result;
      used = f.used;
      held = f.held;
      within = f.within;
      waits = f.waits;
    }

met-fed : (s : Station) (l : ℕ) (x : Number) {f : Fed Change} {a : Feeding} {out out' held' route' : List ℕ}
    → FeedHanded f a out out' held' route'
    → FeedMet (stored_fed s l x f) a.action.report a.within a.waits (state_after s l x (change_of a.action))
    out out' held' route'
met-fed s l x d =
    record {
      met = record {
        report = ap (λ (a : Feeding). a.action.report) d.action;
        state = ap (λ (a : Feeding). state_after s l x (change_of a.action)) d.action;
        output = d.output;
        area = d.area;
      };
      held = d.held;
      within' = ap (λ (a : Feeding). a.within) d.action;
      waits' = ap (λ (a : Feeding). a.waits) d.action;
    }

-- a message's outcome, with nothing held of its line: its step so, stored
dropped-stored : (s : Station) (l : ℕ) (x : Number) (r : Step)
    → dropped l (stored s l x r) ≡ stored s l x (dropped_step r)
dropped-stored s l x r =
    ap (λ (lines : List Line). leaving (station_of s.room lines (memory_after s l x r.state)) r)
    (set-again (holding 0) s.lines l r.state.line nowhere)

module _ (room : ℕ) (lines : List Line) (q : Memory) (bytes held : List ℕ) (t : Terms) (route : List ℕ) where
  abbrev S : Station
  S = station_of room lines q

  -- the refusals before the bytes count, by a line with this record
  abbrev rules : ℕ → Line → List (Bool × ℕ)
  rules line x =
      feed_rules (in_order S) room t.out (length route) (length held) line x (starts (held_bytes x held))

  -- what is brought by line l, what is done with it by what it is of a message, and the outcome
  module _ (l : ℕ) where
    abbrev j : List ℕ
    j = joined (line_in lines l) held bytes

    abbrev count : ℕ
    count = (line_in lines l).pending.count

    abbrev step_of : Number → Step
    step_of x = by_type usual_limit room lines l (looked_up S x) (front_of j) t route

    abbrev changed : Bool → Bool → Fed Change
    changed four five =
        pick_fed four (waiting_feed count bytes held route (line_only (holding (count + length bytes) (line_in lines l))))
        (pick_fed five (over_feed count bytes held route (line_only (shut_line (line_in lines l))))
        (whole_feed count bytes held route (size_at_front j) (dropped_step (step_of (number_in j)))))

    abbrev outcome : Bool → Bool → Fed Station
    outcome four five =
        pick_fed four (waiting_feed count bytes held route (on_line (holding (count + length bytes)) l S))
        (pick_fed five (over_feed count bytes held route (on_line shut_line l S))
        (whole_feed count bytes held route (size_at_front j) (dropped l (arriving usual_limit S l (front_of j) t route))))

    -- where no refusal has met it
    module _ (none : NoRefusal (rules l (line_in lines l))) where
      -- a whole message
      module _ (whole : extent_of j ≡ 0) where
        ends : extent_of j ≡ 4 → ⊥
        ends e = omega arith

        not-early : early S l (front_of j) t.out (length route) ≡ 0
        unfolding early extent_of
        not-early =
            let a : not (in_order S) ≡ false = none.0 in
            let b : unfit_areas room t.out (length route) ≡ false
            = or_fst (unfit_areas room t.out (length route)) (ltb (length held) held_size) none.1.0 in
            let c : not_open l (line_in lines l).live ≡ false = none.1.1.0 in
            rw (a, b, c) (front-extent j ends ∙ whole)

        whole_is : stored S l (number_in j) (dropped_step (step_of (number_in j)))
            ≡ dropped l (arriving usual_limit S l (front_of j) t route)
        unfolding arriving
        whole_is =
            sym (dropped-stored S l (number_in j) (step_of (number_in j)))
            ∙ ap (dropped l)
            (ap (λ (x : Number). stored S l x (step_of x)) (sym (number-front j ends))
            ∙ ap (λ n. refused_or n S route (arrived usual_limit S l (front_of j) t route)) (sym not-early))

      taken_is : stored_fed S l (number_in j) (changed (eqb (extent_of j) 4) (eqb (extent_of j) 5))
          ≡ outcome (eqb (extent_of j) 4) (eqb (extent_of j) 5)
      taken_is = by (eqb (extent_of j) 4) (eqb (extent_of j) 5) refl refl
        where
          neither : IsExtent j → eqb (extent_of j) 4 ≡ false → eqb (extent_of j) 5 ≡ false → extent_of j ≡ 0
          neither (Four x) e f = absurd (clash (eq-eqb (extent_of j) 4 x) e)
          neither (Five x) e f = absurd (clash (eq-eqb (extent_of j) 5 x) f)
          neither (Zero x) e f = x

          by : (a b : Bool) → eqb (extent_of j) 4 ≡ a → eqb (extent_of j) 5 ≡ b
              → stored_fed S l (number_in j) (changed a b) ≡ outcome a b
          by true b e f = refl
          by false true e f = refl
          by false false e f =
              ap (whole_feed count bytes held route (size_at_front j)) (whole_is (neither (extent-cases j) e f))

  module _ (line : ℕ) where
    abbrev x : Line
    x = line_in lines (line % 8)

    abbrev number : Number
    number = number_in (joined x held bytes)

    -- a line over seven is refused before its record counts
    same-refusal : first_of (rules line x) ≡ feed_refusal S line held t.out (length route)
    same-refusal = by (ltb line 8) refl
      where
        by : (b : Bool) → ltb line 8 ≡ b → first_of (rules line x) ≡ first_of (rules line (line_in lines line))
        by true e = let f : line < 8 = ltb-true line 8 e in let k : line % 8 ≡ line = omega arith in rw k
        by false e = rw e

    -- what is done, stored, is the outcome
    fed-is : stored_fed S (line % 8) number
        (fed_by (in_order S) (looked_up S number) room lines line (line % 8) x bytes held t route)
        ≡ feed_outcome S line bytes held t route
    unfolding feeding
    fed-is = subst
        (λ n. stored_fed S (line % 8) number
        (fed_by (in_order S) (looked_up S number) room lines line (line % 8) x bytes held t route)
        ≡ pick_fed (eqb n 0) (outcome line (eqb (extent_of (j line)) 4) (eqb (extent_of (j line)) 5))
        (refused_feed (count line) bytes held route n S)) same-refusal
        (by (eqb n 0) refl)
      where
        n : ℕ
        n = first_of (rules line x)

        by : (b : Bool) → eqb n 0 ≡ b
            → stored_fed S (line % 8) number
            (pick_fed b (changed (line % 8) (eqb (extent_of (j (line % 8))) 4) (eqb (extent_of (j (line % 8))) 5))
            (refused_feed (count (line % 8)) bytes held route n (line_only x)))
            ≡ pick_fed b (outcome line (eqb (extent_of (j line)) 4) (eqb (extent_of (j line)) 5))
            (refused_feed (count line) bytes held route n S)
        by true e =
            let none : NoRefusal (rules line (line_in lines line))
            = no-refusal (rules line (line_in lines line)) refl (sym same-refusal ∙ eqb-true n 0 e) in
            let f : line < 8 = ltb-true line 8 (not-false (ltb line 8)
            (or_fst (not (ltb line 8)) (not (line_in lines line).live) none.1.1.0)) in
            let k : line ≡ line % 8 = omega arith in
            subst (λ l. stored_fed S l (number_in (j l))
            (changed l (eqb (extent_of (j l)) 4) (eqb (extent_of (j l)) 5))
            ≡ outcome line (eqb (extent_of (j line)) 4) (eqb (extent_of (j line)) 5)) k (taken_is line none)
        by false e =
            ap (λ (ls : List Line). refused_feed (count line) bytes held route n (station_of room ls q))
            (set-get_or lines (line % 8) nowhere)

    -- a call that brings bytes meets its outcome, once the line's record is stored and the number of what is brought
    -- remembered, if it is to be
    pub feed-met : (order : Bool) → both_in_order order room lines ≡ in_order S → (known : Lookup)
        → known ≡ looked_up S number → {a : Feeding} {out out' held' route' : List ℕ}
        → FeedHanded (fed_step order known room lines line bytes held t route) a out out' held' route'
        → FeedMet (feed_outcome S line bytes held t route) a.action.report a.within a.waits
        (state_after S (line % 8) number (change_of a.action)) out out' held' route'
    unfolding fed_step
    feed-met order eo known ek {a} {out} {out'} {held'} {route'} d =
        let e : FeedHanded (fed_by (in_order S) known room lines line (line % 8) x bytes held t route) a
        out out' held' route' = subst (λ b. FeedHanded (fed_by b known room lines line (line % 8) x bytes held t route) a
        out out' held' route') eo d in
        let f : FeedHanded (fed_by (in_order S) (looked_up S number) room lines line (line % 8) x bytes held t route) a
        out out' held' route' = subst (λ (k : Lookup). FeedHanded
        (fed_by (in_order S) k room lines line (line % 8) x bytes held t route) a out out' held' route') ek e in
        subst (λ (g : Fed Station). FeedMet g a.action.report a.within a.waits
        (state_after S (line % 8) number (change_of a.action)) out out' held' route') fed-is
        (met-fed S (line % 8) number f)
