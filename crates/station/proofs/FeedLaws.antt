-- A call that brings bytes, from its parts: the first refusal, given what is read off the lines and off the bytes, and
-- what each end of the call hands on.
-- Assumes nothing.
use Prim.Native.Nat.{ℕ, ◌+◌, ◌-◌, ◌%◌, ◌≤◌, ◌<◌, min}
use native.Mathlib.Omega.{arith}
use mathlib.Core.Path.{◌≡◌, refl, sym, ap, ap₂, subst, ◌∙◌}
use mathlib.Core.Bool.{Bool, true, false, cond, ◌&&◌}
use mathlib.Core.List.{List, [], ◌∷◌, ◌++◌, map, append_assoc}
use lib.Dec.{eqb, ltb}
use lib.ListN.{length, get_or, take, drop, length-append, length-take}
use lib.Seq.{take_at, take-append-add, length-take-le}
use borrow.Author.Tests.{le-leb, lt-ltb, le-ltb, ne_eqb, eqb-true, eqb-false, ltb-false, not-false}
use Rattle.laws.specs.Parts.{over}
use Rattle.laws.specs.Tests.{first_of}
use Rattle.laws.proofs.Rings.{map-get_or}
use Rattle.laws.proofs.Refusals.{or_fst, or_snd, no-refusal, NoRefusal}
use Rattle.wire.specs.declared.Header.{Header}
use Rattle.wire.specs.Header.{header_in, size_of}
use Rattle.protocol.specs.declared.Line.{Line}
use Rattle.protocol.specs.declared.Lookup.{Lookup}
use Rattle.protocol.specs.Lines.{line_in, line_numbers}
use Rattle.protocol.specs.State.{Change, line_only}
use Rattle.protocol.specs.Outcomes.{Terms}
use Rattle.protocol.specs.Queries.{usual_limit}
use Rattle.protocol.specs.Calls.{by_type, extent_rules, unfit_areas}
use Rattle.protocol.proofs.Outcomes.{numbers-at}
use Rattle.receiving.specs.Feeding.{Fed, feed_by, feed_rules, extent_of, size_at_front, front_of, held_bytes, joined, starts}
use Rattle.receiving.specs.Feeding.{holding, shut_line, held_size, refused_feed, whole_feed}
use Rattle.receiving.proofs.Extents.{IsExtent, Four, Five, Zero, extent-cases, zero_is, starts-short, size-more}
use Rattle.receiving.proofs.Extents.{front-there, front-most, front-past}
use Rattle.intake.specs.Joining.{held_with}
use Rattle.intake.proofs.HeaderLaws.{header-front}
use Rattle.station.specs.declared.actions.Action.{Action}
use Rattle.station.specs.declared.lines.View.{View}
use Rattle.station.specs.declared.feeding.Feeding.{Feeding}
use Rattle.station.specs.Actions.{view_of, Fit}
use Rattle.station.specs.Calls.{both_in_order}
use Rattle.station.specs.Feeding.{fed_step, dropped_step, FeedHanded, quiet_feeding, whole_feeding}
use Rattle.station.specs.Feeding.{unfinished_feeding, held_if, message_of, taken_step, Ends}
use Rattle.station.proofs.CallLaws.{Done, areas-fit}

-- bytes that have room behind those that are held
held_with_lem : (at : ℕ) (bytes held : List ℕ) → at + length bytes ≤ length held
    → held_with at bytes held ≡ over at bytes held
held_with_lem at bytes held h = rw (le-leb (at + length bytes) (length held) h)

-- ---- a whole message, of which some bytes are held

module _ {room : ℕ} {h : Header} {count : ℕ} {bytes held : List ℕ} {out route : ℕ}
    (e : Ends room h count bytes held out route) where
  abbrev n : ℕ
  n = 23 + h.size

  abbrev rest : List ℕ
  rest = take (n - count) bytes

  abbrev p : List ℕ
  p = take count held

  pub rest-long : length rest ≡ n - count
  rest-long = length-take-le (n - count) bytes (omega (arith, e.there))

  p-long : length p ≡ count
  p-long = length-take-le count held (omega (arith, e.begun, e.within))

  long : length (p ++ rest) ≡ n
  long = length-append p rest ∙ omega (arith, p-long, rest-long, e.begun)

  message-is : message_of h count bytes held ≡ p ++ rest
  message-is =
      let parts : n ≡ length p + (n - count) = omega (arith, p-long, e.begun) in
      ap (λ k. take k (p ++ bytes)) parts ∙ take-append-add p bytes (n - count)

  -- none is held: it stands at the front of the bytes
  pub all-brought : count ≡ 0 → take n bytes ≡ message_of h count bytes held
  all-brought z = sym (ap (λ k. take n (take k held ++ bytes)) z)

  -- some are: those that end it have room behind them, and there it stands
  rest-held : {held' : List ℕ} → held' ≡ held_with count rest held → held' ≡ over count rest held
  rest-held f = f ∙ held_with_lem count rest held (omega (arith, rest-long, e.begun, e.within))

  pub all_held : {held' : List ℕ} → held' ≡ held_with count rest held → take n held' ≡ message_of h count bytes held
  all_held f =
      let behind : List ℕ = drop (count + length rest) held in
      ap (take n) (rest-held f ∙ sym (append_assoc p rest behind)) ∙ take_at (p ++ rest) behind n long ∙ sym message-is

  pub all-held-long : {held' : List ℕ} → held' ≡ held_with count rest held → length (take n held') ≡ n
  all-held-long f = ap length (all_held f ∙ message-is) ∙ long

  pub message-fits-there : {m : List ℕ} → m ≡ message_of h count bytes held → Fit room h m out route
  message-fits-there f = subst (λ (m : List ℕ). Fit room h m out route) (sym f) e.fits

-- what was done of it, where it stands, and what is used and held then
module _ (known : Lookup) (lines : List Line) (l : ℕ) (t : Terms) (route out : List ℕ) {room : ℕ} {h : Header}
    {count : ℕ} {bytes held : List ℕ} (e : Ends room h count bytes held (length out) (length route)) where
  abbrev Taken : Feeding → List ℕ → List ℕ → List ℕ → Type 0
  Taken r = FeedHanded (taken_step h count known room lines l bytes held t route) r out

  abbrev DoneOf : List ℕ → Action → List ℕ → List ℕ → Type 0
  DoneOf m = Done room lines l known m t route out 0

  taken_at : {m : List ℕ} {a : Action} {out' route' : List ℕ} → m ≡ message_of h count bytes held
      → DoneOf m a out' route' → (used : ℕ) (within : Bool) {held' : List ℕ} → used ≡ 23 + h.size - count
      → within ≡ ltb 0 count → held' ≡ cond (ltb 0 count) (over count (take (23 + h.size - count) bytes) held) held
      → {r : Feeding} → r ≡ whole_feeding a used within → Taken r out' held' route'
  taken_at {a = a} {out'} {route'} em d used within eu ew ef er =
      let f = subst (λ (m : List ℕ). DoneOf m a out' route') em d in
      record {
        action = er ∙ ap (λ (a : Action). whole_feeding a used within) f.0.action ∙ rw (eu, ew);
        output = f.0.output;
        held = ef;
        area = f.1;
      }

  pub taken-brought : count ≡ 0 → {a : Action} {out' route' : List ℕ} → DoneOf (take (23 + h.size) bytes) a out' route'
      → {r : Feeding} → r ≡ whole_feeding a (23 + h.size) false → Taken r out' held route'
  taken-brought z d =
      let none : ltb 0 count ≡ false = le-ltb 0 count (omega arith) in
      taken_at (all-brought e z) d (23 + h.size) false (omega arith) (sym none) (rw none)

  pub taken-held : (count ≡ 0 → ⊥) → {held' : List ℕ} → held' ≡ held_with count (take (23 + h.size - count) bytes) held
      → {a : Action} {out' route' : List ℕ} → DoneOf (take (23 + h.size) held') a out' route'
      → {r : Feeding} → r ≡ whole_feeding a (23 + h.size - count) true → Taken r out' held' route'
  taken-held z f d =
      let some : ltb 0 count ≡ true = lt-ltb 0 count (omega arith) in
      taken_at (all_held e f) d (23 + h.size - count) true refl (sym some) (rw some (rest-held e f))

-- ---- the call

-- what bytes p are of a message, by the size that is read off them and others behind them
begun-extent : (p bytes : List ℕ) {size : ℕ} → size ≡ size_of (p ++ bytes)
    → first_of (extent_rules (length p) size) ≡ extent_of p
unfolding extent_of
begun-extent p bytes {size} e = by (ltb (length p) 23) refl
  where
    on : ℕ → ℕ
    on k = first_of ((ltb 4096 k, 5) ∷ (ltb (length p) (23 + k), 4) ∷ [])

    by : (b : Bool) → ltb (length p) 23 ≡ b → cond b 4 (on size) ≡ cond b 4 (on (size_of p))
    by true z = refl
    by false z = ap on (e ∙ size-more p bytes (ltb-false (length p) 23 z))

-- what is read off the lines, and off the held bytes and those brought: the view, how many bytes are held, the header,
-- how many of the held bytes are there, what they are of a message, and the first refusal
pub record Found (order : Bool) (known : Lookup) (room : ℕ) (lines : List Line) (line : ℕ) (bytes held : List ℕ)
    (t : Terms) (route out : List ℕ) (v : View) (k : ℕ) (h : Header) (i s n : ℕ) : Type 0 where
  pub view : v ≡ view_of lines room (line % 8)
  pub count : k ≡ (line_in lines (line % 8)).pending.count
  pub header : h ≡ header_in (take k held ++ bytes)
  pub there : i ≡ min k (length held)
  pub begun : s ≡ first_of (extent_rules i h.size)
  pub refusal : n ≡ first_of (feed_rules (order && v.order) room t.out (length route) (length held) line v.line
      (eqb s 4))

module _ {order : Bool} {known : Lookup} {room : ℕ} {lines : List Line} {line : ℕ} {bytes held : List ℕ} {t : Terms}
    {route out : List ℕ} {v : View} {k : ℕ} {h : Header} {i s n : ℕ}
    (f : Found order known room lines line bytes held t route out v k h i s n) where
  abbrev x : Line
  x = line_in lines (line % 8)

  abbrev had : ℕ
  had = x.pending.count

  abbrev b : List ℕ
  b = joined x held bytes

  abbrev ph : List ℕ
  ph = held_bytes x held

  -- the first refusal is the definition's
  size_is : h.size ≡ size_of b
  size_is = ap (λ (h : Header). h.size) f.header ∙ ap (λ k. size_of (take k held ++ bytes)) f.count

  begun-is : s ≡ extent_of ph
  begun-is =
      f.begun ∙ ap (λ i. first_of (extent_rules i h.size))
      (f.there ∙ ap (λ k. min k (length held)) f.count ∙ sym (length-take had held))
      ∙ begun-extent ph bytes size_is

  abbrev rules : Bool → Line → Bool → List (Bool × ℕ)
  rules o y start = feed_rules o room t.out (length route) (length held) line y start

  abbrev ours : List (Bool × ℕ)
  ours = rules (both_in_order order room lines) x (starts ph)

  first : n ≡ first_of ours
  first =
      f.refusal ∙ ap (λ (v : View). first_of (rules (order && v.order) v.line (eqb s 4))) f.view
      ∙ ap (λ s. first_of (rules (both_in_order order room lines) x (eqb s 4))) begun-is

  -- the step by the first refusal and by what the bytes are of a message
  abbrev step_by : ℕ → ℕ → Fed Change
  step_by n part =
      feed_by had bytes held route n part (size_at_front b) (line_only x) (line_only (holding (had + length bytes) x))
      (line_only (shut_line x))
      (dropped_step (by_type usual_limit room lines (line % 8) known (front_of b) t route))

  abbrev Hands : Feeding → List ℕ → List ℕ → List ℕ → Type 0
  Hands r = FeedHanded (fed_step order known room lines line bytes held t route) r out

  step_is : fed_step order known room lines line bytes held t route ≡ step_by n (extent_of b)
  unfolding fed_step
  step_is = ap (λ n. step_by n (extent_of b)) (sym first)

  by-step : {f : Fed Change} → step_by n (extent_of b) ≡ f → {r : Feeding} {out' held' route' : List ℕ}
      → FeedHanded f r out out' held' route' → Hands r out' held' route'
  by-step e {r} {out'} {held'} {route'} d =
      subst (λ (f : Fed Change). FeedHanded f r out out' held' route') (sym (step_is ∙ e)) d

  pub feed-refused : (n ≡ 0 → ⊥) → {r : Feeding} → r ≡ quiet_feeding n 0 v.line false → Hands r out held route
  feed-refused z er =
      by-step {f = refused_feed had bytes held route n (line_only x)} (rw (ne_eqb n 0 z))
      (record {
        action = er ∙ ap (λ (v : View). quiet_feeding n 0 v.line false) f.view;
        output = refl;
        held = refl;
        area = refl;
      })

  -- nothing refuses it: the areas fit, and the held bytes start a message and are as many as the line's record has
  module _ (z : n ≡ 0) where
    none : NoRefusal ours
    none = no-refusal ours refl (sym first ∙ z)

    begins : extent_of ph ≡ 4
    begins = eqb-true (extent_of ph) 4 (not-false (starts ph) none.1.1.1.1.0)

    areas : unfit_areas room t.out (length route) ≡ false
    areas = or_fst (unfit_areas room t.out (length route)) (ltb (length held) held_size) none.1.0

    held-room : 4119 ≤ length held
    held-room =
        ltb-false (length held) 4119
        (or_snd (unfit_areas room t.out (length route)) (ltb (length held) held_size) none.1.0)

    few : had ≤ 4118
    few = omega (arith, starts-short ph begins, length-take had held, held-room)

    pub few-held : k ≤ 4118
    few-held = omega (arith, f.count, few)

    held-long : length ph ≡ had
    held-long = length-take-le had held (omega (arith, few, held-room))

    all-long : length b ≡ had + length bytes
    all-long = length-append ph bytes ∙ ap (λ i. i + length bytes) held-long

    -- what the bytes are of a message
    module _ {part : ℕ} (ep : part ≡ first_of (extent_rules (k + length bytes) h.size)) where
      part-is : part ≡ extent_of b
      unfolding extent_of
      part-is =
          ep ∙ ap₂ (λ i j. first_of (extent_rules i j)) (ap (λ k. k + length bytes) f.count ∙ sym all-long) size_is

      -- they end before it does, or its payload is too large
      module _ (w : part ≡ 0 → ⊥) where
        large : eqb part 4 ≡ false → extent_of b ≡ 5
        large q = by (extent-cases b)
          where
            by : IsExtent b → extent_of b ≡ 5
            by (Four e) = absurd (eqb-false part 4 q (part-is ∙ e))
            by (Five e) = e
            by (Zero e) = absurd (w (part-is ∙ e))

        pub too_large : eqb part 4 ≡ false → part ≡ 5
        too_large q = part-is ∙ large q

        count-is : v.line.pending.count ≡ had
        count-is = ap (λ (v : View). v.line.pending.count) f.view

        pub unfinished-fits : (eqb part 4 ≡ true → v.line.pending.count + length bytes < 4119)
            × (eqb part 4 ≡ false → v.line.pending.count ≤ 23)
        unfinished-fits = (
          (λ q. omega (arith, count-is, all-long, starts-short b (sym part-is ∙ eqb-true part 4 q))),
          (λ q.
              let front : size_at_front b ≡ 23 = rw (large q) in
              let ends : extent_of b ≡ 4 → ⊥ = λ e. eqb-false part 4 q (part-is ∙ e) in
              omega (arith, count-is, held-long, front, front-past ph bytes begins ends)),
        )

        module _ {r : Feeding} {held' : List ℕ} (er : r ≡ unfinished_feeding (eqb part 4) (length bytes) v.line)
            (eh : held' ≡ held_if (eqb part 4) v.line.pending.count bytes held) where
          told : (short : Bool) → eqb part 4 ≡ short → r ≡ unfinished_feeding short (length bytes) x
          told short e = er ∙ ap₂ (λ q (v : View). unfinished_feeding q (length bytes) v.line) e f.view

          left : (short : Bool) → eqb part 4 ≡ short → held' ≡ held_if short had bytes held
          left short e = eh ∙ ap₂ (λ q j. held_if q j bytes held) e count-is

          by : (short : Bool) → eqb part 4 ≡ short → Hands r out held' route
          by true e =
              let four : extent_of b ≡ 4 = sym part-is ∙ eqb-true part 4 e in
              let fits : had + length bytes ≤ length held
              = omega (arith, all-long, starts-short b four, held-room) in
              by-step (ap₂ step_by z four) (record {
                action = told true e;
                output = refl;
                held = left true e ∙ held_with_lem had bytes held fits;
                area = refl;
              })
          by false e = by-step (ap₂ step_by z (large e))
              (record { action = told false e; output = refl; held = left false e; area = refl })

          pub feed-unfinished : Hands r out held' route
          feed-unfinished = by (eqb part 4) refl

      -- it is whole
      module _ (w : part ≡ 0) where
        whole : extent_of b ≡ 0
        whole = sym part-is ∙ w

        ends : extent_of b ≡ 4 → ⊥
        ends e = omega (arith, whole)

        front-is : size_at_front b ≡ 23 + h.size
        front-is = rw whole (ap (λ j. 23 + j) (sym size_is))

        pub feed-ends : Ends room h k bytes held t.out (length route)
        feed-ends =
            let past = front-past ph bytes begins ends in
            let there = front-there b ends in
            let header : h ≡ header_in (message_of h k bytes held)
            = f.header ∙ sym (header-front (23 + h.size) (take k held ++ bytes) (omega arith)) in
            let same : length (take k held ++ bytes) ≡ length b = ap (λ k. length (take k held ++ bytes)) f.count in
            let long : length (message_of h k bytes held) ≡ 23 + h.size
            = length-take-le (23 + h.size) (take k held ++ bytes) (omega (arith, there, front-is)) in
            let size = ap (λ (h : Header). h.size) header in
            let fit = areas-fit room t.out (length route) areas in
            record {
              begun = omega (arith, held-long, front-is);
              there = omega (arith, all-long, front-is);
              within = omega (arith, front-most b ends, held-room, front-is);
              fits = record {
                message = record {
                  header = header;
                  small = omega (arith, size_is, (zero_is b whole).0);
                  whole = omega arith;
                };
                output = fit.0;
                rooms = fit.1;
              };
            }

        pub feed-taken : {r : Feeding} {out' held' route' : List ℕ}
            → FeedHanded (taken_step h k known room lines (line % 8) bytes held t route) r out out' held' route'
            → Hands r out' held' route'
        feed-taken d =
            by-step (ap₂ step_by z whole ∙ ap₂
            (λ k j. whole_feed k bytes held route j
            (dropped_step (by_type usual_limit room lines (line % 8) known (take j (take k held ++ bytes)) t route)))
            (sym f.count) front-is) d
