-- From a fresh state no call is answered 1: every state is in order, and what a line holds starts a message.
-- Assumes nothing.
use Prim.Native.Nat.{ℕ, ◌≤◌}
use native.Mathlib.Omega.{arith}
use mathlib.Core.Path.{◌≡◌, refl, sym, ap, ◌∙◌}
use mathlib.Core.Bool.{Bool, true, false, not, ◌||◌, false≢true}
use mathlib.Core.Logic.{inl}
use mathlib.Core.List.{List, [], ◌∷◌}
use lib.Dec.{eqb, ltb}
use lib.ListN.{length}
use borrow.Author.Tests.{eqb-false, eq-eqb, ltb-false, not-true}
use Rattle.laws.specs.Tests.{first_of, all}
use Rattle.laws.proofs.Refusals.{clash, or_snd, answer_in}
use Rattle.protocol.specs.Lines.{line_count, empty_line}
use Rattle.protocol.specs.State.{Station, line_at, with_line}
use Rattle.protocol.specs.Order.{in_order}
use Rattle.protocol.specs.Outcomes.{Terms, quiet, refused_or}
use Rattle.protocol.specs.Calls.{fresh, opening, closed_state, not_open, closing, unfit_areas}
use Rattle.protocol.specs.Runs.{Area, Call, Open, Close, Message, Ask, World, lent, outcome_of}
use Rattle.protocol.specs.Kept.{Sized, Kept, FreshFacts}
use Rattle.protocol.proofs.Outcomes.{answer-taken, is_open}
use Rattle.protocol.proofs.Kept.{order-kept-by-lists, fresh_in_order}
use Rattle.protocol.proofs.Exactly.{exactly}
use Rattle.receiving.specs.Feeding.{extent_of, held_bytes, starts, held_size}
use Rattle.receiving.specs.Events.{Event, Plain, Feed, HeldArea, AsLeft, Lent, Receiver, world_of, lent_held, fed_by}
use Rattle.receiving.specs.Events.{handle, handle_all, begin, FairHeld, reply_to, FairEvent}
use Rattle.receiving.specs.Frames.{NeverOne}
use Rattle.receiving.proofs.ByCase.{typed-other, of_feed}
use Rattle.receiving.proofs.CallsLeave.{feed-leaves}
use Rattle.receiving.proofs.Cutting.{fair_both}
use Rattle.receiving.proofs.Frames.{Good, list-good, start-good}

-- every event keeps a state in order
pub event-kept : (w : Receiver) (e : Event) → Sized w.state → in_order w.state ≡ true
    → Kept w.state (handle w e).state
event-kept w (Plain c) z o = order-kept-by-lists (world_of w) (c ∷ []) z o
event-kept w (Feed l bytes t a h) z o =
    (feed-leaves w.state l bytes (lent_held h (w.held l)) t (lent a w.area)).kept z o

list-order : (w : Receiver) (es : List Event) → Sized w.state → in_order w.state ≡ true
    → in_order (handle_all w es).state ≡ true
list-order w [] z o = o
list-order w (e ∷ es) z o = let k = event-kept w e z o in list-order (handle w e) es k.sized k.order

-- a state in order is not answered 1 by a call of document 01
never_first : (cs : List (Bool × ℕ)) → all (λ c. not (eqb c.1 1)) cs ≡ true → first_of cs ≡ 1 → ⊥
never_first cs h = eqb-false (first_of cs) 1 (not-true (eqb (first_of cs) 1) (answer_in (λ n. not (eqb n 1)) cs refl h))

-- an opening or a closing
turn-not-one : (order bad : Bool) (s s' : Station) → order ≡ true
    → (refused_or (first_of ((not order, 1) ∷ (bad, 3) ∷ [])) s [] (quiet 0 s' [])).answer ≡ 1 → ⊥
turn-not-one order bad s s' o e =
    never_first ((bad, 3) ∷ []) refl
    (sym (ap (λ x. first_of ((not x, 1) ∷ (bad, 3) ∷ [])) o)
    ∙ sym (answer-taken (first_of ((not order, 1) ∷ (bad, 3) ∷ [])) s [] (quiet 0 s' []) refl) ∙ e)

plain-not-one : (w : World) → in_order w.state ≡ true → (c : Call) → (outcome_of w c).answer ≡ 1 → ⊥
unfolding opening closing
plain-not-one w o (Open l) e =
    turn-not-one (in_order w.state) (not (ltb l line_count) || (line_at w.state l).live) w.state
    (with_line w.state l (empty_line true)) o e
plain-not-one w o (Close l) e =
    turn-not-one (in_order w.state) (not_open l (line_at w.state l).live) w.state (closed_state w.state l) o e
plain-not-one w o (Message l m t a) e =
    clash o ((exactly.early w.state l m t (lent a w.area)).one.0 e)
plain-not-one w o (Ask number text t a) e =
    clash o ((exactly.asks w.state number text t.out (lent a w.area)).one.0 e)

-- nor by bytes, where those that are held start a message
starts-not-one : (unfit closed shut start : Bool) → (unfit ≡ false → closed ≡ false → shut ≡ false → start ≡ true)
    → first_of ((unfit, 2) ∷ (closed, 3) ∷ (shut, 19) ∷ (not start, 1) ∷ []) ≡ 1 → ⊥
starts-not-one true closed shut start f e = omega arith
starts-not-one false true shut start f e = omega arith
starts-not-one false false true start f e = omega arith
starts-not-one false false false true f e = omega arith
starts-not-one false false false false f e = absurd (false≢true (f refl refl refl))

module _ (w : Receiver) (o : in_order w.state ≡ true) (l : ℕ) (good : l ≤ 7 → Good l w) (bytes : List ℕ) (t : Terms)
    (a : Area) (h : HeldArea) (fair : FairHeld h) where
  abbrev held' : List ℕ
  held' = lent_held h (w.held l)

  abbrev route' : List ℕ
  route' = lent a w.area

  abbrev unfit' : Bool
  unfit' = unfit_areas w.state.room t.out (length route')

  starts-held : (h : HeldArea) → FairHeld h → held_size ≤ length (lent_held h (w.held l)) → l ≤ 7
      → (line_at w.state l).live ≡ true → (line_at w.state l).pending.shut ≡ false
      → starts (held_bytes (line_at w.state l) (lent_held h (w.held l))) ≡ true
  starts-held AsLeft f long seven live open' =
      let g = (good seven).going live in
      let over = sym g.over ∙ open' in
      ap (λ b. eqb (extent_of b) 4) (g.rest over) ∙ eq-eqb _ 4 (g.begun over)
  starts-held (Lent x) f long seven live open' = absurd (omega arith)

  feed-not-one : (fed_by w l bytes t a h).result.answer ≡ 1 → ⊥
  feed-not-one =
      of_feed w.state l bytes held' t route' (λ r. r.result.answer ≡ 1 → ⊥)
      (λ n e _ _ z. starts-not-one (unfit' || ltb (length held') held_size) (not_open l (line_at w.state l).live)
      (line_at w.state l).pending.shut _
      (λ u v s. let open' = is_open w.state l v in
      starts-held h fair (ltb-false (length held') held_size (or_snd unfit' (ltb (length held') held_size) u)) open'.0
      open'.1 s)
      (rw o at (e ∙ z)))
      (λ _ _ _ z. omega arith)
      (λ _ _ _ z. omega arith)
      (λ _ _ _ b z. typed-other _ 1 b.answer (omega arith, inl (omega arith)) z)

event-not-one : (w : Receiver) → in_order w.state ≡ true → ((l : ℕ) → l ≤ 7 → Good l w) → (room : ℕ) (e : Event)
    → FairEvent room e → (reply_to w e).answer ≡ 1 → ⊥
event-not-one w o good room (Plain c) f = plain-not-one (world_of w) o c
event-not-one w o good room (Feed l bytes t a h) f = feed-not-one w o l (good l) bytes t a h f.1

pub never-one : NeverOne
never-one n area held es e fair =
    let s : Station = (fresh n).state in
    let w : Receiver = begin s area held in
    let f : FreshFacts n = fresh_in_order n in
    let parts = fair_both s.room es (e ∷ []) fair in
    event-not-one (handle_all w es) (list-order w es f.sized f.order)
    (λ l h. list-good l h s.room w (start-good s area held l f.sized.eight (f.closed l (omega arith))) es
    parts.0)
    s.room e parts.1.0
