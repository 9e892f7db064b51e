-- A line's messages are those of the bytes that its calls used.
-- Assumes nothing.
use Prim.Native.Nat.{ℕ, ◌≤◌}
use native.Mathlib.Omega.{arith}
use mathlib.Core.Path.{◌≡◌, refl, sym, ap, subst, ◌∙◌}
use mathlib.Core.Bool.{Bool, true, false, ◌&&◌, and-true, and-false, or-false}
use mathlib.Core.Logic.{◌⊎◌, inl, inr, ⊎_elim}
use mathlib.Core.List.{List, [], ◌∷◌}
use lib.Dec.{eqb}
use lib.ListN.{length, get_or, set, length-set}
use borrow.Author.Tests.{eqb-true, eqb-false, eq-eqb, ne_eqb}
use Rattle.laws.specs.Tests.{first_of}
use Rattle.laws.proofs.Refusals.{clash}
use Rattle.protocol.specs.declared.Line.{Line}
use Rattle.protocol.specs.Lines.{no_pending, nowhere, empty_line}
use Rattle.protocol.specs.State.{Station, line_at, with_line}
use Rattle.protocol.specs.Outcomes.{Terms, Outcome, quiet}
use Rattle.protocol.specs.Queries.{usual_limit}
use Rattle.protocol.specs.Calls.{opening, closed_state, closing}
use Rattle.protocol.specs.Runs.{Area, Call, Open, Close, Message, Ask, World, lent, outcome_of}
use Rattle.protocol.proofs.Outcomes.{of_refused, opening_in, closing_in}
use Rattle.protocol.proofs.Matching.{line_set, line_other}
use Rattle.receiving.specs.Events.{Event, Plain, Feed, HeldArea, AsLeft, Lent, Receiver, world_of, lent_held, fed_by}
use Rattle.receiving.specs.Events.{calls_of, held_after, handle, handle_all, begin, FairHeld, FairEvent, FairEvents}
use Rattle.receiving.specs.Bare.{SamePending}
use Rattle.receiving.specs.Frames.{Stream, turned, streamed, stream_of, came, came_to, taken, bytes_used, Frames}
use Rattle.receiving.proofs.Bare.{held-unread}
use Rattle.receiving.proofs.CallsLeave.{feed-leaves}
use Rattle.receiving.proofs.Cutting.{held-beside}
use Rattle.receiving.proofs.Streams.{Going, going-anew}
use Rattle.receiving.proofs.Went.{SameLives, same-lives, message-lives, own-lives, feed-lives, went-own}
use Rattle.receiving.proofs.Went.{went-lent}

-- a call of document 01: line L is opened or closed, and holds nothing then, or is as it was
abbrev LineThen : ℕ → Station → Station → Bool → Type 0
LineThen L s s' turned =
    ((turned ≡ true) × ((line_at s' L).pending ≡ no_pending))
    ⊎ ((turned ≡ false) × ((line_at s' L).pending ≡ (line_at s L).pending) × ((line_at s' L).live ≡ (line_at s L).live))

record Turns (L : ℕ) (s : Station) (c : Call) (n : ℕ) (s' : Station) : Type 0 where
  count : length s'.lines ≡ length s.lines
  line : LineThen L s s' (turned L c n)

module _ (L : ℕ) (s : Station) (eight : length s.lines ≡ 8) (seven : L ≤ 7) where
  abbrev TurnsBy : Call → Outcome → Type 0
  TurnsBy c o = Turns L s c o.answer o.state

  -- it leaves the line
  stays : (c : Call) (n : ℕ) (s' : Station) → turned L c n ≡ false → SameLives s s' → SamePending s s'
      → Turns L s c n s'
  stays c n s' e v h = record { count = v.count; line = inr (e, h L, v.live L) }

  -- line k is made anew
  turns : (c : Call) (k : ℕ) (live : Bool) (s' : Station) → turned L c 0 ≡ eqb L k
      → s'.lines ≡ set s.lines k (empty_line live) → Turns L s c 0 s'
  turns c k live s' e z =
      record { count = ap length z ∙ length-set s.lines k (empty_line live); line = by (eqb L k) refl }
    where
      here : line_at s' L ≡ line_at (with_line s k (empty_line live)) L
      here = ap (λ ls. get_or ls L nowhere) z

      by : (b : Bool) → eqb L k ≡ b → LineThen L s s' (turned L c 0)
      by true q =
          let same : L ≡ k = eqb-true L k q in
          let at : line_at (with_line s k (empty_line live)) L ≡ empty_line live
          = ap (line_at (with_line s k (empty_line live))) same ∙ line_set s k (empty_line live) (omega arith) in
          inl (e ∙ q, ap (λ (x : Line). x.pending) (here ∙ at))
      by false q =
          let at : line_at s' L ≡ line_at s L = here ∙ line_other s k (empty_line live) L (eqb-false L k q) in
          inr (e ∙ q, ap (λ (x : Line). x.pending) at, ap (λ (x : Line). x.live) at)

  -- a refusal turns nothing
  unturned : (c : Call) (n : ℕ) → (n ≡ 0 → ⊥) → turned L c n ≡ false
  unturned (Open k) n ne = rw (ne_eqb n 0 ne, and-false (eqb L k))
  unturned (Close k) n ne = rw (ne_eqb n 0 ne, and-false (eqb L k))
  unturned (Message k m t a) n ne = refl
  unturned (Ask number text t a) n ne = refl

  refused-turns : (c : Call) (n : ℕ) (route : List ℕ) → (n ≡ 0 → ⊥) → TurnsBy c (quiet n s route)
  refused-turns c n route ne = stays c n s (unturned c n ne) (same-lives s) (λ _. refl)

  opening-turns : (k : ℕ) → TurnsBy (Open k) (opening s k)
  unfolding opening
  opening-turns k =
      of_refused (TurnsBy (Open k)) (first_of (opening_in s k)) s [] (quiet 0 (with_line s k (empty_line true)) [])
      (λ _. turns (Open k) k true _ (or-false (eqb L k && true) ∙ and-true (eqb L k)) refl)
      (refused-turns (Open k) (first_of (opening_in s k)) [])

  closing-turns : (k : ℕ) → TurnsBy (Close k) (closing s k)
  unfolding closing
  closing-turns k =
      of_refused (TurnsBy (Close k)) (first_of (closing_in s k)) s [] (quiet 0 (closed_state s k) [])
      (λ _. turns (Close k) k false _ (and-true (eqb L k)) refl)
      (refused-turns (Close k) (first_of (closing_in s k)) [])

call-turns : (L : ℕ) (w : World) → length w.state.lines ≡ 8 → L ≤ 7 → (c : Call)
    → Turns L w.state c (outcome_of w c).answer (outcome_of w c).state
call-turns L w eight seven (Open k) = opening-turns L w.state eight seven k
call-turns L w eight seven (Close k) = closing-turns L w.state eight seven k
call-turns L w eight seven (Message k m t a) =
    stays L w.state eight seven (Message k m t a) _ _ refl
    (message-lives w.state usual_limit k m t (lent a w.area))
    ((held-unread w.state).message_held usual_limit k m t (lent a w.area))
call-turns L w eight seven (Ask number text t a) =
    stays L w.state eight seven (Ask number text t a) _ _ refl
    (own-lives w.state usual_limit number text t.out (lent a w.area))
    ((held-unread w.state).asks_held usual_limit number text t.out (lent a w.area))

-- what is known of line L after a list
pub record Good (L : ℕ) (w : Receiver) : Type 0 where
  pub eight : length w.state.lines ≡ 8
  pub going : (line_at w.state L).live ≡ true
      → Going (line_at w.state L).pending (w.held L) (came_to L w.log) (stream_of L w.log)
      (bytes_used L w.log)

-- calls of document 01, and bytes of another line, keep it
module _ (L : ℕ) (seven : L ≤ 7) (w : Receiver) (g : Good L w) where
  plain-good : (c : Call) → Good L (handle w (Plain c))
  plain-good c =
      let z = call-turns L (world_of w) g.eight seven c in
      record {
        eight = z.count ∙ g.eight;
        going = λ o.
            ⊎_elim (λ x. rw (x.0, x.1) (going-anew (w.held L)))
            (λ x. rw (x.0, x.1) (g.going (sym x.2 ∙ o))) z.line;
      }

  module _ (l : ℕ) (bytes : List ℕ) (t : Terms) (a : Area) where
    beside-good : (h : HeldArea) → eqb l L ≡ false → Good L (handle w (Feed l bytes t a h))
    beside-good h e =
        let held : List ℕ = lent_held h (w.held l) in
        let ne : L ≡ l → ⊥ = λ q. eqb-false l L e (sym q) in
        let v = feed-lives w.state l bytes held t (lent a w.area) in
        let same = (feed-leaves w.state l bytes held t (lent a w.area)).others L ne in
        record {
          eight = v.count ∙ g.eight;
          going = λ o. rw (e, held-beside L l w bytes t a h (ne_eqb L l ne), same) (g.going (sym (v.live L) ∙ o));
        }

-- and so do bytes of the line itself
own-good : (w : Receiver) (l : ℕ) → Good l w → (bytes : List ℕ) (t : Terms) (a : Area) (h : HeldArea) → FairHeld h
    → Good l (handle w (Feed l bytes t a h))
own-good w l g bytes t a h fair =
    let v = feed-lives w.state l bytes (lent_held h (w.held l)) t (lent a w.area) in
    record { eight = v.count ∙ g.eight; going = λ o. by h fair (g.going (sym (v.live l) ∙ o)) }
  where
    cs : List Call
    cs = came_to l w.log

    f : Stream
    f = stream_of l w.log

    bs : List ℕ
    bs = bytes_used l w.log

    by : (h : HeldArea) → FairHeld h → Going (line_at w.state l).pending (w.held l) cs f bs
        → Going (line_at (fed_by w l bytes t a h).result.state l).pending (held_after w (Feed l bytes t a h) l)
        (came l (Feed l bytes t a h) (fed_by w l bytes t a h).result.answer (calls_of w (Feed l bytes t a h)) cs)
        (streamed l (Feed l bytes t a h) (fed_by w l bytes t a h).result.answer (fed_by w l bytes t a h).used f)
        (taken l (Feed l bytes t a h) (fed_by w l bytes t a h).result.answer (fed_by w l bytes t a h).used bs)
    by AsLeft fair q =
        rw (eq-eqb l l refl) (went-own w.state l bytes (w.held l) t a (lent a w.area) cs f bs g.eight q)
    by (Lent x) fair q =
        rw (eq-eqb l l refl) (went-lent w.state l bytes x t a (lent a w.area) cs f bs (w.held l) fair q)

-- every event, and every list
module _ (L : ℕ) (seven : L ≤ 7) (room : ℕ) where
  event-good : (w : Receiver) → Good L w → (e : Event) → FairEvent room e → Good L (handle w e)
  event-good w g (Plain c) fair = plain-good L seven w g c
  event-good w g (Feed l bytes t a h) fair = by (eqb l L) refl
    where
      by : (b : Bool) → eqb l L ≡ b → Good L (handle w (Feed l bytes t a h))
      by true q =
          subst (λ k. Good k w → Good k (handle w (Feed l bytes t a h))) (eqb-true l L q)
          (λ g. own-good w l g bytes t a h fair.1) g
      by false q = beside-good L seven w g l bytes t a h q

  pub list-good : (w : Receiver) → Good L w → (es : List Event) → FairEvents room es → Good L (handle_all w es)
  list-good w g [] fair = g
  list-good w g (e ∷ es) fair = list-good (handle w e) (event-good w g e fair.0) es fair.1

-- at the start the line is closed
pub start-good : (s : Station) (area : List ℕ) (held : ℕ → List ℕ) (L : ℕ) → length s.lines ≡ 8
    → (line_at s L).live ≡ false → Good L (begin s area held)
start-good s area held L eight shut = record { eight = eight; going = λ o. absurd (clash o shut) }

pub frames : Frames
frames s area held L es eight seven shut fair live =
    let g = (list-good L seven s.room (begin s area held) (start-good s area held L eight shut) es fair).going live in
    record { messages = g.messages; over = g.over; rest = g.rest; this_opening = g.used }
