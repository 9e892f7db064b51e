-- Demand 3 over lists that bring bytes: from the base's claim on the whole messages that they come to. What is expected
-- from the bytes that are put together is what is expected from those, and the bytes put together are those held.
-- Assumes nothing.
use Prim.Native.Nat.{ℕ, zero, suc, ◌+◌, ◌≤◌, ◌<◌}
use native.Mathlib.Omega.{arith}
use mathlib.Core.Path.{◌≡◌, refl, sym, ap, ◌∙◌, subst}
use mathlib.Core.Bool.{Bool, true, false, cond, not, ◌&&◌, ◌||◌, and-false}
use mathlib.Core.Logic.{⊎_elim}
use mathlib.Core.List.{List, [], ◌∷◌, ◌++◌, map, append-nil, append_assoc}
use lib.Dec.{eqb, leb}
use lib.ListN.{length, set, take, length-map}
use borrow.Author.Tests.{eqb-true, eqb-false, eq-eqb, ne_eqb, lt-leb}
use Rattle.laws.specs.Tests.{first_of, all}
use Rattle.laws.proofs.Refusals.{clash, of_choice}
use Rattle.laws.proofs.Rings.{map-map}
use Rattle.laws.proofs.Chunks.{one_of}
use Rattle.protocol.specs.declared.Pending.{Pending}
use Rattle.protocol.specs.declared.Line.{Line}
use Rattle.protocol.specs.Lines.{line_in, empty_line}
use Rattle.protocol.specs.State.{Station, line_at, with_line}
use Rattle.protocol.specs.Order.{in_order}
use Rattle.protocol.specs.Outcomes.{Terms, Outcome, quiet, refused_or, unused}
use Rattle.protocol.specs.Queries.{usual_limit}
use Rattle.protocol.specs.Calls.{opening, closed_state, closing}
use Rattle.protocol.specs.Runs.{Area, Call, Open, Close, Message, Ask, Made, lent, unsent, outcome_of}
use Rattle.protocol.specs.Runs.{Fair}
use Rattle.protocol.specs.Expected.{Expected, Brought, opens, closes, brings, asks, brought, is_update_of, hears}
use Rattle.protocol.specs.Expected.{feed, fed, fed_all, expected}
use Rattle.protocol.specs.History.{Update, noted, updates_of}
use Rattle.protocol.specs.Demand3.{Agrees, Stands, Claimed}
use Rattle.protocol.proofs.Outcomes.{of_refused, opening_in, closing_in, all-unused}
use Rattle.protocol.proofs.Matching.{line_set, line_other}
use Rattle.protocol.proofs.Demand3.{demand3, feed-ask}
use Rattle.receiving.specs.Feeding.{Fed, extent_of, front_of, held_bytes, holding, shut_line}
use Rattle.receiving.specs.Events.{
  HeldArea,
  AsLeft,
  Lent,
  Event,
  Plain,
  Feed,
  Receiver,
  made_by,
  call_log,
  world_of,
  lent_held,
  fed_by,
  unread,
  whole_call,
  calls_of,
  reply_to,
  held_after,
  handle,
  handle_all,
  begin,
  wholes,
  FairHeld,
  FairEvent,
  FairEvents,
}
use Rattle.receiving.specs.Bare.{bare, bare_line, bare_outcome, bare_made}
use Rattle.receiving.specs.Calls.{in_all, held_count}
use Rattle.receiving.specs.Demand3.{
  Gathered,
  gathering,
  gathered_of,
  expected_of,
  OwnBytes,
  EventsDemand3,
}
use Rattle.receiving.proofs.Bare.{bare-live, bare-table, held-unread}
use Rattle.receiving.proofs.ByCase.{typed-read}
use Rattle.receiving.proofs.Cases.{Typed, FeedCase, Refused, Waits, Over, Whole, Passed, feed-case, outcome}
use Rattle.receiving.proofs.CallsLeave.{feed-leaves}
use Rattle.receiving.proofs.Cutting.{cutting, cut-reply, handle_append, held-beside, fair_both}

-- What the claim reads of a log and of a state is there with held bytes and shut marks aside
expected-bare : (L room : ℕ) (log : List Made) → expected L room (map bare_made log) ≡ expected L room log
expected-bare L room log = ap (fed_all L room) (map-map bare_made fed log)

pub updates-bare : (L : ℕ) (log : List Made) → updates_of L (map bare_made log) ≡ updates_of L log
updates-bare L [] = refl
updates-bare L (d ∷ ds) = ap (noted L d.call d.outcome.answer) (updates-bare L ds)

stands-bare : (L room : ℕ) (e : Expected) (us : List Update) (s : Station) (area : List ℕ)
    → Stands L room e us (bare s) area → Stands L room e us s area
stands-bare L room e us s area q =
    record {
      room' = q.room';
      live = sym (bare-live s L) ∙ q.live;
      mark = rw (bare-table s L) at q.mark;
      long = rw (bare-table s L) at q.long;
      infinity = rw (bare-table s L) at q.infinity;
      entries = rw (bare-table s L) at q.entries;
      closed = q.closed;
      sums = rw (bare-table s L) at q.sums;
      speaking = rw (bare-table s L) at q.speaking;
    }

agrees-bare : (limit L room : ℕ) (e : Expected) (us : List Update) (c : Call) (o : Outcome)
    → Agrees limit L room e us c (bare_outcome o) → Agrees limit L room e us c o
agrees-bare limit L room e us (Open l) o q = q
agrees-bare limit L room e us (Close l) o q = q
agrees-bare limit L room e us (Message l m t a) o q = q
agrees-bare limit L room e us (Ask n text t a) o q = q

-- A fair list comes to a fair list
fair_append : (room : ℕ) (bs ds : List Call) → Fair room bs → Fair room ds → Fair room (bs ++ ds)
fair_append room [] ds f g = g
fair_append room (b ∷ bs) ds f g = (f.0, fair_append room bs ds f.1 g)

-- a call with bytes comes to none
abbrev aside : Receiver → ℕ → List ℕ → Terms → Area → HeldArea → Bool
aside w l bytes t a h = (fed_by w l bytes t a h).waits || unread (fed_by w l bytes t a h).result.answer

fair_calls : (room : ℕ) (w : Receiver) (e : Event) → FairEvent room e → Fair room (calls_of w e)
fair_calls room w (Plain c) f = (f, tt)
fair_calls room w (Feed l bytes t a h) f =
    of_choice (Fair room) (aside w l bytes t a h) [] (whole_call w l bytes t a h ∷ []) (λ _. tt) (λ _. (f.0, tt))

pub fair_wholes : (room : ℕ) (w : Receiver) (es : List Event) → FairEvents room es → Fair room (wholes w es)
fair_wholes room w [] f = tt
fair_wholes room w (e ∷ es) f =
    fair_append room (calls_of w e) (wholes (handle w e) es) (fair_calls room w e f.0)
    (fair_wholes room (handle w e) es f.1)

-- The bytes put together of line L, and those held
module _ (L : ℕ) where
  abbrev BegunAt : Station → List ℕ → List ℕ → Type 0
  BegunAt s held g =
      (line_at s L).live ≡ true → (line_at s L).pending.shut ≡ false → held_bytes (line_at s L) held ≡ g

  begun-same : (s s' : Station) (held g : List ℕ) → (line_at s' L).live ≡ (line_at s L).live
      → (line_at s' L).pending ≡ (line_at s L).pending → BegunAt s held g → BegunAt s' held g
  begun-same s s' held g v p q o u =
      ap (λ (x : Pending). take x.count held) p
      ∙ q (sym v ∙ o) (ap (λ (x : Pending). x.shut) (sym p) ∙ u)

  -- nothing is held of a line that is stored so
  none-held : (xs : List Line) (l : ℕ) (x : Line) → x.pending.count ≡ 0 → (line_in (set xs l x) l).pending.count ≡ 0
  none-held [] l x e = refl
  none-held (y ∷ ys) zero x e = e
  none-held (y ∷ ys) (suc l) x e = none-held ys l x e

  begun-none : (s : Station) (held : List ℕ) → (line_at s L).pending.count ≡ 0 → BegunAt s held []
  begun-none s held e o u = ap (λ n. take n held) e

  -- line l is opened or closed
  begun-turned : (s s' : Station) (l : ℕ) (live : Bool) (held g : List ℕ)
      → s'.lines ≡ set s.lines l (empty_line live) → BegunAt s held g
      → BegunAt s' held (cond (eqb l L && true) [] g)
  begun-turned s s' l live held g e q = go (eqb l L) refl
    where
      line : (k : ℕ) → line_at s' k ≡ line_at (with_line s l (empty_line live)) k
      line k = ap (λ xs. line_in xs k) e

      go : (b : Bool) → eqb l L ≡ b → BegunAt s' held (cond (b && true) [] g)
      go true z =
          begun-none s' held
          (ap (λ (x : Line). x.pending.count) (line L)
          ∙ ap (λ k. (line_in (set s.lines k (empty_line live)) L).pending.count) (eqb-true l L z)
          ∙ none-held s.lines L (empty_line live) refl)
      go false z =
          let p : line_at s' L ≡ line_at s L
          = line L ∙ line_other s l (empty_line live) L (λ y. eqb-false l L z (sym y)) in
          begun-same s s' held g (ap (λ (x : Line). x.live) p) (ap (λ (x : Line). x.pending) p) q

  module _ (s : Station) (held g : List ℕ) (q : BegunAt s held g) (l : ℕ) where
    abbrev TurnedAt : Outcome → Type 0
    TurnedAt o = BegunAt o.state held (cond (eqb l L && not (unused o.answer)) [] g)

    -- refused, or done
    turned-begun : (rules : List (Bool × ℕ)) → all (λ c. unused c.1) rules ≡ true
        → (s' : Station) (live : Bool) → s'.lines ≡ set s.lines l (empty_line live)
        → TurnedAt (refused_or (first_of rules) s [] (quiet 0 s' []))
    turned-begun rules u s' live e =
        of_refused TurnedAt (first_of rules) s [] (quiet 0 s' [])
        (λ _. begun-turned s s' l live held g e q)
        (λ n. rw (all-unused rules u n, and-false) q)

    opening-begun : TurnedAt (opening s l)
    unfolding opening
    opening-begun = turned-begun (opening_in s l) refl (with_line s l (empty_line true)) true refl

    closing-begun : TurnedAt (closing s l)
    unfolding closing
    closing-begun = turned-begun (closing_in s l) refl (closed_state s l) false refl

-- an answer to a message by its type, or to a call whose bytes are left where they are
type-sent : (n : ℕ) → Typed n → (unused n ≡ false) × ((unused n || eqb n 19) ≡ false)
type-sent n =
    ⊎_elim (λ e. rw e (refl, refl))
    (⊎_elim
    (λ h. rw (lt-leb n 5 (omega arith), and-false (leb 1 n), ne_eqb n 19 (λ e. absurd (omega arith))) (refl, refl))
    (λ e. rw e (refl, refl)))

unread-unsent : (n : ℕ) → unread n ≡ true → (unused n || eqb n 19) ≡ true
unread-unsent n = one_of (λ n. unused n || eqb n 19) n (1 ∷ 2 ∷ 3 ∷ 19 ∷ []) refl

-- an open line is among the lines
live_below : (xs : List Line) (l : ℕ) → (line_in xs l).live ≡ true → l < length xs
live_below [] l e = absurd (clash e refl)
live_below (x ∷ xs) zero e = omega arith
live_below (x ∷ xs) (suc l) e = let h : l < length xs = live_below xs l e in omega arith

-- a message leaves whether a line is expected to be open, and one of another line leaves all
feed-live : (L room l : ℕ) (m : List ℕ) (b : Bool) (e : Expected) → (feed L room (brings l m) b e).live ≡ e.live
unfolding feed
feed-live L room l m true e = refl
feed-live L room l m false e =
    of_choice (λ (x : Expected). x.live ≡ e.live) (is_update_of L l m) (hears room m e) e (λ _. refl) (λ _. refl)

feed-other : (L room l : ℕ) (m : List ℕ) (b : Bool) (e : Expected) → eqb l L ≡ false
    → feed L room (brings l m) b e ≡ e
unfolding feed
feed-other L room l m true e z = refl
feed-other L room l m false e z = rw z

feed-unsent : (L room : ℕ) (b : Brought) (e : Expected) → feed L room b true e ≡ e
unfolding feed
feed-unsent L room (opens l) e = refl
feed-unsent L room (closes l) e = refl
feed-unsent L room (brings l m) e = refl
feed-unsent L room asks e = refl

-- one event
module _ (L room : ℕ) where
  -- what is known of line L where w has been reached
  record Known (w : Receiver) : Type 0 where
    begun : BegunAt L w.state (w.held L) (gathered_of L w.log).begun
    same : expected_of L room w.log ≡ expected L room (call_log w.log)

  -- and that an event keeps that, and of its own bytes
  record Next (w : Receiver) (e : Event) : Type 0 where
    known : Known (handle w e)
    own : OwnBytes L w e

  abbrev Live : Receiver → Type 0
  Live w = (line_at w.state L).live ≡ (expected L room (call_log w.log)).live

  module _ (w : Receiver) (k : Known w) (live : Live w) where
    abbrev g : Gathered
    g = gathered_of L w.log

    abbrev e : Expected
    e = expected L room (call_log w.log)

    -- a call of document 01
    plain-begun : (c : Call) → Live (handle w (Plain c))
        → BegunAt L (outcome_of (world_of w) c).state (w.held L) (gathered_of L (handle w (Plain c)).log).begun
    plain-begun (Open l) v = opening-begun L w.state (w.held L) g.begun k.begun l
    plain-begun (Close l) v = closing-begun L w.state (w.held L) g.begun k.begun l
    plain-begun (Message l m t a) v =
        begun-same L w.state (outcome_of (world_of w) (Message l m t a)).state (w.held L) g.begun
        (v ∙ feed-live L room l m _ e ∙ sym live)
        ((held-unread w.state).message_held usual_limit l m t (lent a w.area) L)
        k.begun
    plain-begun (Ask n text t a) v =
        begun-same L w.state (outcome_of (world_of w) (Ask n text t a)).state (w.held L) g.begun
        (v ∙ ap (λ (x : Expected). x.live) (feed-ask L room _ e) ∙ sym live)
        ((held-unread w.state).asks_held usual_limit n text t.out (lent a w.area) L)
        k.begun

    plain-next : (c : Call) → Live (handle w (Plain c)) → Next w (Plain c)
    plain-next c v =
        record {
          known = record {
            begun = plain-begun c v;
            same = ap (feed L room (brought c) (unsent c (outcome_of (world_of w) c).answer)) k.same;
          };
          own = tt;
        }

    -- bytes by another line
    module _ (l : ℕ) (bytes : List ℕ) (t : Terms) (a : Area) (h : HeldArea) (z : eqb l L ≡ false) where
      abbrev feeds : Event
      feeds = Feed l bytes t a h

      apart : L ≡ l → ⊥
      apart y = eqb-false l L z (sym y)

      other-gathered : gathered_of L (handle w feeds).log ≡ g
      other-gathered = rw z

      other-expected : expected L room (call_log (handle w feeds).log) ≡ e
      other-expected =
          of_choice (λ cs. expected L room (made_by (reply_to w feeds) cs ++ call_log w.log) ≡ e)
          (aside w l bytes t a h) [] (whole_call w l bytes t a h ∷ [])
          (λ _. refl)
          (λ _. feed-other L room l _ _ e z)

      other-next : Live (handle w feeds) → Next w feeds
      other-next v =
          record {
            known = record {
              begun = rw (held-beside L l w bytes t a h (ne_eqb L l apart), other-gathered)
                  (begun-same L w.state (handle w feeds).state (w.held L) g.begun
                  (v ∙ ap (λ (x : Expected). x.live) other-expected ∙ sym live)
                  ((feed-leaves w.state l bytes (lent_held h (w.held l)) t (lent a w.area)).others L apart)
                  k.begun);
              same = ap (λ (x : Gathered). fed_all L room x.whole) other-gathered ∙ k.same ∙ sym other-expected;
            };
            own = λ y _. absurd (apart (sym y));
          }

    -- bytes by line L
    module _ (bytes : List ℕ) (t : Terms) (a : Area) (h : HeldArea) (f : FairHeld h) where
      abbrev feeds' : Event
      feeds' = Feed L bytes t a h

      abbrev told : Fed Station
      told = fed_by w L bytes t a h

      abbrev held : List ℕ
      held = lent_held h (w.held L)

      abbrev route : List ℕ
      route = lent a w.area

      abbrev together : List ℕ
      together = in_all w.state L bytes held t route

      abbrev Pass : Type 0
      Pass = Passed w.state L bytes held t route

      abbrev whole : Call
      whole = whole_call w L bytes t a h

      abbrev gathered : Gathered
      gathered = gathered_of L (handle w feeds').log

      -- unsent bytes are not gathered, and others are
      gets_none : (n : ℕ) → told.result.answer ≡ n → (unused n || eqb n 19) ≡ true → gathered ≡ g
      gets_none n e u = rw (e, u, and-false)

      gets-bytes : (n : ℕ) → told.result.answer ≡ n → (unused n || eqb n 19) ≡ false
          → gathered ≡ gathering L (g.begun ++ bytes) g
      gets-bytes n e u = rw (e, eq-eqb L L refl, u)

      -- another held area is too short for bytes to count
      held-lent : (h : HeldArea) → FairHeld h → 4119 ≤ length (lent_held h (w.held L))
          → lent_held h (w.held L) ≡ w.held L
      held-lent AsLeft f p = refl
      held-lent (Lent x) f p = absurd (omega arith)

      held_after_lem : (h : HeldArea) → FairHeld h → 4119 ≤ length (lent_held h (w.held L))
          → held_after w (Feed L bytes t a h) L ≡ (fed_by w L bytes t a h).held
      held_after_lem AsLeft f p = rw (eq-eqb L L refl)
      held_after_lem (Lent x) f p = absurd (omega arith)

      held-refused : (h : HeldArea) → (fed_by w L bytes t a h).held ≡ lent_held h (w.held L)
          → held_after w (Feed L bytes t a h) L ≡ w.held L
      held-refused AsLeft e = rw (eq-eqb L L refl) e
      held-refused (Lent x) e = refl

      begun_all : Pass → g.begun ++ bytes ≡ together
      begun_all p =
          ap (λ b. b ++ bytes)
          (sym (k.begun p.live p.open') ∙ ap (held_bytes (line_at w.state L)) (sym (held-lent h f p.long)))

      below : Pass → L < length w.state.lines
      below p = live_below w.state.lines L p.live

      expected-by : (cs : List Call) → calls_of w feeds' ≡ cs
          → expected L room (call_log (handle w feeds').log)
          ≡ expected L room (made_by told.result cs ++ call_log w.log)
      expected-by cs = ap (λ cs. expected L room (made_by told.result cs ++ call_log w.log))

      abbrev OwnCalls : List ℕ → List Call
      OwnCalls b = cond (eqb (extent_of b) 4) [] (Message L (front_of b) t a ∷ [])

      own-by : FeedCase w.state L bytes held t route → Next w feeds'
      own-by (Refused n _ _ u e) =
          let answer : told.result.answer ≡ n = ap (λ (x : Fed Station). x.result.answer) e in
          let unsent' = unread-unsent n u in
          record {
            known = record {
              begun = rw (held-refused h (ap (λ (x : Fed Station). x.held) e), gets_none n answer unsent')
                  (begun-same L w.state told.result.state (w.held L) g.begun
                  (ap (λ (x : Fed Station). (line_at x.result.state L).live) e)
                  (ap (λ (x : Fed Station). (line_at x.result.state L).pending) e)
                  k.begun);
              same = ap (λ (x : Gathered). fed_all L room x.whole) (gets_none n answer unsent') ∙ k.same
                  ∙ sym (expected-by [] (rw (e, u)));
            };
            own = λ _ o. absurd (clash unsent' (rw answer at o));
          }
      own-by (Waits p _ x e) =
          record {
            known = record {
              begun = λ _ _. ap (λ (y : Line). take y.pending.count (held_after w feeds' L)) line
                  ∙ ap (take count) (held_after_lem h f p.long) ∙ behind ∙ sym (ap (λ (x : Gathered). x.begun) now);
              same = ap (λ (x : Gathered). fed_all L room x.whole) now ∙ k.same ∙ sym (expected-by [] calls);
            };
            own = λ _ _. calls ∙ sym (ap OwnCalls (begun_all p) ∙ rw x);
          }
        where
          count : ℕ
          count = held_count w.state L bytes held t route + length bytes

          calls : calls_of w feeds' ≡ []
          calls = rw e

          now : gathered ≡ record { begun = together; whole = g.whole }
          now = gets-bytes 255 (ap (λ (x : Fed Station). x.result.answer) e) refl
              ∙ ap (λ b. gathering L b g) (begun_all p) ∙ rw x

          line : line_at told.result.state L ≡ holding count (line_at w.state L)
          line = ap (λ (x : Fed Station). line_at x.result.state L) e
              ∙ line_set w.state L (holding count (line_at w.state L)) (below p)

          behind : take count told.held ≡ together
          behind = ((feed-leaves w.state L bytes held t route).waiting' (ap (λ (x : Fed Station). x.waits) e)).1
      own-by (Over p _ x e) =
          record {
            known = record {
              begun = λ _ u. absurd (clash shut u);
              same = ap (λ (x : Gathered). fed_all L room x.whole) (gets_none 5 answer refl) ∙ k.same
                  ∙ sym (expected-by (whole ∷ []) (rw e)
                  ∙ ap (λ n. feed L room (brings L (front_of together)) (unused n) e₀) answer
                  ∙ feed-unsent L room (brings L (front_of together)) e₀);
            };
            own = λ _ o. absurd (clash refl (rw answer at o));
          }
        where
          e₀ : Expected
          e₀ = expected L room (call_log w.log)

          answer : told.result.answer ≡ 5
          answer = ap (λ (x : Fed Station). x.result.answer) e

          shut : (line_at told.result.state L).pending.shut ≡ true
          shut = ap (λ (x : Fed Station). (line_at x.result.state L).pending.shut) e
              ∙ ap (λ (y : Line). y.pending.shut)
              (line_set w.state L (shut_line (line_at w.state L)) (below p))
      own-by (Whole p _ x b e) =
          record {
            known = record {
              begun = λ _ _. ap (λ n. take n (held_after w feeds' L)) none ∙ sym (ap (λ (x : Gathered). x.begun) now);
              same = ap (λ (x : Gathered). fed_all L room x.whole) now
                  ∙ ap (feed L room (brings L (front_of together)) false) k.same
                  ∙ sym (expected-by (whole ∷ []) calls
                  ∙ ap (λ b. feed L room (brings L (front_of together)) b (expected L room (call_log w.log)))
                  (ap unused answer ∙ sent.0));
            };
            own = λ _ _. calls ∙ sym (ap OwnCalls (begun_all p) ∙ rw x);
          }
        where
          n : ℕ
          n = (outcome w.state L bytes held t route).answer

          sent : (unused n ≡ false) × ((unused n || eqb n 19) ≡ false)
          sent = type-sent n b.answer

          answer : told.result.answer ≡ n
          answer = ap (λ (x : Fed Station). x.result.answer) e

          calls : calls_of w feeds' ≡ whole ∷ []
          calls = rw (e, typed-read n b.answer)

          now : gathered
              ≡ record { begun = []; whole = record { call = brings L (front_of together); refused = false } ∷ g.whole }
          now = gets-bytes n answer sent.1 ∙ ap (λ b. gathering L b g) (begun_all p) ∙ rw x

          none : (line_at told.result.state L).pending.count ≡ 0
          none = ap (λ (x : Fed Station). (line_at x.result.state L).pending.count) e
              ∙ none-held L (outcome w.state L bytes held t route).state.lines L _ refl

    next : (e : Event) → FairEvent room e → Live (handle w e) → Next w e
    next (Plain c) f v = plain-next c v
    next (Feed l bytes t a h) f v = go (eqb l L) refl
      where
        go : (b : Bool) → eqb l L ≡ b → Next w (Feed l bytes t a h)
        go true z =
            subst (λ (x : ℕ). Next w (Feed x bytes t a h)) (sym (eqb-true l L z))
            (own-by bytes t a h f.1
            (feed-case w.state L bytes (lent_held h (w.held L)) t (lent a w.area)))
        go false z = other-next l bytes t a h z v

events_append : (room : ℕ) (bs ds : List Event) → FairEvents room bs → FairEvents room ds → FairEvents room (bs ++ ds)
events_append room [] ds f g = g
events_append room (b ∷ bs) ds f g = (f.0, events_append room bs ds f.1 g)

-- every list
module _ (s : Station) (area : List ℕ) (held : ℕ → List ℕ) (L : ℕ) (eight : length s.lines ≡ 8)
    (order : in_order s ≡ true) (seven : L ≤ 7) (closed : (line_at s L).live ≡ false) where
  abbrev after : List Event → Receiver
  after = handle_all (begin s area held)

  abbrev Told : Receiver → Type 0
  Told w =
      Stands L s.room (expected L s.room (call_log w.log)) (updates_of L (call_log w.log)) w.state w.area

  -- the base's claim on a list of whole messages
  base : (cs : List Call) → Fair s.room cs → Claimed 7 (bare s) area L cs
  base cs f =
      demand3 (bare s) area L cs (length-map s.lines bare_line ∙ eight) ((held-unread s).order ∙ order) seven
      (bare-live s L ∙ closed) f

  told-after : (es : List Event) → FairEvents s.room es → Told (after es)
  told-after es f =
      let cs : List Call = wholes (begin s area held) es in
      let w : Receiver = after es in
      stands-bare L s.room _ _ w.state w.area
      (rw (expected-bare L s.room (call_log w.log), updates-bare L (call_log w.log))
      at (rw (← cutting (begin s area held) es)
      at ((base cs (fair_wholes s.room (begin s area held) es f)).stands cs [] (sym (append-nil cs)))))

  -- an event at a place, and the place behind it
  module _ (es : List Event) (e : Event) (f : FairEvents s.room es) (fe : FairEvent s.room e) where
    abbrev w : Receiver
    w = after es

    agrees_after : (c : Call) → calls_of w e ≡ c ∷ []
        → Agrees 7 L s.room (expected L s.room (call_log w.log)) (updates_of L (call_log w.log)) c
        (reply_to w e)
    agrees_after c q =
        let cs : List Call = wholes (begin s area held) es in
        let one : Fair s.room (c ∷ []) = rw q at (fair_calls s.room w e fe) in
        let fair = fair_append s.room cs (c ∷ []) (fair_wholes s.room (begin s area held) es f) one in
        agrees-bare 7 L s.room _ _ c (reply_to w e)
        (rw (cut-reply w e c q, expected-bare L s.room (call_log w.log), updates-bare L (call_log w.log))
        at (rw (← cutting (begin s area held) es) at ((base (cs ++ (c ∷ [])) fair).calls cs c [] refl)))

    next-after : Known L s.room w → Next L s.room w e
    next-after k =
        next L s.room w k (told-after es f).live e fe
        (rw (handle_append (begin s area held) es (e ∷ []))
        at (told-after (es ++ (e ∷ [])) (events_append s.room es (e ∷ []) f (fe, tt))).live)

  known_from : (before es : List Event) → FairEvents s.room (before ++ es) → Known L s.room (after before)
      → Known L s.room (after (before ++ es))
  known_from before [] f k = rw (append-nil before) k
  known_from before (e ∷ es) f k =
      let p = fair_both s.room before (e ∷ es) f in
      let n = (next-after before e p.0 p.1.0 k).known in
      rw (← append_assoc before (e ∷ []) es)
      (known_from (before ++ (e ∷ [])) es (rw (append_assoc before (e ∷ []) es) f)
      (rw (handle_append (begin s area held) before (e ∷ [])) n))

  known-after : (es : List Event) → FairEvents s.room es → Known L s.room (after es)
  known-after es f =
      known_from [] es f (record { begun = λ o _. absurd (clash o closed); same = refl })

pub events-demand3 : EventsDemand3
events-demand3 s area held L es eight order seven closed fair =
    record {
      stands = λ before rest e.
          let f = (parts before rest e).0 in
          let k = known-after s area held L eight order seven closed before f in
          record {
            table = rw k.same (told-after s area held L eight order seven closed before f);
            begun = k.begun;
          };
      events = λ before e rest q.
          let f = parts before (e ∷ rest) q in
          let k = known-after s area held L eight order seven closed before f.0 in
          record {
            call = λ c o. rw k.same
                (agrees_after s area held L eight order seven closed before e f.0 f.1.0 c o);
            own = (next-after s area held L eight order seven closed before e f.0 f.1.0 k).own;
          };
    }
  where
    parts : (before rest : List Event) → es ≡ before ++ rest → FairEvents s.room before × FairEvents s.room rest
    parts before rest e = fair_both s.room before rest (subst (λ (x : List Event). FairEvents s.room x) e fair)
