-- The counts over lists that bring bytes: from the calls that they come to.
-- Assumes nothing.
use Prim.Native.Nat.{ℕ, ◌≤◌}
use mathlib.Core.Path.{◌≡◌, sym, ap, subst, ◌∙◌}
use mathlib.Core.Bool.{true}
use mathlib.Core.List.{List, [], ◌∷◌, map}
use lib.ListN.{take}
use Rattle.protocol.specs.State.{Station, remembered}
use Rattle.protocol.specs.Memory.{Number}
use Rattle.protocol.specs.Order.{in_order}
use Rattle.protocol.specs.Calls.{fresh}
use Rattle.protocol.specs.Outcomes.{Outcome}
use Rattle.protocol.specs.Runs.{Call, Message, World, lent, outcome_of, run, start}
use Rattle.protocol.specs.Kept.{Sized}
use Rattle.protocol.specs.Frames.{LeftAsItWas}
use Rattle.protocol.specs.Demand2.{hits_since, look_up}
use Rattle.protocol.proofs.Kept.{fresh_in_order}
use Rattle.protocol.proofs.Origins.{Invariant, begins, holds_after}
use Rattle.protocol.proofs.HandedBack.{fresh_remembers}
use Rattle.receiving.specs.Events.{Event, Receiver, world_of, calls_of, reply_to, handle_all, begin, wholes}
use Rattle.receiving.specs.Bare.{bare_line, bare, bare_outcome, bare_world}
use Rattle.receiving.proofs.Bare.{bare-live, held-unread, call-unread}
use Rattle.receiving.proofs.Cutting.{cutting, cut-reply}
use Rattle.receiving.proofs.Demand2.{sized-bare, openings-bare, taken-bare, hits-bare, events-memory}
use Rattle.hitcounts.specs.Few.{Passed, Few}
use Rattle.hitcounts.specs.Events.{EventsCount, EventsFreshCounts, FewFed, EventsFew}
use Rattle.hitcounts.proofs.History.{count-is, counted-since}
use Rattle.hitcounts.proofs.Few.{few, few-since}

module _ (s : Station) (area : List ℕ) (held : ℕ → List ℕ) (es : List Event) (z : Sized s) (o : in_order s ≡ true) where
  abbrev w : Receiver
  w = handle_all (begin s area held) es

  abbrev cs : List Call
  cs = wholes (begin s area held) es

  is-run : bare_world (world_of w) ≡ run (start (bare s) area) cs
  is-run = cutting (begin s area held) es

  order : in_order (bare s) ≡ true
  order = (held-unread s).order ∙ o

  -- the bare world is that of the whole-message calls, and what the log says is the same with nothing aside
  bare-holds : Invariant (remembered s) (bare_world (world_of w))
  bare-holds =
      subst (Invariant (remembered s)) (sym is-run)
      (holds_after (remembered s) (start (bare s) area) cs (begins (bare s) area (sized-bare s z) order))

  holds : Invariant (remembered s) (world_of w)
  holds =
      let k = events-memory s area held es z o in
      let log = (world_of w).log in
      record {
        sized = k.kept.sized;
        order = k.kept.order;
        memory = k.memory.last;
        since = λ shut n x l e q.
            let b = bare-holds.since shut n x l e
            (ap (λ ps. look_up (take n ps) x) (taken-bare shut log (remembered s)) ∙ q) in
            record {
              unshut = b.unshut;
              below = b.below;
              live = sym (bare-live w.state l) ∙ b.live;
              same = sym (openings-bare l log) ∙ b.same;
            };
      }

  most : (x : Number) → hits_since (world_of w).log (remembered s) x ≤ 200
  most x =
      rw (← hits-bare (world_of w).log (remembered s) x)
      (subst (λ (v : World). hits_since v.log (remembered s) x ≤ 200) (sym is-run)
      (few-since (bare s) area cs (sized-bare s z) order x))

  few-held : Few (world_of w)
  few-held = few (remembered s) (world_of w) holds most

pub events-count : EventsCount
events-count s area held es z o =
    count-is (remembered s) (world_of (handle_all (begin s area held) es)) (holds s area held es z o)

pub events-fresh-counts : EventsFreshCounts
events-fresh-counts n area held es =
    let f = fresh_in_order n in
    counted-since (world_of (handle_all (begin (fresh n).state area held) es))
    (rw (fresh_remembers n) at (holds (fresh n).state area held es f.sized f.order))

-- what a whole-message call leaves, and whom it passes a hit to, is so with held bytes and shut marks aside
left-bare : (o : Outcome) (n : ℕ) (s : Station) (route : List ℕ) → LeftAsItWas o n s route
    → LeftAsItWas (bare_outcome o) n (bare s) route
left-bare o n s route k =
    record {
      answer = k.answer;
      state = ap bare k.state;
      route' = k.route';
      silent = record {
        to = k.silent.to;
        sent = k.silent.sent;
        delivered = k.silent.delivered;
        search = k.silent.search;
        textat = k.silent.textat;
        textlen = k.silent.textlen;
      };
    }

passed-bare : (s : Station) (m : List ℕ) (k n : ℕ) (o : Outcome) → Passed s m k n o
    → Passed (bare s) m k n (bare_outcome o)
passed-bare s m k n o p =
    record {
      answer = p.answer;
      here = p.here;
      back = p.back;
      raised = record {
        room = p.raised.room;
        lines = ap (map bare_line) p.raised.lines;
        memory = p.raised.memory;
        rest = p.raised.rest;
        beside = p.raised.beside;
      };
      count = p.count;
    }

-- the event's outcome is that of the call that it comes to
few-fed : (w : Receiver) (e : Event) → Few (world_of w) → FewFed w e
few-fed w e f =
    record {
      full = λ l m t a k newer q g h n.
          let c : Call = Message l m t a in
          let route : List ℕ = lent a w.area in
          subst (λ r. LeftAsItWas r 21 (bare w.state) route) (same c q)
          (left-bare (outcome_of (world_of w) c) 21 w.state route (f.full l m t a k newer g h n));
      more = λ l m t a k newer q g h n can.
          let c : Call = Message l m t a in
          subst (Passed (bare w.state) m k _) (same c q)
          (passed-bare w.state m k _ (outcome_of (world_of w) c) (f.more l m t a k newer g h n can));
    }
  where
    same : (c : Call) → calls_of w e ≡ c ∷ [] → bare_outcome (outcome_of (world_of w) c) ≡ bare_outcome (reply_to w e)
    same c q = sym (call-unread (world_of w) c) ∙ cut-reply w e c q

pub events-few : EventsFew
events-few s area held es z o =
    let f = few-held s area held es z o in (f, λ e. few-fed (handle_all (begin s area held) es) e f)
