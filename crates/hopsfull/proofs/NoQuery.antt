-- No query is answered 12.
-- Assumes nothing.
use Prim.Native.Nat.{ℕ, ◌+◌, ◌≤◌}
use native.Mathlib.Omega.{arith}
use mathlib.Core.Path.{◌≡◌, refl, sym, ap, ◌∙◌}
use mathlib.Core.Bool.{Bool, true, false, cond, not, ◌&&◌, ◌||◌}
use mathlib.Core.List.{List, [], ◌∷◌}
use lib.Dec.{eqb}
use lib.ListN.{length}
use borrow.Author.Tests.{eqb-true}
use Rattle.laws.specs.Tests.{first_of, all}
use Rattle.laws.proofs.Refusals.{clash, and_fst, and_snd, and_intro, of_choice, not-answered}
use Rattle.laws.proofs.Words.{refuted}
use Rattle.wire.specs.Header.{header_in, kind_of, payload_of, query_type}
use Rattle.protocol.specs.declared.Lookup.{Lookup}
use Rattle.protocol.specs.Memory.{number_in}
use Rattle.protocol.specs.State.{Station, line_at, looked_up}
use Rattle.protocol.specs.Order.{in_order}
use Rattle.protocol.specs.Outcomes.{Terms, Outcome, pick_result, unused}
use Rattle.protocol.specs.Queries.{usual_limit, has_text}
use Rattle.protocol.specs.Calls.{early, by_type, arriving, own_answer, own_taken, asking}
use Rattle.protocol.specs.HopsFull.{rules_with_row}
use Rattle.protocol.specs.Runs.{Area, Call, Open, Close, Message, Ask, World, outcome_of, lent, step, run, start}
use Rattle.protocol.proofs.Outcomes.{of_refused, answer-taken, early-unused, own_in}
use Rattle.protocol.proofs.HopsFull.{row-never-counts}
use Rattle.receiving.specs.Feeding.{Fed, extent_of, starts, size_at_front, front_of, held_bytes, joined, feed_rules, holding}
use Rattle.receiving.specs.Feeding.{shut_line, on_line, pick_fed, refused_feed, waiting_feed, over_feed, whole_feed}
use Rattle.receiving.specs.Feeding.{feed_refusal, dropped, feeding}
use Rattle.receiving.specs.Events.{Event, Plain, Feed, Handled, Receiver, lent_held, unread, whole_call, begin}
use Rattle.hopsfull.specs.PutBack.{query_step_with_row, arriving_with_row, feeding_with_row, handle_by, handle_all_by}
use Rattle.hopsfull.specs.PutBack.{handle_all_at}
use Rattle.hopsfull.specs.NoQuery.{NotOfMessages, NotOfScraps, no_query_by12, none_in, none_among, NoQueryIs12}
use Rattle.hopsfull.proofs.PutBack.{same-calls, same_lists}

-- two tests that do not hold together
not-both : (a b : Bool) → (a ≡ true → b ≡ true → ⊥) → not (a && b) ≡ true
not-both a b h = ap not (refuted (a && b) (λ e. h (and_fst a b e) (and_snd a b e)))

-- with the row put back: refused before the type counts, which is by 1 to 5, or by the first check that holds
message_with_row_lem : NotOfMessages arriving_with_row
message_with_row_lem limit b s l m t route k =
    of_refused (λ (o : Outcome). o.answer ≡ 12 → ⊥) (early s l m t.out (length route)) s route _
    (λ _ e. row-never-counts.not12 limit b (header_in m) (has_text (payload_of m)) (looked_up s (number_in m)) (sym is ∙ e))
    (λ n e. clash (early-unused s l m t.out (length route) n) (ap unused e))
  where
    looked : Lookup
    looked = looked_up s (number_in m)

    is : (pick_result (eqb (kind_of m) query_type) (query_step_with_row limit s.room s.lines l looked m route)
        (by_type limit s.room s.lines l looked m t route)).answer
        ≡ first_of (rules_with_row limit (header_in m) (has_text (payload_of m)) looked)
    is = rw k (answer-taken _ _ route _ refl)

message_as_is : NotOfMessages arriving
message_as_is limit b s l m t route k e =
    message_with_row_lem limit b s l m t route k
    (ap (λ (o : Outcome). o.answer) (same-calls.message limit b s l m t route) ∙ e)

-- bytes: refused before they count, waiting, too large a payload, or by what the whole message is answered
scrap_with_row_lem : NotOfScraps feeding_with_row
scrap_with_row_lem limit b s l bytes held t route k = by (eqb refusal 0) (eqb (extent_of all') 4) (eqb (extent_of all') 5)
  where
    all' : List ℕ
    all' = joined (line_at s l) held bytes

    h : ℕ
    h = (line_at s l).pending.count

    refusal : ℕ
    refusal = feed_refusal s l held t.out (length route)

    by : (x y z : Bool)
        → (pick_fed x (pick_fed y (waiting_feed h bytes held route (on_line (holding (h + length bytes)) l s))
        (pick_fed z (over_feed h bytes held route (on_line shut_line l s))
        (whole_feed h bytes held route (size_at_front all')
        (dropped l (arriving_with_row limit s l (front_of all') t route)))))
        (refused_feed h bytes held route refusal s)).result.answer ≡ 12
        → ⊥
    by true true z e = omega arith
    by true false true e = omega arith
    by true false false e = message_with_row_lem limit b s l (front_of all') t route k e
    by false y z e =
        not-answered 12 (feed_rules (in_order s) s.room t.out (length route) (length held) l (line_at s l)
        (starts (held_bytes (line_at s l) held))) refl refl e

scrap_as_is : NotOfScraps feeding
scrap_as_is limit b s l bytes held t route k e =
    scrap_with_row_lem limit b s l bytes held t route k
    (ap (λ (f : Fed Station). f.result.answer) (same-calls.scrap limit b s l bytes held t route) ∙ e)

-- an own query's refusals have none, whatever its limit
pub own-other : (limit : ℕ) (s : Station) (number text : List ℕ) (out : ℕ) (route : List ℕ)
    → (asking limit s number text out route).answer ≡ 12
    → ⊥
unfolding asking own_answer
own-other limit s number text out route e =
    not-answered 12 (own_in s number text out (length route)) refl refl
    (sym (answer-taken _ s route (own_taken limit s number text route) refl) ∙ e)

-- one message, and one own query, with their answers
module _ (limit : ℕ) (b : limit ≤ 255) (s : Station) (t : Terms) (area : Area) (route : List ℕ) where
  message-none : (l : ℕ) (m : List ℕ)
      → no_query_by12 (arriving limit s l m t route).answer (Message l m t area) ≡ true
  message-none l m =
      let n : ℕ = (arriving limit s l m t route).answer in
      not-both (eqb (kind_of m) 0x80) (eqb n 12)
      (λ k e. message_as_is limit b s l m t route (eqb-true (kind_of m) 0x80 k) (eqb-true n 12 e))

  own-none : (number text : List ℕ)
      → no_query_by12 (asking limit s number text t.out route).answer (Ask number text t area) ≡ true
  own-none number text =
      let n : ℕ = (asking limit s number text t.out route).answer in
      not-both true (eqb n 12) (λ _ e. own-other limit s number text t.out route (eqb-true n 12 e))

-- the calls of a list, whatever the state
each-call : (w : World) (c : Call) → no_query_by12 (outcome_of w c).answer c ≡ true
each-call w (Open l) = refl
each-call w (Close l) = refl
each-call w (Message l m t a) = message-none usual_limit (omega arith) w.state t a (lent a w.area) l m
each-call w (Ask number text t a) = own-none usual_limit (omega arith) w.state t a (lent a w.area) number text

of_calls : (w : World) → none_in w.log ≡ true → (cs : List Call) → none_in (run w cs).log ≡ true
of_calls w h [] = h
of_calls w h (c ∷ cs) =
    of_calls (step w c) (and_intro (no_query_by12 (outcome_of w c).answer c) (none_in w.log) (each-call w c) h) cs

-- what an event keeps true of the log, a list of them does
module _ (P : Handled → Bool) (limit : ℕ) (message : Station → ℕ → List ℕ → Terms → List ℕ → Outcome)
    (feed : Station → ℕ → List ℕ → List ℕ → Terms → List ℕ → Fed Station) where
  pub of_list : ((w : Receiver) → all P w.log ≡ true → (e : Event)
      → all P (handle_by limit message feed w e).log ≡ true)
      → (w : Receiver) → all P w.log ≡ true → (es : List Event)
      → all P (handle_all_by limit message feed w es).log ≡ true
  of_list each w h [] = h
  of_list each w h (e ∷ es) = of_list each (handle_by limit message feed w e) (each w h e) es

-- an event at a limit: a whole message, or what bytes come to
module _ (limit : ℕ) (b : limit ≤ 255) where
  each-event : (w : Receiver) → none_among w.log ≡ true → (e : Event)
      → none_among (handle_by limit (arriving limit) (feeding limit) w e).log ≡ true
  each-event w o (Plain (Open l)) = o
  each-event w o (Plain (Close l)) = o
  each-event w o (Plain (Message l m t a)) = rw (message-none limit b w.state t a (lent a w.area) l m) o
  each-event w o (Plain (Ask number text t a)) =
      rw (own-none limit b w.state t a (lent a w.area) number text) o
  each-event w o (Feed l bytes t a h) = and_intro _ (none_among w.log) none o
    where
      f : Fed Station
      f = feeding limit w.state l bytes (lent_held h (w.held l)) t (lent a w.area)

      m : List ℕ
      m = front_of (joined (line_at w.state l) (lent_held h (w.held l)) bytes)

      fed-none : no_query_by12 f.result.answer (Message l m t a) ≡ true
      fed-none =
          not-both (eqb (kind_of m) 0x80) (eqb f.result.answer 12)
          (λ k e. scrap_as_is limit b w.state l bytes (lent_held h (w.held l)) t (lent a w.area)
          (eqb-true (kind_of m) 0x80 k) (eqb-true f.result.answer 12 e))

      none : all (no_query_by12 f.result.answer)
          (cond (f.waits || unread f.result.answer) [] (whole_call w l bytes t a h ∷ [])) ≡ true
      none =
          of_choice (λ cs. all (no_query_by12 f.result.answer) cs ≡ true) (f.waits || unread f.result.answer) []
          (whole_call w l bytes t a h ∷ []) (λ _. refl) (λ _. rw fed-none)

  lists-none : (s : Station) (area : List ℕ) (held : ℕ → List ℕ) (es : List Event)
      → none_among (handle_all_at limit (begin s area held) es).log ≡ true
  lists-none s area held es =
      of_list (λ d. all (no_query_by12 d.outcome.answer) d.calls) limit (arriving limit) (feeding limit) each-event
      (begin s area held) refl es

pub no-query-is_12 : NoQueryIs12
no-query-is_12 =
    record {
      message = message_as_is;
      message_with_row = message_with_row_lem;
      scrap = scrap_as_is;
      scrap_with_row = scrap_with_row_lem;
      calls = λ s area cs. of_calls (start s area) refl cs;
      events = λ s area held es.
          ap (λ (w : Receiver). none_among w.log) (sym (same_lists.usual s area held es))
          ∙ lists-none usual_limit (omega arith) s area held es;
      lists = lists-none;
      lists_with_row = λ limit b s area held es.
          ap (λ (w : Receiver). none_among w.log) (same_lists.lists limit b s area held es)
          ∙ lists-none limit b s area held es;
    }
