-- Elapsed time; pings and pongs that have arrived; and the bytes of the pongs that answer a ping.
-- Assumes nothing.
use Prim.Native.Nat.{ℕ, ◌≤◌, ◌<◌, max}
use native.Mathlib.Omega.{arith}
use mathlib.Core.Path.{◌≡◌, refl, sym, ap, ◌∙◌}
use mathlib.Core.Bool.{Bool, true, false, cond, ◌||◌}
use mathlib.Core.Logic.Iff
use mathlib.Core.Logic.{◌↔◌}
use mathlib.Core.List.{List, [], ◌∷◌, ◌++◌, append-nil}
use lib.Dec.{eqb, leb, ltb}
use lib.ListN.{length, get_or}
use borrow.Author.Tests.{leb-true, ltb-true, ltb-false, le-ltb, eqb-true, eqb-false, eq-eqb, ne_eqb}
use Rattle.laws.specs.Tests.{first_of, all}
use Rattle.laws.proofs.Refusals.{clash, and_fst, or_fst, or_snd, no-refusal, none-refused, all_get_d}
use Rattle.laws.proofs.Words.{and_iff, or_iff, refuted, eqb_iff, less_iff, not-less_iff, most_iff, first_iff, past_iff}
use Rattle.wire.specs.Header.{header_in, ttl_of, hops_of, size_of, number_of, message}
use Rattle.protocol.specs.declared.Line.{Line}
use Rattle.protocol.specs.declared.Own.{Own}
use Rattle.protocol.specs.Memory.{number_in, no_age}
use Rattle.protocol.specs.State.{Station, line_at, with_line}
use Rattle.protocol.specs.Lines.{nowhere, pinged_at, with_pong, pong_capacity, stored_pongs, elapsed, ElapsedRight}
use Rattle.protocol.specs.Lines.{ElapsedPoints}
use Rattle.protocol.specs.Order.{in_order}
use Rattle.protocol.specs.Outcomes.{Terms, Outcome, nobody, only_to, stored}
use Rattle.protocol.specs.Pings.{is_probe, too_soon, pong_bytes, own_pong, pongs_sent, pongs_back, ping_taken, ping_step}
use Rattle.protocol.specs.Pings.{arrived_pong, pong_step}
use Rattle.protocol.specs.Kept.{Sized, sized_line}
use Rattle.protocol.specs.Frames.{Silent}
use Rattle.protocol.specs.Pinged.{ProbeTaken, Soon, TimeKept, OtherPing, PingRouted, PongStored, PongRouted}
use Rattle.protocol.specs.Pongs.{OwnThenStored, stored_written}
use Rattle.protocol.proofs.Outcomes.{of_stored, stored-again, answer-taken, each_line-at}
use Rattle.protocol.proofs.ByType.{ping_in, pong_in, ping_done}
use Rattle.protocol.proofs.InOrder.{LineFacts, facts_at}
use Rattle.protocol.proofs.Memory.{stored-newest}
use Rattle.protocol.proofs.Matching.{line_set}
use Rattle.protocol.proofs.Opened.{quiet-silent, beside-set}
use Rattle.protocol.proofs.Pongs.{places, stored-written, first-ten}

-- elapsed time
pub elapsed-right : ElapsedRight
elapsed-right now then a b =
    record { below = omega arith; comes = omega arith; plain = λ h. omega arith; round = λ h. omega arith }

pub elapsed_points : ElapsedPoints
elapsed_points = record { half = refl; most = refl; back = refl; across = refl; spaced = refl }

-- a ping
module _ (s : Station) (z : Sized s) (o : in_order s ≡ true) (l : ℕ) (l≤7 : l ≤ 7) (t : Terms) (m route : List ℕ) where
  abbrev ping : Outcome
  ping = stored s l (number_in m) (ping_step s.lines l t m route)

  abbrev clock : ℕ
  clock = t.clock

  abbrev own : Own
  own = t.own

  abbrev line : Line
  line = line_at s l

  abbrev probe : Bool
  probe = is_probe (header_in m)

  abbrev soon : Bool
  soon = too_soon line.pinged line.pingtime clock

  abbrev refusal : ℕ
  refusal = first_of (ping_in s l t m)

  here : l < length s.lines
  here = omega (arith, z.eight)

  -- the tests
  soon-is : (soon ≡ true) ↔ Soon s l clock
  soon-is = and_iff line.pinged (ltb (elapsed clock line.pingtime) 1000) ((λ e. e), (λ e. e)) (less_iff _ 1000)

  probe-is : (probe ≡ true) ↔ ((ttl_of m ≡ 1) × (hops_of m ≤ 1))
  probe-is = and_iff (eqb (ttl_of m) 1) (leb (hops_of m) 1) (eqb_iff (ttl_of m) 1) (most_iff (hops_of m) 1)

  ping-answer : ping.answer ≡ refusal
  unfolding ping_step
  ping-answer = answer-taken refusal _ route (ping_taken s.lines l t m route) refl

  taken-ping : refusal ≡ 0 → ping ≡ ping_done s l t m route
  unfolding ping_step
  taken-ping e = rw e

  -- a probe
  probe-taken : ttl_of m ≡ 1 → hops_of m ≤ 1 → ProbeTaken s own m ping
  unfolding pongs_sent
  probe-taken one h =
      let p : probe ≡ true = probe-is.1 (one, h) in
      let max1 : max 1 (hops_of m) ≡ 1 = omega arith in
      let e : refusal ≡ 0 = rw (ne_eqb (ttl_of m) 0 (λ q. absurd (omega arith)), p) in
      rw (taken-ping e, p)
      (record {
        answer = refl;
        sent = append-nil _ ∙ ap (λ n. message (number_of m) 0x01 n 0 (own_pong own)) max1;
        state = stored-again s l;
      })

  -- any other
  time-kept : TimeKept l clock s (with_line s l (pinged_at line clock))
  unfolding stored_pongs
  time-kept =
      let x : Line = pinged_at line clock in
      let q : line_at (with_line s l x) l ≡ x = line_set s l x here in
      record {
        pinged = ap (λ (y : Line). y.pinged) q;
        time = ap (λ (y : Line). y.pingtime) q;
        live = ap (λ (y : Line). y.live) q;
        pongs = ap stored_pongs q;
        table = ap (λ (y : Line). y.table) q;
        beside = beside-set s l x;
        memory = refl;
      }

  abbrev own_part : Bool → List ℕ
  own_part b = cond b (pong_bytes (number_of m) (hops_of m) 0 (own_pong own)) []

  abbrev stored_part : List ℕ
  stored_part = stored_written s m (places s l clock)

  sent-ping : probe ≡ false → refusal ≡ 0 → ping.sent ≡ own_part own.calls ++ stored_part
  unfolding pongs_sent
  sent-ping p e =
      ap (λ (r : Outcome). r.sent) (taken-ping e)
      ∙ rw p (ap (λ bs. own_part own.calls ++ bs) (stored-written s l clock o m))

  other-ping : 1 ≤ ttl_of m → ((ttl_of m ≡ 1) × (hops_of m ≤ 1) → ⊥) → OtherPing s l clock own m ping
  other-ping some n =
      record {
        soon = too_soon_lem;
        taken = (
          (λ q v. absurd (omega (arith, q, too_soon_lem.1 v))),
          (λ v. ping-answer ∙ none v),
        );
        kept = λ v.
            let q : ping.state ≡ with_line s l (pinged_at line clock)
            = ap (λ (r : Outcome). r.state) (taken-ping (none v)) ∙ rw p in
            rw q time-kept;
        called = λ v c. answered (sent-ping p (none v) ∙ ap (λ b. own_part b ++ stored_part) c);
        uncalled = λ v c. answered (sent-ping p (none v) ∙ ap (λ b. own_part b ++ stored_part) c);
      }
    where
      p : probe ≡ false
      p = refuted probe (λ e. n (probe-is.0 e))

      too_soon_lem : (ping.answer ≡ 13) ↔ Soon s l clock
      too_soon_lem =
          rw (ping-answer, ne_eqb (ttl_of m) 0 (λ q. absurd (omega arith)), p)
          (Iff.trans (first_iff 13 soon [] refl refl) soon-is)

      none : (Soon s l clock → ⊥) → refusal ≡ 0
      none v = rw (ne_eqb (ttl_of m) 0 (λ q. absurd (omega arith)), p, refuted soon (λ e. v (soon-is.0 e)))

      answered : {part : List ℕ} → ping.sent ≡ part ++ stored_part → OwnThenStored s l clock m part ping.sent
      answered e = record { places = places s l clock; first = first-ten s l clock; written = e }

  -- to whom
  abbrev ToOwn : List Bool → List ℕ → Type 0
  ToOwn to sent = (length to ≡ 8) × ((k : ℕ) → k < 8 → (get_or to k false ≡ true) ↔ ((k ≡ l) × (sent ≡ [] → ⊥)))

  to-nobody : ToOwn nobody []
  to-nobody = (
    refl,
    λ k h. ((λ e. absurd (clash e (each_line-at (λ _. false) k (omega arith)))), (λ v. absurd (v.1 refl))),
  )

  to-own : (bs : List ℕ) → ToOwn (cond (eqb (length bs) 0) nobody (only_to l)) bs
  to-own [] = to-nobody
  to-own (b ∷ bs) =
      rw (ne_eqb (length (b ∷ bs)) 0 (λ e. absurd (omega arith))) (
        refl,
        λ k h.
            let at : get_or (only_to l) k false ≡ eqb l k = each_line-at (eqb l) k (omega arith) in (
              (λ e. (sym (eqb-true l k (sym at ∙ e)), λ q. absurd (omega (arith, ap length q)))),
              (λ v. at ∙ eq-eqb l k (sym v.0)),
            ),
      )

  ping-to : ToOwn ping.to ping.sent
  unfolding ping_step
  ping-to =
      of_stored (λ o. ToOwn o.to o.sent) s l (number_in m) refusal route (ping_taken s.lines l t m route)
      (λ _. to-own (pongs_back s.lines l t m))
      (λ _. to-nobody)

  pub ping-routed : PingRouted s l clock own m ping
  ping-routed =
      record {
        spent = λ e. ping-answer ∙ rw (eq-eqb (ttl_of m) 0 e);
        probe = probe-taken;
        other = other-ping;
        eight = ping-to.0;
        to = ping-to.1;
      }

-- a pong
module _ (s : Station) (z : Sized s) (o : in_order s ≡ true) (l : ℕ) (l≤7 : l ≤ 7) (clock : ℕ) (m route : List ℕ) where
  abbrev pong : Outcome
  pong = stored s l (number_in m) (pong_step (line_at s l) clock m route)

  abbrev after : Line
  after = with_pong (line_at s l) (arrived_pong clock m)

  abbrev short : Bool
  short = ltb (size_of m) 14

  abbrev spent : Bool
  spent = eqb (ttl_of m) 0 || ltb 7 (hops_of m)

  pong-answer : pong.answer ≡ first_of (pong_in m)
  unfolding pong_step
  pong-answer = answer-taken (first_of (pong_in m)) _ route _ refl

  alive : 1 ≤ ttl_of m → hops_of m ≤ 7 → spent ≡ false
  alive t h = rw (ne_eqb (ttl_of m) 0 (λ q. absurd (omega arith)), le-ltb 7 (hops_of m) h)

  pong-stored : PongStored l clock m s (with_line s l after)
  pong-stored =
      let x : Line = line_at s l in
      let h : l < length s.lines = omega (arith, z.eight) in
      let f : LineFacts s.room x = facts_at s l o h in
      let ten : length x.pongs ≡ pong_capacity
      = eqb-true (length x.pongs) pong_capacity
      (and_fst _ (all (λ p. eqb (length p.bytes) 14) x.pongs)
      (all_get_d sized_line s.lines l nowhere z.pongs h)) in
      let count : x.pongcount ≤ pong_capacity = leb-true x.pongcount pong_capacity f.count in
      let next : x.pongnext < pong_capacity = ltb-true x.pongnext pong_capacity f.next in
      let q : line_at (with_line s l after) l ≡ after = line_set s l after h in
      record {
        pongs = ap stored_pongs q ∙ stored-newest x (arrived_pong clock m) ten count next;
        live = ap (λ (y : Line). y.live) q;
        pinged = ap (λ (y : Line). y.pinged) q;
        time = ap (λ (y : Line). y.pingtime) q;
        table = ap (λ (y : Line). y.table) q;
        beside = beside-set s l after;
        memory = refl;
      }

  stored-pong : 14 ≤ size_of m → 1 ≤ ttl_of m → hops_of m ≤ 7 → PongStored l clock m s pong.state
  unfolding pong_step
  stored-pong n t h = rw (le-ltb (size_of m) 14 n, alive t h) pong-stored

  pong-silent : Silent pong
  unfolding pong_step
  pong-silent =
      of_stored Silent s l (number_in m) (first_of (pong_in m)) route _
      (λ _. quiet-silent 0 no_age (with_line s l after) route)
      (λ _. quiet-silent (first_of (pong_in m)) no_age s route)

  pub pong-routed : PongRouted s l clock m pong
  pong-routed =
      record {
        short = rw pong-answer (Iff.trans (first_iff 6 short ((spent, 8) ∷ []) refl refl) (less_iff (size_of m) 14));
        spent =
            rw pong-answer
            (past_iff 8 short 6 ((spent, 8) ∷ []) refl (not-less_iff (size_of m) 14)
            (Iff.trans (first_iff 8 spent [] refl refl)
            (or_iff (eqb (ttl_of m) 0) (ltb 7 (hops_of m)) (eqb_iff (ttl_of m) 0) (less_iff 7 (hops_of m)))));
        taken = (
          (λ e. let v = no-refusal (pong_in m) refl (sym pong-answer ∙ e) in
              let n : ttl_of m ≡ 0 → ⊥ = eqb-false (ttl_of m) 0 (or_fst (eqb (ttl_of m) 0) _ v.1.0) in
              let low = or_snd (eqb (ttl_of m) 0) (ltb 7 (hops_of m)) v.1.0 in
              (ltb-false (size_of m) 14 v.0, omega arith, ltb-false 7 (hops_of m) low)),
          (λ v. pong-answer ∙ none-refused (pong_in m) (le-ltb (size_of m) 14 v.0, (alive v.1 v.2, tt))),
        );
        stored = stored-pong;
        silent = pong-silent;
      }
