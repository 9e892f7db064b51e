-- Demand 2, proved: each call of a list is routed as its log says.
-- Assumes nothing.
use Prim.Native.Nat.{ℕ, ◌+◌, ◌-◌, ◌≤◌, ◌<◌}
use native.Mathlib.Omega.{arith}
use mathlib.Core.Path.{◌≡◌, refl, sym, ap, ◌∙◌}
use mathlib.Core.Bool.{Bool, true, false, not, ◌&&◌, ◌||◌}
use mathlib.Core.Logic.Iff
use mathlib.Core.Logic.{◌↔◌, inl, inr}
use mathlib.Core.List.{List, [], ◌∷◌}
use lib.Dec.{eqb, leb, ltb}
use lib.ListN.{length, length-take, length-append}
use lib.Seq.{length-take-le}
use borrow.Author.Tests.{lt-leb, leb-false, lt-ltb, ltb-false, le-ltb, eqb-true, eqb-false, eq-eqb, ne_eqb, not-false}
use Rattle.laws.specs.Tests.{first_of, any}
use Rattle.laws.proofs.Refusals.{clash, or_fst, or_snd, no-refusal, NoRefusal, none-refused}
use Rattle.laws.proofs.Words.{and_iff, no_iff, other_iff, most_iff, stands_iff}
use Rattle.wire.specs.Header.{header_in, kind_of, ttl_of, hops_of, size_of, payload_of, number_of, query_type, hit_type}
use Rattle.wire.specs.Header.{ping_type}
use Rattle.keywords.specs.Keywords.{keywords_of}
use Rattle.tables.specs.Admission.{withholds}
use Rattle.protocol.specs.declared.Age.{Age}
use Rattle.protocol.specs.declared.Lookup.{Lookup}
use Rattle.protocol.specs.Memory.{capacity, here, gone, number_in, Query, Found, Absent, At, find}
use Rattle.protocol.specs.Memory.{is_found, hits_of, raise, no_age}
use Rattle.protocol.specs.State.{Station, remembered, seen, line_at, held_at, looked_up}
use Rattle.protocol.specs.Lines.{is_other}
use Rattle.protocol.specs.Order.{in_order}
use Rattle.protocol.specs.Outcomes.{Terms, Outcome, quiet, hands_up, stored, unused}
use Rattle.protocol.specs.Queries.{usual_limit, text_in, has_text, not_allowed, query_before, passes, goes_on}
use Rattle.protocol.specs.Queries.{query_lines, query_on, own_payload, own_bytes, own_lines}
use Rattle.protocol.specs.Hits.{hit_step}
use Rattle.protocol.specs.Calls.{update_step, own_before, own_age, own_answer, own_taken, asking, message_outcome}
use Rattle.protocol.specs.Calls.{own_outcome}
use Rattle.protocol.specs.Runs.{Call, Open, Close, Message, Ask, World, lent, outcome_of, step, start}
use Rattle.protocol.specs.Periods.{life_left}
use Rattle.protocol.specs.Kept.{Sized}
use Rattle.protocol.specs.Arrived.{Arrived, SentIfArrived}
use Rattle.protocol.specs.Frames.{NotSearched, Silent}
use Rattle.protocol.specs.Written.{NoHit}
use Rattle.protocol.specs.Pinged.{PingsRouted}
use Rattle.protocol.specs.Demand2.{Origin, Unknown, Here, From, Gone, origin, asker_now, hits_since}
use Rattle.protocol.specs.Demand2.{Acceptable, OwnAcceptable, OneHitMore}
use Rattle.protocol.specs.Demand2.{Answered, QueryTo, OwnTo, HitBy, HitRouted, PassedBack, MessageRouted, Routed}
use Rattle.protocol.specs.Demand2.{AllRouted, Demand2}
use Rattle.protocol.proofs.Outcomes.{of_refused, each_line-at, own_in, LetIn}
use Rattle.protocol.proofs.ByType.{query_in, hit_in, query_done, hit_done, of_ping, of_query, of_hit, of_types}
use Rattle.protocol.proofs.ByType.{of_message}
use Rattle.protocol.proofs.InOrder.{state_facts}
use Rattle.protocol.proofs.Places.{others-stay, remembered-hit}
use Rattle.protocol.proofs.Answered.{FoundFew, found-few, few-found}
use Rattle.protocol.proofs.Refused.{refusal-frame}
use Rattle.protocol.proofs.Origins.{known, unknown_of, known_if, SameLookUp, Since, Invariant, begins, goes_on_lem}
use Rattle.protocol.proofs.Origins.{looked-up}
use Rattle.protocol.proofs.Arrived.{bad_areas, areas_of, areas-fit, by-type, sent_if_arrived, by-ping, by-pong}
use Rattle.protocol.proofs.Arrived.{by-query, by-hit}
use Rattle.protocol.proofs.Exactly.{by-its-type, own-answer}
use Rattle.protocol.proofs.Written.{written_for_lem, writes_none, writes_one, writes_choice}
use Rattle.protocol.proofs.Opened.{quiet-silent, silent_of, open_routed, close-routed}
use Rattle.protocol.proofs.Pinged.{ping-routed, pong-routed}
use Rattle.protocol.proofs.PongBytes.{writes_pongs}
use Rattle.protocol.proofs.TableFrames.{update-only, update-broken, update-part, message-area, ping-search}
use Rattle.protocol.proofs.TableFrames.{own-area}

-- Lines: a query goes to those that the rules name
module _ (limit : ℕ) (s : Station) (route : List ℕ) where
  abbrev live : ℕ → Bool
  live k = (line_at s k).live

  passes-is : (text : List ℕ) (ttl k : ℕ)
      → (passes (live k) (held_at s k route) text ttl ≡ true)
      ↔ ((live k ≡ true) × (withholds (held_at s k route) (keywords_of text) ttl ≡ false))
  passes-is text ttl k =
      let held : Bool = withholds (held_at s k route) (keywords_of text) ttl in
      and_iff (live k) (not held) Iff.rfl (no_iff held)

  query-to : (l : ℕ) (m : List ℕ) → QueryTo limit s route l m (query_done limit s l m route)
  query-to l m =
      record {
        eight = refl;
        to = λ k h.
            let life : ℕ = life_left limit m in
            let text : List ℕ = text_in (payload_of m) in
            let pass : Bool = passes (live k) (held_at s k route) text (life - 1) in
            let at = each_line-at (λ k. goes_on life l k (live k) (held_at s k route) text) k (omega arith) in
            let q = and_iff (leb 2 life) pass (most_iff 2 life) (passes-is text (life - 1) k) in
            let r = and_iff (is_other l k) (leb 2 life && pass) (other_iff k l) q in (
              (λ z. let v = r.0 (sym at ∙ z) in (v.1.1.0, v.0, v.1.0, v.1.1.1)),
              (λ v. at ∙ r.1 (v.1, (v.2, (v.0, v.3)))),
            );
        sent = written_for_lem (query_lines limit s.room s.lines l m route) (query_on limit m);
        search = (refl, refl, refl);
        lines = refl;
      }

  own-to : (a : Age) (number text : List ℕ)
      → OwnTo limit s route number text (hands_up a (own_taken limit s number text route))
  own-to a number text =
      record {
        eight = refl;
        to = λ k h.
            let at = each_line-at (λ k. passes (live k) (held_at s k route) text limit) k (omega arith) in
            let p = passes-is text limit k in
            ((λ z. p.0 (sym at ∙ z)), (λ v. at ∙ p.1 v));
        sent = written_for_lem (own_lines limit s.room s.lines text route) (own_bytes limit number text);
        search = (refl, refl, refl);
        lines = refl;
      }

-- What is no hit's. Nothing is written
quiet-no_hit : (kind n : ℕ) (a : Age) (s : Station) (route : List ℕ) → NoHit kind (hands_up a (quiet n s route))
quiet-no_hit kind n a s route = record { sent = writes_none kind; delivered = refl }

module _ (s : Station) (l : ℕ) (m : List ℕ) (t : Terms) (route : List ℕ) where
  abbrev outcome : Outcome
  outcome = message_outcome s l m t route

  -- pongs, updates and unnamed types
  message-silent : (kind_of m ≡ 0x00 → ⊥) → (kind_of m ≡ 0x80 → ⊥) → (kind_of m ≡ 0x81 → ⊥) → Silent outcome
  unfolding update_step
  message-silent np nq nh =
      of_message Silent s l m route usual_limit t (λ n _. quiet-silent n no_age s route)
      (λ _. of_types Silent s l m route (λ n a _. quiet-silent n a s route) usual_limit t
      (λ k. absurd (np (eqb-true (kind_of m) ping_type k)))
      (λ _ _. quiet-silent 0 no_age _ route)
      (λ _. quiet-silent _ no_age _ _)
      (λ k. absurd (nq (eqb-true (kind_of m) query_type k)))
      (λ k. absurd (nh (eqb-true (kind_of m) hit_type k))))

  -- a message that gets past the early refusals is whole
  number-length : LetIn s l m (length route) → length (number_of m) ≡ 16
  number-length d = let h = d.whole in length-take-le 16 m (omega arith)

  payload-most : LetIn s l m (length route) → length (payload_of m) ≤ 4096
  payload-most d = let h = d.size in simp length-take (omega arith)

  -- a query that is refused, or taken
  of_queries : (P : Outcome → Type 0) → kind_of m ≡ 0x80
      → ((n : ℕ) (a : Age) → (n ≡ 0 → ⊥) → P (hands_up a (quiet n s route)))
      → (LetIn s l m (length route) → P (query_done usual_limit s l m route)) → P outcome
  of_queries P k f g =
      of_message P s l m route usual_limit t (λ n u. f n no_age (λ z. clash u (ap unused z)))
      (λ d. rw (by-query s l m t route usual_limit k)
      (of_query P s l m route (λ n a r. f n a r.some) usual_limit (eq-eqb (kind_of m) query_type k) (λ _. g d)))

  -- it writes a query or nothing
  queries-no_hit : kind_of m ≡ 0x80 → NoHit 0x80 outcome
  queries-no_hit k =
      of_queries (NoHit 0x80) k (λ n a _. quiet-no_hit 0x80 n a s route)
      (λ d. record {
        sent = writes_choice 0x80 (any (λ b. b) (query_lines usual_limit s.room s.lines l m route)) _ []
            (writes_one (number_of m) 0x80 (life_left usual_limit m - 1) (hops_of m + 1) (payload_of m)
            (number-length d) (payload-most d))
            (writes_none 0x80);
        delivered = refl;
      })

  goes_to : kind_of m ≡ 0x80 → outcome.answer ≡ 0 → QueryTo usual_limit s route l m outcome
  goes_to k =
      of_queries (λ r. r.answer ≡ 0 → QueryTo usual_limit s route l m r) k (λ n a ne z. absurd (ne z))
      (λ _ _. query-to usual_limit s route l m)

  -- a ping writes pongs or nothing
  pings-no_hit : Sized s → kind_of m ≡ 0x00 → length t.own.address ≡ 4 → NoHit 0x01 outcome
  pings-no_hit z k four =
      of_message (NoHit 0x01) s l m route usual_limit t (λ n _. quiet-no_hit 0x01 n no_age s route)
      (λ d. rw (by-ping s l m t route usual_limit k)
      (of_ping (NoHit 0x01) s l m route (λ n a _. quiet-no_hit 0x01 n a s route) t (eq-eqb (kind_of m) ping_type k)
      (λ _. record { sent = writes_pongs s z m (number-length d) l t four; delivered = refl })))

-- An arriving query that only its number can refuse
module _ (s : Station) (o : in_order s ≡ true) (l : ℕ) (m : List ℕ) (t : Terms) (route : List ℕ)
    (k : kind_of m ≡ 0x80) where
  abbrev told : Outcome
  told = message_outcome s l m t route

  abbrev bad_text : Bool
  bad_text = not (has_text (payload_of m))

  abbrev bad_hops : Bool
  bad_hops = ltb 15 (ttl_of m) || leb usual_limit (hops_of m)

  abbrev bad_life : Bool
  bad_life = not_allowed usual_limit (header_in m)

  abbrev Arrives : Type 0
  Arrives = Arrived s l m t.out route

  acceptable_of : Arrives → bad_text ≡ false → bad_life ≡ false → Acceptable usual_limit s l m t.out route
  acceptable_of a text life =
      let rest = or_snd (eqb (ttl_of m) 0) bad_hops life in
      let ne : ttl_of m ≡ 0 → ⊥ = eqb-false (ttl_of m) 0 (or_fst (eqb (ttl_of m) 0) bad_hops life) in
      record {
        arrived = a;
        text = not-false (has_text (payload_of m)) text;
        ttl = omega arith;
        ttl15 = ltb-false 15 (ttl_of m) (or_fst (ltb 15 (ttl_of m)) (leb usual_limit (hops_of m)) rest);
        hops = leb-false usual_limit (hops_of m) (or_snd (ltb 15 (ttl_of m)) (leb usual_limit (hops_of m)) rest);
      }

  module _ (a : Acceptable usual_limit s l m t.out route) where
    good-text : bad_text ≡ false
    good-text = rw a.text

    good-life : bad_life ≡ false
    good-life =
        let ne : ttl_of m ≡ 0 → ⊥ = λ e. let h = a.ttl in absurd (omega arith) in
        rw (ne_eqb (ttl_of m) 0 ne, le-ltb 15 (ttl_of m) a.ttl15, lt-leb usual_limit (hops_of m) a.hops)

  -- the answer of one that has arrived, and when it is 9
  answer-query : Arrives → told.answer ≡ first_of (query_in usual_limit s m)
  answer-query a = by-its-type s l m t route o a ∙ rw k

  abbrev before : List (Bool × ℕ)
  before = query_before usual_limit (header_in m) (has_text (payload_of m))

  nine : (first_of (query_in usual_limit s m) ≡ 9) ↔ (NoRefusal before × (seen s (number_in m) ≡ true))
  nine = stands_iff 9 before (seen s (number_in m)) [] refl refl refl

  query-answered : (from : Origin) → seen s (number_in m) ≡ known from
      → Answered (Acceptable usual_limit s l m t.out route) from told
  query-answered from v =
      record {
        taken = (
          (λ e. let a : Arrives = arrives.0 (inl e) in
              let q = no-refusal (query_in usual_limit s m) refl (sym (answer-query a) ∙ e) in
              (acceptable_of a q.0 q.1.0, unknown_of from (sym v ∙ q.1.1.0))),
          (λ x. let a = x.0 in
              answer-query a.arrived
              ∙ none-refused (query_in usual_limit s m)
              (good-text a, (good-life a, (v ∙ ap known x.1, tt)))),
        );
        repeats = (
          (λ e. let a : Arrives = arrives.0 (inr (omega arith)) in
              let q = nine.0 (sym (answer-query a) ∙ e) in
              (acceptable_of a q.0.0 q.0.1.0, λ z. clash (sym v ∙ q.1) (ap known z))),
          (λ x. let a = x.0 in
              answer-query a.arrived ∙ nine.1 ((good-text a, (good-life a, tt)), v ∙ known_if from x.1)),
        );
      }
    where
      arrives : SentIfArrived s l m t.out route told
      arrives = sent_if_arrived s l m t route o

-- An own query
module _ (s : Station) (o : in_order s ≡ true) (number text : List ℕ) (out : ℕ) (route : List ℕ) where
  abbrev own : Outcome
  own = own_outcome s number text out route

  abbrev rules : List (Bool × ℕ)
  rules = own_in s number text out (length route)

  abbrev too_long : Bool
  too_long = ltb 4093 (length text)

  abbrev has_zero : Bool
  has_zero = any (eqb 0) text

  acceptable : bad_areas s out route ≡ false → too_long ≡ false → has_zero ≡ false → OwnAcceptable s text out route
  acceptable b c d = record { areas = areas_of s out route b; size = ltb-false 4093 (length text) c; no_zero = d }

  abbrev own_tests : List (Bool × ℕ)
  own_tests = own_before (in_order s) s.room out (length route) (length text) has_zero

  own-nine : (first_of rules ≡ 9) ↔ (NoRefusal own_tests × (seen s (number_in number) ≡ true))
  own-nine = stands_iff 9 own_tests (seen s (number_in number)) [] refl refl refl

  own-answered : (from : Origin) → seen s (number_in number) ≡ known from
      → Answered (OwnAcceptable s text out route) from own
  own-answered from v =
      record {
        taken = (
          (λ e. let q = no-refusal rules refl (sym is ∙ e) in
              (acceptable q.1.0 q.1.1.0 q.1.1.1.0, unknown_of from (sym v ∙ q.1.1.1.1.0))),
          (λ x. let q = tests x.0 in
              is ∙ none-refused rules (q.0, (q.1.0, (q.1.1.0, (q.1.1.1.0, (v ∙ ap known x.1, tt)))))),
        );
        repeats = (
          (λ e. let q = own-nine.0 (sym is ∙ e) in
              (acceptable q.0.1.0 q.0.1.1.0 q.0.1.1.1.0, λ z. clash (sym v ∙ q.1) (ap known z))),
          (λ x. is ∙ own-nine.1 (tests x.0, v ∙ known_if from x.1)),
        );
      }
    where
      is : own.answer ≡ first_of rules
      is = own-answer s number text out route

      tests : OwnAcceptable s text out route → NoRefusal own_tests
      tests a = (rw o, (areas-fit s out route a.areas, (le-ltb 4093 (length text) a.size, (a.no_zero, tt))))

  -- refused, or taken
  of_own : (P : Outcome → Type 0) → ((n : ℕ) (a : Age) → (n ≡ 0 → ⊥) → P (hands_up a (quiet n s route)))
      → (NoRefusal rules → (a : Age) → P (hands_up a (own_taken usual_limit s number text route))) → P own
  unfolding asking own_answer
  of_own P f g =
      let age = own_age s number text out (length route) in
      of_refused (λ o. P (hands_up age o)) (first_of rules) s route (own_taken usual_limit s number text route)
      (λ e. g (no-refusal rules refl e) age)
      (f (first_of rules) age)

  own-goes : own.answer ≡ 0 → OwnTo usual_limit s route number text own
  own-goes =
      of_own (λ r. r.answer ≡ 0 → OwnTo usual_limit s route number text r) (λ n a ne z. absurd (ne z))
      (λ _ a _. own-to usual_limit s route a number text)

  own-no_hit : length number ≡ 16 → NoHit 0x80 own
  own-no_hit sixteen =
      of_own (NoHit 0x80) (λ n a _. quiet-no_hit 0x80 n a s route)
      (λ q a. let h : length text ≤ 4093 = ltb-false 4093 (length text) q.1.1.0 in
      let most : length (own_payload text) ≤ 4096 = simp length-append (omega arith) in
      record {
        sent = writes_choice 0x80 (any (λ b. b) (own_lines usual_limit s.room s.lines text route)) _ []
            (writes_one number 0x80 usual_limit 0 (own_payload text) sixteen most)
            (writes_none 0x80);
        delivered = refl;
      })

-- Hits, by where their query came from and how many it has had
module _ (w : World) (z : Sized w.state) (o : in_order w.state ≡ true) (l : ℕ) (m route : List ℕ)
    (k : kind_of m ≡ 0x81) (from : Origin) (count : ℕ)
    (h : SameLookUp (find (remembered w.state) (number_in m)) from count)
    (since : (l n : ℕ) → from ≡ From l n → Since (λ _. false) w l n) where
  abbrev looked : Lookup
  looked = looked_up w.state (number_in m)

  abbrev hit : Outcome
  hit = stored w.state l (number_in m) (hit_step (line_at w.state l) looked m route)

  -- the count that was found is at most 200
  most : known from ≡ true → count ≤ 200
  most e = go (find (remembered w.state) (number_in m)) refl
    where
      go : (f : Found) → find (remembered w.state) (number_in m) ≡ f → count ≤ 200
      go Absent y = absurd (clash (h.found ∙ e) (ap is_found y))
      go (At i a n) y =
          let c : n ≡ count = sym (ap hits_of y) ∙ h.counted (ap is_found y) in
          let b = few-found (remembered w.state) (number_in m) i a n (state_facts w.state o).hits y in
          omega (arith, b, c)

  module _ (a : 27 ≤ size_of m) (b : 1 ≤ ttl_of m) where
    size : ltb (size_of m) 27 ≡ false
    size = le-ltb (size_of m) 27 a

    alive : eqb (ttl_of m) 0 ≡ false
    alive = ne_eqb (ttl_of m) 0 (λ z. absurd (omega arith))

    -- a query that was found and is not gone, by its count
    module _ (e : known from ≡ true) (g : eqb (asker_now from) gone ≡ false) where
      is : looked.found ≡ true
      is = h.found ∙ e

      by : looked.asker ≡ asker_now from
      by = h.asker

      counted : looked.hits ≡ count
      counted = h.counted is

      full : count ≡ 200 → hit.answer ≡ 21
      unfolding hit_step
      full c = rw (size, alive, is, by, g, counted, eq-eqb count 200 c)

      few : count < 200 → eqb looked.hits 200 ≡ false
      few c = rw counted (ne_eqb count 200 (λ z. absurd (omega arith)))

    -- one that goes back to a line
    module _ (j : ℕ) (below : j ≤ 7) where
      lives : eqb j gone ≡ false
      lives = ne_eqb j gone (λ z. absurd (omega arith))

      far : eqb j here ≡ false
      far = ne_eqb j here (λ z. absurd (omega arith))

      more : 2 ≤ ttl_of m → eqb (ttl_of m) 1 ≡ false
      more t = ne_eqb (ttl_of m) 1 (λ z. absurd (omega arith))

      passed-back : looked.found ≡ true → looked.asker ≡ j → eqb looked.hits 200 ≡ false → PassedBack j m hit
      unfolding hit_step
      passed-back is by few =
          record {
            spent = λ t. rw (size, alive, is, by, few, lives, far, eq-eqb (ttl_of m) 1 t);
            full = λ t z. rw (size, alive, is, by, few, lives, far, more t, eq-eqb (hops_of m) 255 z);
            goes = λ t z. rw (size, alive, is, by, few, lives, far, more t, ne_eqb (hops_of m) 255 z)
                (refl, refl, refl, refl);
          }

    hit-by : (from' : Origin) → from ≡ from' → HitBy from' count w m hit
    unfolding hit_step
    hit-by Unknown e = rw (size, alive, h.found, e)
    hit-by Gone e = rw (size, alive, h.found, h.asker, e)
    hit-by Here e =
        let y : known from ≡ true = ap known e in
        let g : eqb (asker_now from) gone ≡ false = ap (λ x. eqb (asker_now x) gone) e in (
          most y,
          full y g,
          (λ c. rw (size, alive, is y g, by y g, few y g c, e) (refl, refl, refl, refl)),
        )
    hit-by (From j n) e =
        let q = since j n e in
        let y : known from ≡ true = ap known e in
        let g : eqb (asker_now from) gone ≡ false = ap (λ x. eqb (asker_now x) gone) e ∙ lives j q.below in (
          record { below = q.below; live = q.live; opening = q.same },
          (most y, full y g, λ c. passed-back j q.below (is y g) (by y g ∙ ap asker_now e) (few y g c)),
        )

  of_hits : (P : Outcome → Type 0)
      → ((n : ℕ) (a : Age) → (n ≡ 0 → ⊥) → P (hands_up a (quiet n w.state route)))
      → (NoRefusal (hit_in w.state m) → P (hit_done w.state l m route)) → P hit
  of_hits P f g = of_hit P w.state l m route (λ n a r. f n a r.some) (eq-eqb (kind_of m) hit_type k) g

  one_more : NoRefusal (hit_in w.state m) → OneHitMore (number_in m) w.state (hit_done w.state l m route).state
  unfolding raise
  one_more n =
      let f : FoundFew w.state (number_in m) = found-few w.state o m n in
      record {
        room = refl;
        lines = refl;
        memory = remembered-hit w.state (number_in m) looked.after f.who f.hits z
            (state_facts w.state o).twice f.found f.few;
        rest = (refl, refl, refl, refl, refl);
        beside = others-stay w.state z looked.after (number_in m) f.who f.hits f.found f.few;
      }

  hit-routed : HitRouted from count w m hit
  unfolding hit_step
  hit-routed =
      record {
        counts = of_hits (λ (r : Outcome). r.answer ≡ 0 → OneHitMore (number_in m) w.state r.state)
            (λ n a ne e. absurd (ne e)) (λ n _. one_more n);
        leaves = of_hits (λ (r : Outcome). (r.answer ≡ 0 → ⊥) → r.state ≡ w.state) (λ _ _ _ _. refl)
            (λ _ ne. absurd (ne refl));
        search = of_hits NotSearched (λ _ _ _. (refl, refl, refl)) (λ _. (refl, refl, refl));
        short = λ a. rw (lt-ltb (size_of m) 27 a);
        spent = λ a b. rw (le-ltb (size_of m) 27 a, eq-eqb (ttl_of m) 0 b);
        by = λ a b. hit-by a b from refl;
      }

-- Every call, and every list
module _ (base : List Query) (w : World) (v : Invariant base w) where
  abbrev s : Station
  s = w.state

  abbrev z : Sized s
  z = v.sized

  abbrev o : in_order s ≡ true
  o = v.order

  module _ (l : ℕ) (m : List ℕ) (t : Terms) (route : List ℕ) where
    pub message-routed : MessageRouted usual_limit capacity base w l m t.out route (message_outcome s l m t route)
    message-routed =
        record {
          arrives = arrives;
          query = λ k. query-answered s o l m t route k (origin capacity w.log base (number_in m)) looked.found;
          goes = goes_to s l m t route;
          hit = λ k a. rw (by-type s l m t route o usual_limit a ∙ by-hit s l m t route usual_limit k)
              (hit-routed w z o l m route k _ _ looked (λ l n. v.since (λ _. false) capacity (number_in m) l n));
          no_hit = queries-no_hit s l m t route;
          pings = ping-search s l m t route;
          update = λ k a. update-only s z o l m t route a k;
          broken = λ k a. update-broken s z o l m t route a k;
          area = message-area s l m t route;
          part = λ k e. update-part s z o l m t route (arrives.0 (inl e)) k e;
          others = message-silent s l m t route;
          refused = λ ne. silent_of _ _ _ _ _ ((refusal-frame.calls s).message l m t route ne);
        }
      where
        arrives : SentIfArrived s l m t.out route (message_outcome s l m t route)
        arrives = sent_if_arrived s l m t route o

        looked : SameLookUp (find (remembered s) (number_in m)) (origin capacity w.log base (number_in m))
            (hits_since w.log base (number_in m))
        looked = looked-up base w v (number_in m)

    pings-routed : PingsRouted s l t.clock t.own m t.out route (message_outcome s l m t route)
    pings-routed =
        record {
          ping = λ k a. rw (by-type s l m t route o usual_limit a ∙ by-ping s l m t route usual_limit k)
              (ping-routed s z o l a.line t m route);
          no_hit = pings-no_hit s l m t route z;
          pong = λ k a. rw (by-type s l m t route o usual_limit a ∙ by-pong s l m t route usual_limit k)
              (pong-routed s z o l a.line t.clock m route);
        }

  routed : (c : Call) → Routed usual_limit capacity base w c (outcome_of w c)
  routed (Open l) = open_routed s z o l
  routed (Close l) = close-routed s z o l
  routed (Message l m t a) = (message-routed l m t (lent a w.area), pings-routed l m t (lent a w.area))
  routed (Ask number text t a) =
      let route : List ℕ = lent a w.area in
      record {
        query = own-answered s o number text t.out route _ (looked-up base w v (number_in number)).found;
        goes = own-goes s o number text t.out route;
        no_hit = own-no_hit s o number text t.out route;
        area = own-area s number text t.out route;
        refused = λ ne. silent_of _ _ _ _ _ ((refusal-frame.calls s).asks number text t.out route ne);
      }

all-routed : (base : List Query) (w : World) → Invariant base w → (cs : List Call)
    → AllRouted usual_limit capacity base w cs
all-routed base w v [] = tt
all-routed base w v (c ∷ cs) = (routed base w v c, all-routed base (step w c) (goes_on_lem base w v c) cs)

pub demand2 : Demand2
demand2 s area cs z o = all-routed (remembered s) (start s area) (begins s area z o) cs
