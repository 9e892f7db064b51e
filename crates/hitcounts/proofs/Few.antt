-- At most 200 answers to a query, and what becomes of the next hit.
-- Assumes nothing.
use Prim.Native.Nat.{ℕ, suc, ◌+◌, ◌-◌, ◌≤◌, ◌<◌}
use native.Mathlib.Omega.{arith}
use mathlib.Core.Path.{◌≡◌, refl, sym, ap, subst, ◌∙◌}
use mathlib.Core.Bool.{Bool, true, false, cond, ◌&&◌, ◌||◌}
use mathlib.Core.Logic.{inl, inr, ⊎_elim}
use mathlib.Core.List.{List, [], ◌∷◌, map}
use lib.Dec.{eqb}
use borrow.Author.Tests.{leb-true, eqb-true, eqb-false, ne_eqb}
use Rattle.laws.specs.Tests.{any, all}
use Rattle.laws.proofs.Refusals.{clash, and_fst, and_snd, no-refusal, of_choice}
use Rattle.wire.specs.Header.{kind_of, ttl_of, hops_of, payload_of, number_of, message}
use Rattle.protocol.specs.State.{Station, remembered}
use Rattle.protocol.specs.Memory.{capacity, here, gone, Number, Query, number_in, same_number, Found, Absent, At, find}
use Rattle.protocol.specs.Memory.{is_found, asker_of, hits_of, hits_fit}
use Rattle.protocol.specs.Order.{in_order}
use Rattle.protocol.specs.Outcomes.{Terms, Outcome, nobody, only_to}
use Rattle.protocol.specs.Calls.{fresh}
use Rattle.protocol.specs.Runs.{Area, Call, Open, Close, Message, Ask, Made, World, lent, outcome_of, step, run, start}
use Rattle.protocol.specs.Kept.{Sized, hit_by}
use Rattle.protocol.specs.Frames.{LeftAsItWas}
use Rattle.protocol.specs.Demand2.{openings, got_hit, hits_before, hits_since, Here, From, Gone, pick_origin, origin}
use Rattle.protocol.specs.Demand2.{asker_now, HitBy, HitRouted, OneHitMore}
use Rattle.protocol.proofs.Kept.{fresh_in_order}
use Rattle.protocol.proofs.Memory.{same_number_lem, number_itself}
use Rattle.protocol.proofs.ByType.{hit_in}
use Rattle.protocol.proofs.InOrder.{state_facts}
use Rattle.protocol.proofs.Arrived.{sent_if_arrived}
use Rattle.protocol.proofs.Answered.{FoundFew, found-few}
use Rattle.protocol.proofs.Origins.{known, known_of, SameLookUp, Invariant, begins, goes_on_lem, holds_after, looked-up}
use Rattle.protocol.proofs.Demand2.{message-routed}
use Rattle.hitcounts.specs.History.{OneOf, takes, hits_in}
use Rattle.hitcounts.specs.TwentyOne.{GoodHit}
use Rattle.hitcounts.specs.Few.{Awaits, Passed, CanGo, Few, FewAnswers, FewFromFresh}
use Rattle.hitcounts.proofs.OneOf.{found_among}
use Rattle.hitcounts.proofs.Log.{closes_line, hits-last, origin-last}
use Rattle.hitcounts.proofs.TwentyOne.{by-checks, twenty-one-exactly}

-- A call that answered the number x found fewer than 200
module _ (base : List Query) (w : World) (v : Invariant base w) where
  abbrev s : Station
  s = w.state

  few-hit : (l : ℕ) (m : List ℕ) (t : Terms) (a : Area) → kind_of m ≡ 0x81
      → (outcome_of w (Message l m t a)).answer ≡ 0 → hits_since w.log base (number_in m) < 200
  few-hit l m t a k e =
      let route : List ℕ = lent a w.area in
      let arrives = (sent_if_arrived s l m t route v.order).0 (inl e) in
      let f : FoundFew s (number_in m) = found-few s v.order m
      (no-refusal (hit_in s m) refl (sym (by-checks s l m t route v.order arrives k) ∙ e)) in
      let h : f.hits ≡ hits_since w.log base (number_in m)
      = sym (ap hits_of f.found) ∙ (looked-up base w v (number_in m)).counted (ap is_found f.found) in
      omega (arith, f.few, h)

  few-answered : (c : Call) (x : Number) → got_hit c (outcome_of w c).answer x ≡ true
      → hits_since w.log base x < 200
  few-answered (Open l) x e = absurd (clash e refl)
  few-answered (Close l) x e = absurd (clash e refl)
  few-answered (Message l m t a) x e =
      let n : ℕ = (outcome_of w (Message l m t a)).answer in
      let same : Bool = same_number x (number_in m) in
      let k = and_fst (eqb (kind_of m) 0x81) (eqb n 0 && same) e in
      let r = and_snd (eqb (kind_of m) 0x81) (eqb n 0 && same) e in
      let is : x ≡ number_in m = same_number_lem x (number_in m) (and_snd (eqb n 0) same r) in
      rw is (few-hit l m t a (eqb-true (kind_of m) 0x81 k) (eqb-true n 0 (and_fst (eqb n 0) same r)))
  few-answered (Ask number text t a) x e = absurd (clash e refl)

  few-more : (x : Number) → hits_since w.log base x ≤ 200 → (c : Call) → hits_since (step w c).log base x ≤ 200
  few-more x h c = go (takes x d) (got_hit c d.outcome.answer x) refl
    where
      d : Made
      d = record { call = c; outcome = outcome_of w c }

      go : (a b : Bool) → got_hit c (outcome_of w c).answer x ≡ b
          → cond a 0 (cond b (suc (hits_since w.log base x)) (hits_since w.log base x)) ≤ 200
      go true b e = omega arith
      go false true e = let f = few-answered c x e in omega arith
      go false false e = h

few-list : (base : List Query) (w : World) → Invariant base w → (x : Number) → hits_since w.log base x ≤ 200
    → (cs : List Call) → hits_since (run w cs).log base x ≤ 200
few-list base w v x h [] = h
few-list base w v x h (c ∷ cs) = few-list base (step w c) (goes_on_lem base w v c) x (few-more base w v x h c) cs

-- what was remembered at the start has had at most 200
few-before : (x : Number) (qs : List Query) → all (λ q. hits_fit q.hits) qs ≡ true → hits_before qs x ≤ 200
few-before x [] h = omega arith
few-before x (q ∷ qs) h =
    let fits : Query → Bool = λ q. hits_fit q.hits in
    of_choice (λ n. n ≤ 200) (same_number x q.number) q.hits (hits_before qs x)
    (λ _. leb-true q.hits 200 (and_fst (fits q) (all fits qs) h))
    (λ _. few-before x qs (and_snd (fits q) (all fits qs) h))

-- a query that awaits hits came by its line, or here
by-line : (k n : ℕ) (shut : Bool) → k ≤ 8 → shut ≡ false
    → asker_now (pick_origin (eqb k here) Here (pick_origin (eqb k gone || shut) Gone (From k n))) ≡ k
by-line k n shut h u = go (eqb k here) refl
  where
    j9 : eqb k gone ≡ false
    j9 = ne_eqb k gone (λ z. absurd (omega arith))

    go : (b : Bool) → eqb k here ≡ b
        → asker_now (pick_origin b Here (pick_origin (eqb k gone || shut) Gone (From k n))) ≡ k
    go true e = sym (eqb-true k here e)
    go false e = rw (j9, u)

-- a query with one hit more is among the raised ones
among-raised : (f : Query → Query) (q : Query) (qs : List Query) → OneOf q qs → OneOf (f q) (map f qs)
among-raised f q [] a = absurd a
among-raised f q (p ∷ ps) (inl e) = inl (ap f e)
among-raised f q (p ∷ ps) (inr a) = inr (among-raised f q ps a)

-- The next good hit of a query that awaits hits
module _ (base : List Query) (w : World) (v : Invariant base w) (l : ℕ) (m : List ℕ) (t : Terms) (a : Area) (k : ℕ)
    (newer : List Made) (g : GoodHit w.state l m t.out (lent a w.area))
    (q : Awaits w.log (number_in m) k newer) where
  abbrev x : Number
  x = number_in m

  abbrev o : Outcome
  o = outcome_of w (Message l m t a)

  abbrev n : ℕ
  n = hits_in x newer

  abbrev opening : ℕ
  opening = openings k q.last.older

  same_count : hits_since w.log base x ≡ n
  same_count = hits-last base x w.log newer q.last

  came : origin capacity w.log base x
      ≡ pick_origin (eqb k here) Here (pick_origin (eqb k gone || any (closes_line k) newer) Gone (From k opening))
  came =
      origin-last base x w.log newer q.last q.among
      ∙ ap (λ j. pick_origin (eqb j here) Here (pick_origin (eqb j gone || any (closes_line j) newer) Gone
      (From j (openings j q.last.older)))) q.by

  routed : HitRouted (origin capacity w.log base x) (hits_since w.log base x) w m o
  routed = (message-routed base w v l m t (lent a w.area)).hit g.kind g.arrived

  came-by : HitBy (pick_origin (eqb k here) Here (pick_origin (eqb k gone || any (closes_line k) newer) Gone
      (From k opening))) n w m o
  came-by = rw (came, same_count) at (routed.by g.size g.ttl)

  -- as the query stands
  stands : OneOf (record { number = x; asker = k; hits = n }) (remembered w.state)
  stands = go (find (remembered w.state) x) refl
    where
      looked : SameLookUp (find (remembered w.state) x) (origin capacity w.log base x)
          (hits_since w.log base x)
      looked = looked-up base w v x

      is : is_found (find (remembered w.state) x) ≡ true
      is =
          looked.found ∙ ap known came
          ∙ known_of (eqb k here) (eqb k gone || any (closes_line k) newer) k opening

      asker : asker_of (find (remembered w.state) x) ≡ k
      asker =
          looked.asker ∙ ap asker_now came ∙ by-line k opening (any (closes_line k) newer) q.line q.unclosed

      go : (f : Found) → find (remembered w.state) x ≡ f
          → OneOf (record { number = x; asker = k; hits = n }) (remembered w.state)
      go Absent e = absurd (clash is (ap is_found e))
      go (At i b h) e =
          let y : b ≡ k = sym (ap asker_of e) ∙ asker in
          let z : h ≡ n = sym (ap hits_of e) ∙ looked.counted is ∙ same_count in
          rw (y, z) at (found_among (remembered w.state) x i b h e)

  next-full : n ≡ 200 → LeftAsItWas o 21 w.state (lent a w.area)
  next-full e =
      let t = twenty-one-exactly in
      t.leaves w.state l m _ (lent a w.area)
      ((t.message w.state l m _ (lent a w.area)).1
      (record {
        order = v.order;
        good = g;
        asker = k;
        there = λ z. absurd (omega (arith, q.line));
        full = subst (λ h. OneOf (record { number = x; asker = k; hits = h }) (remembered w.state)) e stands;
      }))

  -- delivered, or passed back
  abbrev Delivered : Type 0
  Delivered = (o.delivered ≡ true) × (o.to ≡ nobody) × (o.sent ≡ [])

  abbrev Back : Type 0
  Back =
      (o.delivered ≡ false) × (o.to ≡ only_to k)
      × (o.sent ≡ message (number_of m) 0x81 (ttl_of m - 1) (hops_of m + 1) (payload_of m))

  passed : (o.answer ≡ 0) → (k ≡ 8 → Delivered) → (k ≤ 7 → Back) → Passed w.state m k n o
  passed e f h =
      let one : OneHitMore x w.state o.state = routed.counts e in
      let more : OneOf (hit_by x (record { number = x; asker = k; hits = n })) (remembered o.state)
      = rw one.memory (among-raised (hit_by x) _ (remembered w.state) stands) in
      record { answer = e; here = f; back = h; raised = one; count = rw (number_itself x) at more }

  next_more : n < 200 → CanGo k m → Passed w.state m k n o
  next_more few can = go (eqb k here) refl
    where
      go : (b : Bool) → eqb k here ≡ b → Passed w.state m k n o
      go true e =
          let h : HitBy Here n w m o = rw e at came-by in
          let d = h.2 few in
          let eight : k ≡ 8 = eqb-true k here e in
          passed d.0 (λ _. (d.1, d.2, d.3)) (λ z. absurd (omega arith))
      go false e =
          let not8 : k ≡ 8 → ⊥ = eqb-false k here e in
          let j9 : eqb k gone ≡ false = ne_eqb k gone (λ z. absurd (omega (arith, q.line))) in
          let h : HitBy (From k opening) n w m o = rw (e, j9, q.unclosed) at came-by in
          let go' = ⊎_elim (λ z. absurd (not8 z)) (λ z. z) can in
          let d = (h.1.2 few).goes go'.0 go'.1 in
          passed d.0 (λ z. absurd (not8 z)) (λ _. (d.1, d.2, d.3))

pub few : (base : List Query) (w : World) → Invariant base w → ((x : Number) → hits_since w.log base x ≤ 200)
    → Few w
few base w v h =
    record {
      most = λ x newer r. let e = hits-last base x w.log newer r in let b = h x in omega arith;
      full = next-full base w v;
      more = next_more base w v;
    }

pub few-since : (s : Station) (area : List ℕ) (cs : List Call) → Sized s → in_order s ≡ true → (x : Number)
    → hits_since (run (start s area) cs).log (remembered s) x ≤ 200
few-since s area cs z o x =
    few-list (remembered s) (start s area) (begins s area z o) x
    (few-before x (remembered s) (state_facts s o).hits) cs

pub few-answers : FewAnswers
few-answers s area cs z o =
    few (remembered s) (run (start s area) cs) (holds_after (remembered s) (start s area) cs (begins s area z o))
    (few-since s area cs z o)

pub few-from-fresh : FewFromFresh
few-from-fresh n area cs = let f = fresh_in_order n in few-answers (fresh n).state area cs f.sized f.order
