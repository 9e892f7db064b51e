-- The remembered queries are the last 512 taken, read off the log; a line that brought one and has not closed since is
-- in the same opening.
-- Assumes nothing.
use Prim.Native.Nat.{ℕ, zero, suc, ◌≤◌}
use native.Mathlib.Omega.{arith}
use mathlib.Core.Path.{◌≡◌, refl, sym, ap, ap₂, ◌∙◌}
use mathlib.Core.Bool.{Bool, true, false, cond, not, ◌||◌, or-false, or-true}
use mathlib.Core.Logic.{◌⊎◌, inl, inr, ⊎_elim}
use mathlib.Core.List.{List, [], ◌∷◌, map}
use lib.Dec.{eqb, leb, ltb}
use lib.ListN.{length, take, length-map}
use lib.Seq.{take_all, take-take}
use borrow.Author.Tests.{leb-true, eqb-true, eqb-false, eq-eqb, ne_eqb, not-true}
use Rattle.laws.specs.Tests.{any, all}
use Rattle.laws.specs.Ring.{places_before, ring_fits, kept_places}
use Rattle.laws.proofs.Refusals.{clash, and_fst, and_snd, or_fst, or_snd, of_choice}
use Rattle.laws.proofs.Rings.{map-take, map-map}
use Rattle.laws.proofs.RingScan.{places-length}
use Rattle.protocol.specs.State.{Station, remembered, line_at}
use Rattle.protocol.specs.Memory.{capacity, here, gone, Memory, Number, same_number, Query, query_at, queries_in}
use Rattle.protocol.specs.Memory.{Found, Absent, At, later, pick_found, find, is_found, asker_of, hits_of, no_twice}
use Rattle.protocol.specs.Memory.{left}
use Rattle.protocol.specs.Order.{in_order}
use Rattle.protocol.specs.Outcomes.{Outcome}
use Rattle.protocol.specs.Runs.{Call, Made, World, outcome_of, step, run, start}
use Rattle.protocol.specs.Kept.{Sized, Kept, asked, left_by, hit_by}
use Rattle.protocol.specs.Demand2.{took, brought_number, brought_by, closed, got_hit, openings, Past, past}
use Rattle.protocol.specs.Demand2.{hits_before, hits_since, standing_in}
use Rattle.protocol.specs.Demand2.{all_taken, last_taken, Origin, Unknown, Here, From, Gone, pick_origin, origin_of}
use Rattle.protocol.specs.Demand2.{look_up, origin, asker_now, standing, MemoryHistory}
use Rattle.protocol.proofs.InOrder.{fits_in, asker_iff, state_facts}
use Rattle.protocol.proofs.Memory.{same_number_lem, number_itself, seen-any}
use Rattle.protocol.proofs.Kept.{order-kept-by-lists}
use Rattle.protocol.proofs.Effects.{Takes, Closes, Answers, Passes, Effect, call_effect}

-- Origins
abbrev pub known : Origin → Bool
known Unknown = false
known Here = true
known (From l n) = true
known Gone = true

-- two that are not the same
differ : {A : Type 0} → ◌≡◌ {A = ℕ} 0 1 → A
differ z = absurd (omega arith)

pub unknown_of : (o : Origin) → known o ≡ false → o ≡ Unknown
unknown_of Unknown e = refl
unknown_of Here e = absurd (clash refl e)
unknown_of (From l n) e = absurd (clash refl e)
unknown_of Gone e = absurd (clash refl e)

pub known_if : (o : Origin) → (o ≡ Unknown → ⊥) → known o ≡ true
known_if Unknown e = absurd (e refl)
known_if Here e = refl
known_if (From l n) e = refl
known_if Gone e = refl

-- a query that came by a line: neither here nor gone, and the line has not closed
pub from-line : (a b : Bool) (k n l e : ℕ) → pick_origin a Here (pick_origin b Gone (From k n)) ≡ From l e
    → (a ≡ false) × (b ≡ false) × (k ≡ l) × (n ≡ e)
from-line true b k n l e q = differ (cc)
from-line false true k n l e q = differ (cc)
from-line false false k n l e q = (refl, refl, (cc), (cc))

pub known_of : (a b : Bool) (k n : ℕ) → known (pick_origin a Here (pick_origin b Gone (From k n))) ≡ true
known_of true b k n = refl
known_of false true k n = refl
known_of false false k n = refl

-- a look-up in the remembered queries is one in the log
pub record SameLookUp (f : Found) (o : Origin) (hits : ℕ) : Type 0 where
  pub found : is_found f ≡ known o
  pub asker : asker_of f ≡ asker_now o
  pub counted : is_found f ≡ true → hits_of f ≡ hits

same-later : (f : Found) (o : Origin) (hits : ℕ) → SameLookUp f o hits → SameLookUp (later f) o hits
same-later Absent o hits h = h
same-later (At n a k) o hits h = record { found = h.found; asker = h.asker; counted = h.counted }

pub same-look_up : (hits : Number → ℕ) (ps : List Past) (x : Number)
    → SameLookUp (find (map (standing hits) ps) x) (look_up ps x) (hits x)
unfolding find
same-look_up hits [] x = record { found = refl; asker = refl; counted = λ e. absurd (clash e refl) }
same-look_up hits (p ∷ ps) x = go (same_number p.number x) refl (same-look_up hits ps x)
  where
    rest : Found
    rest = find (map (standing hits) ps) x

    go : (b : Bool) → same_number p.number x ≡ b → SameLookUp rest (look_up ps x) (hits x)
        → SameLookUp (pick_found b (At 0 (asker_now (origin_of p)) (hits p.number)) (later rest))
        (pick_origin b (origin_of p) (look_up ps x)) (hits x)
    go true e h =
        let k = known_of (eqb p.asker here) (eqb p.asker gone || p.shut) p.asker p.opening in
        record { found = sym k; asker = refl; counted = λ _. ap hits (same_number_lem p.number x e) }
    go false e h = same-later rest (look_up ps x) (hits x) h

-- a query that was remembered before the log began
abbrev pub before : (ℕ → Bool) → Query → Past
before shut q = past shut q.number q.asker 0

-- One more line has closed: its queries are gone
always : (b : Bool) (n : ℕ) → n ≡ cond b n n
always true n = refl
always false n = refl

shut_or_not : (b : Bool) (who n : ℕ) → asker_now (pick_origin b Gone (From who n)) ≡ cond b gone who
shut_or_not true who n = refl
shut_or_not false who n = refl

asker-left : (l who n : ℕ) → eqb here l ≡ false → (a b c : Bool)
    → asker_now (pick_origin a Here (pick_origin (b || (c || eqb who l)) Gone (From who n)))
    ≡ left l (asker_now (pick_origin a Here (pick_origin (b || c) Gone (From who n))))
asker-left l who n h true b c = rw h
asker-left l who n h false true c = always (eqb gone l) gone
asker-left l who n h false false true = always (eqb gone l) gone
asker-left l who n h false false false = shut_or_not (eqb who l) who n

or_turn : (a b c : Bool) → ((a || b) || c) ≡ ((a || c) || b)
or_turn true b c = refl
or_turn false true c = sym (or-true c)
or_turn false false c = sym (or-false c)

module _ (hits : Number → ℕ) (l : ℕ) (h : l ≤ 7) where
  not-here : eqb here l ≡ false
  not-here = ne_eqb here l (λ e. absurd (omega arith))

  standing-left : (shut shut' : ℕ → Bool) → ((k : ℕ) → shut' k ≡ (shut k || eqb k l)) → (x : Number) (who n : ℕ)
      → standing hits (past shut' x who n) ≡ left_by l (standing hits (past shut x who n))
  standing-left shut shut' e x who n =
      let q : asker_now (origin_of (past shut' x who n)) ≡ left l (asker_now (origin_of (past shut x who n)))
      = ap (λ b. asker_now (pick_origin (eqb who here) Here (pick_origin (eqb who gone || b) Gone (From who n)))) (e who)
      ∙ asker-left l who n not-here (eqb who here) (eqb who gone) (shut who) in
      λ i. record { number = x; asker = q i; hits = hits x }

  base-left : (shut shut' : ℕ → Bool) → ((k : ℕ) → shut' k ≡ (shut k || eqb k l)) → (base : List Query)
      → map (standing hits) (map (before shut') base) ≡ map (left_by l) (map (standing hits) (map (before shut) base))
  base-left shut shut' e [] = refl
  base-left shut shut' e (q ∷ qs) =
      ap₂ ◌∷◌ (standing-left shut shut' e q.number q.asker 0) (base-left shut shut' e qs)

  -- a choice between two histories
  choice_left : (b : Bool) (p p' : Past) (xs xs' ys ys' : List Past) → standing hits p' ≡ left_by l (standing hits p)
      → map (standing hits) xs' ≡ map (left_by l) (map (standing hits) xs) → map (standing hits) ys' ≡ map (left_by l)
      (map (standing hits) ys)
      → map (standing hits) (cond b (p' ∷ xs') ys') ≡ map (left_by l) (map (standing hits) (cond b (p ∷ xs) ys))
  choice_left true p p' xs xs' ys ys' e f g = ap₂ ◌∷◌ e f
  choice_left false p p' xs xs' ys ys' e f g = g

  taken-left : (base : List Query) (ds : List Made) (shut shut' : ℕ → Bool) → ((k : ℕ) → shut' k ≡ (shut k || eqb k l))
      → map (standing hits) (all_taken shut' ds base) ≡ map (left_by l) (map (standing hits) (all_taken shut ds base))
  unfolding all_taken
  taken-left base [] shut shut' e = base-left shut shut' e base
  taken-left base (d ∷ ds) shut shut' e =
      choice_left (took d.call d.outcome.answer) _ _ _ _ _ _
      (standing-left shut shut' e (brought_number d.call) (brought_by d.call) (openings (brought_by d.call) ds))
      (taken-left base ds shut shut' e)
      (taken-left base ds (λ k. shut k || shuts k) (λ k. shut' k || shuts k)
      (λ k. ap (λ b. b || shuts k) (e k) ∙ or_turn (shut k) (eqb k l) (shuts k)))
    where
      shuts : ℕ → Bool
      shuts k = closed d.call d.outcome.answer k

-- one entry of the log
module _ (base : List Query) (d : Made) (ds : List Made) (shut : ℕ → Bool) where
  abbrev pub newest : Past
  newest = past shut (brought_number d.call) (brought_by d.call) (openings (brought_by d.call) ds)

  pub taken-took : took d.call d.outcome.answer ≡ true
      → all_taken shut (d ∷ ds) base ≡ newest ∷ all_taken shut ds base
  unfolding all_taken
  taken-took t = rw t

  pub taken-passed : took d.call d.outcome.answer ≡ false
      → all_taken shut (d ∷ ds) base ≡ all_taken (λ l. shut l || closed d.call d.outcome.answer l) ds base
  unfolding all_taken
  taken-passed t = rw t

-- The invariant of a list of calls: the state is in order, its memory is the log's, and a line that a query came by and
-- that has not closed since is open, and has been opened as often now as it had been then
pub record Since (shut : ℕ → Bool) (w : World) (l n : ℕ) : Type 0 where
  pub unshut : shut l ≡ false
  pub below : l ≤ 7
  pub live : (line_at w.state l).live ≡ true
  pub same : openings l w.log ≡ n

abbrev AllSince : List Query → World → Type 0
AllSince base w =
    (shut : ℕ → Bool) (n : ℕ) (x : Number) (l e : ℕ)
    → look_up (take n (all_taken shut w.log base)) x ≡ From l e → Since shut w l e

pub record Invariant (base : List Query) (w : World) : Type 0 where
  pub sized : Sized w.state
  pub order : in_order w.state ≡ true
  pub memory : remembered w.state ≡ standing_in capacity w.log base
  pub since : AllSince base w

pub no-from : (n : ℕ) (x : Number) (l e : ℕ) → look_up (take n []) x ≡ From l e → ⊥
no-from zero x l e q = differ (cc)
no-from (suc n) x l e q = differ (cc)

-- the newest of a list, or another
pick-from : (b : Bool) (p q : Origin) (l e : ℕ) → pick_origin b p q ≡ From l e → (p ≡ From l e) ⊎ (q ≡ From l e)
pick-from true p q l e h = inl h
pick-from false p q l e h = inr h

-- an asker that fits and is a line
fits_line : (s : Station) (a : ℕ) → fits_in s a ≡ true → eqb a here ≡ false → eqb a gone ≡ false
    → (a ≤ 7) × ((line_at s a).live ≡ true)
fits_line s a f h g =
    let n = eqb-false a here h in
    let m = eqb-false a gone g in
    ⊎_elim (λ v. v) (⊎_elim (λ e. absurd (n e)) (λ e. absurd (m e))) ((asker_iff s a).0 f)

-- a query that has just been taken, or that was remembered at the start
module _ (shut : ℕ → Bool) (w : World) (x : Number) (who n l e : ℕ) (f : fits_in w.state who ≡ true)
    (same : openings who w.log ≡ n) where
  since-taken : origin_of (past shut x who n) ≡ From l e → Since shut w l e
  since-taken q =
      let h = from-line (eqb who here) (eqb who gone || shut who) who n l e q in
      let v = fits_line w.state who f h.0 (or_fst (eqb who gone) (shut who) h.1) in
      let b : who ≤ 7 = v.0 in
      let r : who ≡ l = h.2 in
      record {
        unshut = ap shut (sym r) ∙ or_snd (eqb who gone) (shut who) h.1;
        below = omega arith;
        live = ap (λ k. (line_at w.state k).live) (sym r) ∙ v.1;
        same = ap (λ k. openings k w.log) (sym r) ∙ same ∙ h.3;
      }

-- at the start
module _ (s : Station) (area : List ℕ) (shut : ℕ → Bool) (x : Number) (l e : ℕ) where
  abbrev fits : Query → Bool
  fits q = fits_in s q.asker

  since-start : (n : ℕ) (qs : List Query) → all fits qs ≡ true → look_up (take n (map (before shut) qs)) x ≡ From l e
      → Since shut (start s area) l e
  since-start n [] f q = absurd (no-from n x l e q)
  since-start zero (p ∷ ps) f q = absurd (no-from 0 x l e q)
  since-start (suc n) (p ∷ ps) f q =
      ⊎_elim
      (since-taken shut (start s area) p.number p.asker 0 l e (and_fst (fits p) (all fits ps) f) refl)
      (since-start n ps (and_snd (fits p) (all fits ps) f))
      (pick-from (same_number p.number x) (origin_of (before shut p)) (look_up (take n (map (before shut) ps)) x) l e q)

-- one that has just been taken, or that was remembered at the start, with its hits
standing-now : (hits : Number → ℕ) (x : Number) (who n k : ℕ) → hits x ≡ k
    → record { number = x; asker = who; hits = k } ≡ standing hits (past (λ l. false) x who n)
standing-now hits x who n k h =
    let q : who ≡ asker_now (origin_of (past (λ l. false) x who n)) = go (eqb who here) (eqb who gone) refl refl in
    λ i. record { number = x; asker = q i; hits = sym h i }
  where
    go : (a b : Bool) → eqb who here ≡ a → eqb who gone ≡ b → who ≡ asker_now (origin_of (past (λ l. false) x who n))
    go true b e f = rw e (eqb-true who here e)
    go false true e f = rw (e, f) (eqb-true who gone f)
    go false false e f = rw (e, f)

standing-base : (hits : Number → ℕ) (qs : List Query) → all (λ q. eqb (hits q.number) q.hits) qs ≡ true
    → qs ≡ map (standing hits) (map (before (λ l. false)) qs)
standing-base hits [] h = refl
standing-base hits (q ∷ qs) h =
    let same : Query → Bool = λ p. eqb (hits p.number) p.hits in
    ap₂ ◌∷◌
    (standing-now hits q.number q.asker 0 q.hits
    (eqb-true (hits q.number) q.hits (and_fst (same q) (all same qs) h)))
    (standing-base hits qs (and_snd (same q) (all same qs) h))

-- in a list without a number twice, the count of a number is that of the query that has it
counts-shifted : (q : Query) (base qs : List Query) → any (λ p. same_number p.number q.number) qs ≡ false
    → all (λ p. eqb (hits_before base p.number) p.hits) qs ≡ true
    → all (λ p. eqb (hits_before (q ∷ base) p.number) p.hits) qs ≡ true
counts-shifted q base [] u h = refl
counts-shifted q base (p ∷ ps) u h =
    let same : Query → Bool = λ p. same_number p.number q.number in
    let is : Query → Bool = λ p. eqb (hits_before base p.number) p.hits in
    rw (or_fst (same p) (any same ps) u, and_fst (is p) (all is ps) h)
    (counts-shifted q base ps (or_snd (same p) (any same ps) u) (and_snd (is p) (all is ps) h))

counts-own : (qs : List Query) → no_twice qs ≡ true → all (λ q. eqb (hits_before qs q.number) q.hits) qs ≡ true
unfolding no_twice
counts-own [] h = refl
counts-own (q ∷ qs) h =
    let others : Bool = any (λ p. same_number p.number q.number) qs in
    rw (number_itself q.number, eq-eqb q.hits q.hits refl)
    (counts-shifted q qs qs (not-true others (and_fst (not others) (no_twice qs) h))
    (counts-own qs (and_snd (not others) (no_twice qs) h)))

pub remembered-length : (s : Station) → length (remembered s) ≤ capacity
unfolding queries_in kept_places
remembered-length s =
    let q : Memory = s.memory in
    of_choice (λ (ps : List ℕ). length (map (query_at q) ps) ≤ capacity) (ring_fits capacity q.next q.count)
    (places_before capacity q.next q.count) []
    (λ e. let h = leb-true q.count capacity (and_fst (leb q.count capacity) (ltb q.next capacity) e) in
    rw (length-map, places-length) h)
    (λ _. omega arith)

pub begins : (s : Station) (area : List ℕ) → Sized s → in_order s ≡ true → Invariant (remembered s) (start s area)
unfolding all_taken
begins s area z o =
    let ps : List Past = map (before (λ l. false)) (remembered s) in
    let n : length ps ≤ capacity = rw (length-map) (remembered-length s) in
    record {
      sized = z;
      order = o;
      memory = standing-base (hits_before (remembered s)) (remembered s)
          (counts-own (remembered s) (state_facts s o).twice)
          ∙ ap (map (standing (hits_before (remembered s)))) (sym (take_all capacity ps n));
      since = λ shut n x l e q. since-start s area shut x l e n (remembered s) (state_facts s o).askers q;
    }

-- one call more
push : (hits : Number → ℕ) (n : ℕ) (q : Query) (p : Past) (ps : List Past) → q ≡ standing hits p
    → take (suc n) (q ∷ map (standing hits) (take (suc n) ps)) ≡ map (standing hits) (take (suc n) (p ∷ ps))
push hits n q p ps e =
    ap₂ ◌∷◌ e
    (sym (map-take (standing hits) n (take (suc n) ps))
    ∙ ap (map (standing hits)) (take-take n (suc n) ps (omega arith)))

-- the hits of queries with other numbers than x
others-hits : (hits hits' : Number → ℕ) (x : Number)
    → ((y : Number) → same_number y x ≡ false → hits' y ≡ hits y) → (ps : List Past)
    → any (λ q. same_number q.number x) (map (standing hits) ps) ≡ false
    → map (standing hits) ps ≡ map (standing hits') ps
others-hits hits hits' x same [] u = refl
others-hits hits hits' x same (p ∷ ps) u =
    let is : Query → Bool = λ q. same_number q.number x in
    let here' : same_number p.number x ≡ false
    = or_fst (same_number p.number x) (any is (map (standing hits) ps)) u in
    ap₂ ◌∷◌
    (λ i. record {
      number = p.number;
      asker = asker_now (origin_of p);
      hits = sym (same p.number here') i;
    })
    (others-hits hits hits' x same ps (or_snd (same_number p.number x) (any is (map (standing hits) ps)) u))

module _ (base : List Query) (w : World) (v : Invariant base w) (c : Call) where
  abbrev s : Station
  s = w.state

  abbrev o : Outcome
  o = outcome_of w c

  abbrev d : Made
  d = record { call = c; outcome = o }

  abbrev shuts : ℕ → Bool
  shuts l = closed c o.answer l

  -- all queries that were taken before, and the remembered ones after
  abbrev taken : (ℕ → Bool) → List Past
  taken shut = all_taken shut w.log base

  abbrev Remembers : Type 0
  Remembers = remembered o.state ≡ standing_in capacity (d ∷ w.log) base

  -- the hits that each has had, before the call and after it
  abbrev hits : Number → ℕ
  hits = hits_since w.log base

  abbrev hits' : Number → ℕ
  hits' = hits_since (d ∷ w.log) base

  -- a call that takes and answers nothing leaves them
  same-hits : took c o.answer ≡ false → ((x : Number) → got_hit c o.answer x ≡ false) → hits ≡ hits'
  same-hits t u = λ i x. sym (hits-kept x) i
    where
      hits-kept : (x : Number) → hits' x ≡ hits x
      hits-kept x = rw (t, u x)

  eff : Effect s c o
  eff = call_effect w v.sized v.order c

  -- a line that stays open
  carry : (shut shut' : ℕ → Bool) (l e : ℕ) → Since shut' w l e → shut l ≡ false → shuts l ≡ false
      → Since shut (step w c) l e
  carry shut shut' l e h u n =
      let t = eff.stays l h.live n in
      record {
        unshut = u;
        below = h.below;
        live = t.1;
        same = ap (λ b. cond b (suc (openings l w.log)) (openings l w.log)) t.0 ∙ h.same;
      }

  module _ (t : Takes s c o) where
    took-memory : Remembers
    took-memory =
        t.memory
        ∙ ap (λ qs. take capacity (asked (brought_number c) (brought_by c) ∷ qs))
        (v.memory ∙ others-hits hits hits' (brought_number c) other (take capacity (taken (λ l. false))) unseen)
        ∙ push hits' 511 (asked (brought_number c) (brought_by c)) (newest base d w.log (λ l. false))
        (taken (λ l. false))
        (standing-now hits' (brought_number c) (brought_by c) (openings (brought_by c) w.log) 0 none)
        ∙ ap (λ ps. map (standing hits') (take capacity ps))
        (sym (taken-took base d w.log (λ l. false) t.taken))
      where
        none : hits' (brought_number c) ≡ 0
        none = rw (t.taken, number_itself (brought_number c))

        other : (y : Number) → same_number y (brought_number c) ≡ false → hits' y ≡ hits y
        other y e = rw (t.taken, e, t.unanswered y)

        unseen : any (λ q. same_number q.number (brought_number c))
            (map (standing hits) (take capacity (taken (λ l. false)))) ≡ false
        unseen = ap (any (λ q. same_number q.number (brought_number c))) (sym v.memory)
            ∙ sym (seen-any s (brought_number c)) ∙ t.unseen

    carried : (shut : ℕ → Bool) (l e : ℕ) → Since shut w l e → Since shut (step w c) l e
    carried shut l e h = carry shut shut l e h h.unshut (t.unclosed l)

    took-since : (shut : ℕ → Bool) (n : ℕ) (x : Number) (l e : ℕ)
        → look_up (take n (newest base d w.log shut ∷ taken shut)) x ≡ From l e → Since shut (step w c) l e
    took-since shut zero x l e q = absurd (no-from 0 x l e q)
    took-since shut (suc n) x l e q =
        ⊎_elim
        (λ h. carried shut l e (since-taken shut w (brought_number c) (brought_by c) _ l e t.fits refl h))
        (λ h. carried shut l e (v.since shut n x l e h))
        (pick-from (same_number (brought_number c) x) _ _ l e q)

  -- no query taken
  passed-since : took c o.answer ≡ false → AllSince base (step w c)
  passed-since t shut n x l e q =
      let h = v.since (λ k. shut k || shuts k) n x l e (rw (taken-passed base d w.log shut t) at q) in
      carry shut (λ k. shut k || shuts k) l e h (or_fst (shut l) (shuts l) h.unshut)
      (or_snd (shut l) (shuts l) h.unshut)

  closed-memory : Closes s c o → Remembers
  closed-memory t =
      t.memory
      ∙ ap (map (left_by t.line))
      (v.memory
      ∙ ap (λ (f : Number → ℕ). map (standing f) (take capacity (taken (λ l. false))))
      (same-hits t.passed t.unanswered)
      ∙ map-take (standing hits') capacity (taken (λ l. false)))
      ∙ map-take (left_by t.line) capacity (map (standing hits') (taken (λ l. false)))
      ∙ ap (take capacity) (sym (taken-left hits' t.line t.below base w.log (λ l. false) shuts t.closes))
      ∙ sym (map-take (standing hits') capacity (taken shuts))
      ∙ ap (λ ps. map (standing hits') (take capacity ps))
      (sym (taken-passed base d w.log (λ l. false) t.passed))

  -- no line closed
  same_taken : took c o.answer ≡ false → ((l : ℕ) → closed c o.answer l ≡ false)
      → map (standing hits') (take capacity (taken (λ l. false))) ≡ standing_in capacity (d ∷ w.log) base
  same_taken t u =
      ap (λ (f : ℕ → Bool). map (standing hits') (take capacity (taken f))) (λ i l. sym (u l) i)
      ∙ ap (λ ps. map (standing hits') (take capacity ps)) (sym (taken-passed base d w.log (λ l. false) t))

  answered-memory : Answers s c o → Remembers
  answered-memory t =
      t.memory
      ∙ ap (map (hit_by (brought_number c))) v.memory
      ∙ map-map (standing hits) (hit_by (brought_number c)) (take capacity (taken (λ l. false)))
      ∙ ap (λ (f : Past → Query). map f (take capacity (taken (λ l. false)))) (λ i p. one_more p i)
      ∙ same_taken t.passed t.unclosed
    where
      one_more : (p : Past) → hit_by (brought_number c) (standing hits p) ≡ standing hits' p
      one_more p =
          let e : hits' p.number ≡ cond (same_number p.number (brought_number c)) (suc (hits p.number))
          (hits p.number) = rw (t.passed, t.answers p.number) in
          λ i. record { number = p.number; asker = asker_now (origin_of p); hits = sym e i }

  passed-memory : Passes s c o → Remembers
  passed-memory t =
      t.memory
      ∙ v.memory
      ∙ ap (λ (f : Number → ℕ). map (standing f) (take capacity (taken (λ l. false))))
      (same-hits t.passed t.unanswered)
      ∙ same_taken t.passed t.unclosed

  pub goes_on_lem : Invariant base (step w c)
  goes_on_lem =
      let k : Kept s o.state = order-kept-by-lists w (c ∷ []) v.sized v.order in
      record {
        sized = k.sized;
        order = k.order;
        memory = ⊎_elim took-memory (⊎_elim closed-memory (⊎_elim answered-memory passed-memory)) eff.does;
        since = ⊎_elim
            (λ t shut n x l e q. took-since t shut n x l e (rw (taken-took base d w.log shut t.taken) at q))
            (⊎_elim (λ t. passed-since t.passed)
            (⊎_elim (λ t. passed-since t.passed) (λ t. passed-since t.passed)))
            eff.does;
      }

pub holds_after : (base : List Query) (w : World) (cs : List Call) → Invariant base w → Invariant base (run w cs)
holds_after base w [] v = v
holds_after base w (c ∷ cs) v = holds_after base (step w c) cs (goes_on_lem base w v c)

pub memory-history : MemoryHistory
memory-history s area cs z o =
    let v = holds_after (remembered s) (start s area) cs (begins s area z o) in
    record {
      last = v.memory;
      once = ap no_twice (sym v.memory) ∙ (state_facts (run (start s area) cs).state v.order).twice;
    }

-- a look-up in the state is one in the log
pub looked-up : (base : List Query) (w : World) → Invariant base w → (x : Number)
    → SameLookUp (find (remembered w.state) x) (origin capacity w.log base x) (hits_since w.log base x)
looked-up base w v x = rw v.memory (same-look_up (hits_since w.log base) (last_taken capacity w.log base) x)
