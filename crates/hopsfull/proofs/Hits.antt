-- 12 is a hit's alone.
-- Assumes nothing.
use Prim.Native.Nat.{ℕ, ◌≤◌}
use native.Mathlib.Omega.{arith}
use mathlib.Core.Path.{◌≡◌, refl, sym, ap, subst, ◌∙◌}
use mathlib.Core.Bool.{Bool, true, false, not, ◌&&◌, ◌||◌}
use mathlib.Core.Logic.{◌↔◌, inl, inr}
use mathlib.Core.List.{List, [], ◌∷◌}
use lib.Dec.{eqb, ltb}
use borrow.Author.Tests.{eqb-true, eqb-false, eq-eqb, ne_eqb, le-ltb, ltb-false, not-true, not-false}
use Rattle.laws.specs.Tests.{first_of, any, all}
use Rattle.laws.proofs.Refusals.{clash, NoRefusal, and_fst, and_snd, and_intro}
use Rattle.laws.proofs.Refusals.{not-answered}
use Rattle.laws.proofs.Words.{decided, stands_iff}
use Rattle.wire.specs.Header.{kind_of, ttl_of, hops_of, size_of}
use Rattle.wire.specs.Header.{hit_type}
use Rattle.protocol.specs.declared.Finding.{Finding}
use Rattle.protocol.specs.declared.Lookup.{Lookup}
use Rattle.protocol.specs.Memory.{capacity, here, gone, hit_limit, Number, number_in, Query, query_at, place_behind}
use Rattle.protocol.specs.State.{Station, remembered, line_at, looked_up}
use Rattle.protocol.specs.Order.{in_order}
use Rattle.protocol.specs.Outcomes.{Terms, Outcome, unused}
use Rattle.protocol.specs.Queries.{usual_limit}
use Rattle.protocol.specs.Hits.{hit_step}
use Rattle.protocol.specs.Calls.{opening, closing, arrived, message_outcome, looking_up}
use Rattle.protocol.specs.Arrived.{Arrived}
use Rattle.protocol.specs.Runs.{Open, Close, Message, Ask, lent}
use Rattle.protocol.proofs.InOrder.{state_facts}
use Rattle.protocol.proofs.Places.{found-there}
use Rattle.protocol.proofs.Answered.{few-found}
use Rattle.protocol.proofs.Outcomes.{answer-taken, opening_in, closing_in}
use Rattle.protocol.proofs.ByType.{hit_in, of_message}
use Rattle.protocol.proofs.Blind.{after_early, types_but_hits, type-number}
use Rattle.protocol.proofs.Arrived.{by-type, by-hit, sent_if_arrived}
use Rattle.ages.specs.LookUp.{IsAsker}
use Rattle.ages.proofs.LookUp.{of_look-up, look-up-exactly}
use Rattle.receiving.specs.Feeding.{front_of, joined, feed_outcome}
use Rattle.receiving.specs.Events.{Event, Plain, Feed, Receiver, lent_held, unread, calls_of, reply_to, begin}
use Rattle.receiving.proofs.ByCase.{of_feed}
use Rattle.hopsfull.specs.PutBack.{handle_by}
use Rattle.hopsfull.specs.Hits.{GoesNoFurther, TwelveExactly, is_hit, hit_if12, HitsAlone}
use Rattle.hopsfull.proofs.NoQuery.{own-other, of_list}
use Rattle.hopsfull.proofs.PutBack.{usual-event, same_lists}

-- what a look-up of a state in order tells, and what was found
record Told (s : Station) (f : Finding) (k : Lookup) : Type 0 where
  there : k.found ≡ true → f.answer ≡ 0
  back : f.answer ≡ 0 → k.found ≡ true
  asker : f.answer ≡ 0 → f.asker ≡ k.asker
  hits : f.answer ≡ 0 → (query_at s.memory (place_behind capacity s.memory f.after)).hits ≡ k.hits
  most : f.answer ≡ 0 → k.hits ≤ hit_limit

told : (s : Station) (x : Number) → in_order s ≡ true → Told s (looking_up s x) (looked_up s x)
told s x o =
    of_look-up s x (λ f. Told s f (looked_up s x)) (λ z. absurd (clash o z))
    (λ _ e. rw e (record {
      there = λ z. absurd (clash z refl);
      back = λ z. absurd (omega (arith, z));
      asker = λ z. absurd (omega (arith, z));
      hits = λ z. absurd (omega (arith, z));
      most = λ z. absurd (omega (arith, z));
    }))
    (λ _ i a h e. rw e (record {
      there = λ _. refl;
      back = λ _. refl;
      asker = λ _. refl;
      hits = λ _. ap (λ (q : Query). q.hits) (found-there capacity s.memory x i a h e);
      most = λ _. few-found (remembered s) x i a h (state_facts s o).hits e;
    }))

-- an asker that is neither here nor gone is a line
line_of : (s : Station) (a : ℕ) → IsAsker s a → (a ≡ 8 → ⊥) → (a ≡ 9 → ⊥) → a ≤ 7
line_of s a (inl v) h g = v.0
line_of s a (inr (inl e)) h g = absurd (h e)
line_of s a (inr (inr e)) h g = absurd (g e)

module _ (s : Station) (l : ℕ) (m : List ℕ) (t : Terms) (route : List ℕ) where
  abbrev k : Lookup
  k = looked_up s (number_in m)

  abbrev away : Bool
  away = not (eqb k.asker here)

  -- the checks of a hit before the last
  abbrev before : List (Bool × ℕ)
  before =
      (ltb (size_of m) 27, 6)
      ∷ (eqb (ttl_of m) 0, 8)
      ∷ (not k.found, 10)
      ∷ (eqb k.asker gone, 11)
      ∷ (eqb k.hits hit_limit, 21)
      ∷ (away && eqb (ttl_of m) 1, 8)
      ∷ []

  last : (first_of (hit_in s m) ≡ 12) ↔ (NoRefusal before × ((away && eqb (hops_of m) 255) ≡ true))
  last = stands_iff 12 before (away && eqb (hops_of m) 255) [] refl refl refl

  by-checks : kind_of m ≡ 0x81 → (arrived usual_limit s l m t route).answer ≡ first_of (hit_in s m)
  unfolding hit_step
  by-checks h = ap (λ (o : Outcome). o.answer) (by-hit s l m t route usual_limit h) ∙ answer-taken _ _ route _ refl

  -- no other type has a check for 12
  abbrev lacks : List (Bool × ℕ) → Bool
  lacks cs = all (λ c. not (eqb c.1 12)) cs

  others : eqb (kind_of m) hit_type ≡ false → lacks (after_early s l m t route) ≡ true
  others e = types_but_hits s l m t route (λ c. not (eqb c.1 12)) refl refl refl refl (λ h. absurd (clash h e))

  -- what the checks of a hit say in words
  tests_of : GoesNoFurther s l m t.out route → NoRefusal before × ((away && eqb (hops_of m) 255) ≡ true)
  tests_of g =
      let x = told s (number_in m) g.order in
      let size : ltb (size_of m) 27 ≡ false = le-ltb (size_of m) 27 g.size in
      let some : eqb (ttl_of m) 0 ≡ false = ne_eqb (ttl_of m) 0 (λ z. omega (arith, g.ttl)) in
      let two : eqb (ttl_of m) 1 ≡ false = ne_eqb (ttl_of m) 1 (λ z. omega (arith, g.ttl)) in
      let is : (looking_up s (number_in m)).asker ≡ k.asker = x.asker g.found in
      let far : eqb k.asker here ≡ false = ne_eqb k.asker here (λ z. omega (arith, is, g.asker)) in
      let lives : eqb k.asker gone ≡ false = ne_eqb k.asker gone (λ z. omega (arith, is, g.asker)) in
      let few : eqb k.hits hit_limit ≡ false
      = ne_eqb k.hits hit_limit (λ z. omega (arith, x.hits g.found, g.hits)) in
      let full : eqb (hops_of m) 255 ≡ true = eq-eqb (hops_of m) 255 g.hops in
      rw (size, some, two, x.back g.found, far, lives, few, full)
      ((refl, (refl, (refl, (refl, (refl, (refl, tt)))))), refl)

  words_of : in_order s ≡ true → Arrived s l m t.out route → kind_of m ≡ 0x81
      → NoRefusal before × ((away && eqb (hops_of m) 255) ≡ true) → GoesNoFurther s l m t.out route
  words_of o a h (p, q) =
      let x = told s (number_in m) o in
      let found : (looking_up s (number_in m)).answer ≡ 0 = x.there (not-false k.found p.1.1.0) in
      let is : (looking_up s (number_in m)).asker ≡ k.asker = x.asker found in
      let far : away ≡ true = and_fst away (eqb (hops_of m) 255) q in
      let two : eqb (ttl_of m) 1 ≡ false = rw far at p.1.1.1.1.1.0 in
      let line : (looking_up s (number_in m)).asker ≤ 7 =
      line_of s (looking_up s (number_in m)).asker ((look-up-exactly s (number_in m)).asker found)
      (λ z. eqb-false k.asker here (not-true (eqb k.asker here) far) (sym is ∙ z))
      (λ z. eqb-false k.asker gone p.1.1.1.0 (sym is ∙ z)) in
      record {
        order = o;
        arrived = a;
        hit = h;
        size = ltb-false (size_of m) 27 p.0;
        ttl = omega (arith, eqb-false (ttl_of m) 0 p.1.0, eqb-false (ttl_of m) 1 two);
        found = found;
        asker = line;
        hits = omega (arith, x.hits found, x.most found, eqb-false k.hits hit_limit p.1.1.1.1.0);
        hops = eqb-true (hops_of m) 255 (and_snd away (eqb (hops_of m) 255) q);
      }

  abbrev answer : ℕ
  answer = (message_outcome s l m t route).answer

  -- of a message that has arrived, its type's answer
  typed : in_order s ≡ true → Arrived s l m t.out route → answer ≡ (arrived usual_limit s l m t route).answer
  typed o a = ap (λ (r : Outcome). r.answer) (by-type s l m t route o usual_limit a)

  ordered : answer ≡ 12 → in_order s ≡ true
  ordered =
      of_message (λ (r : Outcome). r.answer ≡ 12 → in_order s ≡ true) s l m route usual_limit t
      (λ n u e. absurd (clash u (ap unused e))) (λ d _. d.order)

  is-hit : (arrived usual_limit s l m t route).answer ≡ 12 → kind_of m ≡ 0x81
  is-hit e =
      eqb-true (kind_of m) hit_type
      (decided (eqb (kind_of m) hit_type) (λ n. not-answered 12 (after_early s l m t route) (others n) refl
      (sym (type-number s l m t route) ∙ e)))

  goes-no_further : answer ≡ 12 → GoesNoFurther s l m t.out route
  goes-no_further e =
      let o = ordered e in
      let a : Arrived s l m t.out route = (sent_if_arrived s l m t route o).0 (inr (omega arith)) in
      let by : (arrived usual_limit s l m t route).answer ≡ 12 = sym (typed o a) ∙ e in
      let h = is-hit by in
      words_of o a h (last.0 (sym (by-checks h) ∙ by))

  is_twelve : GoesNoFurther s l m t.out route → answer ≡ 12
  is_twelve g = typed g.order g.arrived ∙ by-checks g.hit ∙ last.1 (tests_of g)

pub twelve_exactly : TwelveExactly
twelve_exactly s l m t route = (goes-no_further s l m t route, is_twelve s l m t route)

-- openings and closings
opening-other : (s : Station) (l : ℕ) → (opening s l).answer ≡ 12 → ⊥
unfolding opening
opening-other s l e =
    not-answered 12 (opening_in s l) refl refl (sym (answer-taken (first_of (opening_in s l)) s [] _ refl) ∙ e)

closing-other : (s : Station) (l : ℕ) → (closing s l).answer ≡ 12 → ⊥
unfolding closing
closing-other s l e =
    not-answered 12 (closing_in s l) refl refl (sym (answer-taken (first_of (closing_in s l)) s [] _ refl) ∙ e)

-- where the answer is 12, this holds
if12 : (n : ℕ) (b : Bool) → (n ≡ 12 → b ≡ true) → (not (eqb n 12) || b) ≡ true
if12 n b f = by (eqb n 12) refl
  where
    by : (x : Bool) → eqb n 12 ≡ x → (not x || b) ≡ true
    by true e = f (eqb-true n 12 e)
    by false e = refl

-- bytes that are answered 12 were taken to the end of a message, and it is
fed_12 : (s : Station) (l : ℕ) (bytes held : List ℕ) (t : Terms) (route : List ℕ)
    → (feed_outcome s l bytes held t route).result.answer ≡ 12
    → ((feed_outcome s l bytes held t route).waits ≡ false)
    × ((message_outcome s l (front_of (joined (line_at s l) held bytes)) t route).answer ≡ 12)
fed_12 s l bytes held t route =
    of_feed s l bytes held t route
    (λ f. f.result.answer ≡ 12 → (f.waits ≡ false)
    × ((message_outcome s l (front_of (joined (line_at s l) held bytes)) t route).answer ≡ 12))
    (λ n _ _ u e. absurd (clash u (ap unread e)))
    (λ _ _ _ e. absurd (omega (arith, e)))
    (λ _ _ _ e. absurd (omega (arith, e)))
    (λ _ _ _ _ e. (refl, e))

each-event : (w : Receiver) (e : Event) → (reply_to w e).answer ≡ 12 → any is_hit (calls_of w e) ≡ true
each-event w (Plain (Open l)) e = absurd (opening-other w.state l e)
each-event w (Plain (Close l)) e = absurd (closing-other w.state l e)
each-event w (Plain (Message l m t a)) e =
    rw (eq-eqb (kind_of m) 0x81 ((twelve_exactly w.state l m t (lent a w.area)).0 e).hit)
each-event w (Plain (Ask number text t a)) e =
    absurd (own-other usual_limit w.state number text t.out (lent a w.area) e)
each-event w (Feed l bytes t a h) e =
    let held : List ℕ = lent_held h (w.held l) in
    let m : List ℕ = front_of (joined (line_at w.state l) held bytes) in
    let v = fed_12 w.state l bytes held t (lent a w.area) e in
    let g = (twelve_exactly w.state l m t (lent a w.area)).0 v.1 in
    rw (v.0, e, eq-eqb (kind_of m) 0x81 g.hit)

pub hits-alone : HitsAlone
hits-alone s area held es =
    subst (λ (w : Receiver). all hit_if12 w.log ≡ true) (same_lists.usual s area held es)
    (of_list hit_if12 usual_limit message_outcome feed_outcome each_logged (begin s area held) refl es)
  where
    each_logged : (w : Receiver) → all hit_if12 w.log ≡ true → (e : Event)
        → all hit_if12 (handle_by usual_limit message_outcome feed_outcome w e).log ≡ true
    each_logged w h e =
        subst (λ (w : Receiver). all hit_if12 w.log ≡ true) (sym (usual-event w e))
        (and_intro (not (eqb (reply_to w e).answer 12) || any is_hit (calls_of w e)) (all hit_if12 w.log)
        (if12 (reply_to w e).answer (any is_hit (calls_of w e)) (each-event w e)) h)
