-- 21 is a hit's alone, of a query that has had 200.
-- Assumes nothing.
use Prim.Native.Nat.{ℕ}
use native.Mathlib.Omega.{arith}
use mathlib.Core.Path.{◌≡◌, refl, sym, ap, subst, ◌∙◌}
use mathlib.Core.Bool.{Bool, true, false, not, ◌&&◌}
use mathlib.Core.Logic.{◌↔◌, inr}
use mathlib.Core.List.{List, [], ◌∷◌, ◌++◌}
use lib.Dec.{eqb, ltb}
use lib.ListN.{length}
use borrow.Author.Tests.{eqb-true, eqb-false, ne_eqb, le-ltb, ltb-false, not-false}
use Rattle.laws.specs.Tests.{first_of, all}
use Rattle.laws.proofs.Refusals.{clash, NoRefusal, not-answered}
use Rattle.laws.proofs.Words.{decided, stands_iff}
use Rattle.wire.specs.Header.{header_in, kind_of, ttl_of, hops_of, size_of}
use Rattle.wire.specs.Header.{hit_type}
use Rattle.protocol.specs.declared.Lookup.{Lookup}
use Rattle.protocol.specs.Memory.{number_in, here, gone, Found, Absent, At, find, is_found}
use Rattle.protocol.specs.State.{Station, remembered, looked_up}
use Rattle.protocol.specs.Order.{in_order}
use Rattle.protocol.specs.Outcomes.{Terms, Outcome, quiet, hands_up, unused}
use Rattle.protocol.specs.Queries.{usual_limit}
use Rattle.protocol.specs.Hits.{hit_before}
use Rattle.protocol.specs.Calls.{opening, closing, message_outcome, own_outcome}
use Rattle.protocol.specs.Arrived.{Arrived}
use Rattle.protocol.specs.Frames.{LeftAsItWas}
use Rattle.protocol.specs.Kept.{after_refusal}
use Rattle.protocol.proofs.Outcomes.{answer-taken, opening_in, closing_in, own_in}
use Rattle.protocol.proofs.ByType.{hit_in, of_message}
use Rattle.protocol.proofs.Blind.{after_early, types_but_hits}
use Rattle.protocol.proofs.Arrived.{sent_if_arrived}
use Rattle.protocol.proofs.Exactly.{by-its-type, own-answer}
use Rattle.protocol.proofs.InOrder.{state_facts}
use Rattle.protocol.proofs.Refused.{refusal-frame}
use Rattle.hitcounts.specs.History.{OneOf}
use Rattle.hitcounts.specs.TwentyOne.{HasHadAll, TwentyOneExactly}
use Rattle.hitcounts.proofs.OneOf.{among-found, found_among}

module _ (s : Station) (m : List ℕ) where
  abbrev k : Lookup
  k = looked_up s (number_in m)

  abbrev away : Bool
  away = not (eqb k.asker here)

  -- the checks of a hit before that of its query's count, and behind it
  abbrev before : List (Bool × ℕ)
  before = hit_before (header_in m) ++ ((not k.found, 10) ∷ (eqb k.asker gone, 11) ∷ [])

  abbrev behind : List (Bool × ℕ)
  behind = (away && eqb (ttl_of m) 1, 8) ∷ (away && eqb (hops_of m) 255, 12) ∷ []

  at_count : (first_of (hit_in s m) ≡ 21) ↔ (NoRefusal before × (eqb k.hits 200 ≡ true))
  at_count = stands_iff 21 before (eqb k.hits 200) behind refl refl refl

  -- a query that was found stands there with its asker and its count
  stands : k.found ≡ true → OneOf (record { number = number_in m; asker = k.asker; hits = k.hits }) (remembered s)
  stands e = go (find (remembered s) (number_in m)) refl
    where
      go : (f : Found) → find (remembered s) (number_in m) ≡ f
          → OneOf (record { number = number_in m; asker = k.asker; hits = k.hits }) (remembered s)
      go Absent y = absurd (clash e (ap is_found y))
      go (At i a h) y = rw y (found_among (remembered s) (number_in m) i a h y)

module _ (s : Station) (l : ℕ) (m : List ℕ) (t : Terms) (route : List ℕ) where
  abbrev answer : ℕ
  answer = (message_outcome s l m t route).answer

  -- of a hit that has arrived, its checks say the answer
  pub by-checks : in_order s ≡ true → Arrived s l m t.out route → kind_of m ≡ 0x81 → answer ≡ first_of (hit_in s m)
  by-checks o a h = by-its-type s l m t route o a ∙ rw h

  -- what they say in words
  had-all : in_order s ≡ true → Arrived s l m t.out route → kind_of m ≡ 0x81
      → NoRefusal (before s m) × (eqb (k s m).hits 200 ≡ true) → HasHadAll s l m t.out route
  had-all o a h (p, q) =
      let ne : ttl_of m ≡ 0 → ⊥ = eqb-false (ttl_of m) 0 p.1.0 in
      record {
        order = o;
        good = record { arrived = a; kind = h; size = ltb-false (size_of m) 27 p.0; ttl = omega arith };
        asker = (k s m).asker;
        there = eqb-false (k s m).asker gone p.1.1.1.0;
        full = subst
            (λ n. OneOf (record { number = number_in m; asker = (k s m).asker; hits = n }) (remembered s))
            (eqb-true (k s m).hits 200 q) (stands s m (not-false (k s m).found p.1.1.0));
      }

  all-had : HasHadAll s l m t.out route → NoRefusal (before s m) × (eqb (k s m).hits 200 ≡ true)
  all-had g =
      let f = among-found _ (remembered s) (state_facts s g.order).twice g.full in
      let size : ltb (size_of m) 27 ≡ false = le-ltb (size_of m) 27 g.good.size in
      let some : eqb (ttl_of m) 0 ≡ false = ne_eqb (ttl_of m) 0 (λ z. omega (arith, g.good.ttl)) in
      let lives : eqb g.asker gone ≡ false = ne_eqb g.asker gone g.there in
      rw (size, some, f.found, lives) ((refl, (refl, (refl, (refl, tt)))), refl)

  -- no other type has a check for 21
  abbrev lacks : List (Bool × ℕ) → Bool
  lacks cs = all (λ c. not (eqb c.1 21)) cs

  others : eqb (kind_of m) hit_type ≡ false → lacks (after_early s l m t route) ≡ true
  others e = types_but_hits s l m t route (λ c. not (eqb c.1 21)) refl refl refl refl (λ h. absurd (clash h e))

  ordered : answer ≡ 21 → in_order s ≡ true
  ordered =
      of_message (λ (r : Outcome). r.answer ≡ 21 → in_order s ≡ true) s l m route usual_limit t
      (λ n u e. absurd (clash u (ap unused e))) (λ d _. d.order)

  is-hit : in_order s ≡ true → Arrived s l m t.out route → answer ≡ 21 → kind_of m ≡ 0x81
  is-hit o a e =
      eqb-true (kind_of m) hit_type
      (decided (eqb (kind_of m) hit_type) (λ n. not-answered 21 (after_early s l m t route) (others n) refl
      (sym (by-its-type s l m t route o a) ∙ e)))

  is_21 : answer ≡ 21 → HasHadAll s l m t.out route
  is_21 e =
      let o = ordered e in
      let a : Arrived s l m t.out route = (sent_if_arrived s l m t route o).0 (inr (omega arith)) in
      let h = is-hit o a e in
      had-all o a h ((at_count s m).0 (sym (by-checks o a h) ∙ e))

  make_21 : HasHadAll s l m t.out route → answer ≡ 21
  make_21 g = by-checks g.order g.good.arrived g.good.kind ∙ (at_count s m).1 (all-had g)

  left-by_21 : answer ≡ 21 → LeftAsItWas (message_outcome s l m t route) 21 s route
  left-by_21 e =
      let told : Outcome = message_outcome s l m t route in
      let frame = (refusal-frame.calls s).message l m t route (λ z. absurd (omega (arith, e, z))) in
      let unmarked : after_refusal answer s l m ≡ s
      = ap (λ n. after_refusal n s l m) e ∙ rw (is_21 e).good.kind in
      let is : told ≡ hands_up told.age (quiet 21 s route)
      = frame ∙ ap (λ (x : Station). hands_up told.age (quiet answer x route)) unmarked
      ∙ ap (λ n. hands_up told.age (quiet n s route)) e in
      subst (λ (r : Outcome). LeftAsItWas r 21 s route) (sym is) (refusal-frame.quietly 21 told.age s route)

-- the other calls
opening-other : (s : Station) (l : ℕ) → (opening s l).answer ≡ 21 → ⊥
unfolding opening
opening-other s l e =
    not-answered 21 (opening_in s l) refl refl (sym (answer-taken (first_of (opening_in s l)) s [] _ refl) ∙ e)

closing-other : (s : Station) (l : ℕ) → (closing s l).answer ≡ 21 → ⊥
unfolding closing
closing-other s l e =
    not-answered 21 (closing_in s l) refl refl (sym (answer-taken (first_of (closing_in s l)) s [] _ refl) ∙ e)

own-other : (s : Station) (number text : List ℕ) (out : ℕ) (route : List ℕ)
    → (own_outcome s number text out route).answer ≡ 21 → ⊥
own-other s number text out route e =
    not-answered 21 (own_in s number text out (length route)) refl refl (sym (own-answer s number text out route) ∙ e)

pub twenty-one-exactly : TwentyOneExactly
twenty-one-exactly =
    record {
      message = λ s l m t route. (is_21 s l m t route, make_21 s l m t route);
      opens = opening-other;
      closes = closing-other;
      asks = own-other;
      leaves = left-by_21;
    }
