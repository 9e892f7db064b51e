-- A hit goes back in its query's own opening of the line alone: the call that took its query, found in the log.
-- Assumes nothing.
use Prim.Native.Nat.{ℕ, zero, suc, ◌≤◌, ◌<◌}
use native.Mathlib.Omega.{arith}
use mathlib.Core.Path.{◌≡◌, refl, sym, ap, ◌∙◌}
use mathlib.Core.Bool.{Bool, true, false, cond, ◌||◌}
use mathlib.Core.Logic.{inl}
use mathlib.Core.List.{List, [], ◌∷◌}
use lib.Dec.{eqb}
use lib.ListN.{get_or, take}
use borrow.Author.Tests.{eqb-true, eqb-false, ltb-true, ltb-false}
use Rattle.laws.specs.Tests.{any}
use Rattle.laws.proofs.Refusals.{clash, or_fst, or_snd}
use Rattle.laws.proofs.Words.{refuted, decided}
use Rattle.wire.specs.Header.{kind_of, ttl_of, size_of}
use Rattle.protocol.specs.Memory.{capacity, here, gone, Number, number_in, same_number}
use Rattle.protocol.specs.Outcomes.{Outcome, nobody, only_to}
use Rattle.protocol.specs.Queries.{usual_limit}
use Rattle.protocol.specs.Calls.{fresh}
use Rattle.protocol.specs.Runs.{Call, Open, Close, Message, Ask, Made, World, lent, outcome_of, run, start}
use Rattle.protocol.specs.Demand2.{took, brought_number, brought_by, closed, openings, Past, past, all_taken}
use Rattle.protocol.specs.Demand2.{Origin, Unknown, Here, From, Gone, origin_of, look_up, origin, HitBy, HitRouted}
use Rattle.protocol.specs.Demand2.{hits_since, Counted, PassedBack, MessageRouted, taken_in, Brought, BackOnly}
use Rattle.protocol.specs.Demand2.{AnswersBack}
use Rattle.protocol.proofs.Outcomes.{each_line-at}
use Rattle.protocol.proofs.Kept.{fresh_in_order}
use Rattle.protocol.proofs.Memory.{same_number_lem}
use Rattle.protocol.proofs.Origins.{from-line, no-from, taken-took, taken-passed, Since, Invariant}
use Rattle.protocol.proofs.Origins.{begins, holds_after}
use Rattle.protocol.proofs.Demand2.{message-routed}
use Rattle.protocol.proofs.HandedBack.{fresh_remembers}
use Rattle.protocol.specs.State.{line_at}

-- the call that took a query, within the n newest, where `shut` says which lines have closed since the log
abbrev Taking : ℕ → (ℕ → Bool) → List Made → Number → ℕ → ℕ → Type 0
Taking n shut log x l e = (shut l ≡ false) × Brought n log x l e

pub took-unclosed : (c : Call) (n l : ℕ) → took c n ≡ true → closed c n l ≡ false
took-unclosed (Open k) n l t = refl
took-unclosed (Close k) n l t = absurd (clash t refl)
took-unclosed (Message k m terms a) n l t = refl
took-unclosed (Ask number text terms a) n l t = refl

module _ (d : Made) (ds : List Made) (shut : ℕ → Bool) (x : Number) (l e : ℕ) where
  abbrev who : ℕ
  who = brought_by d.call

  abbrev takes : Bool
  takes = took d.call d.outcome.answer

  abbrev closes : ℕ → Bool
  closes k = closed d.call d.outcome.answer k

  abbrev same : Bool
  same = same_number (brought_number d.call) x

  abbrev brought : Past
  brought = past shut (brought_number d.call) who (openings who ds)

  -- it is the newest
  newest-taking : (n : ℕ) → takes ≡ true → same ≡ true → origin_of brought ≡ From l e
      → Taking (suc n) shut (d ∷ ds) x l e
  newest-taking n t is q =
      let h = from-line (eqb who here) (eqb who gone || shut who) who (openings who ds) l e q in (
        ap shut (sym h.2) ∙ or_snd (eqb who gone) (shut who) h.1,
        record {
          newer = [];
          taking = d;
          older = ds;
          split = refl;
          taken = t;
          number = same_number_lem (brought_number d.call) x is;
          by = h.2;
          among = omega arith;
          unclosed = refl;
          before = ap (λ k. openings k ds) (sym h.2) ∙ h.3;
        },
      )

  -- it is older
  older-taking : (n k : ℕ) → Brought k ds x l e → ((j : ℕ) → j < k → cond takes (suc j) j < n) → closes l ≡ false
      → Brought n (d ∷ ds) x l e
  older-taking n k r more c =
      record {
        newer = d ∷ r.newer;
        taking = r.taking;
        older = r.older;
        split = ap (◌∷◌ d) r.split;
        taken = r.taken;
        number = r.number;
        by = r.by;
        among = more (taken_in r.newer) r.among;
        unclosed = ap (λ b. b || any (λ d. closed d.call d.outcome.answer l) r.newer) c ∙ r.unclosed;
        before = r.before;
      }

  module _ (ih : (n : ℕ) (shut : ℕ → Bool) → look_up (take n (all_taken shut ds [])) x ≡ From l e
      → Taking n shut ds x l e) where
    took-taking : (n : ℕ) → takes ≡ true → look_up (take n (brought ∷ all_taken shut ds [])) x ≡ From l e
        → Taking n shut (d ∷ ds) x l e
    took-taking zero t q = absurd (no-from 0 x l e q)
    took-taking (suc n) t q = go same refl
      where
        go : (b : Bool) → same ≡ b → Taking (suc n) shut (d ∷ ds) x l e
        go true s = newest-taking n t s (rw s at q)
        go false s =
            let r : Taking n shut ds x l e = ih n shut (rw s at q) in
            let unclosed = took-unclosed d.call d.outcome.answer l t in
            (r.0, older-taking (suc n) n r.1 (λ j h. rw t (omega arith)) unclosed)

    step-taking : (n : ℕ) → look_up (take n (all_taken shut (d ∷ ds) [])) x ≡ From l e → Taking n shut (d ∷ ds) x l e
    step-taking n q = go takes refl
      where
        go : (b : Bool) → takes ≡ b → Taking n shut (d ∷ ds) x l e
        go true t = took-taking n t (rw (taken-took [] d ds shut t) at q)
        go false t =
            let r : Taking n (λ k. shut k || closes k) ds x l e
            = ih n (λ k. shut k || closes k) (rw (taken-passed [] d ds shut t) at q) in
            let open' = or_snd (shut l) (closes l) r.0 in
            (or_fst (shut l) (closes l) r.0, older-taking n n r.1 (λ j h. rw t h) open')

find-taking : (x : Number) (l e : ℕ) (log : List Made) (n : ℕ) (shut : ℕ → Bool)
    → look_up (take n (all_taken shut log [])) x ≡ From l e → Taking n shut log x l e
unfolding all_taken
find-taking x l e [] n shut q = absurd (no-from n x l e q)
find-taking x l e (d ∷ ds) n shut q = step-taking d ds shut x l e (λ n shut. find-taking x l e ds n shut) n q

-- a world whose log began with nothing remembered
module _ (w : World) (v : Invariant [] w) where
  abbrev since : Number → Origin
  since x = origin capacity w.log [] x

  back_from : (x : Number) (l e : ℕ) → since x ≡ From l e
      → ((line_at w.state l).live ≡ true) × Brought capacity w.log x l (openings l w.log)
  back_from x l e q =
      let r : Taking capacity (λ _. false) w.log x l e = find-taking x l e w.log capacity (λ _. false) q in
      let s : Since (λ _. false) w l e = v.since (λ _. false) capacity x l e q in
      (s.live, rw s.same r.1)

  -- a hit that goes to line k has a query from there
  module _ (l : ℕ) (m : List ℕ) (out : ℕ) (route : List ℕ) (o : Outcome) (k : ℕ) (h : k < 8)
      (t : get_or o.to k false ≡ true) where
    to-nobody : o.to ≡ nobody → ⊥
    to-nobody e = clash t (ap (λ ls. get_or ls k false) e ∙ each_line-at (λ _. false) k (omega arith))

    -- its query has had fewer than 200
    fewer : (hits : ℕ) {P : Type 0} → o.answer ≡ 0 → Counted hits o P → P
    fewer hits z c =
        let ne : hits ≡ 200 → ⊥ = λ e. absurd (omega (arith, z, c.1 e)) in c.2 (omega (arith, c.0, ne))

    hit-to : (hits : ℕ) → o.answer ≡ 0 → 1 ≤ ttl_of m → (from : Origin) → HitBy from hits w m o
        → (n : ℕ) × (from ≡ From k n)
    hit-to hits z a Unknown b = absurd (omega (arith, z, b))
    hit-to hits z a Gone b = absurd (omega (arith, z, b))
    hit-to hits z a Here b = absurd (to-nobody (fewer hits z b).2)
    hit-to hits z a (From l n) b = (n, ap (λ j. From j n) same_line)
      where
        back : PassedBack l m o
        back = fewer hits z b.1

        two : 2 ≤ ttl_of m
        two = let ne : ttl_of m ≡ 1 → ⊥ = λ e. absurd (omega (arith, z, back.spent e)) in omega arith

        to : o.to ≡ only_to l
        to = (back.goes two (λ e. absurd (omega (arith, z, back.full two e)))).2

        same_line : l ≡ k
        same_line = eqb-true l k (sym (ap (λ ls. get_or ls k false) to ∙ each_line-at (eqb l) k (omega arith)) ∙ t)

    routed-to : MessageRouted usual_limit capacity [] w l m out route o → kind_of m ≡ 0x81
        → (n : ℕ) × (since (number_in m) ≡ From k n)
    routed-to r kind = hit-to _ zero' one (since (number_in m)) (hit.by long one)
      where
        zero' : o.answer ≡ 0
        zero' = eqb-true o.answer 0 (decided _ (λ e. to-nobody (r.refused (eqb-false o.answer 0 e)).to))

        hit : HitRouted (since (number_in m)) (hits_since w.log [] (number_in m)) w m o
        hit = r.hit kind (r.arrives.0 (inl zero'))

        long : 27 ≤ size_of m
        long =
            ltb-false (size_of m) 27
            (refuted _ (λ e. absurd (omega (arith, zero', hit.short (ltb-true (size_of m) 27 e)))))

        one : 1 ≤ ttl_of m
        one = let ne : ttl_of m ≡ 0 → ⊥ = λ e. absurd (omega (arith, zero', hit.spent long e)) in omega arith

  back-only : BackOnly capacity w
  back-only l m t a k kind h is =
      let route : List ℕ = lent a w.area in
      let r = message-routed [] w v l m t route in
      let q = routed-to l m t.out route (outcome_of w (Message l m t a)) k h is r kind in
      back_from (number_in m) k q.0 q.1

-- from a fresh state
pub answers-back : AnswersBack
answers-back n area cs =
    let f = fresh_in_order n in
    let v = begins (fresh n).state area f.sized f.order in
    back-only (run (start (fresh n).state area) cs)
    (holds_after [] (start (fresh n).state area) cs (rw (fresh_remembers n) at v))
