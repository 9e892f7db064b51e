-- The count of a remembered query is how many hits of its number were answered 0 since it was taken.
-- Assumes nothing.
use Prim.Native.Nat.{ℕ, ◌<◌}
use mathlib.Core.Path.{◌≡◌, refl, ap, subst, ◌∙◌}
use mathlib.Core.Bool.{true, false, ◌||◌}
use mathlib.Core.Logic.{inl, inr, ⊎_elim}
use mathlib.Core.List.{List, [], ◌∷◌, map}
use lib.Dec.{eqb}
use Rattle.laws.specs.Tests.{any}
use Rattle.laws.proofs.Refusals.{clash, any-take}
use Rattle.laws.proofs.Words.{decided}
use Rattle.protocol.specs.State.{remembered}
use Rattle.protocol.specs.Memory.{capacity, here, gone, Number, Query, same_number, Found, Absent, At, find, is_found}
use Rattle.protocol.specs.Calls.{fresh}
use Rattle.protocol.specs.Runs.{Made, World, run, start}
use Rattle.protocol.specs.Demand2.{Past, hits_before, hits_since, all_taken, last_taken, standing, brought_by, openings}
use Rattle.protocol.specs.Demand2.{taken_in}
use Rattle.protocol.proofs.Kept.{fresh_in_order}
use Rattle.protocol.proofs.Memory.{number_itself}
use Rattle.protocol.proofs.Origins.{known, known_of, Invariant, begins, holds_after, looked-up}
use Rattle.protocol.proofs.HandedBack.{fresh_remembers}
use Rattle.hitcounts.specs.History.{OneOf, takes, LastTaking, StoodBefore, CountIs}
use Rattle.hitcounts.specs.History.{CountIsHistory, CountedSince, FreshCounts}
use Rattle.hitcounts.proofs.OneOf.{among-any, found_among}
use Rattle.hitcounts.proofs.Log.{named, closes_line, hits-last, hits-none, last_or_none, unnamed}
use Rattle.hitcounts.proofs.Log.{stood-before, origin-last}

-- queries that stand with counts by their numbers
counted : (hits : Number → ℕ) (q : Query) (ps : List Past) → OneOf q (map (standing hits) ps)
    → q.hits ≡ hits q.number
counted hits q [] a = absurd a
counted hits q (p ∷ ps) (inl e) = subst (λ (r : Query). r.hits ≡ hits r.number) e refl
counted hits q (p ∷ ps) (inr a) = counted hits q ps a

standing-named : (hits : Number → ℕ) (x : Number) (ps : List Past)
    → any (λ q. same_number q.number x) (map (standing hits) ps) ≡ any (named x) ps
standing-named hits x [] = refl
standing-named hits x (p ∷ ps) = rw (standing-named hits x ps)

module _ (base : List Query) (w : World) (v : Invariant base w) where
  abbrev hits : Number → ℕ
  hits = hits_since w.log base

  count_of : (q : Query) → OneOf q (remembered w.state) → q.hits ≡ hits q.number
  count_of q a = counted hits q (last_taken capacity w.log base) (rw v.memory at a)

  -- one that no call took was remembered before
  before : (q : Query) → OneOf q (remembered w.state) → any (takes q.number) w.log ≡ false
      → StoodBefore base q.number (hits_before base q.number)
  before q a n =
      let x : Number = q.number in
      stood-before x base
      (decided (any (λ p. same_number p.number x) base)
      (λ u. let none : any (λ p. same_number p.number x) (remembered w.state) ≡ false
      = ap (any (λ p. same_number p.number x)) v.memory
      ∙ standing-named hits x (last_taken capacity w.log base)
      ∙ any-take (named x) capacity (all_taken (λ _. false) w.log base) (unnamed x base u w.log n (λ _. false)) in
      clash (number_itself x) (among-any (λ p. same_number p.number x) q (remembered w.state) none a)))

  -- one that was taken is found while fewer than 512 were taken since
  still-there : (x : Number) (newer : List Made) → LastTaking w.log x newer → taken_in newer < 512
      → (q : Query) × OneOf q (remembered w.state) × (q.number ≡ x)
  still-there x newer r h = go (find (remembered w.state) x) refl
    where
      who : ℕ
      who = brought_by r.taking.call

      is : is_found (find (remembered w.state) x) ≡ true
      is =
          (looked-up base w v x).found ∙ ap known (origin-last base x w.log newer r h)
          ∙ known_of (eqb who here) (eqb who gone || any (closes_line who) newer) who (openings who r.older)

      go : (f : Found) → find (remembered w.state) x ≡ f
          → (q : Query) × OneOf q (remembered w.state) × (q.number ≡ x)
      go Absent e = absurd (clash is (ap is_found e))
      go (At i a k) e =
          (record { number = x; asker = a; hits = k }, found_among (remembered w.state) x i a k e, refl)

  pub count-is : CountIs w.state w.log base
  count-is =
      record {
        taken = λ q newer a r. count_of q a ∙ hits-last base q.number w.log newer r;
        stood = λ q a n.
            (hits_before base q.number, before q a n, count_of q a ∙ hits-none base q.number w.log n);
        either = λ x. last_or_none x w.log;
        there = still-there;
      }

pub count-is-history : CountIsHistory
count-is-history s area cs z o =
    count-is (remembered s) (run (start s area) cs) (holds_after (remembered s) (start s area) cs (begins s area z o))

-- where nothing was remembered before the log began
pub counted-since : (w : World) → Invariant [] w → CountedSince w.state w.log
counted-since w v q a =
    let c : CountIs w.state w.log [] = count-is [] w v in
    ⊎_elim (λ r. (r.0, r.1, c.taken q r.0 a r.1)) (λ z. absurd (c.stood q a z).1.stood)
    (c.either q.number)

pub fresh-counts : FreshCounts
fresh-counts n area cs =
    let f = fresh_in_order n in
    let v : Invariant [] (start (fresh n).state area)
    = rw (fresh_remembers n) at (begins (fresh n).state area f.sized f.order) in
    counted-since (run (start (fresh n).state area) cs) (holds_after [] (start (fresh n).state area) cs v)
