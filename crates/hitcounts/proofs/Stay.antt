-- Which calls leave the counts: by what each call does to the memory.
-- Assumes nothing.
use Prim.Native.Nat.{ℕ}
use mathlib.Core.Path.{◌≡◌, refl, sym, ap, ◌∙◌}
use mathlib.Core.Bool.{true, false, and-false}
use mathlib.Core.Logic.{⊎_elim}
use mathlib.Core.List.{◌∷◌, map}
use borrow.Author.Tests.{eq-eqb, ne_eqb}
use Rattle.laws.proofs.Refusals.{clash}
use Rattle.laws.proofs.Rings.{map-take, map-map}
use Rattle.wire.specs.Header.{kind_of}
use Rattle.protocol.specs.State.{Station, remembered}
use Rattle.protocol.specs.Memory.{Number, Query, number_in}
use Rattle.protocol.specs.Outcomes.{Outcome}
use Rattle.protocol.specs.Runs.{Call, Open, Close, Message, Ask, outcome_of}
use Rattle.protocol.specs.Kept.{asked, left_by, hit_by}
use Rattle.protocol.specs.Demand2.{took, brought_number, brought_by, got_hit}
use Rattle.protocol.proofs.Memory.{number_itself}
use Rattle.protocol.proofs.Effects.{Effect, call_effect}
use Rattle.hitcounts.specs.Stay.{CountsStay, OneInFront, OneRaised, CountsAfter, CountsByCall}

-- a number with its count
abbrev pair_of : Query → Number × ℕ
pair_of q = (q.number, q.hits)

module _ (s : Station) (c : Call) (o : Outcome) (e : Effect s c o) where
  abbrev x : Number
  x = brought_number c

  in_front : took c o.answer ≡ true → OneInFront x s o.state
  in_front t =
      ⊎_elim
      (λ d. ap (map pair_of) d.memory
      ∙ map-take pair_of 512 (asked x (brought_by c) ∷ remembered s))
      (⊎_elim (λ d. absurd (clash t d.passed))
      (⊎_elim (λ d. absurd (clash t d.passed)) (λ d. absurd (clash t d.passed))))
      e.does

  raised : took c o.answer ≡ false → got_hit c o.answer x ≡ true → OneRaised x s o.state
  raised t a =
      ⊎_elim (λ d. absurd (clash d.taken t))
      (⊎_elim (λ d. absurd (clash a (d.unanswered x)))
      (⊎_elim
      (λ d. ap (map pair_of) d.memory
      ∙ map-map (hit_by x) pair_of (remembered s)
      ∙ sym (map-map pair_of _ (remembered s)))
      (λ d. absurd (clash a (d.unanswered x)))))
      e.does

  stay : took c o.answer ≡ false → got_hit c o.answer x ≡ false → CountsStay s o.state
  stay t a =
      ⊎_elim (λ d. absurd (clash d.taken t))
      (⊎_elim (λ d. ap (map pair_of) d.memory ∙ map-map (left_by d.line) pair_of (remembered s))
      (⊎_elim (λ d. absurd (clash (d.answers x ∙ number_itself x) a)) (λ d. ap (map pair_of) d.memory)))
      e.does

by_call : (s : Station) (c : Call) (o : Outcome) → Effect s c o → CountsAfter c o.answer s o.state
by_call s (Open l) o e = stay s (Open l) o e refl refl
by_call s (Close l) o e = stay s (Close l) o e refl refl
by_call s (Message l m t a) o e =
    record {
      refused = λ ne. let z = ne_eqb o.answer 0 ne in stay s c o e (rw (z, and-false)) (rw (z, and-false));
      query = λ k z. in_front s c o e (rw (k, z));
      hit = λ k z. raised s c o e (rw k) (rw (k, z) (number_itself (number_in m)));
      others = λ nq nh. stay s c o e (rw (ne_eqb (kind_of m) 0x80 nq)) (rw (ne_eqb (kind_of m) 0x81 nh));
    }
  where
    c : Call
    c = Message l m t a
by_call s (Ask number text t a) o e =
    record {
      refused = λ ne. stay s (Ask number text t a) o e (ne_eqb o.answer 0 ne) refl;
      query = λ z. in_front s (Ask number text t a) o e (eq-eqb o.answer 0 z);
    }

pub counts-by-call : CountsByCall
counts-by-call w c z o = by_call w.state c (outcome_of w c) (call_effect w z o c)
