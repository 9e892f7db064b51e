-- The pairs kept so far and the items that are left give the answer of the whole value; a bad item refuses it.
use mathlib.Core.Path.{◌≡◌, sym, ◌∙◌}
use native.Mathlib.Omega.{arith}
use borrow.Author.Tests.{eqb-true, eqb-false}
use Rattle.std.proofs.Common.{Option, Result, Some, None, Ok, Err}
use Rattle.std.proofs.lemmas.Result.{err_from_is_err_and}
use Rattle.std.specs.Option.{ok_or}
use Rattle.answer.specs.declared.Refusal.{Refusal}
use Rattle.answer.specs.declared.Refusal.TheVariants.{BadPayload}
use Rattle.xtry.specs.declared.Pair.{Pair}
use Rattle.xtry.proofs.Items.{left-empty, left-on, left-bad, left_end, less-left}
use Rattle.xtry.proofs.read.read_pairs.Goals.{then-not-is_empty+in_ok-pair, else-not-is_empty}
use Rattle.xtry.proofs.read.read_pairs.Goals as goal

-- no pair is what is refused, for its payload
refused : (r : Option Pair) (e : Refusal) → ◌≡◌ {A = Result Pair Refusal} (ok_or r BadPayload) (Err e)
    → (r ≡ None) × (e ≡ BadPayload)
refused None e h = (cc, cc)
refused (Some p) e h = (cc, cc)

-- a pair is what was read
was_read : (r : Option Pair) (p : Pair) → ◌≡◌ {A = Result Pair Refusal} (ok_or r BadPayload) (Ok p) → r ≡ Some p
was_read None p h = cc
was_read (Some q) p h = cc

pub returns-in_err-pair : goal.returns-in_err-pair
returns-in_err-pair c =
    let p = err_from_is_err_and c.from_residual.result c.from_residual.ensures.1 in
    let r = refused c.read_pair.result _ (sym c.ok_or.ensures.value ∙ c.in_err-pair.was) in
    let n = eqb-false _ 0 (sym c.is_empty-in-loop-rest.ensures ∙ c.if-not-is_empty.true) in
    rw (p.1, p.2, r.1)
    (left-bad c.loop-rest.invariant c.cut.result.0.now c.cut.result.1.now c.cut.ensures.before c.cut.ensures.behind
    (omega arith) (sym c.read_pair.ensures ∙ r.0))

pub loop-rest-smaller : goal.loop-rest-smaller
loop-rest-smaller c =
    let n = eqb-false _ 0 (sym c.is_empty.ensures ∙ c.loop-rest-test.true) in
    rw (c.bare-rest.ensures, c.cut.ensures.behind) (less-left c.loop-rest.rest.now (omega arith))

pub loop-rest-preserved : goal.loop-rest-preserved
loop-rest-preserved c =
    elim c.if-not-is_empty.branch [
      | then-not-is_empty+in_ok-pair w ↦
          let n = eqb-false _ 0 (sym c.is_empty-in-loop-rest.ensures ∙ w.if-not-is_empty.true) in
          rw (w.pairs-is, w.keep.ensures, c.bare-rest.ensures)
          (left-on c.loop-rest.invariant c.cut.result.0.now c.cut.result.1.now c.cut.ensures.before c.cut.ensures.behind
          (omega arith) w.in_ok-pair.pair
          (sym w.read_pair.ensures ∙ was_read w.read_pair.result _ (sym w.ok_or.ensures.value ∙ w.in_ok-pair.was)))
      | else-not-is_empty w ↦
          let n = eqb-true _ 0 (sym c.is_empty-in-loop-rest.ensures ∙ w.if-not-is_empty.false) in
          rw (w.pairs-is, c.bare-rest.ensures)
          (left-empty c.loop-rest.invariant c.cut.result.0.now c.cut.result.1.now c.cut.ensures.before
          c.cut.ensures.behind n)
    ]

pub returns : goal.returns
returns c =
    left_end c.args.value.now c.loop-rest.rest.now c.loop-rest.pairs c.loop-rest.invariant
    (eqb-true _ 0 (sym c.is_empty.ensures ∙ c.loop-rest-test.false))
