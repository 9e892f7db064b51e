-- What was passed by blocks, and the run that is left, are the whole run.
use Prim.Native.Nat.{◌+◌}
use mathlib.Core.Path.{◌≡◌, sym, ap, ◌∙◌}
use mathlib.Core.Bool.{true}
use native.Mathlib.Omega.{arith}
use lib.ListN.{take, length-drop}
use borrow.Author.Tests.{not-false}
use Rattle.laws.specs.Tests.{all}
use Rattle.laws.proofs.Parts.{part_tail}
use Rattle.keywords.specs.Keywords.{matching}
use Rattle.keywords.specs.Blocks.{block}
use Rattle.keywords.proofs.CutLaws.{leading-within, leading-block}
use Rattle.keywords.proofs.cut.long_run.Goals as goal

pub loop-rest-init : goal.loop-rest-init
loop-rest-init c = (omega arith, omega arith)

-- the run lies within the text, so that its end is a number of the code
pub overflow_add-result : goal.overflow_add-result
overflow_add-result c =
    let a = c.args in
    let w = leading-within (matching a.wanted) c.loop-rest.rest.now in
    omega (arith, c.run.ensures, c.loop-rest.invariant.0, w)

pub returns-then-has_other : goal.returns-then-has_other
returns-then-has_other c =
    let loop = c.loop-rest in
    ap (λ n. loop.at + n) c.run.ensures ∙ sym loop.invariant.1

pub loop-rest-preserved : goal.loop-rest-preserved
loop-rest-preserved c =
    let at = c.loop-rest in
    let rest = at.rest.now in
    let f = matching c.args.wanted in
    let large = c.loop-rest-test.true in
    let same : all f (take block rest) ≡ true =
    ap (all f) (sym c.front.ensures)
    ∙ not-false _ (sym c.has_other.ensures ∙ c.if-has_other.false) in
    let passed = leading-block f block rest large same in
    let left = length-drop block rest in
    rw part_tail (omega arith, omega (arith, at.invariant.1, passed))

pub overflow_add-result-2 : goal.overflow_add-result-2
overflow_add-result-2 c =
    let a = c.args in
    let w = leading-within (matching a.wanted) c.loop-rest.rest.now in
    omega (arith, c.run-2.ensures, c.loop-rest.invariant.0, w)

pub returns : goal.returns
returns c =
    let loop = c.loop-rest in
    ap (λ n. loop.at + n) c.run-2.ensures ∙ sym loop.invariant.1
