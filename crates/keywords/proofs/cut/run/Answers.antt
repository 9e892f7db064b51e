-- What was passed and the run that is left are the whole run.
use mathlib.Core.Path.{◌≡◌, ◌∙◌}
use mathlib.Core.Bool.{beq}
use native.Mathlib.Omega.{arith}
use lib.ListN.{get_or, drop_of_length-le}
use borrow.Author.Rules.{rules}
use borrow.Author.Tests.{not-true, not-false}
use Rattle.keywords.specs.Keywords.{matching}
use Rattle.keywords.proofs.CutLaws.{leading-on, leading-off, matching-is}
use Rattle.keywords.proofs.cut.run.Goals.{After-is_separator}
use Rattle.keywords.proofs.cut.run.Goals as goal

-- whether the byte at hand is passed, as the code tests it
passed : (c : After-is_separator)
    → matching c.args.wanted
    (get_or c.args.text.now c.loop-i.i 0)
    ≡ beq c.is_separator.result c.args.wanted
passed c = matching-is c.args.wanted c.is_separator.result _
    c.is_separator.ensures

pub returns-then-is_separator-wanted : goal.returns-then-is_separator-wanted
returns-then-is_separator-wanted c =
    let a = c.args in
    let z = leading-off (matching a.wanted) a.text.now c.loop-i.i (search rules)
    (passed (goal.at.returns-then-is_separator-wanted c).After-is_separator ∙ not-true _ c.if-is_separator-wanted.true) in
    omega arith

pub loop-i-preserved : goal.loop-i-preserved
loop-i-preserved c =
    let a = c.args in
    let z = leading-on (matching a.wanted) a.text.now c.loop-i.i (search rules)
    (passed (goal.at.loop-i-preserved c).After-is_separator ∙ not-false _ c.if-is_separator-wanted.false) in
    (search rules, omega arith)

pub returns : goal.returns
returns c =
    let h = rw (drop_of_length-le c.args.text.now c.loop-i-test.false)
    at c.loop-i.invariant.1 in
    omega arith
