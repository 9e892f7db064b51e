-- The largest so far, with those that are left, is the largest of all.
use native.Mathlib.Omega.{arith}
use borrow.Author.Rules.{rules}
use Rattle.pongrings.proofs.WalkLaws.{largest-on, largest-end}
use Rattle.pongrings.proofs.walk.most_of.Goals as goal

pub loop-count-init : goal.loop-count-init
loop-count-init c = omega arith

pub loop-count-preserved : goal.loop-count-preserved
loop-count-preserved c =
    let e = largest-on c.args.counts c.loop-count.count-index (omega arith) in
    search rules

pub returns : goal.returns
returns c =
    let e = largest-end c.args.counts c.loop-count.count-index (omega arith) in
    omega arith
