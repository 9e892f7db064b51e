-- The pairs left are apart exactly where all are.
use mathlib.Core.Path.{refl, sym, ◌∙◌}
use Rattle.namearea.specs.Good.{apart}
use Rattle.names.proofs.OrderLaws.{pairwise-stop, pairwise-on, pairwise-end}
use borrow.Author.Rules.{rules}
use Rattle.names.proofs.order.all_apart.Goals as goal

pub loop-i-init : goal.loop-i-init
loop-i-init c = refl

pub returns-then-not-apart_behind : goal.returns-then-not-apart_behind
returns-then-not-apart_behind c =
    let x = c.args.list in
    let h = sym c.apart_behind.ensures ∙ c.if-not-apart_behind.true in
    sym (pairwise-stop x.count x.area.now c.loop-i.i apart (search rules) h) ∙ c.loop-i.invariant

pub loop-i-preserved : goal.loop-i-preserved
loop-i-preserved c =
    let x = c.args.list in
    let h = sym c.apart_behind.ensures ∙ c.if-not-apart_behind.false in
    sym (pairwise-on x.count x.area.now c.loop-i.i apart (search rules) h) ∙ c.loop-i.invariant

pub returns : goal.returns
returns c =
    let x = c.args.list in
    sym (pairwise-end x.count x.area.now c.loop-i.i apart (search rules)) ∙ c.loop-i.invariant
