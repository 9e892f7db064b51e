-- The pairs left may all be listed exactly where all may.
use mathlib.Core.Path.{refl, sym, ◌∙◌}
use native.Mathlib.Omega.{arith}
use Rattle.namearea.specs.Good.{listable}
use Rattle.namearea.proofs.SpanLaws.{pair-there}
use Rattle.names.proofs.OrderLaws.{each-stop, each_on, each-end}
use borrow.Author.Rules.{rules}
use Rattle.names.proofs.order.all_listable.Goals as goal

pub loop-i-init : goal.loop-i-init
loop-i-init c = refl

pub returns-then-not-is_listable : goal.returns-then-not-is_listable
returns-then-not-is_listable c =
    let x = c.args.list in
    let there = pair-there x.area.now c.loop-i.i (omega arith) (omega arith) in
    let e = rw (c.pair_at.ensures ∙ there) at c.is_listable.ensures in
    let h = sym e ∙ c.if-not-is_listable.true in
    sym (each-stop x.count x.area.now c.loop-i.i (listable x.area.now) (search rules) h) ∙ c.loop-i.invariant

pub loop-i-preserved : goal.loop-i-preserved
loop-i-preserved c =
    let x = c.args.list in
    let there = pair-there x.area.now c.loop-i.i (omega arith) (omega arith) in
    let e = rw (c.pair_at.ensures ∙ there) at c.is_listable.ensures in
    let h = sym e ∙ c.if-not-is_listable.false in
    sym (each_on x.count x.area.now c.loop-i.i (listable x.area.now) (search rules) h) ∙ c.loop-i.invariant

pub returns : goal.returns
returns c =
    let x = c.args.list in
    sym (each-end x.count x.area.now c.loop-i.i (listable x.area.now) (search rules)) ∙ c.loop-i.invariant
