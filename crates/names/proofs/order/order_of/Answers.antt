-- A pair that does not fit ends the pass; each other is seen, and whether it rises.
use mathlib.Core.Path.{sym, ap, ◌∙◌}
use mathlib.Core.Bool.{cond}
use native.Mathlib.Omega.{arith}
use Rattle.namearea.proofs.SpanLaws.{pair-there}
use Rattle.names.proofs.OrderLaws.{seen_start, seen-stop, seen_next, seen_end}
use borrow.Author.Rules.{rules}
use Rattle.names.proofs.order.order_of.Goals as goal

pub loop-i-init : goal.loop-i-init
loop-i-init c = seen_start c.args.list.count c.args.list.area.now

pub returns-then-not-is_fit : goal.returns-then-not-is_fit
returns-then-not-is_fit c =
    let x = c.args.list in
    let there = pair-there x.area.now c.loop-i.i (omega arith) (omega arith) in
    let e = rw (c.pair_at-s.ensures ∙ there) at c.is_fit.ensures in
    let h = sym e ∙ c.if-not-is_fit.true in
    sym (seen-stop x.count x.area.now _ _ _ c.loop-i.invariant (search rules) h)

pub loop-i-preserved : goal.loop-i-preserved
loop-i-preserved c =
    let x = c.args.list in
    let there = pair-there x.area.now c.loop-i.i (omega arith) (omega arith) in
    let p = c.pair_at-s.ensures ∙ there in
    let e = rw p at c.is_fit.ensures in
    let h = sym e ∙ c.if-not-is_fit.false in
    let d = rw p at c.end_of-low.ensures in
    rw (d, p)
    (seen_next x.count x.area.now _ _ _ c.loop-i.invariant (search rules) h)

pub returns-then-rising : goal.returns-then-rising
returns-then-rising c =
    let x = c.args.list in
    let e = seen_end x.count x.area.now _ _ _ c.loop-i.invariant (search rules) in
    sym (e ∙ ap (λ b. cond b 2 1) c.if-rising.true)

pub returns-else-rising : goal.returns-else-rising
returns-else-rising c =
    let x = c.args.list in
    let e = seen_end x.count x.area.now _ _ _ c.loop-i.invariant (search rules) in
    sym (e ∙ ap (λ b. cond b 2 1) c.if-rising.false)
