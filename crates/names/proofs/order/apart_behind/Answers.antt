-- The pairs left are apart from pair i exactly where all behind it are.
use mathlib.Core.Path.{refl, sym, ◌∙◌}
use native.Mathlib.Omega.{arith}
use Rattle.namearea.specs.Area.{span_at}
use Rattle.namearea.specs.Good.{apart}
use Rattle.namearea.proofs.SpanLaws.{pair-there}
use Rattle.names.proofs.OrderLaws.{each-stop, each_on, each-end}
use borrow.Author.Rules.{rules}
use Rattle.names.proofs.order.apart_behind.Goals as goal

pub loop-k-init : goal.loop-k-init
loop-k-init c = refl

pub returns-then-not-are_apart : goal.returns-then-not-are_apart
returns-then-not-are_apart c =
    let x = c.args.list in
    let own = c.pair_at-s.ensures ∙ pair-there x.area.now c.args.i (omega arith) (omega arith) in
    let there = pair-there x.area.now c.loop-k.k (omega arith) (omega arith) in
    let e = rw (own, c.pair_at.ensures ∙ there) at c.are_apart.ensures in
    let h = sym e ∙ c.if-not-are_apart.true in
    sym (each-stop x.count x.area.now c.loop-k.k (apart (span_at x.area.now c.args.i)) (search rules) h)
    ∙ c.loop-k.invariant

pub loop-k-preserved : goal.loop-k-preserved
loop-k-preserved c =
    let x = c.args.list in
    let own = c.pair_at-s.ensures ∙ pair-there x.area.now c.args.i (omega arith) (omega arith) in
    let there = pair-there x.area.now c.loop-k.k (omega arith) (omega arith) in
    let e = rw (own, c.pair_at.ensures ∙ there) at c.are_apart.ensures in
    let h = sym e ∙ c.if-not-are_apart.false in
    sym (each_on x.count x.area.now c.loop-k.k (apart (span_at x.area.now c.args.i)) (search rules) h)
    ∙ c.loop-k.invariant

pub returns : goal.returns
returns c =
    let x = c.args.list in
    sym (each-end x.count x.area.now c.loop-k.k (apart (span_at x.area.now c.args.i)) (search rules))
    ∙ c.loop-k.invariant
