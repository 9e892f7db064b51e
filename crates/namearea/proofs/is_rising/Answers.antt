-- The pairs left rise exactly where all do.
use mathlib.Core.Path.{sym, ap, ◌∙◌}
use Rattle.namearea.specs.Good.{rising_from}
use Rattle.namearea.proofs.SpanLaws.{left-all, rising-stop, rising-on, rising-end}
use borrow.Author.Rules.{rules}
use Rattle.namearea.proofs.is_rising.Goals as goal

pub loop-i-init : goal.loop-i-init
loop-i-init c = ap (rising_from 0) (left-all c.args.count c.args.area.now)

pub returns-then-s-low : goal.returns-then-s-low
returns-then-s-low c =
    let x = c.args in
    let h = rw c.span_at-s.ensures at c.if-s-low.true in
    sym (rising-stop x.count x.area.now c.loop-i.i c.loop-i.low (search rules) h) ∙ c.loop-i.invariant

pub loop-i-preserved : goal.loop-i-preserved
loop-i-preserved c =
    let x = c.args in
    let e = c.span_at-s.ensures in
    let h = rw e at c.if-s-low.false in
    let d = rw e at c.end_of-low.ensures in
    rw d (sym (rising-on x.count x.area.now c.loop-i.i c.loop-i.low (search rules) h) ∙ c.loop-i.invariant)

pub returns : goal.returns
returns c =
    let x = c.args in
    sym (rising-end x.count x.area.now c.loop-i.i c.loop-i.low (search rules)) ∙ c.loop-i.invariant
