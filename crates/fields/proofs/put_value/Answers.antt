-- What was written and what is still to be written make the whole value.
use Prim.Native.Nat.{◌+◌, ◌≤◌, ◌<◌}
use native.Mathlib.Omega.{arith}
use mathlib.Core.Path.{◌∙◌}
use lib.ListN.{length}
use Rattle.fields.proofs.FieldLaws.{next_fits, writing-all, writing-here, writing-end, writing-room}
use Rattle.fields.proofs.FieldLaws.{writing-on}
use borrow.Author.Rules.{rules}
use Rattle.fields.proofs.put_value.Goals.{After-new-line}
use Rattle.fields.proofs.put_value.Goals as goal

pub loop-at-init : goal.loop-at-init
loop-at-init c =
    let x = c.args in
    writing-all x.s.now x.name.now x.value.length x.value.first x.out.now c.requires.whole_from
    (c.requires.long_value, c.requires.room)

pub put-at-requires : goal.put-at-requires
put-at-requires c =
    writing-room c.loop-at.invariant (search rules) c.new-line.result.text.now
    (c.new-line.ensures ∙ c.line_at.ensures) c.step-added.result c.step-added.ensures
    c.after.result.now c.after.ensures

-- bytes of the value are left, so a line is, and it fits
line-here : (k : After-new-line) → k.loop-at.next < length k.args.s.now
line-here k = writing-here k.loop-at.invariant (search rules)

line-fits : (k : After-new-line) → k.loop-at.next + length k.new-line.result.text.now ≤ length k.args.s.now
line-fits k =
    next_fits k.args.s.now k.new-line.result.text.now k.loop-at.next (line-here k)
    (k.new-line.ensures ∙ k.line_at.ensures)

pub overflow_add-next : goal.overflow_add-next
overflow_add-next c = omega (arith, line-fits (goal.at.overflow_add-next c).After-new-line)

pub overflow_add-next-in-loop-at : goal.overflow_add-next-in-loop-at
overflow_add-next-in-loop-at c = omega (arith, line-fits (goal.at.overflow_add-next-in-loop-at c).After-new-line)

pub loop-at-smaller : goal.loop-at-smaller
loop-at-smaller c = omega (arith, line-here (goal.at.loop-at-smaller c).After-new-line)

pub loop-at-preserved : goal.loop-at-preserved
loop-at-preserved c =
    writing-on c.loop-at.invariant (search rules) c.new-line.result.text.now (c.new-line.ensures ∙ c.line_at.ensures)
    c.step-added.result c.step-added.ensures
    c.after.result.now c.after.ensures
    c.put-at.result _ c.put-at.ensures.value c.put-at.ensures.out_after
    c.put-at.auto.out

pub shape_of-out : goal.shape_of-out
shape_of-out c = c.loop-at.invariant.size

pub returns : goal.returns
returns c = writing-end c.loop-at.invariant (search rules)
