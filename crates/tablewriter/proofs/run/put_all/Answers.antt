-- With an old table the run alone; without one the RESET, and the run in the part of `out` behind it.
use Prim.Native.Nat.{◌-◌}
use mathlib.Core.Path.{ap, ◌∙◌}
use native.Mathlib.Omega.{arith}
use lib.ListN.{length, length-take, length-drop}
use Rattle.laws.specs.Parts.{over}
use Rattle.tablemessages.specs.Steps.{reset_length}
use Rattle.tablemessages.proofs.AllLaws.{more_room, all-had, all-stored}
use Rattle.tablewriter.proofs.run.put_all.Goals as goal

pub returns-then-plan : goal.returns-then-plan
returns-then-plan c =
    let x = c.args in
    c.put_run.ensures
    ∙ ap (λ b. over 0 b x.out.now) (all-had x.number x.plan x.old.now x.new.now c.if-plan.true)

pub put_reset-requires : goal.put_reset-requires
put_reset-requires c =
    omega (arith, ap reset_length c.if-plan.false, c.requires.reset)

pub slice_bounds-put_run-count : goal.slice_bounds-put_run-count
slice_bounds-put_run-count c =
    omega (arith, ap reset_length c.if-plan.false, c.requires.reset)

pub slice_bounds-put_run-start : goal.slice_bounds-put_run-start
slice_bounds-put_run-start c =
    omega (arith, ap reset_length c.if-plan.false, c.requires.reset)

pub put_run-requires-else-plan : goal.put_run-requires-else-plan
put_run-requires-else-plan c =
    let x = c.args in
    let q = c.requires in
    more_room x.number x.plan x.old.now x.new.now (length x.out.now - reset_length x.plan.had) _
    q.run
    (simp (length-take, length-drop) (omega (arith, ap reset_length c.if-plan.false)))

pub returns-else-plan : goal.returns-else-plan
returns-else-plan c =
    let x = c.args in
    let q = c.requires in
    all-stored x.number x.plan x.old.now x.new.now x.out.now
    c.put_reset.new.part c.put_run-else-plan.new.out
    (omega arith)
    c.if-plan.false
    (omega (arith, ap reset_length c.if-plan.false, q.reset, q.run.fits))
    c.put_reset.ensures
    c.put_run-else-plan.ensures
