-- The first i bytes of the data from `from` on stand at the front of the part, whose length stays.
use mathlib.Core.Path.{◌≡◌, refl, ap, sym, ◌∙◌}
use native.Mathlib.Omega.{arith}
use lib.ListN.{take, drop, set, length-set, length-drop}
use lib.Seq.{get_or-drop}
use Rattle.laws.specs.Parts.{over}
use Rattle.laws.proofs.Writing.{byte_next}
use Rattle.tablemessages.specs.Steps.{data_by}
use Rattle.tablemessages.proofs.PlanLaws.{plan-short}
use Rattle.tablewriter.proofs.data.put_data.Goals as goal

pub loop-i-init : goal.loop-i-init
loop-i-init c = (omega arith, refl, refl)

pub overflow_add-from : goal.overflow_add-from
overflow_add-from c =
    let x = c.args in
    let p = c.requires in
    omega (arith, plan-short x.plan x.old.now x.new.now p.0)

pub loop-i-preserved : goal.loop-i-preserved
loop-i-preserved c =
    let x = c.args in
    let p = c.requires in
    let i = c.loop-i.i in
    let v = c.loop-i.invariant in
    let d = data_by x.plan x.old.now x.new.now in (
      omega arith,
      ap (λ a. set a i c.data_byte.result) v.1
          ∙ ap (set (over 0 (take i (drop x.from d)) x.part.now) i) (c.data_byte.ensures
          ∙ sym (get_or-drop x.from d i 0))
          ∙ byte_next (drop x.from d) x.part.now i (rw length-drop (omega arith)) (omega arith),
      simp length-set v.2,
    )

pub shape_of-part : goal.shape_of-part
shape_of-part c = c.loop-i.invariant.2

pub returns : goal.returns
returns c =
    let x = c.args in
    let e : c.loop-i.i ≡ x.n = omega arith in
    c.loop-i.invariant.1
    ∙ ap (λ k. over 0 (take k (drop x.from (data_by x.plan x.old.now x.new.now))) x.part.now) e
