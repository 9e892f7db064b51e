-- Message after message: each carries what is left of the data, or as much as a message may, and stands behind the one
-- before.
use Prim.Native.Nat.{◌+◌, ◌-◌, ◌≤◌, ◌<◌, min}
use mathlib.Core.Path.{◌≡◌, ap, sym, ◌∙◌}
use native.Mathlib.Omega.{arith}
use lib.ListN.{length, length-take, length-drop}
use Rattle.tablemessages.specs.Steps.{data_by}
use Rattle.tablemessages.proofs.PlanLaws.{plan-length}
use Rattle.tablemessages.proofs.TurnLaws.{begins, ends, turn, turn_data, turn-place, turn-room}
use Rattle.tablewriter.proofs.run.put_run.Goals.{After-min-n}
use Rattle.tablewriter.proofs.run.put_run.Goals as goal

-- what is known once the message's data is counted
least : (c : After-min-n)
    → let x = c.args in
    c.min-n.result ≡ min x.plan.size
    (length (data_by x.plan x.old.now x.new.now) - c.loop-from.from)
least c =
    c.min-n.ensures ∙ ap (λ k. min c.args.plan.size
    (k - c.loop-from.from)) c.loop-from.invariant.0

bounds : (c : After-min-n)
    → let x = c.args in
    let i = c.loop-from in
    (i.at + 28 + c.min-n.result ≤ length i.out)
    × (i.place ≤ x.plan.count)
    × (i.from + c.min-n.result ≤ length (data_by x.plan x.old.now x.new.now))
    × (c.min-n.result ≤ 4091)
    × (0 < c.min-n.result)
bounds c =
    let x = c.args in
    let q = c.requires in
    let i = c.loop-from in
    let l = least c in
    let d = data_by x.plan x.old.now x.new.now in
    let n = c.min-n.result in
    let m : i.from < length d = omega arith in
    let s : length x.number ≡ 16 = omega arith in
    let r = turn-room x.number s x.plan q.some d x.out.now i.out i.place i.from i.at
    i.invariant.1 n m l in (
      omega (arith, r, i.invariant.1.long, q.fits),
      turn-place x.number s x.plan q.some d x.out.now i.out i.place i.from
          i.at i.invariant.1 n m l,
      turn_data x.number s x.plan q.some d x.out.now i.out i.place i.from
          i.at i.invariant.1 n m l,
      omega (arith, q.most),
      omega (arith, q.some),
    )

pub loop-from-init : goal.loop-from-init
loop-from-init c =
    let x = c.args in
    let q = c.requires in (
      c.data_length-data.ensures ∙ sym (plan-length x.plan x.old.now x.new.now q.sound),
      begins x.number x.plan (data_by x.plan x.old.now x.new.now) x.out.now q.parts,
    )

pub overflow_add-end : goal.overflow_add-end
overflow_add-end c = omega (arith, (bounds c).0)

pub overflow_add-end-in-loop-from : goal.overflow_add-end-in-loop-from
overflow_add-end-in-loop-from c = omega (arith, (bounds c).0)

pub overflow_cast-place : goal.overflow_cast-place
overflow_cast-place c = omega (arith, (bounds c).1)

pub slice_bounds-put_patch-end : goal.slice_bounds-put_patch-end
slice_bounds-put_patch-end c = (bounds c).0

pub put_patch-requires : goal.put_patch-requires
put_patch-requires c =
    let b = bounds (goal.at.put_patch-requires c).After-min-n in
    (c.requires.sound, b.2, b.3, simp (length-take, length-drop) (omega (arith, b.0)))

pub overflow_add-from : goal.overflow_add-from
overflow_add-from c =
    omega (arith, (bounds ((goal.at.overflow_add-from c).After-min-n)).2, c.loop-from.invariant.0)

pub overflow_add-place : goal.overflow_add-place
overflow_add-place c = omega (arith, (bounds (goal.at.overflow_add-place c).After-min-n).1)

pub loop-from-smaller : goal.loop-from-smaller
loop-from-smaller c = omega (arith, (bounds (goal.at.loop-from-smaller c).After-min-n).4)

pub loop-from-preserved : goal.loop-from-preserved
loop-from-preserved c =
    let x = c.args in
    let q = c.requires in
    let i = c.loop-from in
    let n = c.min-n.result in
    let b = bounds ((goal.at.loop-from-preserved c).After-min-n) in
    let m : i.from < length (data_by x.plan x.old.now x.new.now) = omega arith in (
      i.invariant.0,
      turn x.number (omega arith) x.plan q.some (data_by x.plan x.old.now x.new.now) x.out.now
          i.out i.place i.from
          i.at i.invariant.1 n m
          (least ((goal.at.loop-from-preserved c).After-min-n)) (i.at + 28 + n - i.at) _ (omega arith) (omega (arith, b.0))
          c.put_patch.ensures,
    )

pub shape_of-out : goal.shape_of-out
shape_of-out c = c.loop-from.invariant.1.long

pub returns : goal.returns
returns c =
    let x = c.args in
    let q = c.requires in
    let i = c.loop-from in
    ends x.number (omega arith) x.plan q.some (data_by x.plan x.old.now x.new.now) x.out.now
    i.out i.place i.from
    i.at i.invariant.1 (omega arith)
