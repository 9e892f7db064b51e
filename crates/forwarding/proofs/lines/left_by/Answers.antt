-- The lines passed have the flag that the keyword leaves them, the others their own; what is left of the area starts at
-- the next part.
use Prim.Native.Nat.{◌<◌}
use mathlib.Core.Path.{refl, ◌∙◌}
use native.Mathlib.Nat.{zero-mul}
use native.Mathlib.Omega.{arith}
use lib.ListN.{length-take}
use Rattle.laws.proofs.Passing.{part-next}
use Rattle.forwarding.specs.Passing.{held_of, left_by}
use Rattle.forwarding.proofs.LineLaws.{each_next, each_last, left_at, flag-left}
use Rattle.forwarding.proofs.lines.left_by.Goals as goal

pub loop-k-init : goal.loop-k-init
loop-k-init c = (rw zero-mul, refl)

pub slice_bounds-is_left-end : goal.slice_bounds-is_left-end
slice_bounds-is_left-end c =
    let n = c.min-n.result in
    omega (arith, length-take n c.loop-k.area.now)

pub loop-k-preserved : goal.loop-k-preserved
unfolding left_by
loop-k-preserved c =
    let x = c.args in
    let n = c.min-n in
    let l = c.loop-k in
    let more : l.k < 8 = omega arith in (
      part-next x.room x.route.now l.k n.result l.area.now l.invariant.0 n.ensures,
      each_next (left_at x.flags (held_of x.tables x.room x.route.now) x.ttl x.hash) x.flags
          (omega arith) l.k
          more _ _ l.invariant.1
          (c.is_left.ensures
          ∙ flag-left x.flags x.tables x.room x.route.now l.k n.result l.area.now l.invariant.0
          n.ensures x.ttl x.hash),
    )

pub returns : goal.returns
unfolding left_by
returns c =
    let x = c.args in
    c.loop-k.invariant.1
    ∙ each_last (left_at x.flags (held_of x.tables x.room x.route.now) x.ttl x.hash) x.flags (omega arith)
    c.loop-k.k (omega arith)
