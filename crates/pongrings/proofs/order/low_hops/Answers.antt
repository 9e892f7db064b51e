-- What is left to look at is the Hops before the place, as many as are still to come.
use native.Mathlib.Nat.{sub-zero}
use native.Mathlib.Omega.{arith}
use Rattle.pongrings.proofs.RingLaws.{low-on, low_end}
use Rattle.pongrings.proofs.order.low_hops.Goals as goal

pub loop-init : goal.loop-init
loop-init c = (omega arith, c.requires, rw sub-zero)

pub loop-preserved : goal.loop-preserved
loop-preserved c =
    let x = c.args in (
      omega arith,
      omega arith,
      low-on x.hops c.loop.place x.count c.loop.counter _ c.loop.invariant.2 _
          c.place_before-place.ensures (omega arith) (omega arith),
    )

pub returns : goal.returns
returns c =
    let x = c.args in
    low_end x.hops c.loop.place x.count c.loop.counter _ c.loop.invariant.2 c.loop-test.false
