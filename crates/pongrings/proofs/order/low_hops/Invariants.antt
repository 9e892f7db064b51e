-- What is left to look at is the Hops before the place, as many as are still to come.
use Prim.Native.Nat.{◌≤◌, ◌<◌, ◌-◌}
use mathlib.Core.Path.{◌≡◌}
use Rattle.pongrings.specs.Ring.{low_at}
use Rattle.pongrings.proofs.order.low_hops.Given as goal

abbrev pub invariant-loop : goal.invariant-loop
invariant-loop l =
    (l.counter ≤ l.count) × (l.place < 10) × (low_at l.hops l.place (l.count - l.counter) ≡ low_at l.hops l.next l.count)
