-- The least at hand, with the entries that are left, gives what all of them give.
use Prim.Native.Nat.{◌<◌}
use mathlib.Core.Path.{◌≡◌}
use lib.ListN.{drop}
use Rattle.tablemerging.specs.Merging.{reaching, nearest}
use Rattle.tablemerger.proofs.nearest_in.Given as goal

abbrev pub invariant-loop-e : goal.invariant-loop-e
invariant-loop-e l =
    (l.least < 256)
    × (nearest l.least (reaching l.infinity (drop l.e-index l.block)) ≡ nearest l.x (reaching l.infinity l.block))
