-- The first 2 j entries are merged, the others as they were.
use Prim.Native.Nat.{◌-◌, ◌*◌}
use lib.ListN.{length}
use Rattle.tablemerger.proofs.MergeSteps.{Merging}
use Rattle.tablemerger.proofs.merge_half.Given as goal

abbrev pub invariant-loop-j : goal.invariant-loop-j
invariant-loop-j l = Merging l.infinity l.table l.initial.entries l.entries (2 * l.j)

abbrev pub decreases-loop-j : goal.decreases-loop-j
decreases-loop-j l = length l.table - l.j
