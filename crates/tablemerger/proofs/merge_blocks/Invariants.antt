-- The first i entries are merged, the others as they were; what is left of the table starts at block i.
use Prim.Native.Nat.{◌-◌, ◌*◌}
use mathlib.Core.Path.{◌≡◌}
use lib.ListN.{length, drop}
use Rattle.tablemerger.proofs.MergeSteps.{Merging}
use Rattle.tablemerger.proofs.merge_blocks.Given as goal

abbrev pub invariant-loop-i : goal.invariant-loop-i
invariant-loop-i l =
    Merging l.infinity l.table l.initial.entries l.entries l.i × (l.rest ≡ drop (l.i * l.size) l.table)

abbrev pub decreases-loop-i : goal.decreases-loop-i
decreases-loop-i l = length l.initial.entries - l.i
