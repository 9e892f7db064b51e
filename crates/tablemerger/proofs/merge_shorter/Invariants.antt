-- The first j blocks of the entries are merged, the others as they were.
use Prim.Native.Nat.{◌*◌}
use Rattle.tablemerger.proofs.MergeSteps.{Merging}
use Rattle.tablemerger.proofs.merge_shorter.Given as goal

abbrev pub invariant-loop-j : goal.invariant-loop-j
invariant-loop-j l = Merging l.infinity l.table l.initial.entries l.entries (l.j * l.size)
