-- Two numbers for each byte gone through are added, and those left fit and complete the whole sum.
use Prim.Native.Nat.{◌-◌, ◌*◌}
use lib.ListN.{length}
use Rattle.tables.specs.Patch.{numbers}
use Rattle.tables.proofs.NumberLaws.{Adding}
use Rattle.tablereader.proofs.numbers.add_nibbles.Given as goal

abbrev pub invariant-loop-at : goal.invariant-loop-at
invariant-loop-at l = Adding 4 (numbers 4 l.bytes) l.initial.entries l.entries (l.at * 2)

abbrev pub decreases-loop-at : goal.decreases-loop-at
decreases-loop-at l = length l.bytes - l.at
