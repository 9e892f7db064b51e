-- Each turn moves the next text.
use Prim.Native.Nat.{◌-◌}
use lib.ListN.{length}
use Rattle.namelist.proofs.GapLaws.{Turn}
use Rattle.namelist.proofs.gaps.close_gaps.Given as goal

abbrev pub invariant-loop-k : goal.invariant-loop-k
invariant-loop-k l = Turn l.initial.area l.area l.rising l.i l.from l.to

abbrev pub decreases-loop-k : goal.decreases-loop-k
decreases-loop-k l = length l.initial.area - l.from
