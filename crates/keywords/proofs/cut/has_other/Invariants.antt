-- The block is of one kind exactly if nothing else was met so far, and what is left is of that kind.
use Prim.Native.Nat.{◌-◌, ◌≤◌}
use mathlib.Core.Path.{◌≡◌}
use mathlib.Core.Bool.{not, ◌&&◌}
use lib.ListN.{length, drop}
use Rattle.laws.specs.Tests.{all}
use Rattle.keywords.specs.Keywords.{matching}
use Rattle.keywords.proofs.cut.has_other.Given as goal

abbrev pub invariant-loop-i : goal.invariant-loop-i
invariant-loop-i l = (l.i ≤ length l.block)
    × (all (matching l.wanted) l.block ≡ (not l.other && all (matching l.wanted) (drop l.i l.block)))

abbrev pub decreases-loop-i : goal.decreases-loop-i
decreases-loop-i l = length l.block - l.i
