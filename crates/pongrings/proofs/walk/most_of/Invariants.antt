-- The largest so far, with those that are left, is the largest of all.
use Prim.Native.Nat.{max}
use mathlib.Core.Path.{◌≡◌}
use lib.ListN.{drop}
use Rattle.pongrings.specs.Ring.{largest}
use Rattle.pongrings.proofs.walk.most_of.Given as goal

abbrev pub invariant-loop-count : goal.invariant-loop-count
invariant-loop-count l = max l.most (largest (drop l.count-index l.count-items)) ≡ largest l.fn.counts
