-- What was passed and the run that is left are the whole run.
use Prim.Native.Nat.{◌+◌, ◌-◌, ◌≤◌}
use mathlib.Core.Path.{◌≡◌}
use lib.ListN.{length, drop}
use Rattle.keywords.specs.Keywords.{leading, matching}
use Rattle.keywords.proofs.cut.run.Given as goal

abbrev pub invariant-loop-i : goal.invariant-loop-i
invariant-loop-i l = (l.i ≤ length l.text)
    × (leading (matching l.wanted) l.text ≡ l.i + leading (matching l.wanted) (drop l.i l.text))

abbrev pub decreases-loop-i : goal.decreases-loop-i
decreases-loop-i l = length l.text - l.i
