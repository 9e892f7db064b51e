-- What was passed by blocks, and the run that is left, are the whole run.
use Prim.Native.Nat.{◌+◌}
use mathlib.Core.Path.{◌≡◌}
use lib.ListN.{length}
use Rattle.keywords.specs.Keywords.{leading, matching}
use Rattle.keywords.proofs.cut.long_run.Given as goal

abbrev pub invariant-loop-rest : goal.invariant-loop-rest
invariant-loop-rest l = (l.at + length l.rest ≡ length l.text)
    × (leading (matching l.wanted) l.text ≡ l.at + leading (matching l.wanted) l.rest)

abbrev pub decreases-loop-rest : goal.decreases-loop-rest
decreases-loop-rest l = length l.rest
