-- After i turns the first i askers are those after the line has closed, and the rest are as they were.
use mathlib.Core.Path.{◌≡◌}
use lib.ListN.{length}
use Rattle.laws.proofs.InPlace.{mapped}
use Rattle.protocol.specs.Memory.{left}
use Rattle.memory.proofs.leave.leave.Given as goal

abbrev pub invariant-loop-a : goal.invariant-loop-a
invariant-loop-a l =
    (length l.asker ≡ length l.initial.asker) × (l.asker ≡ mapped (left l.line) l.initial.asker l.a-index)
