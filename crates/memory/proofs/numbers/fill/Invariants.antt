-- The filter was brought on to p.
use mathlib.Core.Path.{◌≡◌}
use lib.ListN.{length}
use Rattle.memory.specs.Order.{BroughtOn}
use Rattle.memory.proofs.numbers.fill.Given as goal

abbrev pub invariant-loop-p : goal.invariant-loop-p
invariant-loop-p l =
    (length l.filter ≡ 1024) × BroughtOn l.lo l.from l.p l.initial.filter l.filter
