-- `good` is the test of the bytes passed.
use mathlib.Core.Path.{◌≡◌}
use lib.ListN.{take}
use Rattle.laws.specs.Tests.{all}
use Rattle.memory.specs.Order.{fits_beside}
use Rattle.memory.proofs.askers.all_fit_beside.Given as goal

abbrev pub invariant-loop-a : goal.invariant-loop-a
invariant-loop-a l = l.good ≡ all (fits_beside l.line) (take l.a-index l.part)
