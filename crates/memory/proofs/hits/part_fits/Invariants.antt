-- `good` is the test of the bytes passed.
use mathlib.Core.Path.{◌≡◌}
use lib.ListN.{take}
use Rattle.laws.specs.Tests.{all}
use Rattle.protocol.specs.Memory.{hits_fit}
use Rattle.memory.proofs.hits.part_fits.Given as goal

abbrev pub invariant-loop-n : goal.invariant-loop-n
invariant-loop-n l = l.good ≡ all hits_fit (take l.n-index l.part)
