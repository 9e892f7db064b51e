-- `good` is the test of the passes made: nobody, and the lines below k.
use mathlib.Core.Path.{◌≡◌}
use mathlib.Core.Bool.{false}
use lib.ListN.{get_or}
use Rattle.laws.specs.Tests.{all}
use Rattle.memory.proofs.AskerLaws.{fits_to}
use Rattle.memory.proofs.askers.part_fits.Given as goal

abbrev pub invariant-loop-k : goal.invariant-loop-k
invariant-loop-k l = l.good ≡ all (fits_to (λ j. get_or l.live j false) l.k) l.part
