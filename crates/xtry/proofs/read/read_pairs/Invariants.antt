-- The pairs kept so far and the items that are left give the answer of the whole value.
use lib.ListN.{length}
use Rattle.xtry.proofs.Items.{Left}
use Rattle.xtry.proofs.read.read_pairs.Given as goal

abbrev pub invariant-loop-rest : goal.invariant-loop-rest
invariant-loop-rest l = Left l.value l.rest l.pairs

abbrev pub decreases-loop-rest : goal.decreases-loop-rest
decreases-loop-rest l = length l.rest
