-- The least offset of the pairs passed.
use Rattle.namelist.proofs.NextLaws.{Lowest}
use Rattle.namelist.proofs.gaps.least_from.Given as goal

abbrev pub invariant-loop-k : goal.invariant-loop-k
invariant-loop-k l = Lowest l.area l.from l.k l.best l.least
