-- The places from `at` to `from` have been passed: none of their names is the one looked for.
use Rattle.namearea.specs.Area.{name_at}
use Rattle.names.proofs.WalkLaws.{Walking}
use Rattle.names.proofs.chains.Chains.walk.Given as goal

abbrev pub invariant-loop-at : goal.invariant-loop-at
invariant-loop-at l = Walking (name_at l.area) l.from l.name l.at

abbrev pub decreases-loop-at : goal.decreases-loop-at
decreases-loop-at l = l.at
