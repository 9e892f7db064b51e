-- The two are joined and spread.
use Rattle.names.specs.Chains.{mixed}
use Rattle.names.proofs.chains.mix.Goals as goal

pub returns : goal.returns
unfolding mixed
returns c = c.spread.ensures
