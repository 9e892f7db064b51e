-- Nothing is chained yet.
use Rattle.names.proofs.ChainLaws.{chain-none}
use Rattle.names.proofs.chains.Chains.new.Goals as goal

pub returns : goal.returns
returns c = chain-none
