-- Two numbers of four bytes, one behind the other.
use Rattle.names.proofs.chains.word.Goals as goal

pub returns : goal.returns
returns c = cc
