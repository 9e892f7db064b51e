-- Of fewer than four bytes those that are not there are read as zero.
use Rattle.wire.proofs.NumberLaws.{four-padded}
use Rattle.wire.proofs.little4.Goals as goal

pub returns-in-None : goal.returns-in-None
returns-in-None c = cc (four-padded c.args.b.now c.in-None.ensures.cases)
