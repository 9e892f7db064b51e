-- The bytes of the header are all that is read; those that are not there are read as zero.
use Rattle.wire.proofs.NumberLaws.{header-front, header-padded}
use Rattle.wire.proofs.read_header.Goals as goal

pub returns-in-Some : goal.returns-in-Some
returns-in-Some c = cc (header-front c.args.m.now, c.in-Some.ensures.cases.same)

pub returns-in-None : goal.returns-in-None
returns-in-None c = cc (header-padded c.args.m.now c.in-None.ensures.cases)
