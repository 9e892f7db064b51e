-- The bytes up to where the last name ends, from where the first begins.
use Rattle.names.proofs.order.no_zero_along.Goals as goal

pub returns : goal.returns
returns c = cc
