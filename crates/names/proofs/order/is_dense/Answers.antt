-- The two pairs, and the test of the definition.
use Rattle.names.specs.Order.{dense}
use Rattle.names.proofs.order.is_dense.Goals as goal

pub returns : goal.returns
unfolding dense
returns c = cc
