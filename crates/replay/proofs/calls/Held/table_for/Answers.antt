-- A table call tells its answer, and the Infinity where that is 0.
use Rattle.relaying.specs.Calls.{making}
use Rattle.replay.proofs.calls.Held.table_for.Goals as goal

pub returns : goal.returns
unfolding making
returns c = rw c.table_for.ensures.told
