-- A ring that remembers nothing, with the room and the lines.
use Rattle.station.proofs.CallLaws.{fresh-met}
use Rattle.lunozhar.proofs.calls.lunozhar_fresh_lent.Goals as goal

pub returns : goal.returns
returns c = rw c.fresh.ensures (fresh-met _ c.begin.ensures)
