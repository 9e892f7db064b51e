-- The parts of the fresh state.
use mathlib.Core.Path.{◌∙◌}
use Rattle.station.proofs.CallLaws.{begun-is}
use Rattle.station.proofs.changes.begin.Goals as goal

pub returns : goal.returns
returns c =
    begun-is c.args.length (c.unwrap_or.ensures ∙ c.room_of-room.ensures.room)
    (c.answer.ensures ∙ c.room_of-room.ensures.answer) c.empty_line.ensures
