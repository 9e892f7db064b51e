-- Behind the last text, or behind all once the gaps are closed.
use Rattle.namelist.proofs.GapLaws.{closed-room}
use Rattle.namelist.proofs.gaps.place_for.Goals as goal

pub returns : goal.returns
returns c =
    closed-room c.requires.0.good c.requires.0.long c.requires.1 c.close_gaps.ensures
