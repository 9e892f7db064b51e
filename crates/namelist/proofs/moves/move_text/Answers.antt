-- All of them are moved at once.
use Rattle.namelist.proofs.MoveLaws.{text-moved}
use Rattle.namelist.proofs.moves.move_text.Goals as goal

pub returns : goal.returns
returns c =
    let x = c.args in
    text-moved x.area.now x.to x.from x.n _ c.requires.0 c.requires.1 c.requires.2 c.copy_within.ensures.after
