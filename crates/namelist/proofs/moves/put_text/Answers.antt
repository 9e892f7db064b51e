-- The part of the area that was lent becomes the text.
use native.Mathlib.Omega.{arith}
use Rattle.namelist.proofs.MoveLaws.{text-put, part-put}
use Rattle.namelist.proofs.moves.put_text.Goals as goal

pub returns : goal.returns
returns c =
    let a = c.args.area.now in
    text-put a c.args.at c.args.text.now _ c.requires.0 c.requires.1
    (part-put c.args.at _ c.args.text.now a _ (omega arith) c.copy_from_slice.ensures.after)
