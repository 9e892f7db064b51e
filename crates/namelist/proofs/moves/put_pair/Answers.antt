-- Two numbers of four bytes, each of which becomes a part of the area that was lent.
use mathlib.Core.Path.{◌∙◌}
use native.Mathlib.Omega.{arith}
use Rattle.wire.proofs.NumberLaws.{bytes-four}
use Rattle.namelist.proofs.MoveLaws.{pair-copied}
use Rattle.namelist.proofs.moves.put_pair.Goals as goal

pub returns : goal.returns
returns c =
    pair-copied c.args.area.now c.args.i c.args.s _ _ c.requires.0 c.requires.1 (omega arith) (omega arith)
    (c.copy_from_slice.ensures.after ∙ c.to_le_bytes.ensures ∙ bytes-four c.args.s.offset)
    (c.copy_from_slice-2.ensures.after ∙ c.to_le_bytes-2.ensures ∙ bytes-four c.args.s.size)
