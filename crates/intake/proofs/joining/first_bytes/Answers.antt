-- Two copies onto zeros: the held bytes, and behind them those brought.
-- Assumes nothing.
use native.Mathlib.Omega.{arith}
use lib.ListN.{length-take}
use Rattle.intake.proofs.HeaderLaws.{two_copies}
use Rattle.intake.proofs.joining.first_bytes.Goals as goal

pub slice_bounds-copy_onto-end : goal.slice_bounds-copy_onto-end
slice_bounds-copy_onto-end c = simp length-take (omega arith)

pub returns : goal.returns
returns c =
    let a = c.args in
    two_copies 23 a.held.now a.bytes.now a.count c.min-n.result c.min-n.ensures
    (omega (arith, c.requires)) _ _ c.copy_onto.ensures
    c.copy_onto-2.ensures
