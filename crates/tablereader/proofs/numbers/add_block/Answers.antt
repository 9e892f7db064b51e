-- The unpacked numbers fit where the 4-bit ones do, and adding them gives the same entries.
use mathlib.Core.Path.{sym, ap, ◌∙◌}
use native.Mathlib.Omega.{arith}
use lib.Seq.{length-take-le}
use Rattle.tables.specs.Patch.{numbers, all_fit, added}
use Rattle.tablereader.proofs.UnpackLaws.{fit-widened, added-widened}
use Rattle.tablereader.proofs.numbers.add_block.Goals as goal

pub unpack-requires : goal.unpack-requires
unpack-requires c = omega arith

pub slice_bounds-numbers-end : goal.slice_bounds-numbers-end
slice_bounds-numbers-end c = omega (arith, c.unpack.auto.numbers)

pub slice_bounds-add_bytes-end : goal.slice_bounds-add_bytes-end
slice_bounds-add_bytes-end c = sym (length-take-le _ _ (omega (arith, c.unpack.auto.numbers)))

pub add_bytes-requires : goal.add_bytes-requires
add_bytes-requires c =
    let x = c.args in
    ap (λ l. all_fit 8 255 l x.entries.now) c.unpack.ensures
    ∙ fit-widened 255 (numbers 4 x.bytes.now) x.entries.now
    ∙ c.requires.entries_value

pub returns : goal.returns
returns c =
    let x = c.args in
    c.add_bytes.ensures
    ∙ ap (λ l. added 8 l x.entries.now) c.unpack.ensures
    ∙ added-widened (numbers 4 x.bytes.now) x.entries.now
