-- The block is unpacked within the 256 numbers, and these fit exactly where the 4-bit ones do.
use mathlib.Core.Path.{sym, ap, ◌∙◌}
use native.Mathlib.Omega.{arith}
use lib.ListN.{length-take}
use lib.Seq.{length-take-le}
use Rattle.tables.specs.Patch.{numbers, all_fit}
use Rattle.tablereader.proofs.UnpackLaws.{fit-widened}
use Rattle.tablereader.proofs.numbers.block_fits.Goals as goal

pub unpack-requires : goal.unpack-requires
unpack-requires c = omega arith

pub slice_bounds-numbers-end : goal.slice_bounds-numbers-end
slice_bounds-numbers-end c = omega (arith, c.unpack.auto.numbers)

pub slice_bounds-bytes_fit-end : goal.slice_bounds-bytes_fit-end
slice_bounds-bytes_fit-end c = sym (length-take-le _ _ (omega (arith, c.unpack.auto.numbers)))

pub bytes_fit-requires : goal.bytes_fit-requires
bytes_fit-requires c = simp length-take (omega arith)

pub returns : goal.returns
returns c =
    let x = c.args in
    c.bytes_fit.ensures
    ∙ ap (λ l. all_fit 8 x.infinity l x.entries.now) c.unpack.ensures
    ∙ fit-widened x.infinity (numbers 4 x.bytes.now) x.entries.now
