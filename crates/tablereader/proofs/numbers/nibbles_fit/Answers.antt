-- All numbers fit exactly if `good` holds and those of the bytes left, two for each, fit the entries left.
use Prim.Native.Nat.{◌*◌}
use mathlib.Core.Path.{refl, sym, ◌∙◌}
use native.Mathlib.Omega.{arith}
use lib.ListN.{length-take, length-drop}
use Rattle.tables.specs.Patch.{numbers}
use Rattle.tables.proofs.PatchFacts.{numbers-length}
use Rattle.tables.proofs.NumberLaws.{testing_end}
use Rattle.tablereader.proofs.UnpackLaws.{block-tested}
use Rattle.tablereader.proofs.numbers.nibbles_fit.Goals as goal

pub loop-at-init : goal.loop-at-init
loop-at-init c = (omega arith, refl)

pub block_fits-fit-requires : goal.block_fits-fit-requires
block_fits-fit-requires c =
    record {
      bytes_len_bound = simp (length-take, length-drop) (omega arith);
      bytes_in_bounds = simp (length-take, length-drop) (omega arith);
    }

pub loop-at-preserved : goal.loop-at-preserved
loop-at-preserved c =
    let x = c.args in
    let l = c.loop-at in (
      omega arith,
      l.invariant.1
          ∙ block-tested l.at c.block_end-end.result x.bytes.now x.entries.now
          (omega arith) (omega arith)
          x.infinity l.good c.block_fits-fit.result c.block_fits-fit.ensures,
    )

pub returns : goal.returns
returns c =
    let x = c.args in
    let l = c.loop-at in
    sym
    (l.invariant.1
    ∙ testing_end 4 x.infinity (l.at * 2) (numbers 4 x.bytes.now) x.entries.now l.good
    (omega (arith, numbers-length 4 x.bytes.now)))
