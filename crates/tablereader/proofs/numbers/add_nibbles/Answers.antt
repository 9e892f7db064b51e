-- Two numbers for each byte gone through are added, and those left fit and complete the whole sum.
use Prim.Native.Nat.{◌*◌}
use native.Mathlib.Omega.{arith}
use lib.ListN.{length-take, length-drop}
use Rattle.tables.specs.Patch.{numbers}
use Rattle.tables.proofs.PatchFacts.{numbers-length}
use Rattle.tables.proofs.NumberLaws.{adding_first, adding_end}
use Rattle.tablereader.proofs.UnpackLaws.{block-fits, block-added}
use Rattle.tablereader.proofs.numbers.add_nibbles.Goals as goal

pub loop-at-init : goal.loop-at-init
loop-at-init c = adding_first _ _ _ c.requires

pub add_block-requires : goal.add_block-requires
add_block-requires c =
    let x = c.args in
    let l = c.loop-at in record {
      bytes_len_bound = simp (length-take, length-drop) (omega arith);
      entries_value = block-fits l.at c.block_end-end.result x.bytes.now l.entries (omega arith) (omega arith)
          x.entries.now l.invariant;
    }

pub loop-at-preserved : goal.loop-at-preserved
loop-at-preserved c =
    let x = c.args in
    let l = c.loop-at in
    block-added l.at c.block_end-end.result x.bytes.now l.entries (omega arith) (omega arith)
    x.entries.now l.invariant c.add_block.new.entries c.add_block.ensures

pub shape_of-entries : goal.shape_of-entries
shape_of-entries c = c.loop-at.invariant.same

pub returns : goal.returns
returns c =
    let x = c.args in
    let l = c.loop-at in
    adding_end 4 (l.at * 2) (numbers 4 x.bytes.now) x.entries.now l.entries l.invariant
    (omega (arith, numbers-length 4 x.bytes.now))
