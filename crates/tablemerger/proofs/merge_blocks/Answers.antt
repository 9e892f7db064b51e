-- The first i entries are merged, the others as they were; what is left of the table starts at block i.
use Prim.Native.Nat.{◌+◌, ◌*◌, ◌/◌, ◌≤◌}
use mathlib.Core.Path.{◌≡◌, sym, ap, ◌∙◌}
use native.Mathlib.Nat.{zero-mul, mul-div-le}
use native.Mathlib.Omega.{arith}
use lib.ListN.{length, take, drop, length-drop}
use lib.Seq.{drop-drop, length-take-le}
use borrow.Author.Rules.{rules}
use Rattle.laws.proofs.Parts.{part_tail}
use Rattle.tablemerger.proofs.MergeSteps.{block_within, covered-block, merging_first, merging_next}
use Rattle.tablemerger.proofs.MergeSteps.{merging_end}
use Rattle.tablemerger.proofs.merge_blocks.Goals.{In-loop-i}
use Rattle.tablemerger.proofs.merge_blocks.Goals as goal

pub loop-i-init : goal.loop-i-init
loop-i-init c = (merging_first _ _ _, rw zero-mul)

-- a block is left
left : (c : In-loop-i)
    → length c.args.table.now
    / length c.args.entries.now
    ≤ length c.loop-i.rest.now
left c =
    let x = c.args in
    let l = c.loop-i in
    let size = length x.table.now / length x.entries.now in
    rw l.invariant.1 (simp length-drop (omega (
      arith,
      block_within l.i (length x.entries.now) size
          (length x.table.now) (search rules) (mul-div-le (length x.table.now) (length x.entries.now)),
    )))

pub slice_bounds-nearest_in-end : goal.slice_bounds-nearest_in-end
slice_bounds-nearest_in-end c = sym (length-take-le _ _ (left (goal.at.slice_bounds-nearest_in-end c).In-loop-i))

pub slice_bounds-rest-count : goal.slice_bounds-rest-count
slice_bounds-rest-count c = let h = left (goal.at.slice_bounds-rest-count c).In-loop-i in search rules

pub slice_bounds-rest-start : goal.slice_bounds-rest-start
slice_bounds-rest-start c = let h = left (goal.at.slice_bounds-rest-start c).In-loop-i in search rules

pub loop-i-preserved : goal.loop-i-preserved
loop-i-preserved c =
    let l = c.loop-i in
    let x = c.args in
    let size = length x.table.now / length x.entries.now in
    let n : l.i * size + size ≡ (l.i + 1) * size = omega arith in (
      merging_next x.infinity x.table.now x.entries.now l.entries l.i l.invariant.0
          c.nearest_in.result _ (search rules)
          (covered-block (length x.entries.now) x.table.now l.i (search rules)
          ∙ ap (take size) (sym l.invariant.1))
          c.nearest_in.ensures,
      part_tail size l.rest.now ∙ ap (drop size) l.invariant.1
          ∙ drop-drop size (l.i * size) x.table.now
          ∙ ap (λ k. drop k x.table.now) n,
    )

pub returns : goal.returns
returns c = merging_end _ _ _ _ _ c.loop-i.invariant.0 (λ p h k. absurd (omega arith))
