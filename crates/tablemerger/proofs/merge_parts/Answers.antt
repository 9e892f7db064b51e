-- What is left to merge of the tables comes to the same as all of them; what is left of the area starts at the next
-- pair of parts; and no entry is above the most.
use Prim.Native.Nat.{◌+◌, ◌*◌}
use mathlib.Core.Path.{◌≡◌, refl, sym, ap, ap₂, ◌∙◌}
use native.Mathlib.Nat.{zero-mul}
use native.Mathlib.Omega.{arith}
use lib.ListN.{length, get_or, take, drop}
use lib.Seq.{length-take-le}
use Rattle.laws.proofs.Passing.{part-next}
use Rattle.tables.specs.Tables.{no_table}
use Rattle.tablemerging.specs.Merging.{picked_tables, merged, merged_all}
use Rattle.tablemerging.proofs.MergeLaws.{all-length}
use Rattle.tablemerger.specs.Parts.{part_tables}
use Rattle.tablemerger.proofs.PartLaws.{from_part, merged-next}
use Rattle.tablemerger.proofs.IdleLaws.{merged-within}
use borrow.Author.Rules.{rules}
use Rattle.tablemerger.proofs.merge_parts.Goals as goal

pub loop-pair-init : goal.loop-pair-init
loop-pair-init c = (omega arith, rw zero-mul, c.requires, refl)

pub slice_bounds-merge_pair-end : goal.slice_bounds-merge_pair-end
slice_bounds-merge_pair-end c = sym (length-take-le _ _ (search rules))

pub slice_bounds-merge_pair-end-in-loop-pair : goal.slice_bounds-merge_pair-end-in-loop-pair
slice_bounds-merge_pair-end-in-loop-pair c = sym (length-take-le _ _ (search rules))

pub loop-pair-preserved : goal.loop-pair-preserved
loop-pair-preserved c =
    let x = c.args in
    let l = c.loop-pair in
    let k = 2 * l.pair in
    let next : k + 1 + 1 ≡ 2 * (l.pair + 1) = omega arith in
    let behind = part-next x.room x.area.now k c.min-n.result l.rest.now l.invariant.1
    c.min-n.ensures in
    let es = take c.standing-a.result l.rest.now in
    let once = merged (get_or x.tables k no_table).infinity es l.entries in
    let both = c.merge_pair.ensures in (
      omega arith,
      part-next x.room x.area.now (k + 1) c.min-m.result _ behind c.min-m.ensures
          ∙ ap (λ j. drop (j * x.room) x.area.now) next,
      rw both (merged-within _ x.most _ once (merged-within _ x.most es l.entries l.invariant.2)),
      ap₂ (λ j es. merged_all (from_part x.picked x.tables x.room x.area.now j) es) (sym next) both
          ∙ merged-next x.picked x.tables x.room x.area.now (k + 1) c.min-m.result c.standing-b.result _
          once (omega arith) behind c.min-m.ensures c.standing-b.ensures.0
          ∙ merged-next x.picked x.tables x.room x.area.now k c.min-n.result c.standing-a.result
          l.rest.now l.entries (omega arith) l.invariant.1 c.min-n.ensures c.standing-a.ensures.0
          ∙ l.invariant.3,
    )

-- past the last part nothing is left
pub returns : goal.returns
unfolding picked_tables merged_all
returns c =
    let x = c.args in
    let eight : 2 * c.loop-pair.pair ≡ 8 = omega arith in
    sym (ap (λ k. merged_all (from_part x.picked x.tables x.room x.area.now k) c.loop-pair.entries) eight)
    ∙ c.loop-pair.invariant.3

pub shape_of-entries : goal.shape_of-entries
shape_of-entries c =
    let x = c.args in
    ap length (returns c) ∙ all-length (part_tables x.picked x.tables x.room x.area.now) x.entries.now
