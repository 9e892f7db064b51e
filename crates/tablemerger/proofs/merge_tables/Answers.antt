-- The tables that are picked are merged into entries that are all Infinity.
use mathlib.Core.Path.{ap, ◌∙◌}
use lib.ListN.{length}
use Rattle.tablemerging.specs.Merging.{merged_all}
use Rattle.tablemerging.proofs.MergeLaws.{all-merged}
use Rattle.tablemerger.specs.Parts.{part_tables}
use Rattle.tablemerger.proofs.IdleLaws.{filled_within}
use Rattle.tablemerger.proofs.merge_tables.Goals as goal

pub merge_parts-requires : goal.merge_parts-requires
merge_parts-requires c =
    let x = c.args in
    rw (c.fill.ensures.after (λ y e. e)) (filled_within x.infinity (length x.entries.now))

pub returns : goal.returns
returns c =
    let x = c.args in
    let hs = part_tables x.picked x.tables x.room x.area.now in
    c.merge_parts.ensures
    ∙ ap (merged_all hs) (c.fill.ensures.after (λ y e. e))
    ∙ all-merged x.infinity (length x.entries.now) hs
