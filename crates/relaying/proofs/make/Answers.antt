-- The own names are marked in the entries by the tables of the other lines.
use mathlib.Core.Path.{ap, ap₂, ◌∙◌}
use lib.ListN.{length}
use Rattle.namearea.specs.Area.{names_of}
use Rattle.nametable.specs.Table.{own_places, with_ones}
use Rattle.tablemerging.specs.Merging.{relayed_entries}
use Rattle.relaying.proofs.MakeLaws.{others-picked}
use Rattle.relaying.proofs.make.Goals as goal

pub returns : goal.returns
returns c =
    let x = c.args in
    c.mark_names.ensures
    ∙ ap₂ (λ k es. with_ones (own_places x.size (names_of k x.names.now)) es)
    c.count_in.ensures
    (c.merge_tables.ensures
    ∙ ap (relayed_entries x.infinity (length x.entries.now))
    (others-picked x.room x.lines x.line x.route.now c.tables_of-tables.result c.with_say.result
    c.tables_of-tables.ensures c.with_say.ensures))
