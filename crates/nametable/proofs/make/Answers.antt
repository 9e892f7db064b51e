-- The names are marked in entries that are all Infinity.
use mathlib.Core.Path.{ap, ◌∙◌}
use Rattle.namearea.specs.Area.{names_of}
use Rattle.nametable.specs.Table.{own_places, with_ones}
use Rattle.nametable.proofs.make.Goals as goal

pub returns : goal.returns
returns c =
    let x = c.args in
    c.mark_names.ensures
    ∙ ap (with_ones (own_places x.size (names_of x.count x.area.now))) (c.fill.ensures.after (λ y e. e))
