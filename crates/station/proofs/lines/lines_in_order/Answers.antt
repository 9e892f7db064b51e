-- The test of each.
use mathlib.Core.Path.{◌≡◌, sym, ◌∙◌}
use borrow.Author.Rules.{rules}
use Rattle.std.proofs.Common.{tests}
use Rattle.std.proofs.lemmas.Iterator.{YieldsList-from_slice}
use Rattle.std.proofs.lemmas.Iterator.Search.{all_from_yields_List}
use Rattle.laws.proofs.Truth.{all-is}
use Rattle.protocol.specs.Order.{line_in_order}
use Rattle.station.proofs.lines.lines_in_order.Goals as goal

pub returns : goal.returns
returns c =
    let test = line_in_order c.args.room in
    all_from_yields_List test _ _ _ c.all.ensures.ran (YieldsList-from_slice c.args.lines cc)
    (λ x b q k. search (rules, tests))
    ∙ sym (all-is test c.args.lines)
