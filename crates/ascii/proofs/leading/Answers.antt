-- The bytes that are taken are counted.
use mathlib.Core.Path.{◌∙◌}
use Rattle.std.proofs.Common.{rules, tests}
use Rattle.std.proofs.lemmas.Iterator.{YieldsList-from_slice}
use Rattle.std.proofs.lemmas.Iterator.Consumers.{count_from_yields_List}
use Rattle.std.proofs.lemmas.Iterator.Search.{YieldsList-from_take_while}
use Rattle.ascii.specs.Text.{in_class}
use Rattle.ascii.proofs.Library.{leading-taken}
use Rattle.ascii.proofs.leading.Goals as goal

pub returns : goal.returns
returns g c =
    let s = c.args.s.now in
    let k = g.C.ToClass.class c.args.class in
    count_from_yields_List _ _ c.count.ensures.ran
    (YieldsList-from_take_while _ (in_class k) (YieldsList-from_slice s cc) c.take_while.ensures.closure c.take_while.ensures.done
    (λ x b q k. search (rules, tests)))
    ∙ leading-taken (in_class k) s
