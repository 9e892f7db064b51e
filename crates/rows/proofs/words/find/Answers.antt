-- The bytes that are taken are counted.
use Prim.Native.Nat.{◌+◌}
use mathlib.Core.Path.{◌≡◌, ap, ◌∙◌}
use mathlib.Core.Bool.{not}
use lib.Dec.{eqb}
use lib.ListN.{length}
use Rattle.std.proofs.Common.{rules, tests}
use Rattle.std.proofs.lemmas.Iterator.{YieldsList-from_slice}
use Rattle.std.proofs.lemmas.Iterator.Consumers.{count_from_yields_List}
use Rattle.std.proofs.lemmas.Iterator.Search.{YieldsList-from_take_while}
use Rattle.rows.specs.Rows.{until}
use Rattle.rows.proofs.Until.{until-taken}
use Rattle.rows.proofs.words.find.Goals as goal

pub returns-clause-first : goal.returns-clause-first
returns-clause-first c =
    let s = c.after.result.now in
    let b = c.args.b in
    let n : c.count.result ≡ length (until b s) =
    count_from_yields_List _ _ c.count.ensures.ran
    (YieldsList-from_take_while _ (λ x. not (eqb x b)) (YieldsList-from_slice s cc) c.take_while.ensures.closure c.take_while.ensures.done
    (λ x b q k. search (rules, tests)))
    ∙ ap length (until-taken b s) in
    ap (λ m. c.args.from + m) (n ∙ ap (λ l. length (until b l)) c.after.ensures)
