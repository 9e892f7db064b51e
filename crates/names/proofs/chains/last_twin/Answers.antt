-- The parts that are read are those of the definition.
use mathlib.Core.Path.{◌∙◌}
use Rattle.names.proofs.KeyLaws.{short-twin, long-twin}
use Rattle.names.proofs.chains.last_twin.Goals as goal

pub returns-then-end-lt8 : goal.returns-then-end-lt8
returns-then-end-lt8 c =
    c.twin.ensures
    ∙ short-twin c.args.name.now _ c.if-end-lt8.true
    c.word-w.ensures

pub returns : goal.returns
returns c =
    let x = c.args.name.now in
    long-twin x _ _ _ _ c.twin-2.ensures c.saturating_sub-from.ensures
    c.word.ensures c.word-2.ensures
