-- An array of sixteen bytes that more are copied onto has the first sixteen of them.
use mathlib.Core.Path.{◌∙◌}
use native.Mathlib.Omega.{arith}
use Rattle.laws.proofs.Over.{copied-full}
use Rattle.answerer.proofs.asked.query_number.Goals as goal

pub returns : goal.returns
returns c =
    let x = c.args in
    c.padded.ensures ∙ copied-full x.query.now _ (omega arith)
