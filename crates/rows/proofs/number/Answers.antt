-- The number of the word's bytes.
use mathlib.Core.Path.{ap, ◌∙◌}
use Rattle.rows.specs.Rows.{decimal, number_at}
use Rattle.rows.proofs.number.Goals as goal

pub returns : goal.returns
unfolding number_at
returns c = c.number_of.ensures ∙ ap (decimal 0) c.word.ensures
