-- The part between the two numbers of the word.
use mathlib.Core.Path.{ap₂, ◌∙◌}
use Rattle.rows.specs.Rows.{part, word_at}
use Rattle.rows.proofs.word.Goals as goal

pub returns : goal.returns
unfolding word_at
returns c = c.part.ensures ∙ ap₂ (part c.args.row.now) c.offset.ensures c.offset-2.ensures
