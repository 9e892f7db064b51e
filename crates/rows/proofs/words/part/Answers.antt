-- The front up to one place, and of that what stands behind the other.
use mathlib.Core.Path.{ap, ◌∙◌}
use lib.ListN.{drop}
use Rattle.rows.specs.Rows.{part}
use Rattle.rows.proofs.words.part.Goals as goal

pub returns : goal.returns
unfolding part
returns c = c.after.ensures ∙ ap (drop c.args.from) c.front.ensures
