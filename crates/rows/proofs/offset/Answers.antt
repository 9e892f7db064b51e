-- The first four bytes from the number's place on.
use mathlib.Core.Path.{ap, ◌∙◌}
use lib.ListN.{take}
use Rattle.laws.specs.Bytes.{little}
use Rattle.rows.specs.Rows.{offset}
use Rattle.rows.proofs.offset.Goals as goal

pub returns : goal.returns
unfolding offset
returns c = c.little4.ensures ∙ ap (λ bytes. little (take 4 bytes)) c.after.ensures
