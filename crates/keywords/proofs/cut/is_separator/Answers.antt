-- The three tests are those of the definition.
use mathlib.Core.Path.{refl}
use Rattle.keywords.specs.Keywords.{is_separator}
use Rattle.keywords.proofs.cut.is_separator.Goals as goal

pub returns : goal.returns
unfolding is_separator
returns c = rw (c.within.ensures, c.within-2.ensures, c.within-3.ensures) refl
