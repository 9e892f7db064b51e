-- Below the range it is not in it; else the comparison with the upper end decides.
use mathlib.Core.Path.{refl}
use borrow.Author.Tests.{lt-leb, le-leb}
use Rattle.keywords.proofs.cut.within.Goals as goal

pub returns-then-b-low : goal.returns-then-b-low
returns-then-b-low c = rw (lt-leb c.args.low c.args.b c.if-b-low.true) refl

pub returns-else-b-low : goal.returns-else-b-low
returns-else-b-low c = rw (le-leb c.args.low c.args.b c.if-b-low.false) refl
