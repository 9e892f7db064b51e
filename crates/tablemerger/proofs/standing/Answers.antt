-- None of a table that is not picked; else all that the part holds.
use native.Mathlib.Omega.{arith}
use borrow.Author.Rules.{rules}
use Rattle.tablemerger.proofs.standing.Goals as goal

pub returns-then-picked : goal.returns-then-picked
returns-then-picked c = (rw c.if-picked.true c.min.ensures, omega (arith, c.min.ensures))

pub returns-else-picked : goal.returns-else-picked
returns-else-picked c = (rw c.if-picked.false, search rules)
