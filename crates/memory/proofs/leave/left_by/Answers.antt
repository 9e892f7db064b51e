-- The asker after the line has closed, by the one test.
use borrow.Author.Tests.{eq-eqb, ne_eqb}
use Rattle.memory.proofs.leave.left_by.Goals as goal

pub returns-then-asker-line : goal.returns-then-asker-line
returns-then-asker-line c = rw (eq-eqb _ _ c.if-asker-line.true)

pub returns-else-asker-line : goal.returns-else-asker-line
returns-else-asker-line c = rw (ne_eqb _ _ c.if-asker-line.false)
