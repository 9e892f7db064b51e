-- Another entry goes one further, as far as a byte goes.
use native.Mathlib.Omega.{arith}
use borrow.Author.Tests.{eq-eqb, ne_eqb}
use Rattle.tablemerger.proofs.farther.Goals as goal

pub returns-then-entry-infinity : goal.returns-then-entry-infinity
returns-then-entry-infinity c = rw (eq-eqb _ _ c.if-entry-infinity.true)

pub returns-else-entry-infinity : goal.returns-else-entry-infinity
returns-else-entry-infinity c = rw (ne_eqb _ _ c.if-entry-infinity.false) (omega (arith, c.saturating_add.ensures))
