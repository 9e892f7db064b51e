-- Two numbers for each byte at 4 bits, one otherwise; the bound on n keeps the product within a usize.
use native.Mathlib.Omega.{arith}
use borrow.Author.Tests.{eq-eqb, ne_eqb}
use Rattle.tablereader.proofs.numbers.number_count.Goals as goal

pub returns-then-bits-eq4 : goal.returns-then-bits-eq4
returns-then-bits-eq4 c = rw (eq-eqb _ _ c.if-bits-eq4.true)

pub returns-else-bits-eq4 : goal.returns-else-bits-eq4
returns-else-bits-eq4 c = rw (ne_eqb _ _ c.if-bits-eq4.false) (omega arith)
