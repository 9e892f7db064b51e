-- The digits that are left make the whole number of what was read.
use mathlib.Core.Path.{◌≡◌}
use lib.ListN.{drop}
use Rattle.rows.specs.Rows.{decimal}
use Rattle.rows.proofs.number_of.Given as goal

abbrev pub invariant-loop-digit : goal.invariant-loop-digit
invariant-loop-digit l = decimal l.n (drop l.digit-index l.text) ≡ decimal 0 l.text
