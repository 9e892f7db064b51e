-- The bytes gone through have no zero where `good` says so; those left decide.
use mathlib.Core.Path.{◌≡◌}
use mathlib.Core.Bool.{◌&&◌, not}
use lib.Dec.{eqb}
use lib.ListN.{drop}
use Rattle.laws.specs.Tests.{any}
use Rattle.namearea.proofs.no_zero.Given as goal

abbrev pub invariant-loop-b : goal.invariant-loop-b
invariant-loop-b l = not (any (eqb 0) l.name) ≡ (l.good && not (any (eqb 0) (drop l.b-index l.name)))
