-- The digits read and those that are left make the number; it stays below the power of ten.
use Prim.Native.Nat.{◌^◌, ◌<◌}
use mathlib.Core.Path.{◌≡◌}
use lib.ListN.{drop}
use Rattle.ascii.specs.Text.{decimal_from}
use Rattle.ascii.proofs.value_of.Given as goal

abbrev pub invariant-loop-b : goal.invariant-loop-b
invariant-loop-b l = (decimal_from l.n (drop l.b-index l.s) ≡ decimal_from 0 l.s) × (l.n < 10 ^ l.b-index)
