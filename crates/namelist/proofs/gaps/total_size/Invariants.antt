-- The sum is that of the names passed.
use Prim.Native.Nat.{◌≤◌, ◌-◌}
use mathlib.Core.Path.{◌≡◌}
use Rattle.namearea.specs.Area.{names_of, total}
use Rattle.namelist.proofs.gaps.total_size.Given as goal

abbrev pub invariant-loop-i : goal.invariant-loop-i
invariant-loop-i l = l.sum ≡ total (names_of l.i l.area)
