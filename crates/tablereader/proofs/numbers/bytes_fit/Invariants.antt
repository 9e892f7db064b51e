-- The numbers gone through fit where `good` says so; those left decide.
use Prim.Native.Nat.{◌-◌, ◌≤◌}
use mathlib.Core.Path.{◌≡◌}
use mathlib.Core.Bool.{◌&&◌}
use lib.ListN.{length, drop}
use Rattle.tables.specs.Patch.{all_fit}
use Rattle.tablereader.proofs.numbers.bytes_fit.Given as goal

abbrev pub invariant-loop-j : goal.invariant-loop-j
invariant-loop-j l =
    all_fit 8 l.infinity l.numbers l.entries
    ≡ (l.good && all_fit 8 l.infinity (drop l.j l.numbers) (drop l.j l.entries))
