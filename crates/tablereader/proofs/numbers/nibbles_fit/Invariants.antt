-- All numbers fit exactly if `good` holds and those of the bytes left, two for each, fit the entries left.
use Prim.Native.Nat.{◌-◌, ◌*◌, ◌≤◌}
use mathlib.Core.Path.{◌≡◌}
use mathlib.Core.Bool.{◌&&◌}
use lib.ListN.{length, drop}
use Rattle.tables.specs.Patch.{numbers, all_fit}
use Rattle.tablereader.proofs.numbers.nibbles_fit.Given as goal

abbrev pub invariant-loop-at : goal.invariant-loop-at
invariant-loop-at l =
    (l.at ≤ length l.bytes)
    × (all_fit 4 l.infinity (numbers 4 l.bytes) l.entries ≡ (l.good && all_fit 4 l.infinity (drop (l.at * 2) (numbers 4 l.bytes))
    (drop (l.at * 2) l.entries)))

abbrev pub decreases-loop-at : goal.decreases-loop-at
decreases-loop-at l = length l.bytes - l.at
