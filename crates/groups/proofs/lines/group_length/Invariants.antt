-- The first end from n on is the first of all.
use Prim.Native.Nat.{◌+◌, ◌-◌, ◌≤◌}
use mathlib.Core.Path.{◌≡◌}
use Rattle.groups.specs.Lines.{ends_at, first_from, group_length}
use Rattle.groups.proofs.lines.group_length.Given as goal

abbrev pub invariant-loop-n : goal.invariant-loop-n
invariant-loop-n l = (2 ≤ l.n) × (first_from (ends_at l.m) (l.last + 1 - l.n) l.n ≡ group_length l.m)

abbrev pub decreases-loop-n : goal.decreases-loop-n
decreases-loop-n l = l.last + 1 - l.n
