-- What is passed and what is left of the line are the whole line.
use Prim.Native.Nat.{◌+◌, ◌≤◌}
use mathlib.Core.Path.{◌≡◌}
use lib.ListN.{length, drop}
use Rattle.groups.specs.Lines.{line_length}
use Rattle.groups.proofs.lines.line_length.Given as goal

abbrev pub invariant-loop-i : goal.invariant-loop-i
invariant-loop-i l = (l.i ≤ length l.s) × (l.i + line_length (drop l.i l.s) ≡ line_length l.s)
