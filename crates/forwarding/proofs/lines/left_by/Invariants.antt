-- The lines passed have the flag that the keyword leaves them, the others their own; what is left of the area starts at
-- the next part.
use Prim.Native.Nat.{◌*◌}
use mathlib.Core.Path.{◌≡◌}
use mathlib.Core.List.{◌++◌}
use lib.ListN.{take, drop}
use Rattle.forwarding.specs.Passing.{held_of, left_by}
use Rattle.forwarding.proofs.lines.left_by.Given as goal

abbrev pub invariant-loop-k : goal.invariant-loop-k
invariant-loop-k l =
    (l.area ≡ drop (l.k * l.room) l.route)
    × (l.left ≡ take l.k (left_by l.flags (held_of l.tables l.room l.route) l.ttl l.hash) ++ drop l.k l.flags)
