-- The queries before p are apart, and the filter has their bits; where p is not the last place, it has those of p too.
use Prim.Native.Nat.{◌+◌, ◌-◌, ◌≤◌, ◌<◌}
use mathlib.Core.Path.{◌≡◌}
use mathlib.Core.Bool.{true}
use lib.ListN.{length, get_or}
use Rattle.protocol.specs.Memory.{memory_of, query_at}
use Rattle.memory.specs.Order.{marked, Passed}
use Rattle.memory.proofs.NumberLaws.{before}
use Rattle.memory.proofs.numbers.no_twice_in.Given as goal

abbrev pub invariant-loop-p : goal.invariant-loop-p
invariant-loop-p l =
    (l.from ≤ l.p)
    × (l.p ≤ l.to)
    × (l.p < l.to → marked l.filter (get_or l.lo l.p 0) ≡ true)
    × Passed l.filter (before (query_at (memory_of l.lo l.hi l.asker l.hits 0 0)) (length l.lo) l.p (l.passed + (l.p - l.from)))

abbrev pub decreases-loop-p : goal.decreases-loop-p
decreases-loop-p l = l.to - l.p
