-- What is left after i turns, behind what was passed, is what there is among the n before `from`.
use Prim.Native.Nat.{◌+◌, ◌-◌}
use mathlib.Core.Path.{◌≡◌}
use lib.ListN.{length}
use Rattle.protocol.specs.Memory.{memory_of, number_from, query_at}
use Rattle.memory.proofs.SearchLaws.{left_of}
use Rattle.memory.proofs.search.newest.Given as goal

abbrev pub invariant-loop-i : goal.invariant-loop-i
invariant-loop-i l =
    let left = left_of (query_at (memory_of l.lo l.hi l.asker l.hits 0 0)) (length l.lo) (number_from l.a l.b) in
    left (l.from - l.i) (l.n - l.i) (l.passed + l.i) ≡ left l.from l.n l.passed
