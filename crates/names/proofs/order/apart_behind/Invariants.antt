-- The pairs left are apart from pair i exactly where all behind it are.
use Prim.Native.Nat.{◌+◌}
use mathlib.Core.Path.{◌≡◌}
use lib.ListN.{drop}
use Rattle.laws.specs.Tests.{all}
use Rattle.namearea.specs.Area.{span_at, spans_of}
use Rattle.namearea.specs.Good.{apart}
use Rattle.names.proofs.order.apart_behind.Given as goal

abbrev pub invariant-loop-k : goal.invariant-loop-k
invariant-loop-k l =
    all (apart (span_at l.list.area.now l.i)) (drop l.k (spans_of l.list.count l.list.area.now)) ≡ all (apart (span_at l.list.area.now l.i))
    (drop (l.i + 1) (spans_of l.list.count l.list.area.now))
