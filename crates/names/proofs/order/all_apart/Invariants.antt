-- The pairs left are apart exactly where all are.
use mathlib.Core.Path.{◌≡◌}
use lib.ListN.{drop}
use Rattle.namearea.specs.Area.{spans_of}
use Rattle.namearea.specs.Good.{apart, pairwise}
use Rattle.names.proofs.order.all_apart.Given as goal

abbrev pub invariant-loop-i : goal.invariant-loop-i
invariant-loop-i l =
    pairwise apart (drop l.i (spans_of l.list.count l.list.area.now)) ≡ pairwise apart (spans_of l.list.count l.list.area.now)
