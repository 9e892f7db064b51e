-- The pairs left may all be listed exactly where all may.
use mathlib.Core.Path.{◌≡◌}
use lib.ListN.{drop}
use Rattle.laws.specs.Tests.{all}
use Rattle.namearea.specs.Area.{spans_of}
use Rattle.namearea.specs.Good.{listable}
use Rattle.names.proofs.order.all_listable.Given as goal

abbrev pub invariant-loop-i : goal.invariant-loop-i
invariant-loop-i l =
    all (listable l.list.area.now) (drop l.i (spans_of l.list.count l.list.area.now)) ≡ all (listable l.list.area.now) (spans_of l.list.count l.list.area.now)
