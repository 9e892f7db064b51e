-- The pairs left rise exactly where all do.
use mathlib.Core.Path.{◌≡◌}
use Rattle.namearea.specs.Area.{spans_of}
use Rattle.namearea.specs.Good.{rising_from}
use Rattle.namearea.proofs.SpanLaws.{left}
use Rattle.namearea.proofs.is_rising.Given as goal

abbrev pub invariant-loop-i : goal.invariant-loop-i
invariant-loop-i l =
    rising_from l.low (left l.count l.area l.i) ≡ rising_from 0 (spans_of l.count l.area)
