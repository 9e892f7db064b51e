-- A pair that does not fit ends the pass; each other is seen, and whether it rises.
use Rattle.names.proofs.OrderLaws.{Seen}
use Rattle.names.proofs.order.order_of.Given as goal

abbrev pub invariant-loop-i : goal.invariant-loop-i
invariant-loop-i l = Seen l.list.count l.list.area.now l.i l.low l.rising
