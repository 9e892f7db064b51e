-- What is left to compare has the order of the whole.
use Rattle.std.proofs.Common.{◌≡◌, length}
use Rattle.matching.proofs.OrderLaws.{left_from}
use Rattle.matching.proofs.order.order.Given as goal

abbrev pub invariant-loop-x : goal.invariant-loop-x
invariant-loop-x l = left_from l.a l.b (length l.yielded) ≡ left_from l.a l.b 0
