-- No place before place `at` agrees. The last block begins at one of these, or just behind them.
use Rattle.std.proofs.Common.{◌-◌, ◌≤◌}
use Rattle.matching.specs.Quick.{NoneIn}
use Rattle.matching.proofs.quick.Sample.may_be_in.Given as goal

abbrev pub invariant-loop-at : goal.invariant-loop-at
invariant-loop-at l = (l.at ≤ l.places) × NoneIn l.self l.name 0 l.at

abbrev pub decreases-loop-at : goal.decreases-loop-at
decreases-loop-at l = l.places - l.at
