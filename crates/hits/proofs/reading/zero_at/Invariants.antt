-- No byte before place i is zero.
use Rattle.hits.proofs.ResultLaws.{NoneBefore}
use Rattle.hits.proofs.reading.zero_at.Given as goal

abbrev pub invariant-loop-i : goal.invariant-loop-i
invariant-loop-i l = NoneBefore l.bytes l.i
