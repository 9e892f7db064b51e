-- The first byte that is zero.
use Rattle.std.proofs.Common.{arith}
use Rattle.hits.proofs.ResultLaws.{zero_here, zero_nowhere}
use Rattle.hits.proofs.reading.zero_at.Goals as goal

pub returns-then-b-eq0-clause-value : goal.returns-then-b-eq0-clause-value
returns-then-b-eq0-clause-value c =
    let t = zero_here c.args.bytes.now c.loop-i.i c.loop-i-test.true c.loop-i.invariant c.if-b-eq0.true in
    rw (t.0, t.1)

pub returns-clause-value : goal.returns-clause-value
returns-clause-value c =
    rw (zero_nowhere c.args.bytes.now (λ k h. c.loop-i.invariant k (omega arith)))
