-- The own pong, and behind it the stored ones.
use Rattle.std.proofs.Common.{refl, arith}
use borrow.Author.Tests.{lt-leb}
use Rattle.pinging.proofs.SendLaws.{to-probe, to-other}
use Rattle.pinging.proofs.send.send_pongs.Goals as goal

pub returns-then-out-lt407 : goal.returns-then-out-lt407
returns-then-out-lt407 c = rw (lt-leb _ _ c.if-out-lt407.true) record { size = refl; count = refl; bytes = refl }

pub returns-then-probe : goal.returns-then-probe
returns-then-probe c =
    let x = c.args in
    let d =
    to-probe x.lines x.line x.clock x.own x.number x.hops x.probe x.out.now (omega arith)
    c.put_own-first.result _ c.put_own-first.ensures.pongs_put c.if-probe.true in
    record { size = d.size; count = d.count; bytes = d.wrote }

pub returns : goal.returns
returns c =
    let x = c.args in
    let d =
    to-other x.lines x.line x.clock x.own x.number x.hops x.probe x.out.now (omega arith)
    c.put_own-first.result _ c.put_own-first.ensures.pongs_put c.if-probe.false c.put_stored-rest.result _
    (omega arith) c.put_stored-rest.ensures.stored_put in
    record { size = d.size; count = d.count; bytes = d.wrote }
