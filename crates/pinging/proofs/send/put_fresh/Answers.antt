-- An old pong is passed over, and a fresh one is put.
use Rattle.std.proofs.Common.{arith}
use Rattle.pinging.proofs.SendLaws.{stored-old, stored-fresh}
use Rattle.pinging.proofs.send.put_fresh.Goals as goal

pub returns-then-elapsed_ms-ge15000 : goal.returns-then-elapsed_ms-ge15000
returns-then-elapsed_ms-ge15000 c =
    let x = c.args in record {
      stored_put = stored-old x.number x.pinghops x.clock x.pong x.part.now
          (rw c.elapsed_ms.ensures at c.if-elapsed_ms-ge15000.true);
      few = omega arith;
    }

pub returns : goal.returns
returns c =
    let x = c.args in
    let young = rw c.elapsed_ms.ensures at c.if-elapsed_ms-ge15000.false in record {
      stored_put = stored-fresh x.number x.pinghops x.clock x.pong x.part.now young c.one_hop_more.result _
          c.one_hop_more.ensures c.put_pong.ensures;
      few = omega arith;
    }
