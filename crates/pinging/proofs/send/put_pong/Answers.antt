-- The header, and the bytes behind it.
use Rattle.std.proofs.Common.{arith}
use Rattle.pinging.proofs.SendLaws.{pong-put}
use Rattle.pinging.proofs.send.put_pong.Goals as goal

pub returns : goal.returns
returns c =
    let x = c.args in
    pong-put x.number x.bytes x.part.now _ _ c.pong_ttl.result x.pinghops x.hops (omega arith)
    (omega arith) (omega arith) c.pong_ttl.ensures (rw c.into.ensures at c.put_header.ensures) c.copy_onto.ensures
