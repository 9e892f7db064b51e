-- The own pong is sent or nothing is.
use Rattle.std.proofs.Common.{sym, ◌∙◌, arith}
use Rattle.pinging.proofs.SendLaws.{own-unsent, own_put}
use Rattle.pinging.proofs.send.put_own.Goals as goal

pub returns-then-not-sends_own : goal.returns-then-not-sends_own
returns-then-not-sends_own c =
    let x = c.args in record {
      pongs_put = own-unsent x.own x.number x.pinghops x.probe x.part.now (sym c.sends_own.ensures
          ∙ c.if-not-sends_own.true);
      few = omega arith;
    }

pub returns : goal.returns
returns c =
    let x = c.args in
    let sent = sym c.sends_own.ensures ∙ c.if-not-sends_own.false in record {
      pongs_put = own_put x.own x.number x.pinghops x.probe x.part.now sent c.own_payload-payload.result _
          c.own_payload-payload.ensures c.put_pong.ensures;
      few = omega arith;
    }
