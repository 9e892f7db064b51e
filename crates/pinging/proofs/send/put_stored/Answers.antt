-- What the turns made give is put.
use Rattle.std.proofs.Common.{arith}
use Rattle.pinging.proofs.SendLaws.{turned_none, turned-past, turned-put, done-ten, done_all}
use Rattle.pinging.proofs.send.put_stored.Goals as goal

pub loop-i-init : goal.loop-i-init
loop-i-init c = turned_none _ _ _ _

pub shape_of-part-then-sent-ge370 : goal.shape_of-part-then-sent-ge370
shape_of-part-then-sent-ge370 c = c.loop-i.invariant.long

pub returns-then-sent-ge370 : goal.returns-then-sent-ge370
returns-then-sent-ge370 c =
    let x = c.args in record {
      stored_put = done-ten x.number x.pinghops x.line x.clock x.lines c.counts_in-counts.ensures
          c.nexts_in-nexts.ensures c.rings_in-rings.ensures _ _ _ _ c.loop-i.invariant c.if-sent-ge370.true;
      few = c.loop-i.invariant.few;
    }

pub loop-i-preserved-in_default : goal.loop-i-preserved-in_default
loop-i-preserved-in_default c =
    let x = c.args in
    turned-past x.number x.pinghops _ c.loop-i.i c.loop-i.sent x.part.now
    c.loop-i.part c.loop-i.invariant (omega arith) 10 c.in_default.ensures.place (omega arith)

pub loop-i-preserved : goal.loop-i-preserved
loop-i-preserved c =
    let x = c.args in
    turned-put x.number x.pinghops _ c.loop-i.i c.loop-i.sent x.part.now
    c.loop-i.part c.loop-i.invariant (omega arith) c.in-Some.place c.in-Some.ensures.place c.in-Some.ensures.within
    (omega arith) (omega arith) c.put_fresh-put.result _ c.put_fresh-put.ensures.few c.put_fresh-put.ensures.stored_put

pub shape_of-part : goal.shape_of-part
shape_of-part c = c.loop-i.invariant.long

pub returns : goal.returns
returns c =
    let most = c.most_of-turns in
    let x = c.args in record {
      stored_put = done_all x.number x.pinghops x.line x.clock x.lines c.counts_in-counts.ensures
          c.nexts_in-nexts.ensures c.rings_in-rings.ensures _ _ _ _ c.loop-i.invariant most.result
          most.ensures c.loop-i-test.false;
      few = c.loop-i.invariant.few;
    }
