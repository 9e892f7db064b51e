-- What the turns made give is put.
use Rattle.pongrings.proofs.WalkLaws.{walk_of}
use Rattle.pinging.proofs.SendLaws.{Turned}
use Rattle.pinging.proofs.send.put_stored.Given as goal

abbrev pub invariant-loop-i : goal.invariant-loop-i
invariant-loop-i l =
    Turned l.number l.pinghops (walk_of l.counts l.nexts l.rings l.line l.clock) l.i l.sent l.initial.part l.part
