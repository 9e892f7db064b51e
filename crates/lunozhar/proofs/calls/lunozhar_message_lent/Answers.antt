-- The ring is surveyed for the message's number, counts a hit of it that is passed back or delivered, and takes it in
-- where it is to be remembered.
use Prim.Native.Nat.{◌%◌}
use lib.ListN.{length}
use Rattle.protocol.specs.Memory.{memory_of, lookup_in}
use Rattle.protocol.specs.Outcomes.{terms_of}
use Rattle.station.proofs.CallLaws.{surveyed_order, known_is, ring-counted, message-met}
use Rattle.lunozhar.proofs.calls.lunozhar_message_lent.Goals as goal

pub returns : goal.returns
returns c =
    let a = c.args in
    let q = memory_of a.lo.now a.hi.now a.asker.now a.hits.now a.count.now a.next.now in
    let number = c.read_header-h.ensures in
    let s = c.survey_ring-s in
    let order = surveyed_order a.room a.lines.at q s.ensures.order in
    let known = known_is a.message.now number q s.ensures.known in
    let r = c.arrive-a.result in
    let after = ring-counted a.message.now number q r.remember r.answered (a.line % 8) known
    c.raise.ensures c.remember.ensures in
    rw after
    (message-met a.room a.lines.at q a.message.now (terms_of a.clock a.own (length a.out.now))
    a.route.now a.out.now a.line s.result.order order (lookup_in s.result.known)
    known c.arrive-a.ensures)
