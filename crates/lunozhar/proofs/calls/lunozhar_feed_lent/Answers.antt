-- The ring is surveyed for the number that held bytes and those brought begin with, counts a hit of it that is passed
-- back or delivered, and takes it in where it is to be remembered.
use Prim.Native.Nat.{◌%◌}
use lib.ListN.{length}
use Rattle.protocol.specs.Memory.{memory_of, lookup_in}
use Rattle.protocol.specs.Lines.{line_in}
use Rattle.protocol.specs.Outcomes.{terms_of}
use Rattle.receiving.specs.Feeding.{joined}
use Rattle.station.proofs.CallLaws.{surveyed_order, known_is, ring-counted}
use Rattle.station.proofs.FeedMet.{feed-met}
use Rattle.lunozhar.proofs.calls.lunozhar_feed_lent.Goals as goal

pub returns : goal.returns
returns c =
    let a = c.args in
    let q = memory_of a.lo.now a.hi.now a.asker.now a.hits.now a.count.now a.next.now in
    let m = joined (line_in a.lines.at (a.line % 8)) a.held.now a.bytes.now in
    let number = c.header_of-h.ensures in
    let s = c.survey_ring-s in
    let order = surveyed_order a.room a.lines.at q s.ensures.order in
    let known = known_is m number q s.ensures.known in
    let r = c.feed-f.result.action in
    let after = ring-counted m number q r.remember r.answered (a.line % 8) known c.raise.ensures
    c.remember.ensures in
    rw after
    (feed-met a.room a.lines.at q a.bytes.now a.held.now
    (terms_of a.clock a.own (length a.out.now)) a.route.now a.line s.result.order order
    (lookup_in s.result.known) known c.feed-f.ensures)
