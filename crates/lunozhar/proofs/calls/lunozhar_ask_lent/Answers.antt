-- The ring is surveyed for the query's number, and takes it in where the answer is 0.
use lib.Dec.{eqb}
use Rattle.protocol.specs.Memory.{memory_of, here, lookup_in}
use Rattle.station.proofs.CallLaws.{surveyed_order, known_is, ring-after, own-met}
use Rattle.lunozhar.proofs.calls.lunozhar_ask_lent.Goals as goal

pub returns : goal.returns
returns c =
    let a = c.args in
    let q = memory_of a.lo.now a.hi.now a.asker.now a.hits.now a.count.now a.next.now in
    let number = c.read_header-h.ensures in
    let s = c.survey_ring-s in
    let order = surveyed_order a.room a.lines.at q s.ensures.order in
    let after = ring-after a.number.bytes number q (eqb c.ask-report.result.answer 0) here
    c.remember.ensures in
    rw after
    (own-met a.room a.lines.at q a.number.bytes a.text.now a.route.now a.out.now
    s.result.order order (lookup_in s.result.known) (known_is a.number.bytes number q s.ensures.known)
    c.ask-report.ensures)
