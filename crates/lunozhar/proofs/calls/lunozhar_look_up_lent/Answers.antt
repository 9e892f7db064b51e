-- The ring is surveyed for the number, and the lines are read.
use mathlib.Core.Path.{ap₂, ◌∙◌}
use Rattle.protocol.specs.Memory.{memory_of}
use Rattle.protocol.specs.Calls.{finding_by, looking_up}
use Rattle.station.proofs.CallLaws.{surveyed_order, known_is}
use Rattle.lunozhar.proofs.calls.lunozhar_look_up_lent.Goals as goal

pub returns : goal.returns
unfolding looking_up
returns c =
    let a = c.args in
    let q = memory_of a.lo.now a.hi.now a.asker.now a.hits.now a.count a.next in
    let number = c.read_header-h.ensures in
    let s = c.survey_ring-s in
    c.from.ensures ∙ c.look_up.ensures.finding
    ∙ ap₂ finding_by (c.in_order-order.ensures ∙ surveyed_order a.room a.lines.at q s.ensures.order)
    (known_is a.number.bytes number q s.ensures.known)
