-- Refused, or answered with pongs.
use mathlib.Core.Path.{ap, ◌∙◌}
use Rattle.answer.proofs.Apart.{never_zero, done_is}
use Rattle.station.specs.Actions.{quiet_action}
use Rattle.station.proofs.PingLaws.{ping-refused, ping-done}
use Rattle.station.proofs.pings.ping_step.Goals as goal

pub returns-in-Err : goal.returns-in-Err
returns-in-Err c =
    let a = c.args in
    let p = c.requires in
    λ area. ping-refused a.lines a.l a.x p.l_bound.1 a.h a.clock a.own a.m.now a.out.now
    area p.whole p.l_bound.2
    c.in-Err.ensures (never_zero c.in-Err.refusal)
    (c.quietly.ensures ∙ ap (λ n. quiet_action n a.x) c.from.ensures)

pub returns : goal.returns
returns c =
    let a = c.args in
    let p = c.requires in
    λ area. rw c.quietly-2.ensures (ping-done a.lines a.l a.x p.l_bound.1 a.h a.clock a.own a.m.now a.out.now
    area p.whole p.l_bound.2
    c.ping_answer.ensures (done_is c.ping_answer.result c.in_default.not-Err)
    c.number_of-number.ensures c.is_probe-probe.ensures
    c.send_pongs-written.ensures.size c.send_pongs-written.ensures.bytes c.back_to.ensures
    c.time_kept.ensures
    c.quiet.ensures)
