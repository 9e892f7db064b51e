-- Refused, or stored.
use native.Mathlib.Omega.{arith}
use mathlib.Core.Path.{ap, ◌∙◌}
use Rattle.wire.specs.declared.Header.{Header}
use Rattle.answer.proofs.Apart.{never_zero, done_is}
use Rattle.station.specs.Actions.{quiet_action}
use Rattle.station.proofs.PingLaws.{pong-refused, pong-done}
use Rattle.station.proofs.pings.pong_step.Goals as goal

pub returns-in-Err : goal.returns-in-Err
returns-in-Err c =
    let a = c.args in
    λ area. pong-refused a.x a.h a.clock a.m.now area c.requires c.in-Err.ensures
    (never_zero c.in-Err.refusal) (c.quietly.ensures ∙ ap (λ n. quiet_action n a.x) c.from.ensures)

pub slice_bounds-first_bytes-end : goal.slice_bounds-first_bytes-end
slice_bounds-first_bytes-end c =
    let p = c.requires in
    omega (arith, p.whole, ap (λ (h : Header). h.size) p.header)

pub returns : goal.returns
returns c =
    let a = c.args in
    λ area. pong-done a.x a.h a.clock a.m.now area c.requires c.pong_answer.ensures
    (done_is c.pong_answer.result c.in_default.not-Err)
    c.first_bytes-bytes.ensures c.store_pong.ensures c.quietly-2.ensures
