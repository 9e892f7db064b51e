-- The first refusal, or what the message does.
use Prim.Native.Nat.{◌%◌}
use native.Mathlib.Omega.{arith}
use mathlib.Core.Path.{refl, ap, ◌∙◌}
use mathlib.Core.Bool.{◌&&◌}
use lib.ListN.{length}
use Rattle.answer.proofs.Apart.{never_zero}
use Rattle.protocol.specs.Outcomes.{terms_of}
use Rattle.station.specs.Actions.{quiet_action}
use Rattle.station.proofs.CallLaws.{message-fits, handed-by, act-refused, line-is}
use Rattle.station.proofs.messages.arrive.Goals as goal

pub act-a-requires : goal.act-a-requires
act-a-requires g c =
    let a = c.args in
    let v = c.read_lines-v in
    let h = c.read_header-h in record {
      l_bound = (omega arith, v.ensures);
      fit = message-fits (a.s.order && v.result.order) a.room (length a.out.now) (length a.route.now)
          a.line
          v.result.line.live a.m.now h.result h.ensures c.in-Ok.ensures refl;
    }

pub returns-in-Ok : goal.returns-in-Ok
returns-in-Ok g c =
    let a = c.args in
    handed-by a.s.order (g.K.Known.lookup a.s.known) a.room a.lines a.line a.m.now
    (terms_of a.clock a.own (length a.out.now)) a.route.now a.out.now
    c.read_lines-v.ensures c.read_header-h.ensures c.in-Ok.ensures
    (c.act-a.ensures.does, c.act-a.ensures.area) c.with_used.ensures

pub returns-in-Err : goal.returns-in-Err
returns-in-Err g c =
    let a = c.args in
    let t = terms_of a.clock a.own (length a.out.now) in
    handed-by a.s.order (g.K.Known.lookup a.s.known) a.room a.lines a.line a.m.now t a.route.now a.out.now
    c.read_lines-v.ensures c.read_header-h.ensures c.in-Err.ensures
    (act-refused a.room a.lines (a.line % 8) (g.K.Known.lookup a.s.known) a.m.now t a.route.now a.out.now
    (line-is a.lines a.room (a.line % 8) c.read_lines-v.ensures) (never_zero c.in-Err.refusal)
    (c.quietly.ensures ∙ ap (λ n. quiet_action n c.read_lines-v.result.line) c.from.ensures))
    c.with_used-in-Err.ensures
