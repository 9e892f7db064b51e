-- The refusals, and what is sent.
use mathlib.Core.Path.{refl, ap, ◌∙◌}
use mathlib.Core.Bool.{◌&&◌}
use Prim.Native.Nat.{ℕ}
use lib.Dec.{eqb}
use lib.ListN.{length}
use Rattle.answer.specs.Numbers.{answer_of}
use Rattle.protocol.specs.declared.Age.{Age}
use Rattle.protocol.specs.Memory.{no_age, age_after, pick_age}
use Rattle.answer.proofs.Apart.{never_zero}
use Rattle.protocol.specs.Queries.{usual_limit}
use Rattle.station.specs.Actions.{quiet_report}
use Rattle.station.proofs.CallLaws.{own-fits, own_first, own-refused, answered_as}
use Rattle.station.proofs.asking.ask.Goals as goal

pub send_own-requires : goal.send_own-requires
send_own-requires g c =
    let a = c.args in
    own-fits (a.s.order && c.read_lines-v.result.order) a.room a.text.now a.route.now
    a.out.now
    c.any_zero.result (g.K.Known.lookup a.s.known) c.in-Ok.ensures refl

-- the age that goes with an answer
abbrev aged : ℕ → ℕ → Age
aged after n = pick_age (eqb n 9) (age_after after) no_age

pub returns-in-Ok : goal.returns-in-Ok
returns-in-Ok g c =
    let a = c.args in
    let ev = c.read_lines-v.ensures in
    answered_as a.s.order (g.K.Known.lookup a.s.known) a.room a.lines a.number a.text.now a.route.now
    a.out.now
    (own_first a.s.order (g.K.Known.lookup a.s.known) a.room a.lines a.text.now (length a.out.now)
    (length a.route.now) ev c.any_zero.ensures c.in-Ok.ensures)
    (c.repeat_age-age.ensures ∙ ap (aged (g.K.Known.lookup a.s.known).after) (ap answer_of c.in-Ok.is))
    (c.send_own.ensures a.lines 0 ev)

pub returns-in-Err : goal.returns-in-Err
returns-in-Err g c =
    let a = c.args in
    let ev = c.read_lines-v.ensures in
    answered_as a.s.order (g.K.Known.lookup a.s.known) a.room a.lines a.number a.text.now a.route.now
    a.out.now
    (own_first a.s.order (g.K.Known.lookup a.s.known) a.room a.lines a.text.now (length a.out.now)
    (length a.route.now) ev c.any_zero.ensures c.in-Err.ensures)
    (c.repeat_age-age.ensures ∙ ap (aged (g.K.Known.lookup a.s.known).after) (ap answer_of c.in-Err.is))
    (own-refused usual_limit _ a.room a.lines 0 _ ev a.number a.text.now a.route.now a.out.now
    (never_zero c.in-Err.refusal) (c.quiet.ensures ∙ ap quiet_report c.from.ensures))
