-- Written, or for no line.
use native.Mathlib.Omega.{arith}
use mathlib.Core.Path.{◌≡◌, refl, sym, ◌∙◌}
use lib.ListN.{length}
use Rattle.station.proofs.CallLaws.{own-unsent, own-sent, own-written, own-counted}
use Rattle.station.proofs.asking.send_own.Goals as goal

pub returns-then-not-any_line : goal.returns-then-not-any_line
returns-then-not-any_line c =
    let a = c.args in
    λ lines l ev. own-unsent a.limit 0 a.room lines l a.v ev a.number a.text.now
    a.route.now a.out.now refl c.quiet.ensures c.passing-to.ensures
    (sym c.any_line.ensures ∙ c.if-not-any_line.true)

pub returns : goal.returns
returns c =
    let a = c.args in
    let p = c.requires in
    let sixteen : length a.number ≡ 16 = omega (arith, c.well_formed.1.1.1.1.0) in
    λ lines l ev. own-sent a.limit 0 a.room lines l a.v ev a.number a.text.now
    a.route.now a.out.now refl c.quiet-2.ensures c.passing-to.ensures
    (sym c.any_line.ensures ∙ c.if-not-any_line.false)
    (own-counted a.limit a.number a.text.now a.out.now sixteen p.0 p.1
    c.own_query.ensures.count)
    (own-written a.limit a.number a.text.now a.out.now sixteen p.0 p.1
    c.own_query.ensures.bytes)
