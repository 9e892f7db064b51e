-- Refused, delivered here, or passed on.
use native.Mathlib.Omega.{arith}
use mathlib.Core.Path.{◌≡◌, refl, sym, ap, ◌∙◌}
use Rattle.wire.specs.declared.Header.{Header}
use Rattle.answer.proofs.Apart.{never_zero}
use Rattle.protocol.specs.Outcomes.{only_to}
use Rattle.station.proofs.ActionLaws.{Goes, asker-told, hit-goes, hit-refused, hit-here, hit-on}
use Rattle.station.proofs.hits.hit_step.Given.{Over}
use Rattle.station.proofs.hits.hit_step.Goals.{In-Ok, Else-query-eq-HERE}
use Rattle.station.proofs.hits.hit_step.Goals as goal

pub returns-in-Err : goal.returns-in-Err
returns-in-Err g c =
    let a = c.args in
    λ area. hit-refused a.line a.h (g.K.Known.lookup a.known) a.m.now area a.out.now c.requires
    c.in-Err.ensures.number c.hit_age-age.ensures (never_zero c.in-Err.refusal) c.refused.ensures

-- who asked for what it answers
asked : (g : Over) (c : In-Ok g) → (g.K.Known.lookup c.args.known).asker ≡ c.in-Ok.query.asker
asked g c = asker-told (g.K.Known.lookup c.args.known) c.in-Ok.query c.in-Ok.ensures.query

pub returns-then-query-eq-HERE : goal.returns-then-query-eq-HERE
returns-then-query-eq-HERE g c =
    let a = c.args in
    λ area. hit-here a.line a.h (g.K.Known.lookup a.known) a.m.now area a.out.now c.requires c.in-Ok.ensures.number
    c.hit_age-age.ensures refl c.quiet.ensures
    (asked g (goal.at.returns-then-query-eq-HERE g c).In-Ok ∙ c.if-query-eq-HERE.true)

-- where it is to be passed on, its TTL and Hops allow it
goes : (g : Over) (c : Else-query-eq-HERE g) → Goes c.args.h
goes g c =
    hit-goes c.args.h (g.K.Known.lookup c.args.known) c.in-Ok.ensures.number refl
    (λ e. c.if-query-eq-HERE.false (sym (asked g (goal.at.Else-query-eq-HERE g c).In-Ok) ∙ e))

pub overflow_sub-h : goal.overflow_sub-h
overflow_sub-h g c = omega (arith, (goes g (goal.at.overflow_sub-h g c).Else-query-eq-HERE).lives)

pub overflow_add-h : goal.overflow_add-h
overflow_add-h g c =
    let hops = ap (λ (h : Header). h.hops) c.requires.message.header in
    omega (arith, (goes g (goal.at.overflow_add-h g c).Else-query-eq-HERE).rises, hops, c.type_inv.m 18)

pub returns-else-query-eq-HERE : goal.returns-else-query-eq-HERE
returns-else-query-eq-HERE g c =
    let a = c.args in
    let who = asked g (goal.at.returns-else-query-eq-HERE g c).In-Ok in
    λ area. hit-on a.line a.h (g.K.Known.lookup a.known) a.m.now area a.out.now c.requires c.in-Ok.ensures.number
    c.hit_age-age.ensures refl c.quiet-else-query-eq-HERE.ensures (λ e. c.if-query-eq-HERE.false (sym who ∙ e))
    (λ i. omega (arith, c.type_inv.m i))
    c.pass_on.ensures.count (c.only_to.ensures ∙ ap only_to (sym who)) c.pass_on.ensures.bytes
