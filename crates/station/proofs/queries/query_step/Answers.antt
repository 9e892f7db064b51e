-- Refused, or taken; the text stands in the payload and ends there.
use native.Mathlib.Omega.{arith}
use mathlib.Core.Path.{◌≡◌}
use Rattle.wire.specs.Header.{size_of}
use Rattle.answer.specs.Numbers.{answer_of}
use Rattle.answer.proofs.Apart.{never_zero, done_is}
use Rattle.station.proofs.ActionLaws.{
  size_is,
  Taken,
  query-goes,
  asked-within,
  asked-fits,
  query-refused,
  query-passed,
}
use Rattle.station.proofs.queries.query_step.Given.{Over}
use Rattle.station.proofs.queries.query_step.Goals.{In_default, Start}
use Rattle.station.proofs.queries.query_step.Goals as goal

-- the payload's size is the header's
sized : (g : Over) (c : Start g) → c.args.h.size ≡ size_of c.args.m.now
sized g c = size_is c.args.m.now c.args.out.now c.requires

pub slice_bounds-payload-end : goal.slice_bounds-payload-end
slice_bounds-payload-end g c =
    omega (arith, c.requires.message.whole, sized g (goal.at.slice_bounds-payload-end g c).Start)

pub returns-in-Err : goal.returns-in-Err
returns-in-Err g c =
    let text = c.text_length-text in
    let a = c.args in
    λ lines ev. query-refused a.limit a.room a.l a.v a.h (g.K.Known.lookup a.known) a.m.now a.out.now
    a.route.now c.requires text.result text.ensures c.in-Err.ensures lines ev
    (never_zero c.in-Err.refusal) c.repeat_age.ensures c.refused.ensures

-- where it is taken, it is not refused, it has a text, and its TTL and Hops allow it
unrefused : (g : Over) (c : In_default g) → answer_of c.query-outcome.result ≡ 0
unrefused g c = done_is c.query-outcome.result c.in_default.not-Err

taken : (g : Over) (c : In_default g)
    → (let a = c.args in Taken a.limit a.h c.text_length-text.result.ended)
taken g c =
    let a = c.args in
    query-goes a.limit a.h c.text_length-text.result.ended (g.K.Known.lookup a.known)
    c.query-outcome.ensures (unrefused g c)

pub overflow_add-end : goal.overflow_add-end
overflow_add-end g c =
    let text = c.text_length-text in
    let a = c.args in
    let short = asked-fits a.m.now a.h.size (sized g (goal.at.overflow_add-end g c).Start) text.result text.ensures
    (taken g (goal.at.overflow_add-end g c).In_default).text in
    omega (arith, c.requires.message.small, sized g (goal.at.overflow_add-end g c).Start, short)

pub slice_bounds-going-end : goal.slice_bounds-going-end
slice_bounds-going-end g c =
    let text = c.text_length-text in
    let a = c.args in
    asked-within a.m.now a.h.size (sized g (goal.at.slice_bounds-going-end g c).Start) text.result text.ensures
    (taken g (goal.at.slice_bounds-going-end g c).In_default).text

pub overflow_sub-life : goal.overflow_sub-life
overflow_sub-life g c =
    let t = taken g (goal.at.overflow_sub-life g c).In_default in
    omega (arith, c.min-life.ensures, t.lives, t.rises)

pub overflow_sub-limit : goal.overflow_sub-limit
overflow_sub-limit g c =
    let t = taken g (goal.at.overflow_sub-limit g c).In_default in
    omega (arith, t.rises)

pub overflow_add-h : goal.overflow_add-h
overflow_add-h g c =
    omega (arith, c.ranges.limit, (taken g (goal.at.overflow_add-h g c).In_default).rises)

pub returns : goal.returns
returns g c =
    let text = c.text_length-text in
    let a = c.args in
    λ lines ev. query-passed a.limit a.room a.l a.v a.h (g.K.Known.lookup a.known) a.m.now a.out.now
    a.route.now c.requires text.result text.ensures c.query-outcome.ensures lines ev
    (unrefused g (goal.at.returns g c).In_default) c.min-life.ensures c.going-to.ensures c.any_line.ensures
    c.pass_if.ensures.count c.pass_if.ensures.bytes
    (λ i. omega (arith, c.type_inv.m i)) c.quiet.ensures
