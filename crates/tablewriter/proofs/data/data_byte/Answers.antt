-- By the plan's bits: a byte of two 4-bit differences, or one 8-bit difference from the base's entry.
use mathlib.Core.Path.{ap, sym, ◌∙◌}
use native.Mathlib.Omega.{arith}
use lib.ListN.{get_or}
use Rattle.tablemessages.specs.Steps.{raw_in}
use Rattle.tablemessages.proofs.PlanLaws.{small-length, small_at, wide-length, wide_at}
use Rattle.tablewriter.proofs.data.data_byte.Goals as goal

pub overflow_mul-j : goal.overflow_mul-j
overflow_mul-j c =
    let x = c.args in
    let p = c.requires in
    omega (arith, small-length x.plan x.old.now x.new.now p.0 c.if-plan.true)

pub pair_byte-requires : goal.pair_byte-requires
pair_byte-requires c =
    let x = c.args in
    let p = c.requires in (
      p.0.like,
      p.0.close c.if-plan.true,
      omega (arith, small-length x.plan x.old.now x.new.now p.0 c.if-plan.true),
    )

pub returns-then-plan : goal.returns-then-plan
returns-then-plan c =
    let x = c.args in
    let p = c.requires in
    c.pair_byte.ensures ∙ sym (small_at x.plan x.old.now x.new.now p.0 c.if-plan.true x.j
    p.1)

pub base_at-b-requires : goal.base_at-b-requires
base_at-b-requires c =
    let x = c.args in
    let p = c.requires in
    (p.0.like, omega (arith, wide-length x.plan x.old.now x.new.now p.0 c.if-plan.false))

pub bounds-new-j : goal.bounds-new-j
bounds-new-j c =
    let x = c.args in
    let p = c.requires in
    omega (arith, wide-length x.plan x.old.now x.new.now p.0 c.if-plan.false)

pub returns : goal.returns
returns c =
    let x = c.args in
    let p = c.requires in
    c.difference.ensures
    ∙ ap (raw_in 256 (get_or x.new.now x.j 0)) c.base_at-b.ensures
    ∙ sym (wide_at x.plan x.old.now x.new.now p.0 c.if-plan.false x.j p.1)
