-- With an old table the pair is read from it; without one both entries of the base are Infinity.
use mathlib.Core.Path.{ap, ◌∙◌}
use mathlib.Core.Bool.{cond}
use native.Mathlib.Omega.{arith}
use lib.ListN.{length, get_or}
use Rattle.tablemessages.specs.Writer.{base_of}
use Rattle.tablemessages.proofs.DataLaws.{base-at}
use Prim.Native.Nat.{◌+◌}
use Rattle.tablewriter.proofs.data.base_pair.Goals as goal

pub pair_at-requires : goal.pair_at-requires
pair_at-requires c =
    let x = c.args in
    omega (arith, ap (λ h. length (base_of h x.old.now x.new.now x.plan.infinity)) c.if-plan.true)

pub returns-then-plan : goal.returns-then-plan
returns-then-plan c =
    let x = c.args in (
      rw c.if-plan.true c.pair_at.ensures,
      rw c.if-plan.true (omega (arith, c.type_inv.old x.i)),
    )

pub returns : goal.returns
returns c =
    let x = c.args in
    let low =
    base-at x.plan.had x.old.now x.new.now x.plan.infinity x.i (omega arith)
    ∙ ap (λ h. cond h (get_or x.old.now x.i 0) x.plan.infinity) c.if-plan.false in
    let high =
    base-at x.plan.had x.old.now x.new.now x.plan.infinity (x.i + 1) (omega arith)
    ∙ ap (λ h. cond h (get_or x.old.now (x.i + 1) 0) x.plan.infinity) c.if-plan.false in
    (omega (arith, low, high), omega (arith, low))
