-- The numbers decide, or rising offsets and the bytes along the names do, or each name and each two of them.
use mathlib.Core.Path.{refl, sym, ◌∙◌}
use native.Mathlib.Omega.{arith}
use Rattle.laws.proofs.Refusals.{clash}
use Rattle.names.proofs.OrderLaws.{none-placed, told-unfit, told-whole, told-listed}
use Rattle.names.proofs.order.all_placed.Goals.{then-is_dense, else-is_dense}
use Rattle.names.proofs.order.all_placed.Goals as goal

pub returns-then-list-eq0 : goal.returns-then-list-eq0
returns-then-list-eq0 c =
    let x = c.args.list in
    sym (none-placed x.count x.area.now c.if-list-eq0.true)

pub returns-in-Unfit : goal.returns-in-Unfit
returns-in-Unfit c =
    let x = c.args.list in
    sym (told-unfit x.count x.area.now _ c.in-Unfit.ensures refl)

pub returns-then-no_zero_along : goal.returns-then-no_zero_along
returns-then-no_zero_along c =
    let x = c.args.list in
    let yes = c.if-no_zero_along.true in
    yes
    ∙ sym
    (told-whole x.count x.area.now _ c.in-Rising.ensures (λ z. omega arith) (λ z. omega arith)
    (elim c.if-is_dense.branch [
      | then-is_dense w ↦ sym w.no_zero_along.ensures ∙ sym w.value-is ∙ yes
      | else-is_dense w ↦ absurd (clash yes (w.value-is ∙ w.if-is_dense.false))
    ]))

pub returns-else-no_zero_along : goal.returns-else-no_zero_along
returns-else-no_zero_along c =
    let x = c.args.list in
    c.all_listable.ensures
    ∙ sym (told-listed x.count x.area.now _ c.in-Rising.ensures (λ z. omega arith) (λ z. omega arith))
