-- `good` is the test of the passes made: nobody, and the lines below k.
use mathlib.Core.Path.{◌≡◌, sym, ap₂, ◌∙◌}
use mathlib.Core.Bool.{false, ◌&&◌, and-true}
use native.Mathlib.Omega.{arith}
use lib.ListN.{get_or}
use Rattle.memory.proofs.AskerLaws.{pass-none, pass-more, pass-last}
use Rattle.memory.proofs.askers.part_fits.Goals.{then-not-live-k, else-not-live-k}
use Rattle.memory.proofs.askers.part_fits.Goals as goal

pub loop-k-init : goal.loop-k-init
loop-k-init c =
    let a = c.args in
    c.all_fit_beside-good.ensures ∙ pass-none (λ j. get_or a.live j false) a.part.now

pub loop-k-preserved : goal.loop-k-preserved
loop-k-preserved c =
    let a = c.args in
    let l = c.loop-k in
    let live = get_or a.live l.k false in
    let e = pass-more (λ j. get_or a.live j false) a.part.now l.k in
    elim c.if-not-live-k.branch [
      | then-not-live-k w ↦ w.good-is ∙ ap₂ ◌&&◌ l.invariant w.all_fit_beside-good-then-not-live-k.ensures ∙ rw w.if-not-live-k.true at e
      | else-not-live-k w ↦ w.good-is ∙ l.invariant ∙ sym (and-true _) ∙ rw w.if-not-live-k.false at e
    ]

pub returns : goal.returns
returns c =
    let a = c.args in
    let l = c.loop-k in
    let e : l.k ≡ 8 = omega arith in
    rw e at l.invariant ∙ pass-last (λ j. get_or a.live j false) a.part.now
