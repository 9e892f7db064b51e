-- `good` is the test of the bytes passed.
use mathlib.Core.Path.{refl, sym, ap, ◌∙◌}
use native.Mathlib.Numerals.{add-one}
use lib.Seq.{take_all}
use borrow.Author.Rules.{rules}
use Rattle.laws.specs.Tests.{all}
use Rattle.memory.specs.Order.{fits_beside}
use Rattle.memory.proofs.AskerLaws.{all-suc}
use Rattle.memory.proofs.askers.all_fit_beside.Goals as goal

pub loop-a-init : goal.loop-a-init
loop-a-init c = refl

pub loop-a-preserved : goal.loop-a-preserved
loop-a-preserved c =
    let a = c.args in
    let l = c.loop-a in
    rw (l.invariant, add-one) (sym (all-suc (fits_beside a.line) a.part.now l.a-index (search rules)))

pub returns : goal.returns
returns c =
    let a = c.args in
    let l = c.loop-a in
    l.invariant ∙ ap (all (fits_beside a.line)) (take_all l.a-index a.part.now (search rules))
