-- The entries gone through are in range where `good` says so; those left decide.
use mathlib.Core.Path.{refl, sym, ap, ◌∙◌}
use mathlib.Core.Bool.{◌&&◌, and-true}
use native.Mathlib.Omega.{arith}
use Rattle.laws.proofs.Writing.{all_end}
use Rattle.tablemessages.specs.Writer.{in_range}
use Rattle.tablemessages.proofs.GoodLaws.{all_more}
use Rattle.tablewriter.proofs.good.in_range.Goals as goal

pub loop-e-preserved : goal.loop-e-preserved
loop-e-preserved c =
    let x = c.args in
    let l = c.loop-e in
    l.invariant ∙ all_more (in_range x.infinity) x.entries.now l.e-index l.good _ (omega arith) refl

pub returns : goal.returns
returns c =
    let x = c.args in
    let l = c.loop-e in
    sym (l.invariant ∙ ap (λ t. l.good && t) (all_end (in_range x.infinity) x.entries.now l.e-index (omega arith))
    ∙ and-true l.good)
