-- The bytes gone through have no zero where `good` says so; those left decide.
use mathlib.Core.Path.{refl, sym, ap, ◌∙◌}
use mathlib.Core.Bool.{◌&&◌, not, and-true}
use native.Mathlib.Omega.{arith}
use lib.Dec.{eqb}
use Rattle.laws.proofs.Writing.{any-end}
use Rattle.namearea.proofs.SpanLaws.{zero_more}
use Rattle.namearea.proofs.no_zero.Goals as goal

pub loop-b-init : goal.loop-b-init
loop-b-init c = refl

pub loop-b-preserved : goal.loop-b-preserved
loop-b-preserved c =
    let l = c.loop-b in
    l.invariant ∙ zero_more _ l.b-index l.good (omega arith)

pub returns : goal.returns
returns c =
    let x = c.args in
    let l = c.loop-b in
    sym (l.invariant ∙ ap (λ t. l.good && not t) (any-end (eqb 0) x.name.now l.b-index (omega arith))
    ∙ and-true l.good)
