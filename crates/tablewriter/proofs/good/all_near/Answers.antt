-- The entries gone through are near where `good` says so; those left decide.
use mathlib.Core.Path.{sym, ap, ◌∙◌}
use mathlib.Core.Bool.{◌&&◌, and-true}
use native.Mathlib.Omega.{arith}
use lib.ListN.{get_or}
use Rattle.tablemessages.specs.Writer.{base_of, near}
use Rattle.tablemessages.proofs.DataLaws.{near-more, near-end}
use Rattle.tablewriter.proofs.good.all_near.Goals as goal

pub loop-i-preserved : goal.loop-i-preserved
loop-i-preserved c =
    let x = c.args in
    let l = c.loop-i in
    l.invariant
    ∙ near-more x.new.now (base_of x.had x.old.now x.new.now x.infinity) l.i l.good
    c.is_near-good.result (omega arith)
    (omega arith)
    (c.is_near-good.ensures ∙ ap (near (get_or x.new.now l.i 0)) c.base_at.ensures)

pub returns : goal.returns
returns c =
    let x = c.args in
    let l = c.loop-i in
    sym
    (l.invariant
    ∙ ap (λ t. l.good && t) (near-end x.new.now (base_of x.had x.old.now x.new.now x.infinity)
    l.i (omega arith))
    ∙ and-true l.good)
