-- The numbers gone through fit where `good` says so; those left decide.
use mathlib.Core.Path.{sym, ◌∙◌}
use native.Mathlib.Omega.{arith}
use Rattle.tables.proofs.NumberLaws.{testing_more, testing_end}
use Rattle.tablereader.proofs.numbers.bytes_fit.Goals as goal

pub loop-j-preserved : goal.loop-j-preserved
loop-j-preserved c =
    let x = c.args in
    let l = c.loop-j in
    l.invariant
    ∙ testing_more 8 x.infinity l.j x.numbers.now x.entries.now l.good c.number_fits-good.result
    (omega arith) (omega arith) c.number_fits-good.ensures

pub returns : goal.returns
returns c =
    let x = c.args in
    let l = c.loop-j in
    sym (l.invariant ∙ testing_end 8 x.infinity l.j x.numbers.now x.entries.now l.good (omega arith))
