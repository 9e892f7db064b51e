-- With an old table entry i of the base is the old one, without one it is Infinity: one law, both cases.
use mathlib.Core.Path.{sym, ap, ◌∙◌}
use mathlib.Core.Bool.{cond}
use native.Mathlib.Omega.{arith}
use lib.ListN.{length, get_or}
use Rattle.tablemessages.specs.Writer.{base_of}
use Rattle.tablemessages.proofs.DataLaws.{base-at}
use Rattle.tablewriter.proofs.good.base_at.Goals as goal

pub bounds-old-i : goal.bounds-old-i
bounds-old-i c =
    let x = c.args in
    omega (arith, ap (λ h. length (base_of h x.old.now x.new.now x.infinity)) c.if-had.true)

pub returns-then-had : goal.returns-then-had
returns-then-had c =
    let x = c.args in
    sym
    (base-at x.had x.old.now x.new.now x.infinity x.i (omega arith)
    ∙ ap (λ h. cond h (get_or x.old.now x.i 0) x.infinity) c.if-had.true)

pub returns-else-had : goal.returns-else-had
returns-else-had c =
    let x = c.args in
    sym
    (base-at x.had x.old.now x.new.now x.infinity x.i (omega arith)
    ∙ ap (λ h. cond h (get_or x.old.now x.i 0) x.infinity) c.if-had.false)
