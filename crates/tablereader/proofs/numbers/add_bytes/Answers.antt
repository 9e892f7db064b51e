-- The entries gone through, and the numbers left added to the entries left, make the whole sum.
use mathlib.Core.Path.{◌∙◌}
use native.Mathlib.Omega.{arith}
use lib.ListN.{get_or}
use Rattle.tables.proofs.NumberLaws.{adding_first, adding_fits, adding_more, adding_end, sum_wraps}
use Rattle.tablereader.proofs.numbers.add_bytes.Goals as goal

pub loop-j-init : goal.loop-j-init
loop-j-init c = adding_first _ _ _ c.requires

pub loop-j-preserved : goal.loop-j-preserved
loop-j-preserved c =
    let x = c.args in
    let l = c.loop-j in
    let ns = x.numbers.now in
    let fits = adding_fits 8 l.j ns x.entries.now l.entries l.invariant (omega arith) in
    adding_more 8 l.j ns x.entries.now l.entries l.invariant c.sum_of.result (omega arith)
    (c.sum_of.ensures ∙ sum_wraps 255 (get_or ns l.j 0) (get_or l.entries l.j 0) (omega arith)
    (omega (arith, c.type_inv.numbers l.j)) fits)

pub shape_of-entries : goal.shape_of-entries
shape_of-entries c = c.loop-j.invariant.same

pub returns : goal.returns
returns c =
    let x = c.args in
    let l = c.loop-j in
    adding_end 8 l.j x.numbers.now x.entries.now l.entries l.invariant (omega arith)
