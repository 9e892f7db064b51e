-- The sum is that of the names passed.
use mathlib.Core.Path.{◌≡◌, ap, sym, ◌∙◌}
use native.Mathlib.Omega.{arith}
use Rattle.namearea.specs.Area.{count_in, names_of, total}
use Rattle.namearea.proofs.SpanLaws.{pair-there}
use Rattle.namearea.proofs.GoodLaws.{listed}
use Rattle.namelist.proofs.SizeLaws.{total-none, total-next, total-most}
use Rattle.namelist.proofs.gaps.total_size.Goals as goal

pub loop-i-init : goal.loop-i-init
loop-i-init c = sym (total-none c.args.area.now)

pub overflow_add-sum : goal.overflow_add-sum
overflow_add-sum c =
    let x = c.args in
    let g = listed x.area.now c.requires.good in
    let m = total-most x.area.now g c.loop-i.i (omega arith) in
    omega (arith, g.few)

pub loop-i-preserved : goal.loop-i-preserved
loop-i-preserved c =
    let x = c.args in
    let g = listed x.area.now c.requires.good in
    let n = total-next x.area.now g c.loop-i.i (omega arith) in
    let there = pair-there x.area.now c.loop-i.i c.requires.long (omega (arith, g.few)) in
    let e = ap (λ s. s.size) (c.pair_at.ensures ∙ there) in
    omega arith

pub returns : goal.returns
returns c =
    let x = c.args in
    let pre = c.requires in
    let i : c.loop-i.i ≡ count_in x.area.now = omega arith in
    let g = listed x.area.now pre.good in
    let m = total-most x.area.now g (count_in x.area.now) (omega arith) in
    let e = c.loop-i.invariant ∙ ap (λ n. total (names_of n x.area.now)) i in
    record { all = e; most = omega (arith, g.few) }
