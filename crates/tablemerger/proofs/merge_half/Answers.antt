-- The first 2 j entries are merged, the others as they were.
use Prim.Native.Nat.{◌+◌, ◌*◌, min}
use mathlib.Core.Path.{◌≡◌, ap, ◌∙◌}
use native.Mathlib.Omega.{arith}
use lib.ListN.{get_or, set, length-set}
use borrow.Author.Rules.{rules}
use Rattle.tablemerger.proofs.MergeSteps.{nearest-one, covered-half, merging_first, merging_next}
use Rattle.tablemerger.proofs.MergeSteps.{merging_end}
use Rattle.tablemerger.proofs.merge_half.Goals as goal

pub loop-j-init : goal.loop-j-init
loop-j-init c = merging_first _ _ _

pub bounds-entries-j-in-loop-j-2 : goal.bounds-entries-j-in-loop-j-2
bounds-entries-j-in-loop-j-2 c = rw length-set (search rules)

pub bounds-entries-j-in-loop-j-3 : goal.bounds-entries-j-in-loop-j-3
bounds-entries-j-in-loop-j-3 c = rw length-set (search rules)

pub loop-j-preserved : goal.loop-j-preserved
loop-j-preserved c =
    let l = c.loop-j in
    let x = c.args in
    let k = 2 * l.j in
    let e = get_or x.table.now l.j 0 in
    let once = set l.entries k c.min.result in
    let next : 2 * (l.j + 1) ≡ k + 1 + 1 = omega arith in
    let first = merging_next x.infinity x.table.now x.entries.now l.entries k l.invariant
    c.min.result _ (search rules)
    (covered-half _ _ k (search rules) (search rules) l.j (search rules) (search rules) (search rules))
    (c.min.ensures
    ∙ ap (λ y. min y (get_or l.entries k 0)) c.farther-v.ensures
    ∙ nearest-one x.infinity e (get_or l.entries k 0) (omega arith)) in
    rw next (merging_next x.infinity x.table.now x.entries.now once (k + 1) first
    c.min-in-loop-j.result _ (search rules)
    (covered-half _ _ (k + 1) (search rules) (search rules) l.j (search rules) (search rules) (search rules))
    (c.min-in-loop-j.ensures
    ∙ ap (λ y. min y (get_or once (k + 1) 0)) c.farther-v.ensures
    ∙ nearest-one x.infinity e (get_or once (k + 1) 0) (omega arith)))

pub returns : goal.returns
returns c = merging_end _ _ _ _ _ c.loop-j.invariant (λ p h k. absurd (omega arith))
