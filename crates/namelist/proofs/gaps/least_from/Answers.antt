-- The least offset of the pairs passed.
use Prim.Native.Nat.{◌<◌, ◌≤◌}
use mathlib.Core.Logic.{◌⊎◌, ⊎_elim}
use mathlib.Core.Path.{◌≡◌, ap, ◌∙◌}
use native.Mathlib.Omega.{arith}
use Rattle.namearea.specs.Area.{count_in, span_at}
use Rattle.namearea.proofs.SpanLaws.{pair-there}
use Rattle.namelist.specs.Gaps.{Least}
use Rattle.namelist.proofs.NextLaws.{lowest_start, lowest_step, lowest_end}
use borrow.Author.Rules.{rules}
use Rattle.namelist.proofs.gaps.least_from.Goals as goal

pub loop-k-init : goal.loop-k-init
loop-k-init c = rw c.count_in-count.ensures lowest_start

pub loop-k-preserved : goal.loop-k-preserved
loop-k-preserved c =
    let x = c.args in
    let a = x.area.now in
    let k = c.loop-k.k in
    let there = pair-there a k c.requires.0 (omega arith) in
    let e = ap (λ s. s.offset) (c.pair_at-offset.ensures ∙ there) in
    let h : k < count_in a = omega arith in
    let o = (span_at a k).offset in
    let b : o < 4294967296 = search rules in
    let v = c.loop-k in
    let now = c.if-from-offset in
    let step : ((x.from ≤ o) × (o < v.least) × (now.best ≡ k) × (now.least ≡ o))
    ⊎ ((x.from ≤ o → v.least ≤ o) × (now.best ≡ v.best) × (now.least ≡ v.least)) =
    grind (arith, e) in
    lowest_step b v.invariant h step

pub returns-then-best-count : goal.returns-then-best-count
returns-then-best-count c =
    let i : c.loop-k.k ≡ count_in c.args.area.now = omega arith in
    record { which = lowest_end (rw i at c.loop-k.invariant); listed = omega arith }

pub returns-else-best-count : goal.returns-else-best-count
returns-else-best-count c =
    let n = count_in c.args.area.now in
    let i : c.loop-k.k ≡ n = omega arith in
    let l = rw i at c.loop-k.invariant in
    let same : c.loop-k.best ≡ n = ⊎_elim (λ w. w.0) (λ w. absurd (omega arith)) l.which in
    let t : Least c.args.area.now c.args.from c.loop-k.best = lowest_end l in
    record { which = rw same at t; listed = search rules }
