-- No text passed ends behind `end`.
use Prim.Native.Nat.{◌≤◌}
use mathlib.Core.Path.{◌≡◌, ap, ◌∙◌}
use native.Mathlib.Omega.{arith}
use lib.ListN.{length}
use Rattle.namearea.specs.Area.{span_at, end_of}
use Rattle.namearea.proofs.SpanLaws.{pair-there}
use Rattle.namearea.proofs.GoodLaws.{listed}
use Rattle.namelist.proofs.NextLaws.{one_more}
use Rattle.namelist.proofs.gaps.text_end.Goals as goal

pub loop-i-init : goal.loop-i-init
loop-i-init c = (omega arith, omega arith, (λ k h. absurd (omega arith)))

pub loop-i-preserved : goal.loop-i-preserved
loop-i-preserved c =
    let a = c.args.area.now in
    let i = c.loop-i.i in
    let good = listed a c.requires.good in
    let t = good.inside i (omega arith) in
    let there = pair-there a i c.requires.long (omega (arith, good.few)) in
    let d : end_of c.pair_at.result ≡ end_of (span_at a i) =
    ap end_of (c.pair_at.ensures ∙ there) in
    let v = c.loop-i.invariant in
    let m = c.max-end.result in
    let g : (c.loop-i.end ≤ m) × (end_of (span_at a i) ≤ m) × (m ≤ length a) = (omega arith, omega arith, omega arith) in (
      omega arith,
      g.2,
      one_more (λ k. end_of (span_at a k) ≤ m) i (λ k h. let o = v.2 k h in omega arith) g.1,
    )

pub returns : goal.returns
returns c =
    let inv = c.loop-i.invariant in
    record { low = inv.0; high = inv.1; above = λ k h. inv.2 k (omega arith) }
