-- The queries before p are apart, and the filter has their bits; where p is not the last place, it has those of p too.
use Prim.Native.Nat.{◌+◌, ◌-◌}
use mathlib.Core.Path.{◌≡◌, sym, ◌∙◌}
use native.Mathlib.Omega.{arith}
use lib.ListN.{length, get_or}
use borrow.Author.Rules.{rules}
use Rattle.protocol.specs.Memory.{memory_of, query_at}
use Rattle.memory.proofs.NumberLaws.{found_before, passed_with, twice-met}
use Rattle.memory.proofs.numbers.no_twice_in.Goals as goal

pub fill-p-requires : goal.fill-p-requires
fill-p-requires c = let pre = c.requires in (pre.from_le_to.0, pre.from_le_to.1, pre.passed.size)

pub loop-p-init : goal.loop-p-init
loop-p-init c =
    let a = c.args in
    let f = c.fill-p.ensures in
    (f.low, f.high, f.stopped, f.on a.hi.now a.asker.now a.hits.now a.passed c.requires.passed)

pub returns-then-is_some : goal.returns-then-is_some
returns-then-is_some c =
    let a = c.args in
    let p = c.loop-p.p in
    let high : c.unwrap_or-high.result ≡ get_or a.hi.now p 0 = search rules in
    let ring = memory_of a.lo.now a.hi.now a.asker.now a.hits.now (a.passed + (p - a.from)) p in
    let told =
    found_before (length a.lo.now) ring _ c.find.result (omega (arith, c.requires))
    (omega (arith, c.requires)) high c.find.ensures in
    twice-met (query_at ring) (length a.lo.now) a.from a.to a.passed p (search rules) (search rules)
    c.requires.from_le_to.1 (sym told ∙ sym c.is_some.ensures ∙ c.if-is_some.true)

pub fill-p-requires-in-loop-p : goal.fill-p-requires-in-loop-p
fill-p-requires-in-loop-p c =
    (search rules, c.requires.from_le_to.1, c.loop-p.invariant.3.size)

pub loop-p-smaller : goal.loop-p-smaller
loop-p-smaller c = omega (arith, c.fill-p-in-loop-p.ensures.low)

pub loop-p-preserved : goal.loop-p-preserved
loop-p-preserved c =
    let a = c.args in
    let l = c.loop-p in
    let n = a.passed + (l.p - a.from) in
    let high : c.unwrap_or-high.result ≡ get_or a.hi.now l.p 0 = search rules in
    let ring = memory_of a.lo.now a.hi.now a.asker.now a.hits.now n l.p in
    let told =
    found_before (length a.lo.now) ring _ c.find.result (omega (arith, c.requires))
    (omega (arith, c.requires)) high c.find.ensures in
    let one =
    passed_with (query_at ring) (length a.lo.now) l.p n l.filter l.filter (omega (arith, c.requires))
    l.invariant.3 (sym told ∙ sym c.is_some.ensures ∙ c.if-is_some.false) l.invariant.3.size (l.invariant.2 (search rules)) (λ _ e. e) in
    let f = c.fill-p-in-loop-p.ensures in
    let p = c.fill-p-in-loop-p.result in
    let e : n + 1 + (p - (l.p + 1)) ≡ a.passed + (p - a.from) = omega (arith, f.low) in (
      omega (arith, f.low),
      f.high,
      f.stopped,
      rw e at (f.on a.hi.now a.asker.now a.hits.now (n + 1) one),
    )

pub returns : goal.returns
returns c =
    let e : c.loop-p.p ≡ c.args.to = omega arith in
    rw e at c.loop-p.invariant.3
