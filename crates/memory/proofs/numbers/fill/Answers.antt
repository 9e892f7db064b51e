-- The filter was brought on to p.
use mathlib.Core.Path.{◌≡◌}
use native.Mathlib.Omega.{arith}
use lib.ListN.{length-set}
use borrow.Author.Rules.{rules}
use borrow.Author.Tests.{eq-eqb, ne_eqb}
use Rattle.memory.proofs.NumberLaws.{on_none, on-more}
use Rattle.memory.proofs.numbers.fill.Goals as goal

pub loop-p-init : goal.loop-p-init
loop-p-init c =
    let a = c.args in
    (c.requires.2, on_none a.lo.now a.from a.filter.now)

pub returns-then-more-word : goal.returns-then-more-word
returns-then-more-word c =
    let l = c.loop-p in
    let e = eq-eqb _ _ c.if-more-word.true in
    record { low = search rules; high = search rules; size = l.invariant.0; stopped = λ _. e; on = l.invariant.1 }

pub loop-p-preserved : goal.loop-p-preserved
loop-p-preserved c =
    let a = c.args in
    let l = c.loop-p in (
      rw length-set l.invariant.0,
      on-more a.lo.now a.from l.p _ l.filter (search rules) (search rules) l.invariant.0
          (ne_eqb _ _ c.if-more-word.false) l.invariant.1,
    )

pub returns : goal.returns
returns c =
    let a = c.args in
    let l = c.loop-p in
    let e : l.p ≡ a.to = omega (arith, c.requires) in
    record { low = c.requires.0; high = search rules; size = l.invariant.0; stopped = λ h. absurd (omega arith); on = rw e at l.invariant.1 }
