-- No place before place `at` agrees. The last block begins at one of these, or just behind them.
use Prim.Native.Nat.{◌+◌, ◌-◌}
use native.Mathlib.Omega.{arith}
use lib.ListN.{length}
use Rattle.matching.proofs.QuickLaws.{none-join, none-all}
use Rattle.matching.proofs.quick.Sample.may_be_in.Goals as goal

pub returns-then-places-lt-BLOCK : goal.returns-then-places-lt-BLOCK
returns-then-places-lt-BLOCK c =
    let x = c.args in
    let places = length x.name.now - x.self.end in
    λ e. none-all x.self x.name.now (0 + places) (omega arith) (c.meets.ensures e)

pub loop-at-preserved : goal.loop-at-preserved
loop-at-preserved c =
    let l = c.loop-at in
    let x = c.args in
    let next = c.meets-in-loop-at.ensures c.if-meets.false in (
      omega arith,
      none-join x.self x.name.now 0 l.at l.at (l.at + 16) 0 (l.at + 16) l.invariant.1 next (omega arith)
          (omega arith) (omega arith),
    )

pub returns : goal.returns
returns c =
    let l = c.loop-at in
    let x = c.args in
    let places = length x.name.now - x.self.end in
    λ e. none-all x.self x.name.now places (omega arith)
    (none-join x.self x.name.now 0 l.at (places - 16) (places - 16 + 16) 0 places l.invariant.1
    (c.meets-2.ensures e) (omega arith) (omega arith) (omega arith))
