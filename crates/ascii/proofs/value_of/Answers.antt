-- The digits read and those that are left make the number; it stays below the power of ten.
use mathlib.Core.Path.{◌≡◌, sym, ◌∙◌}
use native.Mathlib.Omega.{arith}
use lib.ListN.{get_or}
use Rattle.ascii.specs.Text.{digit_of}
use Rattle.ascii.proofs.TextLaws.{digit-small, decimal-on, ten_times, six-digits}
use Rattle.ascii.proofs.value_of.Goals as goal

pub overflow_add-n : goal.overflow_add-n
overflow_add-n c =
    omega (
      arith,
      six-digits c.loop-b.n c.loop-b.b-index (omega arith) c.loop-b.invariant.1,
      c.digit.ensures,
      digit-small (get_or c.args.s.now c.loop-b.b-index 0),
    )

pub loop-b-preserved : goal.loop-b-preserved
loop-b-preserved c =
    let s = c.args.s.now in
    let e : c.digit.result ≡ digit_of (get_or s c.loop-b.b-index 0) = c.digit.ensures in (
      rw e (sym (decimal-on s c.loop-b.n c.loop-b.b-index (omega arith)) ∙ c.loop-b.invariant.0),
      rw e (ten_times c.loop-b.n _ c.loop-b.b-index c.loop-b.invariant.1 (digit-small _)),
    )
