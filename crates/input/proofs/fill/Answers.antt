-- What is read stands behind what was read before.
use Rattle.std.proofs.Common.{rules, length, ◌-◌, subst}
use Rattle.std.specs.Io.KnownBytes.{Consumes}
use Rattle.std.proofs.KnownBytes.{Consumes-trans}
use Rattle.input.proofs.Joining.{joined}
use Rattle.input.proofs.fill.Goals as goal

pub loop-size-preserved : goal.loop-size-preserved
loop-size-preserved g c =
    let from = c.loop-size.size in
    let area = c.loop-size.area in (
      search rules,
      search rules,
      subst (Consumes _ _)
          (joined from (length area - from) c.in_ok-n.n area c.read.new.buf c.loop-size.invariant.0 c.in_ok-n.ensures.bound.0)
          (Consumes-trans _ _ _ _ _ c.loop-size.invariant.2 c.in_ok-n.ensures.bytes.0),
    )
