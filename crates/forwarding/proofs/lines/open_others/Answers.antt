-- Line by line.
use mathlib.Core.Path.{refl, ◌∙◌}
use mathlib.Core.Bool.{false, ◌&&◌}
use native.Mathlib.Omega.{arith}
use lib.ListN.{get_or}
use Rattle.protocol.specs.Lines.{is_other}
use Rattle.forwarding.proofs.LineLaws.{each_next, each_last}
use Rattle.forwarding.proofs.lines.open_others.Goals as goal

pub loop-k-init : goal.loop-k-init
loop-k-init c = refl

pub loop-k-preserved : goal.loop-k-preserved
loop-k-preserved c =
    let x = c.args in
    each_next (λ k. is_other x.line k && get_or x.live k false) x.live (omega arith) c.loop-k.k (omega arith) _ _
    c.loop-k.invariant c.is_open_other.ensures

pub returns : goal.returns
returns c =
    let x = c.args in
    c.loop-k.invariant
    ∙ each_last (λ k. is_other x.line k && get_or x.live k false) x.live (omega arith) c.loop-k.k (omega arith)
