-- Line by line.
use mathlib.Core.Path.{refl, ◌∙◌}
use native.Mathlib.Omega.{arith}
use Rattle.protocol.specs.Lines.{line_in}
use Rattle.forwarding.proofs.LineLaws.{each_next, each_last}
use Rattle.station.proofs.lines.tables_of.Goals as goal

pub loop-k-init : goal.loop-k-init
loop-k-init c = (omega arith, refl)

pub loop-k-preserved : goal.loop-k-preserved
loop-k-preserved c =
    let lines = c.args.lines in
    (omega arith, each_next (λ k. (line_in lines k).table) _ refl c.loop-k.k (omega arith) _ _ c.loop-k.invariant.1 refl)

pub returns : goal.returns
returns c =
    let lines = c.args.lines in
    c.loop-k.invariant.1 ∙ each_last (λ k. (line_in lines k).table) _ refl c.loop-k.k (omega arith)
