-- Line by line.
use mathlib.Core.Path.{◌≡◌}
use mathlib.Core.Bool.{false, ◌&&◌}
use mathlib.Core.List.{◌++◌}
use lib.ListN.{get_or, take, drop}
use Rattle.protocol.specs.Lines.{each_line, is_other}
use Rattle.forwarding.proofs.lines.open_others.Given as goal

abbrev pub invariant-loop-k : goal.invariant-loop-k
invariant-loop-k l =
    l.others ≡ take l.k (each_line (λ k. is_other l.line k && get_or l.live k false)) ++ drop l.k l.live
