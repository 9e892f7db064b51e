-- A text at its place stays; another is written, and then its pair.
use mathlib.Core.Path.{ap, ◌∙◌}
use native.Mathlib.Omega.{arith}
use Rattle.namelist.proofs.GapLaws.{readable, moved_down, stays-down}
use Rattle.namelist.proofs.gaps.move_down.Goals as goal

pub returns-then-s-to : goal.returns-then-s-to
returns-then-s-to c =
    let m = c.requires in
    stays-down m (c.pair_at-s.ensures ∙ readable m) (omega arith)

pub move_text-requires : goal.move_text-requires
move_text-requires c =
    let m = c.requires in
    let o = ap (λ s. s.offset) (c.pair_at-s.ensures ∙ readable m) in
    let z = ap (λ s. s.size) (c.pair_at-s.ensures ∙ readable m) in
    (m.low, omega arith, omega arith)

pub overflow_cast-to : goal.overflow_cast-to
overflow_cast-to c =
    let m = c.requires in
    let o = ap (λ s. s.offset) (c.pair_at-s.ensures ∙ readable m) in
    omega arith

pub returns : goal.returns
returns c =
    let m = c.requires in
    moved_down (c.pair_at-s.ensures ∙ readable m) c.move_text.ensures c.put_pair.ensures
