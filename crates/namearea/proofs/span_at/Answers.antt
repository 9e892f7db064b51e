-- A pair of which all bytes are there is read of just those.
use mathlib.Core.Path.{◌∙◌, ap, sym}
use Prim.Native.Nat.{◌+◌, ◌*◌}
use native.Mathlib.Omega.{arith}
use lib.ListN.{drop}
use lib.Seq.{drop-drop}
use Rattle.laws.proofs.Parts.{part_tail}
use Rattle.namearea.specs.Area.{span_in}
use Rattle.namearea.proofs.SpanLaws.{blank, none-past, span_part}
use Rattle.namearea.proofs.span_at.Goals as goal

pub returns-then-area-lt4 : goal.returns-then-area-lt4
returns-then-area-lt4 c =
    let x = c.args in
    blank c.default.result c.default.ensures ∙ sym (none-past x.area.now (4 + 8 * x.i) (omega arith))

pub returns-then-pairs-i : goal.returns-then-pairs-i
returns-then-pairs-i c =
    let x = c.args in
    c.span_up_to.ensures
    ∙ ap span_in (ap (drop (8 * x.i)) (part_tail 4 x.area.now) ∙ drop-drop (8 * x.i) 4 x.area.now)

pub returns : goal.returns
returns c =
    let x = c.args in
    c.span_in.ensures
    ∙ rw (part_tail 4 x.area.now) (span_part (drop 4 x.area.now) (8 * x.i))
    ∙ ap span_in (drop-drop (8 * x.i) 4 x.area.now)
