-- Where the bytes end before the pair, each of its bytes counts 0.
use mathlib.Core.Path.{◌∙◌, ap, sym}
use Prim.Native.Nat.{◌*◌}
use native.Mathlib.Omega.{arith}
use Rattle.laws.proofs.Parts.{part_tail}
use Rattle.namearea.specs.Area.{span_in}
use Rattle.namearea.proofs.SpanLaws.{blank, none-past}
use Rattle.namearea.proofs.span_up_to.Goals as goal

pub returns-then-pairs-i : goal.returns-then-pairs-i
returns-then-pairs-i c =
    let x = c.args in
    blank c.default.result c.default.ensures ∙ sym (none-past x.pairs.now (8 * x.i) (omega arith))

pub returns : goal.returns
returns c =
    let x = c.args in
    c.span_in.ensures ∙ ap span_in (part_tail (8 * x.i) x.pairs.now)
