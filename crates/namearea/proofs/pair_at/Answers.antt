-- A pair of an area that has room for the pairs is read of its eight bytes.
use mathlib.Core.Path.{◌∙◌, sym}
use Prim.Native.Nat.{◌+◌, ◌*◌}
use native.Mathlib.Omega.{arith}
use Rattle.namearea.proofs.SpanLaws.{blank, span_part, pair-there, pair-short, pair-past}
use Rattle.namearea.proofs.pair_at.Goals.{then-area-lt-TEXT_FROM-via-then-area-lt-TEXT_FROM}
use Rattle.namearea.proofs.pair_at.Goals.{then-area-lt-TEXT_FROM-via-else-area-lt-TEXT_FROM+then-i-ge-MOST_NAMES}
use Rattle.namearea.proofs.pair_at.Goals as goal

pub returns-then-area-lt-TEXT_FROM : goal.returns-then-area-lt-TEXT_FROM
returns-then-area-lt-TEXT_FROM c =
    let x = c.args in
    blank c.default.result c.default.ensures
    ∙ (elim c.then-area-lt-TEXT_FROM.branch [
      | then-area-lt-TEXT_FROM-via-then-area-lt-TEXT_FROM w ↦
          pair-short x.area.now x.i w.if-area-lt-TEXT_FROM.true
      | then-area-lt-TEXT_FROM-via-else-area-lt-TEXT_FROM+then-i-ge-MOST_NAMES w ↦
          pair-past x.area.now x.i w.if-area-lt-TEXT_FROM.false w.if-i-ge-MOST_NAMES.true
    ])

pub returns : goal.returns
returns c =
    let x = c.args in
    c.span_in.ensures
    ∙ span_part x.area.now (4 + 8 * x.i)
    ∙ sym (pair-there x.area.now x.i (omega arith) (omega arith))
