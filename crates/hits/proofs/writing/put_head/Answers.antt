-- Where there is room the fields are written one behind another; else nothing is.
use Rattle.std.proofs.Common.{◌∙◌, arith}
use borrow.Author.Tests.{lt-leb}
use Rattle.wire.proofs.NumberLaws.{bytes-four}
use Rattle.hits.specs.Writing.{head_into}
use Rattle.hits.proofs.WriteLaws.{bytes-two, head-stored}
use Rattle.hits.proofs.writing.put_head.Goals as goal

pub returns-then-part-lt-HEAD_SIZE : goal.returns-then-part-lt-HEAD_SIZE
unfolding head_into
returns-then-part-lt-HEAD_SIZE c = simp (lt-leb _ _ c.if-part-lt-HEAD_SIZE.true)

pub returns : goal.returns
returns c =
    let x = c.args in
    head-stored x.results x.from x.part.now _ _ _ (omega arith) c.if-part-lt-HEAD_SIZE.false
    (c.copy_from_slice.ensures.after ∙ c.to_le_bytes.ensures ∙ bytes-two x.from.port)
    c.copy_from_slice-2.ensures.after
    (c.copy_from_slice-3.ensures.after ∙ c.to_le_bytes-2.ensures ∙ bytes-four x.from.speed)
