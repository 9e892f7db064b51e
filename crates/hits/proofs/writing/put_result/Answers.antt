-- Where there is room the parts are written one behind another; else nothing is.
use Rattle.std.proofs.Common.{◌∙◌, sym, arith}
use Rattle.wire.proofs.NumberLaws.{bytes-four}
use Rattle.hits.proofs.WriteLaws.{no_room, result-stored}
use Rattle.hits.proofs.writing.put_result.Goals as goal

pub returns-then-part-lt10-clause-bytes : goal.returns-then-part-lt10-clause-bytes
returns-then-part-lt10-clause-bytes c =
    let x = c.args in
    sym (no_room x.index x.size x.name.now x.part.now (omega arith))

pub returns-clause-bytes : goal.returns-clause-bytes
returns-clause-bytes c =
    let x = c.args in
    result-stored x.index x.size x.name.now x.part.now _ _ _ _ _ _ (omega arith)
    (c.copy_from_slice.ensures.after ∙ c.to_le_bytes.ensures ∙ bytes-four x.index)
    (c.copy_from_slice-2.ensures.after ∙ c.to_le_bytes-2.ensures ∙ bytes-four x.size)
    c.copy_from_slice-3.ensures.after c.copy_from_slice-4.ensures.after (omega arith) (omega arith)
