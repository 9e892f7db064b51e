-- Byte by byte.
use Rattle.std.proofs.Common.{◌∙◌, arith}
use Rattle.wire.proofs.NumberLaws.{bytes-four}
use Rattle.pinging.proofs.SendLaws.{own-parts}
use Rattle.pinging.proofs.messages.own_payload.Goals as goal

pub returns : goal.returns
returns c =
    let x = c.args in
    own-parts x.port x.files x.kilobytes x.address _ _ (omega arith) (c.to_le_bytes-files.ensures ∙ bytes-four x.files)
    (c.to_le_bytes-kilobytes.ensures ∙ bytes-four x.kilobytes)
