-- The payload is stored behind the header byte by byte: a store keeps the length, so that each is within.
use Rattle.tablemessages.proofs.MessageLaws.{reset-stored}
use mathlib.Core.Path.{◌∙◌}
use native.Mathlib.Omega.{arith}
use Rattle.wire.proofs.NumberLaws.{bytes-four}
use Rattle.tablewriter.proofs.run.put_reset.Goals as goal

pub returns : goal.returns
returns c =
    let x = c.args in
    reset-stored x.number (omega arith) x.part.now _ x.entries x.infinity _
    c.requires
    (rw c.into.ensures at c.put_header.ensures)
    (c.to_le_bytes-bytes.ensures ∙ bytes-four x.entries)
