-- A payload that is no hit's is refused; of any other the bytes that are read are those of the fields.
use Rattle.std.proofs.Common.{sym, arith}
use Rattle.wire.proofs.NumberLaws.{four-at}
use Rattle.hits.proofs.HeadLaws.{begin-short, head_read}
use Rattle.hits.proofs.reading.begin.Goals as goal

pub returns-then-payload-lt-SMALLEST : goal.returns-then-payload-lt-SMALLEST
returns-then-payload-lt-SMALLEST c = sym (begin-short c.args.payload.now c.if-payload-lt-SMALLEST.true)

pub returns-in-len11-up : goal.returns-in-len11-up
returns-in-len11-up c =
    let p = c.args.payload.now in
    head_read p c.if-payload-lt-SMALLEST.false c.from_le_bytes.result c.from_le_bytes-in-len11-up.result
    (omega (arith, c.from_le_bytes.ensures))
    (omega (arith, c.from_le_bytes-in-len11-up.ensures, four-at p 7))
