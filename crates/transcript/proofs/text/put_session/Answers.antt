-- The heading, and the rows from a fresh state.
use Rattle.std.proofs.Common.{arith}
use Rattle.transcript.proofs.Writing.{rows_fit, session_put}
use Rattle.transcript.proofs.text.put_session.Goals as goal

pub put_rows-requires : goal.put_rows-requires
put_rows-requires c =
    rows_fit c.args.file.now c.requires.0 _ c.put_text-at.result
    (omega (arith, c.requires.1, c.put_text-at.auto.out)) (omega (arith, c.put_text-at.ensures.moved))

pub returns : goal.returns
returns c =
    session_put c.args.file.now c.fresh-station.ensures c.requires.1 c.put_text-at.ensures c.put_rows.ensures
