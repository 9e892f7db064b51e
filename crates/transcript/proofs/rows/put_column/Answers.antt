-- The space is put where the number ends.
use Rattle.transcript.proofs.Listing.{column_put}
use Rattle.transcript.proofs.rows.put_column.Goals as goal

pub returns : goal.returns
returns c =
    let d =
    column_put c.args.n c.requires c.put_number-next.ensures.text c.put_number-next.ensures.near
    c.put_byte.ensures in record {
      text = d.0;
      near = d.1;
    }
