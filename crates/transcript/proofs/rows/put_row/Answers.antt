-- Each column is put where the one before it ends.
use Rattle.std.proofs.Common.{◌≡◌, rules}
use Rattle.transcript.proofs.Listing.{row_put}
use Rattle.transcript.proofs.rows.put_row.Goals as goal

pub returns : goal.returns
returns c =
    let e : c.from.result ≡ c.args.answered.answer = search rules in
    let d =
    row_put c.args.i c.args.answered.answer c.args.answered.to c.args.answered.age c.requires.0
    c.put_column-a.ensures.text c.put_column-a.ensures.near
    (rw e at c.put_column-b.ensures.text) c.put_column-b.ensures.near c.put_sent-c.ensures.text
    c.put_sent-c.ensures.near
    c.put_byte-d.ensures c.put_age-e.ensures.text c.put_age-e.ensures.near c.put_byte.ensures in record {
      text = d.0;
      near = d.1;
    }
