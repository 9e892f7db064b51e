-- The lines gone through are listed, and those left make the whole.
use Rattle.std.proofs.Common.{◌≡◌, ◌||◌, false, rules, get_or}
use Rattle.transcript.proofs.Listing.{listing_start, listing_on}
use Rattle.transcript.proofs.rows.put_sent.Goals as goal

pub loop-k-init : goal.loop-k-init
loop-k-init c = listing_start c.args.to c.args.at c.args.out.now

pub loop-k-preserved : goal.loop-k-preserved
loop-k-preserved c =
    let e : c.if-started.started ≡ c.loop-k.started || get_or c.args.to c.loop-k.k false = search rules in
    rw e (listing_on c.loop-k.invariant (search rules) c.requires c.loop-k-test.true c.put_flag-next.ensures)
