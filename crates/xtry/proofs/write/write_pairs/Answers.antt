-- The pairs gone through are written, and those left make the whole.
use Rattle.xtry.proofs.Listing.{led-none, next-pair, listing_start, listing_room, listing_on, listing_end}
use borrow.Author.Rules.{rules}
use Rattle.xtry.proofs.write.write_pairs.Goals as goal

pub returns-then-out-lt-MOST : goal.returns-then-out-lt-MOST
returns-then-out-lt-MOST c =
    let x = c.args in
    let h = led-none x.pairs x.first x.out.now c.if-out-lt-MOST.true in
    record { value = h.0; out_after = h.1.0; upper_bound = h.1.1 }

pub loop-p-init : goal.loop-p-init
loop-p-init c = listing_start c.in_use-listed.result.now c.args.first c.args.out.now

pub put_pair-to-requires : goal.put_pair-to-requires
put_pair-to-requires c =
    listing_room c.loop-p.invariant c.in_use-listed.ensures.few c.if-out-lt-MOST.false (search rules)

pub loop-p-preserved : goal.loop-p-preserved
loop-p-preserved c =
    listing_on c.loop-p.invariant c.in_use-listed.ensures.few c.if-out-lt-MOST.false (search rules) _
    (next-pair c.in_use-listed.result.now c.loop-p.p-index (search rules))
    c.put_pair-to.auto.out c.put_pair-to.ensures.put c.put_pair-to.ensures.upper_bound

pub shape_of-out : goal.shape_of-out
shape_of-out c = c.loop-p.invariant.size

pub returns : goal.returns
returns c =
    let h = listing_end c.loop-p.invariant c.in_use-listed.ensures.few c.if-out-lt-MOST.false c.args.pairs
    c.in_use-listed.ensures.value (search rules) in
    record { value = h.0; out_after = h.1.0; upper_bound = h.1.1 }
