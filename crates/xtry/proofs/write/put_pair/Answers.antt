-- Each of the five numbers is put where the one before it ends.
use Rattle.xtry.proofs.Putting.{pair_put}
use Rattle.xtry.proofs.write.put_pair.Goals as goal

pub returns-clause-put : goal.returns-clause-put
returns-clause-put c =
    pair_put c.args.lead c.args.p c.requires (rw c.from.ensures at c.put_number-i.ensures.put)
    c.put_number-i.ensures.upper_bound (rw c.from-2.ensures at c.put_number-j.ensures.put)
    c.put_number-j.ensures.upper_bound (rw c.from-3.ensures at c.put_number-k.ensures.put)
    c.put_number-k.ensures.upper_bound (rw c.from-4.ensures at c.put_number-l.ensures.put)
    c.put_number-l.ensures.upper_bound c.put_number.ensures.put
