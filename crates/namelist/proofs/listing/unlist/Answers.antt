-- The pairs behind the place are moved at once.
use native.Mathlib.Omega.{arith}
use Rattle.namearea.proofs.GoodLaws.{listed}
use Rattle.namelist.proofs.UnlistLaws.{shifted, unlisted}
use Rattle.namelist.proofs.listing.unlist.Goals as goal

pub copy_within-requires-clause-in_bounds : goal.copy_within-requires-clause-in_bounds
copy_within-requires-clause-in_bounds c = omega (arith, (listed c.args.area.now c.requires.0.good).few, c.requires.0.long)

pub copy_within-requires-clause-dest_in_bounds : goal.copy_within-requires-clause-dest_in_bounds
copy_within-requires-clause-dest_in_bounds c = omega (arith, (listed c.args.area.now c.requires.0.good).few, c.requires.0.long)

pub returns : goal.returns
returns c =
    let x = c.args in
    let few = (listed x.area.now c.requires.0.good).few in
    let count = c.count_in-count in
    unlisted x.area.now count.result x.place _ _ c.requires.0.good count.ensures (omega arith)
    (shifted x.area.now x.place count.result c.requires.0.long (omega arith) (omega arith) _ c.copy_within.ensures.after)
    c.put_count.ensures
