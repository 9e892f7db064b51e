-- Both differences lie in -8..7, so one law takes each from the last four bits of its entries.
use Prim.Native.Nat.{◌+◌}
use native.Mathlib.Omega.{arith}
use lib.ListN.{get_or}
use Rattle.tablemessages.specs.Steps.{base_by}
use Rattle.tablemessages.proofs.DataLaws.{near-at, pair-raw}
use Rattle.tablewriter.proofs.data.pair_byte.Goals as goal

pub returns : goal.returns
returns c =
    let x = c.args in
    let p = c.requires in
    let new = x.new.now in
    let base = base_by x.plan x.old.now new in
    let e = c.pair_at-e in
    let b = c.base_pair-b in
    pair-raw (get_or new x.i 0) (get_or new (x.i + 1) 0) (get_or base x.i 0) (get_or base (x.i + 1) 0)
    e.result b.result c.low_bits.result c.low_bits-2.result
    (omega (arith, c.type_inv.new x.i))
    b.ensures.1
    (near-at new base x.i p.0 (omega arith) p.1)
    (near-at new base (x.i + 1) p.0 (omega arith) p.1)
    e.ensures
    b.ensures.0
    c.low_bits.ensures
    c.low_bits-2.ensures
