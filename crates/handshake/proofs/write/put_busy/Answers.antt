-- The words, the pairs and the line ends are put one behind another, and come to 1,024 bytes at most.
use mathlib.Core.Path.{refl, ap}
use mathlib.Core.List.{◌++◌}
use native.Mathlib.Omega.{arith}
use lib.ListN.{drop, length-take}
use Rattle.handshake.proofs.Busy.{busy-size, busy-put}
use Rattle.handshake.proofs.write.put_busy.Goals as goal

pub slice_bounds-copy_from_slice-end-2 : goal.slice_bounds-copy_from_slice-end-2
slice_bounds-copy_from_slice-end-2 c = omega (arith, length-take 29 c.args.out.now)

pub copy_from_slice-requires : goal.copy_from_slice-requires
copy_from_slice-requires c = omega (arith, length-take 29 c.args.out.now)

pub returns : goal.returns
returns c =
    let r = c.write_pairs-n in
    let x = c.args in
    let f = ap (λ y. y ++ drop 29 x.out.now) c.copy_from_slice.ensures.after in
    record {
      value = busy-size x.pairs x.out.now _ c.requires f r.result r.ensures.value r.ensures.upper_bound;
      out_after =
          busy-put x.pairs x.out.now _ c.requires f r.result r.ensures.value r.ensures.upper_bound _ _
          r.ensures.out_after refl _ _ (omega arith) c.copy_from_slice-2.ensures.after;
    }
