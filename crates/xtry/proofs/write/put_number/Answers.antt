-- The digits are the front of what is spelled, and stand behind the byte that leads them.
use native.Mathlib.Omega.{arith}
use Rattle.digits.proofs.Spelling.{spelled-room}
use Rattle.xtry.proofs.Putting.{put-led_whole}
use Rattle.xtry.proofs.write.put_number.Goals as goal

pub slice_bounds-spelled-end : goal.slice_bounds-spelled-end
slice_bounds-spelled-end c =
    let e = c.spell-digits.ensures in
    omega (arith, e.few, spelled-room c.args.n e.number e.few)

pub returns : goal.returns
returns c =
    let x = c.args in
    let e = c.spell-digits.ensures in
    record {
      put =
          put-led_whole x.n x.at x.lead _ c.spell-digits.result x.out.now _ e.number (omega (arith, c.requires))
          (omega arith) c.copy_from_slice.ensures.after;
      upper_bound = omega (arith, e.few);
    }
