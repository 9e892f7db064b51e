-- 256 is added so that nothing goes below 0; a law makes the remainder the two's complement number.
use Prim.Native.Nat.{◌+◌, ◌-◌, ◌<◌}
use mathlib.Core.Path.{◌≡◌}
use native.Mathlib.Omega.{arith}
use Rattle.tablemessages.proofs.DataLaws.{raw-eight}
use borrow.Author.Rules.{rules}
use Rattle.tablewriter.proofs.data.difference.Goals as goal

pub returns : goal.returns
returns c =
    let x = c.args in
    let small : x.b < 256 = search rules in
    let k : x.e + (256 - x.b) ≡ x.e + 256 - x.b = omega arith in
    rw k (raw-eight x.e x.b (search rules) small)
