-- An entry is at most 255, so a sum capped at 255 bounds it as the sum itself does.
use mathlib.Core.Path.{ap₂}
use mathlib.Core.Bool.{◌&&◌}
use Prim.Native.Nat.{◌+◌}
use Rattle.tablemessages.proofs.DataLaws.{capped}
use borrow.Author.Rules.{rules}
use Rattle.tablewriter.proofs.good.is_near.Goals as goal

pub returns : goal.returns
returns c =
    let x = c.args in
    ap₂ ◌&&◌
    (capped x.e (x.b + 7) c.saturating_add.result (search rules) c.saturating_add.ensures)
    (capped x.b (x.e + 8) c.saturating_add-2.result (search rules) c.saturating_add-2.ensures)
