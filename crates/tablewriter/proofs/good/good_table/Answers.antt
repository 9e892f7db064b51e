-- Length, Infinity and entries, in this order.
use Rattle.std.proofs.Common.{rules}
use Rattle.tablemessages.specs.Writer.{good_table}
use Rattle.tablemessages.proofs.Accepted.{too_long}
use Rattle.tablewriter.proofs.good.good_table.Goals as goal

pub returns-then-good_infinity : goal.returns-then-good_infinity
unfolding good_table
returns-then-good_infinity c = search rules

pub returns-else-good_infinity : goal.returns-else-good_infinity
unfolding good_table
returns-else-good_infinity c = let t = too_long in search (rules, too_long)
