-- The mark says which tests there are.
use Rattle.std.proofs.Common.{rules}
use Rattle.tables.specs.Tables.{table_in_order}
use Rattle.tables.proofs.MarkLaws.{unknown_mark}
use Rattle.tablereader.proofs.order.in_order.Goals as goal

pub returns-in-Err : goal.returns-in-Err
unfolding table_in_order
returns-in-Err c = rw (unknown_mark c.args.table.mark c.in-Err.field-0 c.in-Err.ensures)

pub returns-in-Ok-NoTable : goal.returns-in-Ok-NoTable
unfolding table_in_order
returns-in-Ok-NoTable c = search rules

pub returns-then-good_size : goal.returns-then-good_size
unfolding table_in_order
returns-then-good_size c = search rules

pub returns-else-good_size : goal.returns-else-good_size
unfolding table_in_order
returns-else-good_size c = search rules

pub returns-then-good_size-2 : goal.returns-then-good_size-2
unfolding table_in_order
returns-then-good_size-2 c = search rules

pub returns-else-good_size-2 : goal.returns-else-good_size-2
unfolding table_in_order
returns-else-good_size-2 c = search rules
