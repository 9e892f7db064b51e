-- Half a byte for each entry where the differences are small, else a byte.
use Rattle.tablewriter.proofs.data.data_length.Goals as goal

pub returns-then-small : goal.returns-then-small
returns-then-small c = rw c.if-small.true
