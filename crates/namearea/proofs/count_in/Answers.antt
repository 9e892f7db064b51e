-- The number of the first four bytes.
use Rattle.namearea.specs.Area.{count_in}
use borrow.Author.Rules.{rules}
use Rattle.namearea.proofs.count_in.Goals as goal

pub returns : goal.returns
unfolding count_in
returns c = search rules
