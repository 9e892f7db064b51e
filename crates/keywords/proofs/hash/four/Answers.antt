-- Each byte stands above those before it.
use borrow.Author.Rules.{rules}
use Rattle.keywords.proofs.FoldLaws.{four_or}
use Rattle.keywords.proofs.hash.four.Goals as goal

pub returns : goal.returns
returns c =
    four_or _ _ _ _ (search rules) (search rules) (search rules) (search rules)
