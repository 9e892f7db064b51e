-- A shift by two bits is a division by four.
use mathlib.Core.Path.{sym}
use borrow.Author.Rules.{rules}
use Rattle.keywords.proofs.FoldLaws.{folded-is}
use Rattle.keywords.proofs.hash.folded.Goals as goal

pub returns : goal.returns
returns c = sym (folded-is c.args.chunk c.args.marks (search rules))
