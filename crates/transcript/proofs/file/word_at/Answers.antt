-- The part from a place up to the end is the file with the bytes before that place dropped.
use Rattle.laws.proofs.Parts.{part_tail}
use borrow.Author.Rules.{rules}
use Rattle.transcript.proofs.file.word_at.Goals as goal

pub returns : goal.returns
returns c = (rw part_tail at c.little4.ensures, search rules)
