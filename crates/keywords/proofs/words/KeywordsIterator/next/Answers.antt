-- The keyword at hand, and those of what is left of the text, are those that were left.
use Rattle.std.proofs.Common.{rules, ◌≡◌, ap, length}
use Rattle.keywords.specs.Keywords.{words_left}
use Rattle.keywords.proofs.CutLaws.{words-next, words-over}
use Rattle.keywords.proofs.words.KeywordsIterator.next.Goals as goal

pub returns-in_err-cut-clause-steps : goal.returns-in_err-cut-clause-steps
returns-in_err-cut-clause-steps c =
    let over = words-over c.args.self.now.rest.now c.in_err-cut.ensures.cut in
    search rules

pub returns-clause-steps : goal.returns-clause-steps
returns-clause-steps c =
    let told = c.in_ok-cut.ensures in
    words-next c.args.self.now.rest.now c.in_ok-cut.cut told.cut told.inside.0

pub returns-clause-goes : goal.returns-clause-goes
returns-clause-goes c =
    let told = c.in_ok-cut.ensures in
    let next = ap length (words-next c.args.self.now.rest.now c.in_ok-cut.cut told.cut told.inside.0) in
    search rules
