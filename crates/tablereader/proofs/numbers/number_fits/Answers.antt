-- One law for a number that adds and one for a number that takes away, both on the sum modulo 256.
use borrow.Author.Rules.{rules}
use Rattle.tables.proofs.NumberLaws.{fits_adding, fits-taking}
use Rattle.tablereader.proofs.numbers.number_fits.Goals as goal

pub returns-then-number-lt128 : goal.returns-then-number-lt128
returns-then-number-lt128 c =
    let x = c.args in
    fits_adding x.infinity x.number x.entry c.sum_of-sum.result (search rules)
    (search rules) (search rules)
    c.sum_of-sum.ensures c.if-number-lt128.true

pub returns-else-number-lt128 : goal.returns-else-number-lt128
returns-else-number-lt128 c =
    let x = c.args in
    fits-taking x.infinity x.number x.entry c.sum_of-sum.result (search rules)
    (search rules) (search rules)
    c.sum_of-sum.ensures c.if-number-lt128.false
