-- The extent, the type, and what is left are a query's own refusals, of a number that is not known.
use borrow.Author.Rules.{rules}
use Rattle.answerer.proofs.AskedLaws.{query_refuses}
use Rattle.answerer.proofs.asked.query_answer.Goals as goal

pub returns : goal.returns
returns c =
    let x = c.args in
    query_refuses x.limit x.query.now _ c.read_header-h.ensures _ c.extent.ensures (search rules) (search rules)
    _
    c.text_length-text.ensures
    _
    c.query.ensures
