-- The list of names, then what is lent, then the query.
use mathlib.Core.Path.{◌∙◌}
use borrow.Author.Rules.{rules}
use Rattle.answerer.proofs.WriteLaws.{list_refuses, few_refuse, short_refuses, query-answers}
use Rattle.answerer.proofs.refusal.Goals.{then-count_in-sizes, else-count_in-sizes}
use Rattle.answerer.proofs.refusal.Goals as goal

pub returns-in_err-list_answer : goal.returns-in_err-list_answer
returns-in_err-list_answer c =
    let x = c.args in
    list_refuses x.limit x.query.now x.names.now x.sizes x.out _ (search rules) (search rules)

pub returns-in_err-require : goal.returns-in_err-require
returns-in_err-require c =
    let x = c.args in
    elim c.if-count_in-sizes.branch [
      | then-count_in-sizes w ↦
          search rules
          ∙ short_refuses x.limit x.query.now x.names.now x.sizes x.out (search rules) (search rules) (search rules)
      | else-count_in-sizes w ↦
          search rules
          ∙ few_refuse x.limit x.query.now x.names.now x.sizes x.out (search rules) (search rules)
    ]

pub returns : goal.returns
returns c =
    let x = c.args in
    query-answers x.limit x.query.now x.names.now x.sizes x.out (search rules)
    (search rules)
    (search rules)
    _
    c.query_answer.ensures
