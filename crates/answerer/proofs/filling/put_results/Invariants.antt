-- The results laid so far and those left that fit make the whole: a place that is not found is passed, 255 results, no
-- room or no place left end it.
use Rattle.answerer.proofs.FillLaws.{Laying}
use Rattle.answerer.proofs.filling.put_results.Given as goal

abbrev pub invariant-loop-i : goal.invariant-loop-i
invariant-loop-i l =
    Laying l.found l.names l.sizes l.initial.part l.results l.size l.part l.i
