-- With the keywords that are left of the name, the marks at hand tell what all of them do.
use Rattle.keywords.specs.Keywords.{words_left}
use Rattle.matching.specs.Kept.{key_at}
use Rattle.matching.proofs.MatchLaws.{Marking}
use Rattle.matching.proofs.kept.Kept.mark.Given as goal

abbrev pub invariant-loop-keyword : goal.invariant-loop-keyword
invariant-loop-keyword l =
    Marking (key_at l.self.text.now l.self.spans) l.self.count l.name l.initial.marks (words_left l.keyword-iterator)
    l.marks
