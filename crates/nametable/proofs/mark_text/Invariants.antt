-- The entries at hand, with the keywords that are left, give what all of them gave of the first entries.
use Rattle.std.proofs.Common.{◌≡◌}
use Rattle.keywords.specs.Keywords.{words_left}
use Rattle.nametable.specs.Table.{places_of, with_ones}
use Rattle.nametable.proofs.MarkLaws.{word_places}
use Rattle.nametable.proofs.mark_text.Given as goal

abbrev pub invariant-loop-keyword : goal.invariant-loop-keyword
invariant-loop-keyword l =
    with_ones (word_places l.size (words_left l.keyword-iterator)) l.entries
    ≡ with_ones (places_of l.size l.text) l.initial.entries
