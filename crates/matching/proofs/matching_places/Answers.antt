-- A text that is too long, one without keywords, or one whose keywords are kept.
use mathlib.Core.Path.{◌∙◌}
use Rattle.matching.proofs.MatchLaws.{fill-long, fill-unmatched}
use Rattle.matching.proofs.matching_places.Goals as goal

pub returns-then-text-gt-LONGEST_TEXT : goal.returns-then-text-gt-LONGEST_TEXT
returns-then-text-gt-LONGEST_TEXT c =
    let x = c.args in
    fill-long x.text.now x.area.now c.if-text-gt-LONGEST_TEXT.true

pub returns-in-None : goal.returns-in-None
returns-in-None c =
    let x = c.args in
    fill-unmatched x.text.now x.area.now (rw (c.gather.ensures.text ∙ c.none_of-kept.ensures.text) at c.in-None.ensures)
