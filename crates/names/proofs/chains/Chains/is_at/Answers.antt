-- Other tags are of other names.
use mathlib.Core.Path.{◌∙◌}
use borrow.Author.Tests.{ne_eqb}
use lib.ListN.{get_or}
use Rattle.ascii.proofs.Library.{equal}
use Rattle.namearea.proofs.SpanLaws.{pair-there}
use Rattle.names.proofs.WalkLaws.{same_at, other_at}
use Rattle.names.proofs.chains.Chains.is_at.Goals as goal

pub returns-else-self-place : goal.returns-else-self-place
returns-else-self-place c =
    let a = c.args in
    ne_eqb (get_or a.self.now.tags a.place 0) a.tag c.if-self-place.false
    ∙ other_at a.area.now a.name.now a.place a.self.now.tags a.tag c.requires.comparable c.if-self-place.false

pub returns-then-self-place : goal.returns-then-self-place
returns-then-self-place c =
    let a = c.args in
    let there = pair-there a.area.now a.place c.requires.text_from_in_bounds c.requires.comparable.few in
    same_at a.area.now a.name.now a.place _ _ _ (c.pair_at.ensures ∙ there)
    c.name_of.ensures (c.eq.ensures ∙ equal _ _)
