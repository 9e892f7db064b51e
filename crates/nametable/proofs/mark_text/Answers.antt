-- The entries at hand, with the keywords that are left, give what all of them gave of the first entries.
use Rattle.std.proofs.Common.{ap, sym, ◌∙◌}
use Rattle.keywords.specs.Keywords.{words_left}
use Rattle.nametable.specs.Table.{with_ones}
use Rattle.nametable.proofs.MarkLaws.{word_places, text-all, text-on}
use Rattle.nametable.proofs.mark_text.Goals as goal

pub loop-keyword-init : goal.loop-keyword-init
loop-keyword-init c =
    let x = c.args in
    let all = ap words_left c.into_iter-keyword-iterator.ensures.into_iter_gives ∙ c.keywords-keyword-items.ensures in
    ap (λ ps. with_ones ps x.entries.now) (ap (word_places x.size) all ∙ text-all x.size x.text.now)

pub loop-keyword-preserved : goal.loop-keyword-preserved
loop-keyword-preserved c =
    let x = c.args in
    let l = c.loop-keyword in
    let words = words_left c.next.new.self in
    ap (with_ones (word_places x.size words)) c.mark.ensures
    ∙ sym (text-on x.size l.entries c.in-Some.keyword.now words c.hash.result c.scaled_place.result c.hash.ensures c.scaled_place.ensures)
    ∙ ap (λ ws. with_ones (word_places x.size ws) l.entries) (sym c.in-Some.ensures.steps)
    ∙ l.invariant

pub returns : goal.returns
unfolding with_ones
returns c =
    let x = c.args in
    sym (ap (λ ws. with_ones (word_places x.size ws) c.loop-keyword.entries) c.in-None.ensures.steps.0)
    ∙ c.loop-keyword.invariant
