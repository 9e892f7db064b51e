-- With the keywords that are left of the name, the marks at hand tell what all of them do.
use mathlib.Core.Path.{ap, ◌∙◌}
use native.Mathlib.Omega.{arith}
use Rattle.std.proofs.Common.{Ok}
use Rattle.keywords.specs.Keywords.{words_left}
use Rattle.matching.specs.Kept.{key_at}
use Rattle.matching.proofs.MatchLaws.{mark_found, name-all, name-more, name-end}
use Rattle.matching.proofs.kept.Kept.mark.Goals as goal

pub loop-keyword-init : goal.loop-keyword-init
loop-keyword-init c =
    let s = c.args.self.now in
    name-all (key_at s.text.now s.spans) s.count c.args.name.now c.args.marks.now _
    (ap words_left c.into_iter-keyword-iterator.ensures.into_iter_gives ∙ c.keywords-keyword-items.ensures)

pub loop-keyword-preserved-in-Ok : goal.loop-keyword-preserved-in-Ok
loop-keyword-preserved-in-Ok c =
    let l = c.loop-keyword in
    let s = c.args.self.now in
    name-more (key_at s.text.now s.spans) s.count c.args.name.now c.args.marks.now l.marks
    (words_left l.keyword-iterator) (words_left c.next.new.self) c.in-Some.keyword.now c.in-Some.ensures.steps
    l.invariant _
    (mark_found (key_at s.text.now s.spans) s.count _ s.rising l.marks (Ok c.in-Ok.place) c.in-Ok.ensures
    (omega (arith, c.told-marks, s.few, s.short, l.invariant.size)))

pub loop-keyword-preserved : goal.loop-keyword-preserved
loop-keyword-preserved c =
    let l = c.loop-keyword in
    let s = c.args.self.now in
    name-more (key_at s.text.now s.spans) s.count c.args.name.now c.args.marks.now l.marks
    (words_left l.keyword-iterator) (words_left c.next.new.self) c.in-Some.keyword.now c.in-Some.ensures.steps
    l.invariant _
    (rw c.in_default.is at (mark_found (key_at s.text.now s.spans) s.count _ s.rising l.marks c.find.result
    c.find.ensures (omega (arith, c.told-marks, s.few, s.short, l.invariant.size))))

pub returns : goal.returns
returns c =
    let s = c.args.self.now in
    let l = c.loop-keyword in
    name-end (key_at s.text.now s.spans) s.count c.args.name.now c.args.marks.now l.marks
    (words_left l.keyword-iterator) c.in-None.ensures.steps.0 l.invariant
