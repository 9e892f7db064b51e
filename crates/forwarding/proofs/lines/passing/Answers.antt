-- The flags at hand, with the keywords that are left, give what the open lines gave with all of them.
use Rattle.std.proofs.Common.{arith, ap, sym, ◌∙◌, length}
use Rattle.keywords.specs.Keywords.{words_left}
use Rattle.forwarding.specs.Passing.{held_of}
use Rattle.forwarding.proofs.LineLaws.{passing_left, passing-all, passing-on, passing-end, left-length}
use Rattle.forwarding.proofs.lines.passing.Goals as goal

pub loop-keyword-init : goal.loop-keyword-init
loop-keyword-init c =
    let x = c.args in
    let held = held_of x.tables x.room x.route.now in
    (omega arith, ap (passing_left x.live held x.ttl) (ap words_left c.into_iter-keyword-iterator.ensures.into_iter_gives ∙ c.keywords-keyword-items.ensures) ∙ passing-all x.live held x.ttl x.text.now)

pub loop-keyword-preserved : goal.loop-keyword-preserved
loop-keyword-preserved c =
    let x = c.args in
    let l = c.loop-keyword in
    let left = c.left_by-left in
    let held = held_of x.tables x.room x.route.now in (
      ap length left.ensures ∙ left-length l.flags held x.ttl c.hash.result,
      passing-on l.flags held x.ttl c.in-Some.keyword.now (words_left c.next.new.self) c.hash.result c.hash.ensures
          left.result left.ensures
          ∙ ap (passing_left l.flags held x.ttl) (sym c.in-Some.ensures.steps)
          ∙ l.invariant.1,
    )

pub returns : goal.returns
returns c =
    let x = c.args in
    let l = c.loop-keyword in
    let held = held_of x.tables x.room x.route.now in
    sym (ap (passing_left l.flags held x.ttl) c.in-None.ensures.steps.0 ∙ passing-end l.flags held x.ttl l.invariant.0)
    ∙ l.invariant.1
