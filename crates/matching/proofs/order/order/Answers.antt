-- What is left to compare has the order of the whole.
use Rattle.std.specs.Ordering.{nat_cmp}
use Rattle.std.proofs.Common.{length, get_or, ◌≡◌, sym, ap, ◌∙◌}
use Rattle.std.proofs.lemmas.List.{length_push}
use Rattle.std.proofs.lemmas.Slice.Zip.{zip_turn, zip_end}
use Rattle.ascii.specs.Text.{lower}
use Rattle.ascii.proofs.Library.{lowered}
use Rattle.matching.proofs.OrderLaws.{left_from, left_on, left_differ, left_end, equal_of, differ_of}
use Rattle.matching.proofs.order.order.Goals as goal

pub returns-then-ne : goal.returns-then-ne
returns-then-ne c =
    let t = zip_turn c.args.a.now c.args.b.now c.loop-x.yielded _ _ c.next.new.self _ (cc) (cc) c.loop-x.yielded_by (c.in-Some.x, c.in-Some.y) c.in-Some.is c.next.ensures.steps in
    let n = length c.loop-x.yielded in
    let o : c.cmp-order.result ≡ nat_cmp (lower (get_or c.args.a.now n 0)) (lower (get_or c.args.b.now n 0)) =
    cc (lowered c.in-Some.x.now, lowered c.in-Some.y.now, t.2 0, t.3 0) in
    sym (left_differ c.args.a.now c.args.b.now _ t.0 t.1 c.cmp-order.result o
    (differ_of c.cmp-order.result (sym c.ne.ensures ∙ c.if-ne.true)))
    ∙ c.loop-x.invariant

pub loop-x-preserved : goal.loop-x-preserved
loop-x-preserved c =
    let t = zip_turn c.args.a.now c.args.b.now c.loop-x.yielded _ _ c.next.new.self _ (cc) (cc) c.loop-x.yielded_by (c.in-Some.x, c.in-Some.y) c.in-Some.is c.next.ensures.steps in
    let n = length c.loop-x.yielded in
    let o : c.cmp-order.result ≡ nat_cmp (lower (get_or c.args.a.now n 0)) (lower (get_or c.args.b.now n 0)) =
    cc (lowered c.in-Some.x.now, lowered c.in-Some.y.now, t.2 0, t.3 0) in
    let on = left_on c.args.a.now c.args.b.now _ t.0 t.1 c.cmp-order.result o
    (equal_of c.cmp-order.result (sym c.ne.ensures ∙ c.if-ne.false)) in
    ap (left_from c.args.a.now c.args.b.now) (length_push c.loop-x.yielded (c.in-Some.x, c.in-Some.y))
    ∙ sym on ∙ c.loop-x.invariant

pub returns : goal.returns
returns c =
    let t = zip_end c.args.a.now c.args.b.now c.loop-x.yielded _ _ c.next.new.self _ (cc) (cc) c.loop-x.yielded_by c.in-None.is c.next.ensures.steps in
    c.cmp.ensures ∙ sym (left_end c.args.a.now c.args.b.now _ t) ∙ c.loop-x.invariant
