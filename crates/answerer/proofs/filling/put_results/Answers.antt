-- The results laid so far and those left that fit make the whole: a place that is not found is passed, 255 results, no
-- room or no place left end it.
use Prim.Native.Nat.{◌-◌, ◌<◌}
use mathlib.Core.Path.{◌≡◌, ap}
use Rattle.std.specs.Prelude.{unwrap_or}
use native.Mathlib.Omega.{arith}
use lib.ListN.{length}
use borrow.Rule.Slice.PartMut.{put_mid}
use Rattle.namearea.specs.Area.{count_in}
use Rattle.answerer.proofs.FillLaws.{Turned, lay_none, lay_long, lay_full, lay_end, lay_pass, lay_put}
use Rattle.answerer.proofs.FillLaws.{name-here, room-told, some-told}
use Rattle.answerer.proofs.filling.put_results.Goals.{After-put_result, At-loop-i}
use Rattle.answerer.proofs.filling.put_results.Goals as goal

-- the part keeps its length
kept : (c : At-loop-i)
    → length c.loop-i.part ≡ length c.args.part.now
kept c =
    let x = c.args in
    let l = c.loop-i in
    lay_long x.found.now x.names.now x.sizes.now x.part.now l.results l.size l.part l.i
    l.invariant

pub loop-i-init : goal.loop-i-init
loop-i-init c =
    let x = c.args in
    lay_none x.found.now x.names.now x.sizes.now x.part.now

pub loop-i-preserved-then-not-found-i : goal.loop-i-preserved-then-not-found-i
loop-i-preserved-then-not-found-i c =
    let x = c.args in
    let l = c.loop-i in
    lay_pass x.found.now x.names.now x.sizes.now x.part.now l.results l.size l.part l.i
    l.invariant
    (omega (arith, c.count_in-count.ensures))
    c.if-not-found-i.true

pub shape_of-part-then-results : goal.shape_of-part-then-results
shape_of-part-then-results c = kept (goal.at.shape_of-part-then-results c).At-loop-i

pub returns-then-results : goal.returns-then-results
returns-then-results c =
    let x = c.args in
    let l = c.loop-i in
    lay_full x.found.now x.names.now x.sizes.now x.part.now l.results l.size l.part l.i
    l.invariant
    c.if-results.true

pub slice_bounds-put_result-count : goal.slice_bounds-put_result-count
slice_bounds-put_result-count c =
    omega (arith, c.loop-i.invariant.inside, kept (goal.at.slice_bounds-put_result-count c).At-loop-i)

pub slice_bounds-put_result-start : goal.slice_bounds-put_result-start
slice_bounds-put_result-start c =
    omega (arith, c.loop-i.invariant.inside, kept (goal.at.slice_bounds-put_result-start c).At-loop-i)

-- what a result that is put comes to
turned : (c : After-put_result)
    → let l = c.loop-i in
    let x = c.args in
    Turned x.found.now x.names.now x.sizes.now x.part.now l.results l.size
    (unwrap_or c.put_result.result 0)
    (put_mid l.size (length l.part - l.size) l.part c.put_result.new.part)
    l.i
turned c =
    let l = c.loop-i in
    let x = c.args in
    let within : l.i < count_in x.names.now = omega (arith, c.count_in-count.ensures) in
    lay_put x.found.now x.names.now x.sizes.now x.part.now l.results l.size l.part l.i
    l.invariant
    within
    c.if-not-found-i.false
    c.if-results.false
    _
    (name-here x.names.now l.i _ _ c.pair_at.ensures c.name_of-name.ensures c.requires.2
    (omega (arith, c.requires.0)))
    _
    (room-told _ _ _ c.put_result.ensures.count)
    _
    c.put_result.ensures.bytes

pub returns-in_default : goal.returns-in_default
returns-in_default c =
    (turned (goal.at.returns-in_default c).After-put_result).stop (ap (λ o. unwrap_or o 0) c.in_default.is)

pub loop-i-preserved : goal.loop-i-preserved
loop-i-preserved c =
    let t = rw c.in-Some.is at (turned (goal.at.loop-i-preserved c).After-put_result).more in
    t (λ e. omega (arith, some-told _ _ _ c.in-Some.ensures.count))

pub overflow_add-results : goal.overflow_add-results
overflow_add-results c = omega (arith, (loop-i-preserved c).few)

pub overflow_add-size : goal.overflow_add-size
overflow_add-size c = omega (arith, (loop-i-preserved c).inside)

pub shape_of-part : goal.shape_of-part
shape_of-part c = kept (goal.at.shape_of-part c).At-loop-i

pub returns : goal.returns
returns c =
    let l = c.loop-i in
    let x = c.args in
    lay_end x.found.now x.names.now x.sizes.now x.part.now l.results l.size l.part l.i
    l.invariant
    (omega (arith, c.count_in-count.ensures))
