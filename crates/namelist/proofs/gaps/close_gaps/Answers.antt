-- Each turn moves the next text.
use mathlib.Core.Path.{ap, ◌∙◌}
use native.Mathlib.Omega.{arith}
use Rattle.namearea.specs.Area.{spans_of, end_of}
use Rattle.namearea.specs.Good.{rising_from}
use Rattle.namelist.proofs.GapLaws.{movable, close-end, turn-first, turn-next, turn-less}
use Rattle.namelist.proofs.gaps.close_gaps.Goals as goal

pub loop-k-init : goal.loop-k-init
loop-k-init c =
    let x = c.args in
    turn-first x.area.now c.is_rising-rising.result c.requires.good c.requires.long
    (c.is_rising-rising.ensures ∙ ap (λ n. rising_from 0 (spans_of n x.area.now)) c.count_in.ensures)

pub next_text-requires : goal.next_text-requires
next_text-requires c =
    let t = c.loop-k.invariant in
    (omega (arith, t.closing.low, t.closing.order, t.closing.high), t.closing.good.few, λ e. (t.within e, t.rest e))

pub move_down-s-requires : goal.move_down-s-requires
move_down-s-requires c =
    movable c.loop-k.invariant.closing c.in-Some.ensures.listed c.in-Some.ensures.which.which

pub overflow_add-to : goal.overflow_add-to
overflow_add-to c =
    let g = turn-less c.loop-k.invariant c.in-Some.ensures.listed c.in-Some.ensures.which in
    let s = c.move_down-s.ensures.was in
    omega (arith, ap (λ s. s.size) s)

pub overflow_add-i : goal.overflow_add-i
overflow_add-i c =
    let t = c.loop-k.invariant in
    let g = turn-less t c.in-Some.ensures.listed c.in-Some.ensures.which in
    omega (arith, t.turns)

pub loop-k-smaller : goal.loop-k-smaller
loop-k-smaller c =
    let g = turn-less c.loop-k.invariant c.in-Some.ensures.listed c.in-Some.ensures.which in
    let e = c.end_of-from.ensures in
    let s = ap end_of c.move_down-s.ensures.was in
    omega arith

pub loop-k-preserved : goal.loop-k-preserved
loop-k-preserved c =
    rw c.end_of-from.ensures
    (turn-next c.loop-k.invariant c.in-Some.ensures.listed c.in-Some.ensures.which c.move_down-s.ensures)

pub returns : goal.returns
returns c =
    close-end c.loop-k.invariant.closing (c.in_default.ensures.which.which.none (omega arith))
