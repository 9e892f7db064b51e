-- The first i entries are lowered, each by what `taken` gave for its place; the others are as they were.
use Rattle.std.proofs.Common.{◌≡◌, ◌≢◌, ◌<◌, length, min, sym, ap, ◌∙◌, arith, get_or-set_other, get_or-set_same, below_more}
use Rattle.tablemerger.proofs.lower_each.Goals as goal

pub loop-i-preserved : goal.loop-i-preserved
loop-i-preserved g c =
    let l = c.loop-i in
    let here : l.i < length l.entries = omega (arith, l.auto.entries, c.loop-i-test.true) in (
      below_more _ _
          (λ k h.
          let ne : k ≢ l.i = omega arith in
          let w = l.invariant.0 k h in (w.0, w.1, rw get_or-set_other w.2))
          (c.taken.result, c.taken.ensures, rw get_or-set_same (c.min.ensures ∙ ap (min c.taken.result) (l.invariant.1 l.i (omega arith)))),
      λ k h. let ne : k ≢ l.i = omega arith in rw get_or-set_other (l.invariant.1 k (omega arith)),
    )

pub returns : goal.returns
returns g c = λ i h. c.loop-i.invariant.0 i (omega arith)
