-- After i turns the first i askers are those after the line has closed, and the rest are as they were.
use Prim.Native.Nat.{ℕ}
use mathlib.Core.List.{List}
use mathlib.Core.Path.{refl, ap, ◌∙◌}
use lib.ListN.{length-set, get_or}
use borrow.Author.Rules.{rules}
use Rattle.laws.proofs.InPlace.{mapped_at, mapped-more, mapped_end}
use Rattle.protocol.specs.Memory.{left}
use Rattle.memory.proofs.leave.leave.Goals as goal

pub loop-a-init : goal.loop-a-init
loop-a-init c = (refl, refl)

pub loop-a-preserved : goal.loop-a-preserved
loop-a-preserved c =
    let l = c.loop-a in
    let a = c.args in
    let f = left a.line in
    let u = ap (λ (x : List ℕ). get_or x l.a-index 0) l.invariant.1 ∙ mapped_at f a.asker.now l.a-index in
    let v = c.left_by.ensures ∙ ap f u in (
      rw length-set l.invariant.0,
      rw (l.invariant.1, v) (mapped-more f a.asker.now l.a-index (search rules)),
    )

pub shape_of-asker : goal.shape_of-asker
shape_of-asker c = c.loop-a.invariant.0

pub returns : goal.returns
returns c =
    let l = c.loop-a in
    let a = c.args in
    l.invariant.1 ∙ mapped_end (left a.line) a.asker.now l.a-index (search rules)
