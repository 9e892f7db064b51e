-- The least at hand, with the entries that are left, gives what all of them give.
use Prim.Native.Nat.{◌+◌, min}
use mathlib.Core.Path.{refl, sym, ap, ◌∙◌}
use lib.ListN.{drop, drop_of_length-le}
use borrow.Author.Rules.{rules}
use Rattle.tablemerging.specs.Merging.{reaching, nearest}
use Rattle.tablemerger.proofs.MergeSteps.{nearest-next}
use Rattle.tablemerger.proofs.nearest_in.Goals as goal

pub loop-e-init : goal.loop-e-init
loop-e-init c = (c.ranges.x.fits, refl)

pub loop-e-preserved : goal.loop-e-preserved
loop-e-preserved c =
    let l = c.loop-e in
    let x = c.args in (
      search rules,
      ap (λ y. nearest y (reaching x.infinity (drop (l.e-index + 1) x.block.now)))
          (c.min-least.ensures ∙ ap (λ y. min y l.least) c.farther.ensures)
          ∙ nearest-next x.infinity l.least x.block.now l.e-index (search rules) l.invariant.0
          ∙ l.invariant.1,
    )

pub returns : goal.returns
unfolding nearest reaching
returns c =
    let l = c.loop-e in
    let x = c.args in
    ap (λ es. nearest l.least (reaching x.infinity es))
    (sym (drop_of_length-le x.block.now {i = l.e-index} (search rules))) ∙ l.invariant.1
