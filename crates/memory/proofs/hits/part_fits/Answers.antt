-- `good` is the test of the bytes passed.
use mathlib.Core.Path.{refl, sym, ap, ◌∙◌}
use native.Mathlib.Numerals.{add-one}
use lib.Seq.{take_all}
use borrow.Author.Rules.{rules}
use Rattle.laws.specs.Tests.{all}
use Rattle.protocol.specs.Memory.{hits_fit}
use Rattle.memory.proofs.AskerLaws.{all-suc}
use Rattle.memory.proofs.hits.part_fits.Goals as goal

pub loop-n-init : goal.loop-n-init
loop-n-init c = refl

pub loop-n-preserved : goal.loop-n-preserved
loop-n-preserved c =
    let a = c.args in
    let l = c.loop-n in
    rw (l.invariant, add-one) (sym (all-suc hits_fit a.part.now l.n-index (search rules)))

pub returns : goal.returns
returns c =
    let a = c.args in
    let l = c.loop-n in
    l.invariant ∙ ap (all hits_fit) (take_all l.n-index a.part.now (search rules))
