-- The words before the last two that are left give the key so far.
use mathlib.Core.Path.{refl, sym, ap, ap₂, ◌∙◌}
use native.Mathlib.Omega.{arith}
use lib.Seq.{length-take-le}
use Rattle.laws.proofs.Parts.{part_tail}
use Rattle.laws.proofs.Over.{tail_shorter}
use Rattle.names.specs.Chains.{mixed, twin_of}
use Rattle.names.proofs.KeyLaws.{key-on, key-all}
use Rattle.names.proofs.chains.key.Goals as goal

pub loop-rest-init : goal.loop-rest-init
loop-rest-init c = refl

pub slice_bounds-word-end : goal.slice_bounds-word-end
slice_bounds-word-end c =
    let t = c.loop-rest.rest.now in sym (length-take-le 8 t (omega arith))

pub loop-rest-smaller : goal.loop-rest-smaller
loop-rest-smaller c =
    let l = c.loop-rest in
    tail_shorter 16 l.rest.now (omega arith) (omega arith)

pub loop-rest-preserved : goal.loop-rest-preserved
loop-rest-preserved c =
    let l = c.loop-rest in
    let u = c.twin.ensures in
    let a = c.word.ensures in
    let b = c.word-in-loop-rest.ensures in
    let e = c.mix-n.ensures ∙ ap (mixed l.n) (u ∙ ap₂ twin_of a b) in
    rw (part_tail 16 l.rest.now, e) (sym (key-on l.n l.rest.now c.loop-rest-test.true) ∙ l.invariant)

pub returns : goal.returns
returns c =
    let l = c.loop-rest in
    let x = c.args.name.now in
    c.mix.ensures ∙ ap (mixed l.n) c.last_twin.ensures
    ∙ key-all x l.rest.now l.n l.invariant c.loop-rest-test.false
