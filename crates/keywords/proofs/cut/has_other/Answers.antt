-- The block is of one kind exactly if nothing else was met so far, and what is left is of that kind.
use Prim.Native.Nat.{suc}
use mathlib.Core.Path.{◌≡◌, refl, sym, ap, ◌∙◌}
use mathlib.Core.Bool.{Bool, true, false, not, ◌&&◌, ◌||◌, beq}
use native.Mathlib.Omega.{arith}
use native.Mathlib.Numerals.{add-one}
use lib.ListN.{get_or, drop, drop_of_length-le}
use lib.Seq.{drop-cons}
use borrow.Author.Rules.{rules}
use Rattle.laws.specs.Tests.{all}
use Rattle.keywords.specs.Keywords.{matching}
use Rattle.keywords.proofs.CutLaws.{matching-is}
use Rattle.keywords.proofs.cut.has_other.Goals as goal

pub loop-i-init : goal.loop-i-init
loop-i-init c = (omega arith, refl)

-- one byte more
one_more : (other same rest : Bool) → (not other && (same && rest)) ≡ (not (other || not same) && rest)
one_more true same rest = refl
one_more false true rest = refl
one_more false false rest = refl

pub loop-i-preserved : goal.loop-i-preserved
loop-i-preserved c =
    let a = c.args in
    let at = c.loop-i in
    let block = a.block.now in
    let f = matching a.wanted in
    let byte = get_or block at.i 0 in
    let same = beq c.is_separator.result a.wanted in
    let e : f byte ≡ same = matching-is a.wanted c.is_separator.result byte c.is_separator.ensures in (
      search rules,
      at.invariant.1
          ∙ ap (λ l. not at.other && all f l) (drop-cons block at.i 0 (search rules))
          ∙ ap (λ t. not at.other && (t && all f (drop (suc at.i) block))) e
          ∙ one_more at.other same (all f (drop (suc at.i) block))
          ∙ ap (λ n. not (at.other || not same) && all f (drop n block)) (sym (add-one at.i)),
    )

-- at the end nothing is left
found : (other every : Bool) → every ≡ (not other && true) → other ≡ not every
found true every e = ap not (sym e)
found false every e = ap not (sym e)

pub returns : goal.returns
returns c =
    let a = c.args in
    let at = c.loop-i in
    found at.other (all (matching a.wanted) a.block.now)
    (rw (drop_of_length-le a.block.now c.loop-i-test.false) at at.invariant.1)
