-- What is left of the keyword, joined to what was joined already, is the whole.
use Prim.Native.Nat.{ℕ, ◌<◌}
use mathlib.Core.Path.{◌∙◌}
use mathlib.Core.List.{map}
use native.Mathlib.Omega.{arith}
use lib.ListN.{get_or, length-take, length-drop}
use lib.Bits.{xor_lt}
use Rattle.laws.proofs.Parts.{part_tail}
use Rattle.ascii.specs.Text.{lower}
use Rattle.keywords.specs.Hash.{word}
use Rattle.keywords.proofs.HashLaws.{word_below, lower-bytes}
use Rattle.keywords.proofs.FoldLaws.{joined-none, joined-on, joined_tail, bytes_on}
use borrow.Author.Rules.{rules}
use Rattle.keywords.proofs.hash.joined.Goals as goal

pub loop-rest-init : goal.loop-rest-init
loop-rest-init c =
    let keyword = c.args.keyword.now in
    let bytes : (i : ℕ) → get_or keyword i 0 < 256 = λ i. (c.shared_slice_known-1.given i).fits in (
      joined-none (word (map lower keyword)) (word_below (map lower keyword) (lower-bytes keyword bytes)),
      search rules,
      search rules,
      bytes,
    )

pub loop-rest-smaller : goal.loop-rest-smaller
loop-rest-smaller c =
    let l = c.loop-rest-test.true in
    simp (length-take, length-drop) (omega arith)

pub loop-rest-preserved : goal.loop-rest-preserved
loop-rest-preserved c =
    let at = c.loop-rest in
    let next = c.chunk-next in
    let marks = c.capitals-marks in
    let rest = at.rest.now in
    rw part_tail (
      joined-on at.chunks at.marks next.result marks.result at.invariant.1 at.invariant.2 (search rules)
          (search rules) rest at.invariant.3 next.ensures marks.ensures (omega arith)
          ∙ at.invariant.0,
      xor_lt 32 at.chunks next.result at.invariant.1 (search rules),
      xor_lt 32 at.marks marks.result at.invariant.2 (search rules),
      bytes_on 4 rest at.invariant.3,
    )

pub returns : goal.returns
returns c =
    let at = c.loop-rest in
    let tail = c.chunk-tail in
    let marks = c.capitals in
    c.folded.ensures
    ∙ joined_tail at.chunks at.marks tail.result marks.result at.invariant.1 at.invariant.2 (search rules)
    (search rules) at.rest.now at.invariant.3 tail.ensures marks.ensures (omega arith)
    ∙ at.invariant.0
