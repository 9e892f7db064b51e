-- The keywords before byte `at` are kept.
use mathlib.Core.Path.{◌∙◌}
use native.Mathlib.Omega.{arith}
use Rattle.matching.proofs.KeptLaws.{gather-bounds, gather-end, gather-more}
use Rattle.matching.proofs.kept.Kept.gather.Goals as goal

-- each keyword that is kept had a byte before `at`, and there are bytes left
pub add-requires : goal.add-requires
add-requires c =
    let l = c.loop-cut in
    let cut = c.in-Some in
    let b = gather-bounds c.args.self.now.text.now l.self.spans l.self.count l.at l.invariant.1 cut.cut cut.ensures.cut in
    rw l.invariant.0 (omega (arith, b.1, cut.ensures.inside.0, l.invariant.1.few), omega (arith, b.0, b.1))

pub loop-cut-preserved : goal.loop-cut-preserved
loop-cut-preserved c =
    let cut = c.in-Some in
    let l = c.loop-cut in
    let joined = rw (c.add.ensures.text, l.invariant.0) at c.add.ensures.joined in (
      c.add.ensures.text ∙ l.invariant.0,
      gather-more c.args.self.now.text.now l.self.spans l.self.count l.at l.invariant.1 cut.cut
          cut.ensures.cut cut.ensures.inside.0 _ _ joined,
    )

pub returns-clause-gathered : goal.returns-clause-gathered
returns-clause-gathered c =
    let l = c.loop-cut in
    gather-end c.args.self.now.text.now l.self.spans l.self.count l.at l.invariant.1 _ c.in_default.ensures.cut (omega arith)
