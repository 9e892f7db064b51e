-- The marks that are set tell which keywords the name has.
use Rattle.std.proofs.Common.{◌≡◌, true, false, length, take, arith, rules}
use Rattle.std.proofs.Math.ListN.{length-take}
use Rattle.std.proofs.lemmas.Iterator.{YieldsList-from_slice, cases_from_all}
use Rattle.matching.proofs.MatchLaws.{cleared, all_marks, match_told}
use Rattle.matching.proofs.kept.Kept.are_in.Goals as goal

pub returns : goal.returns
returns c =
    let s = c.args.self.now in
    let marks = c.mark.new.marks in
    let all = cases_from_all _ _ _ (λ m. m ≡ true) (λ m. m ≡ false) c.all.ensures.ran
    (YieldsList-from_slice (take s.count marks) c.iter.ensures.rest)
    (λ x q k. search rules) (λ x q k. search rules) in
    let long : length (take s.count c.args.marks.now) ≡ s.count =
    omega (arith, c.told-marks, s.few, s.short, length-take s.count c.args.marks.now) in (
      match_told s.text.now s.spans s.count c.requires.gathered c.args.name.now c.requires.some _ marks
          (λ i h. cleared (length (take s.count c.args.marks.now)) _ _ (c.fill.ensures.after (λ y e. e)) i (omega arith))
          c.mark.ensures c.all.result
          (all_marks c.all.result marks s.count (omega (arith, c.mark.array_long, s.few, s.short)) all),
      c.mark.array_long,
    )
