-- Where no keyword is kept, none can match; else the longest one tells.
use Rattle.std.proofs.Common.{arith}
use Rattle.matching.proofs.QuickLaws.{unmatched, sampled}
use Rattle.matching.proofs.kept.Kept.sample.Goals as goal

pub returns-in_err-longest : goal.returns-in_err-longest
returns-in_err-longest c =
    let s = c.args.self.now in
    rw c.from_residual.ensures (unmatched s.text.now s.spans s.count c.requires c.in_err-longest.ensures)

pub returns : goal.returns
returns c =
    let s = c.args.self.now in
    sampled s.text.now s.spans s.count c.requires c.in_ok-longest.field-0.now (omega (arith, s.few, s.short))
    c.in_ok-longest.ensures _ c.part_at.ensures c.of.result c.of.ensures
