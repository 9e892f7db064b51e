-- The places before place i have been told.
use Rattle.std.proofs.Common.{refl, ap, ◌∙◌, arith}
use Rattle.namearea.specs.Area.{name_of}
use Rattle.matching.specs.Matching.{matches}
use Rattle.matching.proofs.MatchLaws.{fill_none, fill_more, fill_end}
use Rattle.matching.proofs.Asked.places.Goals as goal

pub loop-i-init : goal.loop-i-init
loop-i-init c = (refl, fill_none c.args.self.kept.now.text.now c.args.area.now)

pub loop-i-preserved : goal.loop-i-preserved
loop-i-preserved c =
    let text = c.args.self.kept.now.text.now in
    let area = c.args.area.now in
    let name = c.name_of.ensures ∙ ap (name_of area) c.span_at.ensures in (
      c.is_met_by.array_long,
      fill_more text area c.loop-i.found c.loop-i.i c.loop-i.invariant.1 c.args.self.kept.now.short
          (omega (arith, c.min-listed.ensures)) (omega (arith, c.min-listed.ensures, c.count_in.ensures))
          c.is_met_by.result (c.is_met_by.ensures.0 ∙ ap (matches text) name),
    )

pub returns : goal.returns
returns c =
    fill_end c.args.self.kept.now.text.now c.args.area.now c.loop-i.found c.loop-i.i c.loop-i.invariant.1
    (omega (arith, c.min-listed.ensures, c.count_in.ensures))
