-- A flag that is true is one that equals true.
use Rattle.std.proofs.Common.{◌∙◌}
use Rattle.forwarding.proofs.LineLaws.{some-flag}
use Rattle.forwarding.proofs.lines.any_line.Goals as goal

pub returns : goal.returns
returns c = c.contains.ensures.value ∙ some-flag c.args.to
