-- Nobody where the life is short; else the other open lines that let it pass.
use mathlib.Core.Path.{◌∙◌}
use native.Mathlib.Omega.{arith}
use Rattle.forwarding.proofs.LineLaws.{going-some}
use Rattle.forwarding.specs.Passing.{held_of}
use Rattle.forwarding.proofs.lines.going.Goals as goal

pub returns : goal.returns
returns c =
    let x = c.args in
    c.passing.ensures
    ∙ going-some x.l x.life x.live (held_of x.tables x.room x.route.now) x.text.now
    (omega arith) c.open_others.result c.open_others.ensures
