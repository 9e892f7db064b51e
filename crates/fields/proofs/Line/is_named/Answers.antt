-- The first bytes are the name, since so many are measured, and they are compared without regard to case.
use mathlib.Core.Path.{ap, ◌∙◌}
use lib.ListN.{take}
use Rattle.ascii.specs.Text.{same_name}
use Rattle.ascii.proofs.Library.{equal_names}
use Rattle.fields.proofs.Line.is_named.Goals as goal

pub returns : goal.returns
returns c =
    let line = c.args.self in
    equal_names _ _ _ c.eq_ignore_ascii_case.ensures.test
    ∙ ap (λ t. same_name t c.args.name.now) (c.front.ensures ∙ ap (λ n. take n line.text.now) line.measured)
