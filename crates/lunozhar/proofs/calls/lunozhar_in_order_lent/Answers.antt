-- The ring is surveyed, and the lines are read.
use mathlib.Core.Path.{◌∙◌}
use Rattle.station.proofs.CallLaws.{surveyed_order}
use Rattle.lunozhar.proofs.calls.lunozhar_in_order_lent.Goals as goal

pub returns : goal.returns
returns c =
    c.in_order.ensures
    ∙ surveyed_order _ _ _ c.survey_ring-s.ensures.order
