-- The ring is surveyed, and the line opened.
use Rattle.station.proofs.CallLaws.{surveyed_order, opening-met}
use Rattle.lunozhar.proofs.calls.lunozhar_open_lent.Goals as goal

pub returns : goal.returns
returns c =
    opening-met _ _ _ _ c.survey_ring-s.result.order
    (surveyed_order _ _ _ c.survey_ring-s.ensures.order)
    c.open_line.ensures
