-- The ring is surveyed, the line closed, and its queries marked gone.
use Rattle.station.proofs.CallLaws.{surveyed_order, closing-met}
use Rattle.lunozhar.proofs.calls.lunozhar_close_lent.Goals as goal

pub returns : goal.returns
returns c =
    rw (c.leave.ensures, c.leaver.ensures)
    (closing-met _ _ _ _ c.survey_ring-s.result.order
    (surveyed_order _ _ _ c.survey_ring-s.ensures.order)
    c.close_line-change.ensures)
