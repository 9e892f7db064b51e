-- The ring, and the lines.
use Rattle.station.proofs.CallLaws.{order_in_view}
use Rattle.station.proofs.order.in_order.Goals as goal

pub returns : goal.returns
returns c =
    let a = c.args in
    order_in_view a.lines a.room 0 c.read_lines.ensures a.order
