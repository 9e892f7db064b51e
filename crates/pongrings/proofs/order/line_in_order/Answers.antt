-- Each return has what its tests showed.
use mathlib.Core.Path.{◌≡◌, sym, ◌∙◌}
use mathlib.Core.Bool.{◌&&◌}
use borrow.Author.Tests.{le-leb, lt-leb, le-ltb}
use Rattle.tables.specs.Tables.{table_in_order}
use Rattle.protocol.specs.Order.{line_in_order}
use Rattle.pongrings.proofs.RingLaws.{order-rest}
use Rattle.pongrings.proofs.order.line_in_order.Goals.{After-low_hops}
use Rattle.pongrings.proofs.order.line_in_order.Goals.{then-not-empty_when_closed-via-then-not-empty_when_closed}
use Rattle.pongrings.proofs.order.line_in_order.Goals.{then-not-empty_when_closed-via-else-not-empty_when_closed+then-x-gt10}
use Rattle.pongrings.proofs.order.line_in_order.Goals.{then-not-empty_when_closed-via-else-not-empty_when_closed+else-x-gt10+then-x-ge10}
use Rattle.pongrings.proofs.order.line_in_order.Goals as goal

pub returns-then-not-empty_when_closed : goal.returns-then-not-empty_when_closed
unfolding line_in_order
returns-then-not-empty_when_closed c =
    elim c.then-not-empty_when_closed.branch [
      | then-not-empty_when_closed-via-then-not-empty_when_closed w ↦
          rw (sym c.empty_when_closed.ensures ∙ w.if-not-empty_when_closed.true)
      | then-not-empty_when_closed-via-else-not-empty_when_closed+then-x-gt10 w ↦
          rw (sym c.empty_when_closed.ensures ∙ w.if-not-empty_when_closed.false, lt-leb _ _ w.if-x-gt10.true)
      | then-not-empty_when_closed-via-else-not-empty_when_closed+else-x-gt10+then-x-ge10 w ↦
          rw (
            sym c.empty_when_closed.ensures ∙ w.if-not-empty_when_closed.false,
            le-leb _ _ w.if-x-gt10.false,
            le-ltb _ _ w.if-x-ge10.true,
          )
    ]

-- the clauses that are left
rest : (c : After-low_hops)
    → (let x = c.args in
    line_in_order x.room x.x ≡ (c.low_hops.result && table_in_order x.room x.x.table))
rest c =
    let x = c.args in
    order-rest x.room x.x c.hops_in.result c.hops_in.ensures
    (sym c.empty_when_closed.ensures ∙ c.if-not-empty_when_closed.false) c.if-x-gt10.false
    c.if-x-ge10.false c.low_hops.result c.low_hops.ensures

pub returns-else-low_hops : goal.returns-else-low_hops
returns-else-low_hops c = sym (rest (goal.at.returns-else-low_hops c).After-low_hops ∙ (rw c.if-low_hops.false))

pub returns-then-low_hops : goal.returns-then-low_hops
returns-then-low_hops c =
    c.in_order.ensures ∙ sym (rest (goal.at.returns-then-low_hops c).After-low_hops ∙ (rw c.if-low_hops.true))
