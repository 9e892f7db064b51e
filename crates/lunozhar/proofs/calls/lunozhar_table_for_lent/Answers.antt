-- The ring is surveyed, the lines are read, and the table is made by whether both are in order.
use mathlib.Core.Path.{ap, ◌∙◌}
use mathlib.Core.Bool.{Bool}
use lib.ListN.{length}
use Rattle.protocol.specs.Queries.{usual_limit}
use Rattle.station.proofs.CallLaws.{surveyed_order}
use Rattle.relaying.specs.Calls.{making, making_out}
use Rattle.lunozhar.proofs.calls.lunozhar_table_for_lent.Goals as goal

pub returns : goal.returns
returns c =
    let a = c.args in
    let order = c.in_order-order.ensures ∙ surveyed_order _ _ _ c.survey_ring-s.ensures.order in record {
      told = c.from.ensures ∙ c.make_table.ensures.told
          ∙ ap (λ (b : Bool). making usual_limit b a.room a.lines.at a.line a.names.now a.size
          (length a.out.now) (length a.route.now))
          order;
      bytes = c.make_table.ensures.bytes
          ∙ ap (λ (b : Bool). making_out usual_limit b a.room a.lines.at a.line a.names.now a.size
          a.out.now a.route.now)
          order;
    }
