-- The next query after a list that also brings bytes: the base's claim on the whole messages that the list comes to,
-- read with held bytes and shut marks aside.
-- Assumes nothing.
use Prim.Native.Nat.{ℕ}
use mathlib.Core.Path.{ap, ◌∙◌}
use lib.ListN.{length-map}
use Rattle.protocol.specs.Outcomes.{Outcome}
use Rattle.protocol.specs.Queries.{usual_limit}
use Rattle.protocol.specs.Runs.{World}
use Rattle.protocol.specs.Periods.{Forwards}
use Rattle.protocol.proofs.Periods.{quiet_periods}
use Rattle.receiving.specs.Events.{begin, wholes}
use Rattle.receiving.specs.Bare.{bare, bare_line, bare_world}
use Rattle.receiving.specs.Periods.{EventsQuiet}
use Rattle.receiving.proofs.Bare.{bare-live, bare-table, held-unread}
use Rattle.receiving.proofs.Cutting.{cutting}
use Rattle.receiving.proofs.Demand3.{updates-bare, fair_wholes}

-- a call gives the same lines, and what is read of state and log is there, with held bytes and shut marks aside
forwards_bare : (w : World) (L : ℕ) → Forwards usual_limit (bare_world w) L → Forwards usual_limit w L
forwards_bare w L q =
    record {
      message = λ l m t z k.
          let same = (held-unread w.state).message usual_limit l m t w.area in
          rw (same, bare-live w.state L, bare-table w.state L, updates-bare L w.log)
          at (q.message l m t (ap (λ (o : Outcome). o.answer) same ∙ z) k);
      asks = λ number text out z.
          let same = (held-unread w.state).asks usual_limit number text out w.area in
          rw (same, bare-live w.state L, bare-table w.state L, updates-bare L w.log)
          at (q.asks number text out (ap (λ (o : Outcome). o.answer) same ∙ z));
    }

pub events-quiet : EventsQuiet
events-quiet s area held L es eight order seven closed fair =
    forwards_bare _ L
    (rw (← cutting (begin s area held) es)
    at (quiet_periods (bare s) area L (wholes (begin s area held) es)
    (length-map s.lines bare_line ∙ eight) ((held-unread s).order ∙ order) seven (bare-live s L ∙ closed)
    (fair_wholes s.room (begin s area held) es fair)))
