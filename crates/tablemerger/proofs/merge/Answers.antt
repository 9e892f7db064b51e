-- Where there are no entries, or the table has none, nothing changes; else the lengths say which function does it.
use Rattle.std.proofs.Common.{arith, rules}
use Rattle.tablemerger.proofs.MergeSteps.{merging_first, merging_end, merged-none}
use Rattle.tablemerger.proofs.merge.Goals.{then-entries-eq0-via-then-entries-eq0}
use Rattle.tablemerger.proofs.merge.Goals.{then-entries-eq0-via-else-entries-eq0+then-table-eq0}
use Rattle.tablemerger.proofs.merge.Goals as goal

pub returns-then-entries-eq0 : goal.returns-then-entries-eq0
returns-then-entries-eq0 c =
    elim c.then-entries-eq0.branch [
      | then-entries-eq0-via-then-entries-eq0 w ↦
          merging_end _ _ _ _ _ (merging_first _ _ _) (λ p h k. absurd (omega (arith, w.if-entries-eq0.true)))
      | then-entries-eq0-via-else-entries-eq0+then-table-eq0 w ↦ merged-none _ _ _ w.if-table-eq0.true
    ]
