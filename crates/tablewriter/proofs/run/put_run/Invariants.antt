-- Message after message: each carries what is left of the data, or as much as a message may, and stands behind the one
-- before.
use Prim.Native.Nat.{◌-◌}
use mathlib.Core.Path.{◌≡◌}
use lib.ListN.{length}
use Rattle.tablemessages.specs.Steps.{data_by}
use Rattle.tablemessages.proofs.TurnLaws.{At}
use Rattle.tablewriter.proofs.run.put_run.Given as goal

abbrev pub invariant-loop-from : goal.invariant-loop-from
invariant-loop-from l =
    (l.data ≡ length (data_by l.plan l.old l.new)) × At l.number l.plan (data_by l.plan l.old l.new) l.initial.out l.out l.place l.from l.at

abbrev pub decreases-loop-from : goal.decreases-loop-from
decreases-loop-from l = l.data - l.from
