-- The first i bytes of the data from `from` on stand at the front of the part, whose length stays.
use Prim.Native.Nat.{◌≤◌}
use mathlib.Core.Path.{◌≡◌}
use lib.ListN.{length, take, drop}
use Rattle.laws.specs.Parts.{over}
use Rattle.tablemessages.specs.Steps.{data_by}
use Rattle.tablewriter.proofs.data.put_data.Given as goal

abbrev pub invariant-loop-i : goal.invariant-loop-i
invariant-loop-i l =
    (l.i ≤ l.n) × (l.part ≡ over 0 (take l.i (drop l.from (data_by l.plan l.old l.new))) l.initial.part) × (length l.part ≡ length l.initial.part)
