-- Where the first three tests hold, the last decides, by `turn_last`; else one of them refuses.
use Rattle.std.proofs.Common.{rules, length, sym, ap, ◌∙◌, length-take}
use Rattle.tables.specs.Updates.{in_turn}
use Rattle.tables.proofs.PatchFacts.{numbers-length}
use Rattle.tables.proofs.TurnLaws.{turn_last}
use Rattle.tablereader.specs.Payloads.{payload_of}
use Rattle.tablereader.proofs.held.Held.in_turn.Goals.{then-patch-table, else-patch-table}
use Rattle.tablereader.proofs.held.Held.in_turn.Goals as goal

pub returns-then-same_run : goal.returns-then-same_run
returns-then-same_run c =
    let x = c.args in
    elim c.if-patch-table.branch [
      | then-patch-table w ↦
          turn_last x.self.table (payload_of x.patch) x.self.part.now c.ends_right.result c.number_count-n.result _
          (sym c.takes_patch.ensures ∙ w.if-patch-table.true.0)
          w.if-patch-table.true.1
          (sym w.same_run.ensures ∙ (sym w.value-is ∙ c.if-same_run.true))
          (c.number_count-n.ensures ∙ sym (numbers-length x.patch.bits x.patch.bytes.now))
          (ap length c.entries-end.ensures)
          c.ends_right.ensures
      | else-patch-table w ↦ search rules
    ]

pub returns-else-same_run : goal.returns-else-same_run
unfolding in_turn
returns-else-same_run c = search rules
