-- The PATCH is in turn, so its numbers have entries to be added to; each is tried there.
use Rattle.std.proofs.Common.{◌≡◌, ◌≤◌, ◌+◌, arith, sym, ap, ◌∙◌, length, true, length-drop}
use Rattle.laws.proofs.Parts.{part_tail}
use Rattle.tables.specs.Patch.{numbers}
use Rattle.tables.specs.Updates.{in_range}
use Rattle.tables.proofs.PatchFacts.{numbers-length}
use Rattle.tables.proofs.TurnLaws.{patch-fields, turn-within}
use Rattle.tablereader.specs.Payloads.{payload_of}
use Rattle.tablereader.proofs.held.Held.in_range.Goals.{After-entries}
use Rattle.tablereader.proofs.held.Held.in_range.Goals as goal

-- the numbers end among the entries
within : (c : After-entries)
    → (let x = c.args in x.self.table.nextentry + length (numbers x.patch.bits x.patch.bytes.now)) ≤ length c.entries.result.now
within c =
    let x = c.args in
    rw c.entries.ensures (turn-within x.self.table (payload_of x.patch) x.self.part.now c.requires)

pub slice_bounds-all_fit-count : goal.slice_bounds-all_fit-count
slice_bounds-all_fit-count c = omega (arith, within c)

pub slice_bounds-all_fit-start : goal.slice_bounds-all_fit-start
slice_bounds-all_fit-start c = omega (arith, within c)

pub all_fit-requires : goal.all_fit-requires
all_fit-requires c =
    let x = c.args in
    record {
      bits_value = (patch-fields (payload_of x.patch) x.patch.good).width;
      bytes_in_bounds = rw (part_tail x.self.table.nextentry c.entries.result.now, ← numbers-length x.patch.bits x.patch.bytes.now) (simp length-drop (omega (arith, within (goal.at.all_fit-requires c).After-entries)));
    }

pub returns : goal.returns
unfolding in_range
returns c =
    let x = c.args in
    c.all_fit.ensures ∙ rw (part_tail x.self.table.nextentry c.entries.result.now, c.entries.ensures)
