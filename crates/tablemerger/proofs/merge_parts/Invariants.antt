-- What is left to merge of the tables comes to the same as all of them; what is left of the area starts at the next
-- pair of parts; and no entry is above the most.
use Prim.Native.Nat.{◌-◌, ◌*◌, ◌≤◌}
use mathlib.Core.Path.{◌≡◌}
use lib.ListN.{drop}
use Rattle.tablemerging.specs.Merging.{merged_all}
use Rattle.tablemerger.specs.Lowering.{Within}
use Rattle.tablemerger.specs.Parts.{part_tables}
use Rattle.tablemerger.proofs.PartLaws.{from_part}
use Rattle.tablemerger.proofs.merge_parts.Given as goal

abbrev pub invariant-loop-pair : goal.invariant-loop-pair
invariant-loop-pair l =
    (l.pair ≤ 4)
    × (l.rest ≡ drop (2 * l.pair * l.room) l.area)
    × Within l.most l.entries
    × (merged_all (from_part l.picked l.tables l.room l.area (2 * l.pair)) l.entries
    ≡ merged_all (part_tables l.picked l.tables l.room l.area) l.initial.entries)
