-- The lines that one more keyword leaves, of whose tables and parts of the route area the code is told.
use Rattle.std.specs.Prelude.{ℕ, Bool, false, not, ◌&&◌, List, get_or}
use Rattle.tables.specs.declared.Table.{Table}
use Rattle.tables.specs.Tables.{Held, held_in, no_table}
use Rattle.tables.specs.Admission.{stops}
use Rattle.protocol.specs.Lines.{part_of, each_line}

-- the table of each line with its entries, which stand in the line's part of the area, or in what there is of it
abbrev pub held_of : List Table → ℕ → List ℕ → ℕ → Held
held_of tables room route = λ k. held_in (get_or tables k no_table) (part_of room k route)

-- the lines among those flagged that one more keyword, with this hash, leaves
unfoldable pub left_by : List Bool → (ℕ → Held) → ℕ → ℕ → List Bool
left_by flags tables ttl hash = each_line (λ k. get_or flags k false && not (stops (tables k) ttl hash))
