-- Tables in the parts of one area, those that are picked.
use Rattle.std.specs.Prelude.{ℕ, ◌*◌, Bool, false, List, get_or, take, drop}
use Rattle.laws.specs.Numbers.{counting}
use Rattle.tables.specs.declared.Table.{Table}
use Rattle.tables.specs.Tables.{Held, held_in, no_table}
use Rattle.tablemerging.specs.Merging.{picked_tables}

-- table k with its entries, at the front of part k of an area, of so many bytes each
abbrev pub part_held : List Table → ℕ → List ℕ → ℕ → Held
part_held tables room area k = held_in (get_or tables k no_table) (take room (drop (k * room) area))

-- those of eight that are flagged
abbrev pub part_tables : List Bool → List Table → ℕ → List ℕ → List Held
part_tables picked tables room area =
    picked_tables (λ k. get_or picked k false) (part_held tables room area) (counting 8 0)
