-- Each answer number has a count: in the definition, and in the struct as the code declares it. The contracts alone do
-- not say so, since a count past the end of a list is not set.
-- Assumes nothing.
use native.Mathlib.Omega.{arith}
use mathlib.Core.Path.{◌≡◌, refl}
use mathlib.Core.List.{[], ◌∷◌}
use denote.Builtin.{Array, u32}
use denote.Struct.Field.{row_field}
use Rattle.tally.specs.Counts.{answer_count}
use Rattle.tally.specs.History.{RowForEach}
use Rattle.tally.specs.contracts.Tally.{struct}

pub row_for_each : RowForEach
row_for_each n = ((λ h. omega arith), (λ h. omega arith))

pub rows_declared : struct.parts ≡ row_field (Array u32 tt answer_count) ∷ []
rows_declared = refl
