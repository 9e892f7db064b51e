-- The payload of a PATCH with these fields.
use Rattle.std.specs.Prelude.{ℕ, List, ◌∷◌}

abbrev pub patch_of : ℕ → ℕ → ℕ → List ℕ → List ℕ
patch_of place size bits bytes = 1 ∷ place ∷ size ∷ 0 ∷ bits ∷ bytes
