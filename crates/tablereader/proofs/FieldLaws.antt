-- Laws of the fields of an update.
use Prim.Native.Nat.{ℕ}
use mathlib.Core.Path.{◌≡◌, refl}
use mathlib.Core.Bool.{false}
use mathlib.Core.List.{List, [], ◌∷◌}
use native.Mathlib.Omega.{arith}
use lib.ListN.{length}
use Rattle.tables.specs.Updates.{is_patch}

-- a payload of no bytes is no PATCH
pub empty-no-patch : (p : List ℕ) → length p ≡ 0 → false ≡ is_patch p
empty-no-patch [] h = refl
empty-no-patch (b ∷ p) h = absurd (omega arith)
