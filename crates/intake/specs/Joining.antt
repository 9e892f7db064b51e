-- Bytes put behind the held ones.
use Rattle.std.specs.Prelude.{ℕ, ◌+◌, cond, List, leb, length}
use Rattle.laws.specs.Parts.{over}

-- the held area with these bytes from place `at` on; where they have no room, as it was
abbrev pub held_with : ℕ → List ℕ → List ℕ → List ℕ
held_with at bytes held = cond (leb (at + length bytes) (length held)) (over at bytes held) held
