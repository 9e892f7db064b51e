-- Entries lowered by those of a table of as many entries, whatever its Infinity is.
use Rattle.std.specs.Prelude.{ℕ, ◌+◌, ◌≤◌, min, List, get_or}
use Rattle.tablemerging.specs.Merging.{each_place}

-- each entry of xs by the entry of es at its place
unfoldable pub lowered : List ℕ → List ℕ → List ℕ
lowered es xs = each_place (λ i x. min (get_or es i 0 + 1) x) 0 xs

-- no entry is above `most`
abbrev pub Within : ℕ → List ℕ → Type 0
Within most xs = (i : ℕ) → get_or xs i 0 ≤ most
