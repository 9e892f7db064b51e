-- How the cutter takes a text: its first bytes one by one, and what goes on behind them in blocks. The contract of a
-- leaf cites this; no rule does.
use Rattle.std.specs.Prelude.{ℕ, ◌≤◌, ◌≡◌, List, take}
use Rattle.keywords.specs.Keywords.{cut_start, cut_end}

-- how many bytes are looked at one by one, and how many a block has
abbrev pub near : ℕ
near = 32

abbrev pub block : ℕ
block = 16

-- the first bytes do not have the first keyword whole: it starts at this place among them and goes on up to their end
-- at least; or this place is their end, and they are separators all
abbrev pub Reaching : ℕ → List ℕ → Type 0
Reaching start text = (start ≡ cut_start (take near text)) × (near ≤ cut_end (take near text))
