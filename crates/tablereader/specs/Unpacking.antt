-- 4-bit data unpacked: its numbers as numbers of 8 bits with the same values.
use Rattle.std.specs.Prelude.{ℕ, ◌+◌, cond, List, map, ltb}
use Rattle.tables.specs.Patch.{numbers}

-- a 4-bit number in two's complement, with its sign carried on to 8 bits
abbrev pub widened : ℕ → ℕ
widened v = cond (ltb v 8) v (v + 240)

abbrev pub unpacked : List ℕ → List ℕ
unpacked bytes = map widened (numbers 4 bytes)
