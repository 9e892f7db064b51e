-- Chunks of four bytes in lower case, all bytes at once (RULES 11.3).
use Rattle.std.specs.Prelude.{ℕ, ◌/◌, map}
use Rattle.std.specs.Int.Bits.{bit_and}
use Rattle.laws.specs.Bytes.{little, little_bytes}
use Rattle.ascii.specs.Text.{lower}
use Rattle.keywords.specs.Hash.{xor32}

-- the highest bit of each byte of a chunk
abbrev pub highest : ℕ
highest = 0x80808080

-- a chunk with each of its four bytes in lower case
abbrev pub lowered : ℕ → ℕ
lowered chunk = little (map lower (little_bytes 4 chunk))

-- a chunk, or chunks joined, with the case of those bytes changed whose highest bit is set in `marks`: the bit that
-- tells A from a stands two below it
unfoldable pub folded : ℕ → ℕ → ℕ
folded chunk marks = xor32 chunk (bit_and marks highest / 4)
