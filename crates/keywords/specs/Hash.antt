-- The hash of a keyword and its place in a table (RULES 11.3 to 11.5).
use Rattle.std.specs.Prelude.{ℕ, ◌+◌, ◌-◌, ◌*◌, ◌/◌, ◌%◌, ◌^◌, List, [], ◌∷◌, map}
use Rattle.laws.specs.Bytes.{little, xor}
use Rattle.ascii.specs.Text.{lower}

-- exclusive or of two 32-bit numbers
unfoldable pub xor32 : ℕ → ℕ → ℕ
xor32 a b = xor 32 a b

-- chunks of four bytes, little-endian, the last zero-padded, joined by exclusive or
unfoldable pub word : List ℕ → ℕ
word [] = 0
word (a ∷ []) = little (a ∷ [])
word (a ∷ b ∷ []) = little (a ∷ b ∷ [])
word (a ∷ b ∷ c ∷ []) = little (a ∷ b ∷ c ∷ [])
word (a ∷ b ∷ c ∷ d ∷ rest) = xor32 (little (a ∷ b ∷ c ∷ d ∷ [])) (word rest)

-- the factor of 001's appendix (RULES 11.4)
abbrev pub factor : ℕ
factor = 0x4F1BBCDC

-- the hash of a keyword, of which a place takes the top bits
unfoldable pub hash_of : List ℕ → ℕ
hash_of k = word (map lower k) * factor % 2 ^ 32

-- where a keyword stands in a table of 2 to the power b entries (RULES 11.5: its place): the top b bits of its hash;
-- from 32 on b means 32
abbrev pub place_of : ℕ → List ℕ → ℕ
place_of b k = hash_of k / 2 ^ (32 - b)

-- the same for a table of n entries, whatever n is: the hash scaled from 2 to the power 32 down to n
abbrev pub scaled : ℕ → ℕ → ℕ
scaled n h = h * n / 2 ^ 32

abbrev pub place_in : ℕ → List ℕ → ℕ
place_in n k = scaled n (hash_of k)

-- 001's appendix (RULES 11.3): the byte at index i is shifted by i modulo 4 bytes and joined by exclusive or
unfoldable pub rolling : ℕ → ℕ → List ℕ → ℕ
rolling acc j [] = acc
rolling acc j (b ∷ bs) = rolling (xor32 acc (b * 256 ^ j)) ((j + 1) % 4) bs
