-- Tables of two lengths, once for all lengths and both ways, shorter and longer: two places cover each other exactly if
-- they stand for a common hash.
use Rattle.std.specs.Prelude.{ℕ, ◌*◌, ◌/◌, ◌-◌, ◌^◌, ◌≤◌, ◌<◌, ◌≡◌, ◌↔◌, ◌⊎◌, length, get_or}
use mathlib.Core.List.{List, Memᴰ, map}
use Rattle.laws.specs.Numbers.{counting}
use Rattle.keywords.specs.Hash.{place_of}
use Rattle.tablemerging.specs.Merging.{covered}

-- place i of a table of 2 to the power b entries and place j of one of 2 to the power c stand for a common hash: there
-- is a number of 32 bits whose top b bits are i, and whose top c bits are j
pub record Common (b i c j : ℕ) : Type 0 where
  pub hash : ℕ
  pub below : hash < 2 ^ 32
  pub here : hash / 2 ^ (32 - b) ≡ i
  pub there : hash / 2 ^ (32 - c) ≡ j

-- the places, of a table of m entries, that place i of one of n covers, or the one that covers it
abbrev pub covered_places : ℕ → ℕ → ℕ → List ℕ
covered_places n m i = covered n (counting m 0) i

-- by a common hash, and in numbers: scaled from the one length to the other, one place is the other
pub record Covers (b i c j : ℕ) : Type 0 where
  pub common : Memᴰ j (covered_places (2 ^ b) (2 ^ c) i) ↔ Common b i c j
  pub scaled : Memᴰ j (covered_places (2 ^ b) (2 ^ c) i)
      ↔ ((j * 2 ^ b / 2 ^ c ≡ i) ⊎ (i * 2 ^ c / 2 ^ b ≡ j))
  pub both_ways : Memᴰ j (covered_places (2 ^ b) (2 ^ c) i) ↔ Memᴰ i (covered_places (2 ^ c) (2 ^ b) j)

abbrev pub OnceForAllLengths : Type 0
OnceForAllLengths = (b c : ℕ) → b ≤ 32 → c ≤ 32 → (i j : ℕ) → i < 2 ^ b → j < 2 ^ c → Covers b i c j

-- the entries that are covered are those at the places that are, for any lists
abbrev pub CoveredByPlace : Type 0
CoveredByPlace = (n : ℕ) (es : List ℕ) (i : ℕ)
    → covered n es i ≡ map (λ j. get_or es j 0) (covered_places n (length es) i)

-- so a keyword's place at one length is among those that its place at the other covers
abbrev pub KeywordCovered : Type 0
KeywordCovered = (b c : ℕ) → b ≤ 32 → c ≤ 32 → (k : List ℕ)
    → Memᴰ (place_of c k) (covered_places (2 ^ b) (2 ^ c) (place_of b k))
