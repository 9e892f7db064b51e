-- The numbers of a PATCH, over the bits of a number: 4 or 8.
use Rattle.std.specs.Prelude.{ℕ, ◌+◌, ◌-◌, ◌*◌, ◌/◌, ◌%◌, ◌^◌, Bool, true, false, cond, ◌&&◌, ◌||◌, List, [], ◌∷◌, eqb, leb, ltb}

-- how many bits a number of a PATCH may have
abbrev pub good_bits : ℕ → Bool
good_bits bits = eqb bits 4 || eqb bits 8

-- the raw numbers of some data, each of `bits` bits: the high half of a byte first (RULES 12.12)
unfoldable pub numbers : ℕ → List ℕ → List ℕ
numbers bits [] = []
numbers bits (b ∷ bs) = cond (eqb bits 4) (b / 16 ∷ b % 16 ∷ numbers bits bs) (b ∷ numbers bits bs)

-- how many numbers n bytes of data hold
abbrev pub number_count : ℕ → ℕ → ℕ
number_count bits n = n * cond (eqb bits 4) 2 1

-- numbers as data: the inverse of `numbers` (a last number without a partner at 4 bits is left out)
unfoldable pub packed : ℕ → List ℕ → List ℕ
packed bits [] = []
packed bits (u ∷ []) = cond (eqb bits 4) [] (u ∷ [])
packed bits (u ∷ v ∷ vs) = cond (eqb bits 4) ((u * 16 + v) ∷ packed bits vs) (u ∷ packed bits (v ∷ vs))

-- a raw number v of `bits` bits is in two's complement: it adds v where that is below half, else it takes 2 ^ bits - v
-- away
abbrev pub half : ℕ → ℕ
half bits = 2 ^ (bits - 1)

abbrev pub gain : ℕ → ℕ → ℕ
gain bits v = cond (ltb v (half bits)) v 0

abbrev pub loss : ℕ → ℕ → ℕ
loss bits v = cond (ltb v (half bits)) 0 (2 ^ bits - v)

-- the entry e with the number v added
abbrev pub sum_of : ℕ → ℕ → ℕ → ℕ
sum_of bits v e = e + gain bits v - loss bits v

-- that sum is in 1..infinity
abbrev pub fits : ℕ → ℕ → ℕ → ℕ → Bool
fits bits infinity v e = ltb (loss bits v) (e + gain bits v) && leb (e + gain bits v) (infinity + loss bits v)

-- numbers added to entries in order; entries past the numbers stay
unfoldable pub added : ℕ → List ℕ → List ℕ → List ℕ
added bits [] es = es
added bits (v ∷ vs) [] = []
added bits (v ∷ vs) (e ∷ es) = sum_of bits v e ∷ added bits vs es

-- each sum is in 1..infinity
unfoldable pub all_fit : ℕ → ℕ → List ℕ → List ℕ → Bool
all_fit bits infinity [] es = true
all_fit bits infinity (v ∷ vs) [] = false
all_fit bits infinity (v ∷ vs) (e ∷ es) = fits bits infinity v e && all_fit bits infinity vs es
