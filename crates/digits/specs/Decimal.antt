-- Numbers written in decimal.
use Rattle.std.specs.Prelude.{ℕ, zero, suc, ◌+◌, ◌/◌, ◌%◌, cond, List, [], ◌∷◌, ◌++◌, ltb, length, replicate}
use Rattle.laws.specs.Parts.{over}
use Rattle.digits.specs.declared.Digits.{Digits}

-- a number below ten in ASCII
abbrev pub digit : ℕ → ℕ
digit n = 48 + n

-- n in at most k digits, with no leading zero
abbrev pub digits_of : ℕ → ℕ → List ℕ
digits_of zero n = []
digits_of (suc k) n = cond (ltb n 10) (digit n ∷ []) (digits_of k (n / 10) ++ (digit (n % 10) ∷ []))

-- a number below 100,000 in decimal
unfoldable pub decimal : ℕ → List ℕ
decimal n = digits_of 5 n

-- its digits, and how many there are
abbrev pub digits_for : ℕ → Digits
digits_for n = record { size = length (decimal n); bytes = over 0 (decimal n) (replicate 5 0) }
