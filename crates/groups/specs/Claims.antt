-- What is proved of where a group ends (RULES 15.1), besides the functions' contracts.
use Rattle.std.specs.Prelude.{ℕ, ◌+◌, ◌-◌, ◌≤◌, ◌<◌, ◌≡◌, ◌↔◌, ◌⊎◌, List, length, get_or}
use Rattle.groups.specs.Lines.{group_length}

-- an empty line stands at place p: CR and LF, at the start or behind another CR and LF
abbrev pub EmptyLineAt : List ℕ → ℕ → Type 0
EmptyLineAt m p =
    (get_or m p 0 ≡ 13)
    × (get_or m (p + 1) 0 ≡ 10)
    × ((p ≡ 0) ⊎ ((2 ≤ p) × (get_or m (p - 2) 0 ≡ 13) × (get_or m (p - 1) 0 ≡ 10)))

-- it ends in the bytes, and in the first 4,096 of them
abbrev pub EndsIn : List ℕ → ℕ → Type 0
EndsIn m p = (p + 2 ≤ length m) × (p + 2 ≤ 4096) × EmptyLineAt m p

-- a group ends with the first empty line
abbrev pub EndIsFirst : Type 0
EndIsFirst = (m : List ℕ) (p : ℕ) → (group_length m ≡ p + 2) ↔ (EndsIn m p × ((k : ℕ) → k < p → EmptyLineAt m k → ⊥))

-- there is no end exactly where there is no such line
abbrev pub NoEnd : Type 0
NoEnd = (m : List ℕ) → (group_length m ≡ 0) ↔ ((p : ℕ) → EndsIn m p → ⊥)
