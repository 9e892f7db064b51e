-- Rings: the kept places of a ring of `capacity` places are the `count` just before `next`, going round.
use Rattle.std.specs.Prelude.{ℕ, zero, suc, ◌+◌, ◌-◌, ◌%◌, Bool, cond, ◌&&◌, List, [], ◌∷◌, leb, ltb}

-- the place before p, going round
abbrev pub back : ℕ → ℕ → ℕ
back capacity p = (p + (capacity - 1)) % capacity

-- the next place after p, going round
abbrev pub onward : ℕ → ℕ → ℕ
onward capacity p = (p + 1) % capacity

-- the n places before p, the nearest first
abbrev pub places_before : ℕ → ℕ → ℕ → List ℕ
places_before capacity p zero = []
places_before capacity p (suc n) = back capacity p ∷ places_before capacity (back capacity p) n

-- the place behind which i others stand before p, going round: the newest of a ring, where p is next and i 0
abbrev pub ring_place : ℕ → ℕ → ℕ → ℕ
ring_place capacity p i = (p + (capacity - suc i)) % capacity

-- a ring's count and next place are within its capacity
abbrev pub ring_fits : ℕ → ℕ → ℕ → Bool
ring_fits capacity next count = leb count capacity && ltb next capacity

-- the kept places, the newest first; none where the ring does not fit
unfoldable pub kept_places : ℕ → ℕ → ℕ → List ℕ
kept_places capacity next count = cond (ring_fits capacity next count) (places_before capacity next count) []
