-- Counts by computation.
use mathlib.Core.Path.{◌≡◌, refl}
use Prim.Native.Nat.{ℕ, ◌-◌}
use mathlib.Core.List.{List, [], ◌∷◌, ◌++◌, map}
use lib.ListN.{replicate}
use Rattle.tally.specs.Counts.{answer_count, full, one_more, bump, bumps, sum}
use Rattle.tally.specs.History.{zeros}

abbrev few : List ℕ
few = 0 ∷ (answer_count - 1) ∷ 9 ∷ 0 ∷ answer_count ∷ 255 ∷ 0 ∷ []

-- the last number counts; the one after it and 255 count nothing
counts-few : bumps zeros few ≡ 3 ∷ (replicate 8 0 ++ (1 ∷ (replicate (answer_count - 11) 0 ++ (1 ∷ []))))
unfolding one_more bump bumps
counts-few = refl

sums-few : sum (bumps zeros few) ≡ 5
unfolding one_more bump bumps sum
sums-few = refl

-- a full count stays
stays-full : map one_more (0 ∷ 4294967293 ∷ 4294967294 ∷ 4294967295 ∷ []) ≡ 1 ∷ 4294967294 ∷ full ∷ full ∷ []
unfolding one_more
stays-full = refl
