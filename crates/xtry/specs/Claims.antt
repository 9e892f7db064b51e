-- What is proved of pairs, besides the functions' contracts.
use Rattle.std.specs.Prelude.{ℕ, ◌≤◌, ◌≡◌, ◌↔◌, Bool, true, not, List, [], ◌∷◌, eqb, leb, length}
use Rattle.laws.specs.Tests.{every, any, all}
use Rattle.xtry.specs.Pairs.{items_of, good_pair, pairs_from, tried_of}
use Rattle.xtry.specs.Writing.{pairs_text}
use Rattle.xtry.specs.declared.Pair.{Pair}

-- a host that can be tried: four octets and a port that is not 0
abbrev pub is_host : Pair → Bool
is_host p =
    every
    (eqb (length p.address) 4 ∷ all (λ b. leb b 255) p.address ∷ leb 1 p.port ∷ leb p.port 65535 ∷ [])

-- a value is answered 6 exactly where one of its items is no pair, wherever it stands
abbrev pub SixExactly : Type 0
SixExactly = (value : List ℕ) → ((tried_of value).answer ≡ 6) ↔ (any (λ item. not (good_pair item)) (items_of value) ≡ true)

-- up to 32 hosts, written, are read as the same hosts
abbrev pub ReadBack : Type 0
ReadBack =
    (ps : List Pair) → length ps ≤ 32 → all is_host ps ≡ true
    → tried_of (pairs_text ps) ≡ record { answer = 0; pairs = pairs_from ps }
