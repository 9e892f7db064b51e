-- The rings of stored pongs as the code reads them: where a rank's pong stands, and what the walk reads off the lines.
use Rattle.std.specs.Prelude.{ℕ, max, Bool, cond, ◌&&◌, List, [], ◌∷◌, map, leb, ltb, get_or}
use Rattle.laws.specs.Tests.{all}
use Rattle.laws.specs.Ring.{ring_fits, ring_place, places_before}
use Rattle.protocol.specs.declared.Pong.{Pong}
use Rattle.protocol.specs.declared.Line.{Line}
use Rattle.protocol.specs.Lines.{line_numbers, is_other, line_in, pong_capacity, pong_hops}
use Rattle.protocol.specs.Pings.{keep_if, is_fresh}

-- the place of line k's pong of this rank, the newest being rank 0, for a ping from line l; 10 where the walk finds
-- none
unfoldable pub place_for : ℕ → ℕ → ℕ → ℕ → ℕ → ℕ
place_for l k count next rank =
    cond (is_other l k && (ring_fits pong_capacity next count && ltb rank count))
    (ring_place pong_capacity next rank) pong_capacity

-- a pong, if it is less than 15,000 ms old
abbrev pub if_fresh : ℕ → Pong → List Pong
if_fresh clock p = keep_if (is_fresh clock) (p ∷ [])

-- of each line: how many pongs it keeps, its ring's next place, and the ring
abbrev pub counts_in : List Line → List ℕ
counts_in lines = map (λ k. (line_in lines k).pongcount) line_numbers

abbrev pub nexts_in : List Line → List ℕ
nexts_in lines = map (λ k. (line_in lines k).pongnext) line_numbers

abbrev pub rings_in : List Line → List (List Pong)
rings_in lines = map (λ k. (line_in lines k).pongs) line_numbers

-- the Hops at the ten places of a ring
abbrev pub hops_in : List Pong → List ℕ
hops_in pongs =
    map (λ k. (get_or pongs k (record { bytes = []; hops = 0; clock = 0 })).hops)
    (0 ∷ 1 ∷ 2 ∷ 3 ∷ 4 ∷ 5 ∷ 6 ∷ 7 ∷ 8 ∷ 9 ∷ [])

-- the Hops of the kept pongs, which stand at the places before the next, are at most 7
abbrev pub low_at : List ℕ → ℕ → ℕ → Bool
low_at hops next count = all (λ p. leb (get_or hops p 0) pong_hops) (places_before pong_capacity next count)

-- the largest of these numbers
unfoldable pub largest : List ℕ → ℕ
largest [] = 0
largest (n ∷ ns) = max n (largest ns)
