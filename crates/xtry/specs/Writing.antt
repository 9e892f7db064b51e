-- Pairs in text, as X-Try lists them (RULES 15.13, 15.14).
use Rattle.std.specs.Prelude.{ℕ, Bool, cond, not, ◌&&◌, List, [], ◌∷◌, ◌++◌, map, eqb, leb, length, take, get_or}
use Rattle.laws.specs.Tests.{all}
use Rattle.laws.specs.Parts.{over}
use Rattle.digits.specs.Decimal.{decimal}
use Rattle.xtry.specs.Pairs.{comma, dot, colon}
use Rattle.xtry.specs.declared.Pair.{Pair}
use Rattle.xtry.specs.declared.Pairs.{Pairs}

-- these texts with s between them
abbrev pub joined : ℕ → List (List ℕ) → List ℕ
joined s [] = []
joined s (t ∷ []) = t
joined s (t ∷ u ∷ ts) = t ++ (s ∷ joined s (u ∷ ts))

-- the k-th octet of an address
abbrev pub octet_of : Pair → ℕ → ℕ
octet_of p k = get_or p.address k 0

-- four octets joined by dots, a colon and the port
unfoldable pub pair_text : Pair → List ℕ
pair_text p =
    joined dot (map (λ k. decimal (octet_of p k)) (0 ∷ 1 ∷ 2 ∷ 3 ∷ [])) ++ (colon ∷ decimal p.port)

-- the pairs with commas between them, without spaces
unfoldable pub pairs_text : List Pair → List ℕ
pairs_text ps = joined comma (map pair_text ps)

-- the pairs in use
abbrev pub pairs_in : Pairs → List Pair
pairs_in pairs = take pairs.count pairs.pairs

abbrev pub has_port : Pair → Bool
has_port p = not (eqb p.port 0)

-- at most 32 pairs, and each has a port
unfoldable pub can_write : Pairs → Bool
can_write pairs = leb pairs.count 32 && all has_port (pairs_in pairs)

-- each pair after a byte that leads it: the first after s, the others after a comma
unfoldable pub led : ℕ → List Pair → List ℕ
led s [] = []
led s (p ∷ ps) = s ∷ (pair_text p ++ led comma ps)

-- how many bytes of the pairs behind s were written: none where the area has not room for the most that pairs can take
abbrev pub led_size : ℕ → Pairs → ℕ → ℕ
led_size s pairs room = cond (leb 960 room) (length (led s (pairs_in pairs))) 0

-- the area afterwards: the pairs behind s at its front, or as it was
abbrev pub led_over : ℕ → Pairs → List ℕ → List ℕ
led_over s pairs area = cond (leb 960 (length area)) (over 0 (led s (pairs_in pairs)) area) area
