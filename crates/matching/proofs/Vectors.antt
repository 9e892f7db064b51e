-- Names and texts by computation: a keyword counts whole, in either case, however often; a text without keywords
-- matches nothing; and two keywords that share a place in a route table are two.
use Prim.Native.Nat.{ℕ}
use mathlib.Core.Path.{◌≡◌, refl}
use mathlib.Core.Bool.{true, false}
use mathlib.Core.List.{List, [], ◌∷◌, ◌++◌}
use lib.ListN.{get_or, replicate}
use Rattle.laws.specs.Text.{codes}
use Rattle.ascii.specs.Text.{lower, compared}
use Rattle.keywords.specs.Keywords.{keywords_of, pieces, filled, is_separator}
use Rattle.keywords.specs.Hash.{xor32, word, hash_of, place_in}
use Rattle.namearea.specs.Area.{count_in, span_in}
use Rattle.matching.specs.Matching.{matches, matching_places}

photo : List ℕ
photo = codes "LX-04417.jpg"

names : (matches (codes "lx") photo ≡ true)
    × (matches (codes "0441") photo ≡ false)
    × (matches (codes "04417 JPG") photo ≡ true)
    × (matches (codes "04417 png") photo ≡ false)
    × (matches (codes "a a A") (codes "x a") ≡ true)
    × (matches (codes "ab") (codes "a b") ≡ false)
    × (matches (codes "a b") (codes "ab") ≡ false)
unfolding photo lower compared is_separator keywords_of pieces filled matches
names = (refl, refl, refl, refl, refl, refl, refl)

-- a text of hyphens, and no text
wordless : (matches (codes "--") photo ≡ false)
    × (matches [] photo ≡ false)
    × (matches (codes "--") (codes "--") ≡ false)
    × (matches [] (codes "--") ≡ false)
    × (matches [] [] ≡ false)
unfolding photo lower compared is_separator keywords_of pieces filled matches
wordless = (refl, refl, refl, refl, refl)

-- "jpg" and "jpeg" share a place in a table of four entries, "abcdefgh" and "efghabcd" in every table
twins : (place_in 4 (codes "jpg") ≡ place_in 4 (codes "jpeg"))
    × (matches (codes "jpg") (codes "jpeg") ≡ false)
    × (hash_of (codes "abcdefgh") ≡ hash_of (codes "efghabcd"))
    × (matches (codes "abcdefgh") (codes "efghabcd") ≡ false)
unfolding lower compared is_separator word xor32 hash_of keywords_of pieces filled matches
twins = (refl, refl, refl, refl)

-- an area that lists the photo and "x a" and has "lx" behind them, which is not listed
area : List ℕ
area =
    2 ∷ 0 ∷ 0 ∷ 0
    ∷ 4 ∷ 16 ∷ 0 ∷ 0 ∷ 12 ∷ 0 ∷ 0 ∷ 0
    ∷ 16 ∷ 16 ∷ 0 ∷ 0 ∷ 3 ∷ 0 ∷ 0 ∷ 0
    ∷ 4 ∷ 16 ∷ 0 ∷ 0 ∷ 2 ∷ 0 ∷ 0 ∷ 0
    ∷ (replicate 4072 0 ++ (photo ++ codes "x a"))

places : (get_or (matching_places (codes "lx") area) 0 false ≡ true)
    × (get_or (matching_places (codes "lx") area) 1 false ≡ false)
    × (get_or (matching_places (codes "lx") area) 2 false ≡ false)
    × (get_or (matching_places (codes "A") area) 1 false ≡ true)
unfolding photo area lower compared is_separator keywords_of pieces filled count_in span_in matches matching_places
places = (refl, refl, refl, refl)

-- a text of 4,096 bytes is looked at, a longer one is not
long : (get_or (matching_places (codes "lx" ++ replicate 4094 45) area) 0 false ≡ true)
    × (get_or (matching_places (codes "lx" ++ replicate 4095 45) area) 0 false ≡ false)
unfolding photo area lower compared is_separator keywords_of pieces filled count_in span_in matches matching_places
long = (refl, refl)
