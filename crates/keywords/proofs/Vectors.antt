-- The places of RULES 11.6, by computation.
use Prim.Native.Nat.{ℕ}
use mathlib.Core.Path.{◌≡◌, refl}
use mathlib.Core.List.{List, [], ◌∷◌, map}
use lib.ListN.{take}
use Rattle.ascii.specs.Text.{lower}
use Rattle.keywords.specs.Keywords.{keywords_of, pieces, filled, is_separator, cut_of}
use Rattle.keywords.specs.Hash.{xor32, word, hash_of, place_of, place_in}

-- ebcklmenq
letters : List ℕ
letters = 0x65 ∷ 0x62 ∷ 0x63 ∷ 0x6B ∷ 0x6C ∷ 0x6D ∷ 0x65 ∷ 0x6E ∷ 0x71 ∷ []

-- the empty keyword, eb, ebc, .. ebcklmenq at 13 bits
thirteen : map (λ n. place_of 13 (take n letters)) (0 ∷ 2 ∷ 3 ∷ 4 ∷ 5 ∷ 6 ∷ 7 ∷ 8 ∷ 9 ∷ [])
    ≡ 0 ∷ 6791 ∷ 7082 ∷ 6698 ∷ 3179 ∷ 3235 ∷ 6438 ∷ 1062 ∷ 3527 ∷ []
unfolding letters lower word xor32 hash_of
thirteen = refl

-- " eB  ebckl": two keywords, their places in a table of four entries, and where the first one stands
text : List ℕ
text = 0x20 ∷ 0x65 ∷ 0x42 ∷ 0x20 ∷ 0x20 ∷ take 5 letters

two : map (place_in 4) (keywords_of text) ≡ 3 ∷ 1 ∷ []
unfolding text letters lower is_separator word xor32 hash_of keywords_of pieces filled
two = refl

cut : cut_of text ≡ record { start = 1; end = 3 }
unfolding text letters is_separator
cut = refl
