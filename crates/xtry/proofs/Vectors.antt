-- Values of X-Try read by computation, and pairs written.
use Prim.Native.Nat.{ℕ}
use Prim.Native.String.{String}
use mathlib.Core.Path.{◌≡◌, refl}
use mathlib.Core.List.{List, [], ◌∷◌, map}
use Rattle.laws.specs.Text.{codes}
use Rattle.digits.specs.Decimal.{decimal}
use Rattle.ascii.specs.Text.{digit_of, pieces, filled}
use Rattle.xtry.specs.Pairs.{items_of, bare, up_to, past, good_pair, pair_in, pairs_of, read_answer}
use Rattle.xtry.specs.Writing.{pair_text, pairs_text}
use Rattle.xtry.specs.declared.Pair.{Pair}

-- the answers to these values
abbrev answers : List String → List ℕ
answers values = map (λ v. read_answer (codes v)) values

-- one pair and several, a space after a comma, leading zeros, empty items, and no item at all
good : answers ("1.2.3.4:1234,10.11.12.13:20" ∷ "1.2.3.4:5, 6.7.8.9:1" ∷ "01.002.3.4:00080" ∷ ",1.2.3.4:5,, ,6.7.8.9:1,"
    ∷ "255.255.255.255:65535" ∷ "" ∷ []) ≡ 0 ∷ 0 ∷ 0 ∷ 0 ∷ 0 ∷ 0 ∷ []
unfolding read_answer items_of pieces bare filled good_pair up_to past digit_of
good = refl

-- ports: 0, over 65,535, six digits, none, two
bad_ports : answers ("1.2.3.4:0" ∷ "1.2.3.4:65536" ∷ "1.2.3.4:000080" ∷ "1.2.3.4" ∷ "1.2.3.4:" ∷ "1.2.3.4:5:6" ∷ [])
    ≡ 6 ∷ 6 ∷ 6 ∷ 6 ∷ 6 ∷ 6 ∷ []
unfolding read_answer items_of pieces bare filled good_pair up_to past digit_of
bad_ports = refl

-- octets: over 255, four digits, none, three of them, five of them, a letter
bad_octets : answers ("1.2.256.4:80" ∷ "0001.2.3.4:80" ∷ "1..3.4:5" ∷ "1.2.3:4" ∷ "1.2.3.4.5:6" ∷ "1.2.x.4:5" ∷ [])
    ≡ 6 ∷ 6 ∷ 6 ∷ 6 ∷ 6 ∷ 6 ∷ []
unfolding read_answer items_of pieces bare filled good_pair up_to past digit_of
bad_octets = refl

-- spaces: two after a comma, one in front of the first item, one before a comma, one at the end; and a bad pair after
-- good ones
bad_spaces : answers ("1.2.3.4:5,  6.7.8.9:1" ∷ " 1.2.3.4:5" ∷ "1.2.3.4:5 ,6.7.8.9:1" ∷ "1.2.3.4:5 "
    ∷ "1.2.3.4:5,6.7.8.9:1,x" ∷ []) ≡ 6 ∷ 6 ∷ 6 ∷ 6 ∷ 6 ∷ []
unfolding read_answer items_of pieces bare filled good_pair up_to past digit_of
bad_spaces = refl

abbrev host : ℕ → ℕ → ℕ → ℕ → ℕ → Pair
host a b c d port = record { address = a ∷ b ∷ c ∷ d ∷ []; port = port }

pairs : map (λ v. pairs_of (codes v))
    ("1.2.3.4:1234, 10.11.12.13:20" ∷ "01.002.3.4:00080" ∷ ",1.2.3.4:5,, ,6.7.8.9:1," ∷ "" ∷ [])
    ≡ (host 1 2 3 4 1234 ∷ host 10 11 12 13 20 ∷ []) ∷ (host 1 2 3 4 80 ∷ []) ∷ (host 1 2 3 4 5 ∷ host 6 7 8 9 1 ∷ [])
    ∷ [] ∷ []
unfolding pairs_of items_of pieces bare filled pair_in up_to past digit_of
pairs = refl

numbers : map decimal (0 ∷ 7 ∷ 10 ∷ 255 ∷ 6346 ∷ 65535 ∷ [])
    ≡ map codes ("0" ∷ "7" ∷ "10" ∷ "255" ∷ "6346" ∷ "65535" ∷ [])
unfolding decimal
numbers = refl

written : pairs_text (host 1 2 3 4 1234 ∷ host 10 0 255 13 20 ∷ []) ≡ codes "1.2.3.4:1234,10.0.255.13:20"
unfolding pairs_text pair_text decimal
written = refl
