-- Texts, flags and messages by computation.
use Prim.Native.Nat.{ℕ}
use mathlib.Core.Path.{◌≡◌, refl}
use mathlib.Core.Bool.{Bool, true, false}
use mathlib.Core.List.{List, [], ◌∷◌, ◌++◌, map}
use lib.ListN.{get_or, replicate, drop}
use Rattle.wire.specs.Header.{message}
use Rattle.keywords.specs.Keywords.{lower}
use Rattle.keywords.specs.Keywords.{keywords_of, pieces, filled, is_separator}
use Rattle.keywords.specs.Hash.{hash_of, word, xor32}
use Rattle.tables.specs.declared.Table.{Table}
use Rattle.tables.specs.Tables.{no_table, running, settled, broken}
use Rattle.tables.specs.Admission.{withholds}
use Rattle.protocol.specs.Queries.{until_zero, own_bytes, own_to, query_to}
use Rattle.forwarding.specs.Texts.{text_of}
use Rattle.forwarding.specs.Passing.{held_of}
use Rattle.forwarding.specs.Messages.{passed_on}

-- the first zero byte behind the speed ends a text, which may be empty
texts : map text_of ((0 ∷ 0 ∷ 97 ∷ 0 ∷ 98 ∷ 0 ∷ []) ∷ (0 ∷ 0 ∷ 0 ∷ []) ∷ (0 ∷ 0 ∷ 97 ∷ []) ∷ (0 ∷ []) ∷ [])
    ≡ record { ended = true; length = 1 }
    ∷ record { ended = true; length = 0 }
    ∷ record { ended = false; length = 1 }
    ∷ record { ended = false; length = 0 }
    ∷ []
unfolding until_zero
texts = refl

-- four entries a line, of which "eb" has the last: 3, 2 and 2, the last of these with Infinity 2; a closed line; none;
-- a table that is not settled, twice; and a part that the area lacks
table : ℕ → ℕ → Table
table mark infinity =
    record {
      mark = mark;
      length = 4;
      infinity = infinity;
      nextplace = 1;
      runsize = 0;
      runbits = 0;
      nextentry = 0;
    }

tables : List Table
tables =
    table settled 8 ∷ table settled 8 ∷ table settled 2 ∷ no_table ∷ no_table ∷ table running 8 ∷ table broken 8
    ∷ table settled 8 ∷ []

live : List Bool
live = true ∷ true ∷ true ∷ false ∷ true ∷ true ∷ true ∷ true ∷ []

route : List ℕ
route = (8 ∷ 8 ∷ 8 ∷ 3 ∷ []) ++ (8 ∷ 8 ∷ 8 ∷ 2 ∷ []) ++ (1 ∷ 1 ∷ 1 ∷ 2 ∷ []) ++ replicate 16 8

-- sent with TTL 2: the entry 3 is too far, and Infinity is none
eb : own_to 2 (λ k. get_or live k false) (held_of tables 4 route) (0x20 ∷ 0x45 ∷ 0x62 ∷ [])
    ≡ false ∷ true ∷ false ∷ false ∷ true ∷ true ∷ true ∷ true ∷ []
unfolding table tables live route withholds keywords_of pieces filled is_separator lower hash_of word xor32
eb = refl

-- the same for one from line 1 with a life of 3, which goes on with TTL 2; a life of 1 is too short
from_1 : (query_to 3 1 (λ k. get_or live k false) (held_of tables 4 route) (0x20 ∷ 0x45 ∷ 0x62 ∷ [])
    ≡ false ∷ false ∷ false ∷ false ∷ true ∷ true ∷ true ∷ true ∷ [])
    × (query_to 1 1 (λ k. get_or live k false) (held_of tables 4 route) [] ≡ replicate 8 false)
unfolding table tables live route withholds keywords_of pieces filled is_separator lower hash_of word xor32
from_1 = (refl, refl)

-- no keyword: withheld from nobody
spaces : own_to 2 (λ k. get_or live k false) (held_of tables 4 route) (0x20 ∷ 0x20 ∷ []) ≡ live
unfolding table tables live route withholds keywords_of pieces filled is_separator
spaces = refl

-- only TTL and Hops are new
on : passed_on (message (replicate 16 9) 0x80 3 1 (0 ∷ 0 ∷ 97 ∷ 0 ∷ [])) 27 1 2
    ≡ message (replicate 16 9) 0x80 1 2 (0 ∷ 0 ∷ 97 ∷ 0 ∷ [])
unfolding message
on = refl

own : drop 16 (own_bytes 7 (replicate 16 9) (97 ∷ [])) ≡ 0x80 ∷ 7 ∷ 0 ∷ 4 ∷ 0 ∷ 0 ∷ 0 ∷ 0 ∷ 0 ∷ 97 ∷ 0 ∷ []
unfolding message
own = refl
