-- What the private functions that read pairs give, in terms of the definitions of Pairs.antt.
use Rattle.std.specs.Prelude.{ℕ, ◌+◌, Option, Some, None, option_and_then, cond, List, [], ◌∷◌, ltb, set}
use Rattle.xtry.specs.Pairs.{is_number, is_octet, is_port, number, dot, colon, up_to, past}
use Rattle.xtry.specs.declared.Pair.{Pair}
use Rattle.xtry.specs.declared.Pairs.{Pairs}

-- the number of a text of at most so many digits
unfoldable pub number_in : ℕ → List ℕ → Option ℕ
number_in widest text = cond (is_number widest text) (Some (number text)) None

abbrev pub octet_in : List ℕ → Option ℕ
octet_in text = cond (is_octet text) (Some (number text)) None

abbrev pub port_in : List ℕ → Option ℕ
port_in text = cond (is_port text) (Some (number text)) None

infixl 10 ◌>>=◌
abbrev pub ◌>>=◌ : {A B : Type 0} → Option A → (A → Option B) → Option B
o >>= f = option_and_then f o

-- a pair of the texts of four octets and of a port
abbrev pub pair_of : List ℕ → List ℕ → List ℕ → List ℕ → List ℕ → Option Pair
pair_of s t u v w = do
  a ← octet_in s
  b ← octet_in t
  c ← octet_in u
  d ← octet_in v
  port ← port_in w
  Some (record { address = a ∷ b ∷ c ∷ d ∷ []; port = port })

-- an item read as a pair: each text is cut off what the one before it left
unfoldable pub parsed_of : List ℕ → Option Pair
parsed_of item =
    pair_of (up_to dot item) (up_to dot (past dot item)) (up_to dot (past dot (past dot item)))
    (up_to colon (past dot (past dot (past dot item)))) (past colon (past dot (past dot (past dot item))))

-- one pair more, where there is a place for it
unfoldable pub kept : Pairs → Pair → Pairs
kept ps p = cond (ltb ps.count 32) (record { count = ps.count + 1; pairs = set ps.pairs ps.count p }) ps
