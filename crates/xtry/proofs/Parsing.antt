-- Laws of an item read as a pair.
use Prim.Native.Nat.{ℕ}
use mathlib.Core.Path.{◌≡◌, refl}
use mathlib.Core.Bool.{Bool, true, false, cond, ◌&&◌}
use mathlib.Core.List.{List, [], ◌∷◌}
use Rattle.std.proofs.Common.{Option, Some, None}
use Rattle.xtry.specs.Pairs.{number, dot, colon, up_to, past, is_octet, is_port, good_pair, pair_in}
use Rattle.xtry.specs.Reading.{pair_of, parsed_of, ◌>>=◌}
use Rattle.xtry.specs.declared.Pair.{Pair}

-- it is a pair exactly where each of the five texts is good
parse : (s t u v w : List ℕ) → pair_of s t u v w
    ≡ cond ((is_octet s && (is_octet t && (is_octet u && (is_octet v && true)))) && is_port w)
    (Some (record { address = number s ∷ number t ∷ number u ∷ number v ∷ []; port = number w })) None
parse s t u v w = go (is_octet s) (is_octet t) (is_octet u) (is_octet v) (is_port w)
  where
    go : (a b c d p : Bool) → ◌≡◌ {A = Option Pair} (do
      i ← cond a (Some (number s)) None
      j ← cond b (Some (number t)) None
      k ← cond c (Some (number u)) None
      l ← cond d (Some (number v)) None
      port ← cond p (Some (number w)) None
      Some (record { address = i ∷ j ∷ k ∷ l ∷ []; port = port }))
        (cond ((a && (b && (c && (d && true)))) && p)
        (Some (record { address = number s ∷ number t ∷ number u ∷ number v ∷ []; port = number w })) None)
    go true true true true true = refl
    go true true true true false = refl
    go true true true false p = refl
    go true true false d p = refl
    go true false c d p = refl
    go false b c d p = refl

pub parsed-is : (item : List ℕ) → parsed_of item ≡ cond (good_pair item) (Some (pair_in item)) None
unfolding parsed_of good_pair pair_in
parsed-is item =
    parse (up_to dot item) (up_to dot (past dot item)) (up_to dot (past dot (past dot item)))
    (up_to colon (past dot (past dot (past dot item)))) (past colon (past dot (past dot (past dot item))))
