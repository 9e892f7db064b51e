-- The front of a payload: a short one is refused, and of any other the fields are read byte by byte.
use Prim.Native.Nat.{ℕ, ◌-◌, ◌≤◌, ◌<◌}
use mathlib.Core.Path.{◌≡◌, ap, ◌∙◌}
use mathlib.Core.List.{List, [], ◌∷◌}
use native.Mathlib.Omega.{arith}
use lib.ListN.{length, get_or, take, drop}
use lib.Seq.{drop-cons}
use borrow.Author.Tests.{lt-ltb, le-ltb}
use Rattle.laws.specs.Bytes.{little}
use Rattle.hits.specs.Reading.{head_in, no_head, beginning}

module _ (p : List ℕ) where
  pub begin-short : length p < 27 → beginning p ≡ no_head
  unfolding beginning
  begin-short h = rw (lt-ltb (length p) 27 h)

  module _ (h : 27 ≤ length p) where
    pub begin-taken : beginning p ≡ head_in p
    unfolding beginning
    begin-taken = rw (le-ltb (length p) 27 h)

    pub port-bytes : take 2 (drop 1 p) ≡ get_or p 1 0 ∷ get_or p 2 0 ∷ []
    port-bytes = ap (take 2) (drop-cons p 1 0 (omega arith) ∙ ap (◌∷◌ (get_or p 1 0)) (drop-cons p 2 0 (omega arith)))

    pub address-bytes : take 4 (drop 3 p) ≡ get_or p 3 0 ∷ get_or p 4 0 ∷ get_or p 5 0 ∷ get_or p 6 0 ∷ []
    address-bytes =
        ap (take 4)
        (drop-cons p 3 0 (omega arith)
        ∙ ap (λ l. get_or p 3 0 ∷ l)
        (drop-cons p 4 0 (omega arith)
        ∙ ap (λ l. get_or p 4 0 ∷ l)
        (drop-cons p 5 0 (omega arith) ∙ ap (λ l. get_or p 5 0 ∷ l) (drop-cons p 6 0 (omega arith)))))

    -- as the code has it
    pub head_read : (port speed : ℕ) → port ≡ little (get_or p 1 0 ∷ get_or p 2 0 ∷ []) → speed ≡ little (take 4 (drop 7 p))
        → record {
          answer = 0;
          results = get_or p 0 0;
          port = port;
          address = get_or p 3 0 ∷ get_or p 4 0 ∷ get_or p 5 0 ∷ get_or p 6 0 ∷ [];
          speed = speed;
          markat = length p - 16;
          cursor = record { at = 11; left = get_or p 0 0 };
        }
        ≡ beginning p
    head_read port speed e f = rw (begin-taken, port-bytes, address-bytes, e, f)
