-- The text of a query from outside, proved: what stands behind the speed, up to the first zero byte.
-- Assumes nothing.
use mathlib.Core.Path.{◌≡◌, ap, ◌∙◌}
use mathlib.Core.Bool.{true, false≢true}
use mathlib.Core.List.{List, [], ◌∷◌}
use Prim.Native.Nat.{ℕ}
use Rattle.laws.proofs.UntilZero.{until_of, has-zero, Ended, ended}
use Rattle.protocol.specs.Queries.{text_in, has_text}
use Rattle.protocol.specs.QueryText.{Holds, TextExactly}

pub text-exactly : TextExactly
text-exactly p = (only p, (found p, held p))
  where
    only : (p text : List ℕ) → Holds text p → text_in p ≡ text
    only p text h = ap text_in h.is ∙ until_of text h.rest h.no_zero

    found : (p : List ℕ) → has_text p ≡ true → Holds (text_in p) p
    found [] e = absurd (false≢true e)
    found (x ∷ []) e = absurd (false≢true e)
    found (x ∷ y ∷ l) e =
        let t : Ended l = ended l e in
        record {
          first = x;
          second = y;
          rest = t.rest;
          is = ap (λ (l : List ℕ). x ∷ y ∷ l) t.is;
          no_zero = t.no_zero;
        }

    held : (p : List ℕ) → Holds (text_in p) p → has_text p ≡ true
    held p h = ap has_text h.is ∙ has-zero (text_in p) h.rest
