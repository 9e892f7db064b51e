-- Laws of a text that the first zero byte ends.
-- Assumes nothing.
use Prim.Native.Nat.{ℕ, zero, suc, ◌+◌, ◌<◌}
use mathlib.Core.Path.{◌≡◌, refl, sym, ap, ◌∙◌}
use mathlib.Core.Bool.{Bool, true, false, cond, ◌||◌, false≢true}
use mathlib.Core.List.{List, [], ◌∷◌, ◌++◌}
use native.Mathlib.Numerals.{add-one}
use native.Mathlib.Omega.{arith}
use lib.Dec.{eqb, ltb, eqb-zero-suc, eqb-suc-zero, leb-suc-suc}
use lib.ListN.{length, get_or, take, drop}
use lib.Seq.{drop-cons}
use borrow.Author.Tests.{lt-ltb, eq-eqb, ne_eqb, eqb-true, eqb-false}
use Rattle.laws.specs.Tests.{any}
use Rattle.laws.specs.Text.{until_zero}
use Rattle.laws.proofs.Refusals.{or_fst, or_snd}

-- a zero byte ends the text, any other byte belongs to it
module _ (l : List ℕ) (i : ℕ) (h : i < length l) where
  pub until_here : get_or l i 0 ≡ 0 → until_zero (drop i l) ≡ []
  unfolding until_zero
  until_here e = ap until_zero (drop-cons l i 0 h) ∙ (rw (eq-eqb (get_or l i 0) 0 e))

  pub until_on : (get_or l i 0 ≡ 0 → ⊥) → until_zero (drop i l) ≡ get_or l i 0 ∷ until_zero (drop (i + 1) l)
  unfolding until_zero
  until_on n =
      ap until_zero (drop-cons l i 0 h)
      ∙ (rw (ne_eqb (get_or l i 0) 0 n))
      ∙ ap (λ k. get_or l i 0 ∷ until_zero (drop k l)) (sym (add-one i))

-- there is a zero byte where the text stops short
pub until_stops : (l : List ℕ) → any (eqb 0) l ≡ ltb (length (until_zero l)) (length l)
unfolding until_zero
until_stops [] = refl
until_stops (zero ∷ bs) = sym (lt-ltb 0 (suc (length bs)) (omega arith))
until_stops (suc b ∷ bs) = rw (eqb-zero-suc b, eqb-suc-zero b, leb-suc-suc) (until_stops bs)

-- the text stands at the front
until_by : (b : ℕ) (bs : List ℕ) (t : Bool) → take (length (until_zero bs)) bs ≡ until_zero bs
    → take (length (cond t [] (b ∷ until_zero bs))) (b ∷ bs) ≡ cond t [] (b ∷ until_zero bs)
until_by b bs true e = refl
until_by b bs false e = ap (λ r. b ∷ r) e

pub until_front : (l : List ℕ) → take (length (until_zero l)) l ≡ until_zero l
unfolding until_zero
until_front [] = refl
until_front (b ∷ bs) = until_by b bs (eqb b 0) (until_front bs)

-- a text without a zero byte, and one behind it
flip : (b : ℕ) → eqb 0 b ≡ false → eqb b 0 ≡ false
flip b e = ne_eqb b 0 (λ z. eqb-false 0 b e (sym z))

pub until_of : (text rest : List ℕ) → any (eqb 0) text ≡ false → until_zero (text ++ (0 ∷ rest)) ≡ text
unfolding until_zero
until_of [] rest h = refl
until_of (b ∷ bs) rest h =
    rw (flip b (or_fst (eqb 0 b) (any (eqb 0) bs) h))
    (ap (λ (t : List ℕ). b ∷ t) (until_of bs rest (or_snd (eqb 0 b) (any (eqb 0) bs) h)))

pub has-zero : (text rest : List ℕ) → any (eqb 0) (text ++ (0 ∷ rest)) ≡ true
has-zero [] rest = refl
has-zero (b ∷ bs) rest = by (eqb 0 b) (has-zero bs rest)
  where
    by : (t : Bool) → any (eqb 0) (bs ++ (0 ∷ rest)) ≡ true → t || any (eqb 0) (bs ++ (0 ∷ rest)) ≡ true
    by true e = refl
    by false e = e

-- bytes with a zero among them are what stands before the first, the zero, and the rest
pub record Ended (l : List ℕ) : Type 0 where
  pub rest : List ℕ
  pub is : l ≡ until_zero l ++ (0 ∷ rest)
  pub no_zero : any (eqb 0) (until_zero l) ≡ false

zero-here : (b : ℕ) (bs : List ℕ) → b ≡ 0 → Ended (b ∷ bs)
unfolding until_zero
zero-here b bs e = rw e (record { rest = bs; is = refl; no_zero = refl })

zero-later : (b : ℕ) (bs : List ℕ) → eqb b 0 ≡ false → eqb 0 b ≡ false → Ended bs → Ended (b ∷ bs)
unfolding until_zero
zero-later b bs e f t =
    record {
      rest = t.rest;
      is = rw e (ap (λ (l : List ℕ). b ∷ l) t.is);
      no_zero = rw (e, f) t.no_zero;
    }

pub ended : (l : List ℕ) → any (eqb 0) l ≡ true → Ended l
ended [] h = absurd (false≢true h)
ended (b ∷ bs) h = by (eqb 0 b) refl h (λ e. ended bs e)
  where
    by : (t : Bool) → eqb 0 b ≡ t → t || any (eqb 0) bs ≡ true → (any (eqb 0) bs ≡ true → Ended bs) → Ended (b ∷ bs)
    by true e k f = zero-here b bs (sym (eqb-true 0 b e))
    by false e k f = zero-later b bs (flip b e) e (f k)
