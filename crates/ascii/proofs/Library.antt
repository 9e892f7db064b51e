-- The library's functions on bytes and texts, and the definitions here.
use Prim.Native.Nat.{ℕ, suc, ◌+◌, ◌≤◌}
use mathlib.Core.Path.{◌≡◌, refl, sym, ap, ap₂, ◌∙◌}
use mathlib.Core.Bool.{Bool, true, false, cond, not, ◌&&◌}
use mathlib.Core.List.{List, [], ◌∷◌, map}
use native.Mathlib.Decide.{dec_le}
use native.Mathlib.Omega.{arith}
use lib.Dec.{eqb}
use Rattle.std.proofs.lemmas.Bool.Decides.{nat_tests}
use Rattle.laws.specs.Text.{until_zero}
use lib.ListN.{length, take}
use borrow.Author.Tests.{eq-eqb, eqb-true}
use Rattle.laws.proofs.Refusals.{and_fst, and_snd}
use Rattle.std.specs.Prelude.{◌↔◌}
use Rattle.std.specs.Char.{to_ascii_lowercase}
use Rattle.std.specs.Cmp.Lexicographic.{pointwise}
use Rattle.std.specs.List.{prefix_len, take_while, starts_with}
use Rattle.ascii.specs.Text.{leading, lower, compared, same, same_name}
use Rattle.ascii.specs.Text.{starts_with as starts}
use Rattle.ascii.proofs.Letters.{lower_under, lower-over, lower-letter}

-- letters in lower case
pub lowered : (b : ℕ) → to_ascii_lowercase b ≡ lower b
lowered b = by (dec_le 0x41 b) (dec_le b 0x5A)
  where
    by : Dec (0x41 ≤ b) → Dec (b ≤ 0x5A) → to_ascii_lowercase b ≡ lower b
    by (yes h) (yes g) = simp (lower-letter b h g) (grind (arith, nat_tests))
    by (yes h) (no g) = simp (lower-over b (omega arith)) (grind (arith, nat_tests))
    by (no h) g = simp (lower_under b (omega arith)) (grind (arith, nat_tests))

-- texts that are equal
pub equal : (a b : List ℕ) → pointwise eqb a b ≡ same false a b
unfolding compared
equal [] [] = refl
equal [] (y ∷ b) = refl
equal (x ∷ a) [] = refl
equal (x ∷ a) (y ∷ b) = ap (λ t. eqb x y && t) (equal a b)

-- texts that are equal but for the case of letters
letters : (a b : List ℕ) → map to_ascii_lowercase a ≡ map to_ascii_lowercase b → same_name a b ≡ true
unfolding compared
letters [] [] e = refl
letters [] (y ∷ b) e = cc
letters (x ∷ a) [] e = cc
letters (x ∷ a) (y ∷ b) e =
    let h : to_ascii_lowercase x ≡ to_ascii_lowercase y = cc in
    let t : map to_ascii_lowercase a ≡ map to_ascii_lowercase b = cc in
    rw (eq-eqb (lower x) (lower y) (sym (lowered x) ∙ h ∙ lowered y)) (letters a b t)

cased : (a b : List ℕ) → same_name a b ≡ true → map to_ascii_lowercase a ≡ map to_ascii_lowercase b
unfolding compared
cased [] [] e = refl
cased [] (y ∷ b) e = cc
cased (x ∷ a) [] e = cc
cased (x ∷ a) (y ∷ b) e =
    let h = lowered x ∙ eqb-true (lower x) (lower y) (and_fst (eqb (lower x) (lower y)) (same_name a b) e) ∙ sym (lowered y) in
    ap₂ (λ z c. z ∷ c) h (cased a b (and_snd (eqb (lower x) (lower y)) (same_name a b) e))

-- so the library's comparison of them is ours
pub equal_names : (a b : List ℕ) (r : Bool) → (r ≡ true) ↔ (map to_ascii_lowercase a ≡ map to_ascii_lowercase b) → r ≡ same_name a b
equal_names a b true h = sym (letters a b (h.0 refl))
equal_names a b false h = by (same_name a b) refl
  where
    by : (t : Bool) → same_name a b ≡ t → false ≡ t
    by true e = h.1 (cased a b e)
    by false e = refl

-- a text that starts with another
pub starting : (s p : List ℕ) → starts_with eqb s p ≡ starts p s
starting s p = equal p (take (length p) s)

-- how many bytes at the front pass a test
pub leading-taken : (f : ℕ → Bool) (s : List ℕ) → length (take_while f s) ≡ leading f s
leading-taken f [] = refl
leading-taken f (b ∷ bs) = by (f b) (leading-taken f bs)
  where
    by : (t : Bool) → length (take_while f bs) ≡ leading f bs
        → length (take (cond t (1 + prefix_len f bs) 0) (b ∷ bs)) ≡ cond t (suc (leading f bs)) 0
    by true e = let k : 1 + prefix_len f bs ≡ suc (prefix_len f bs) = omega arith in rw k (ap suc e)
    by false e = refl

-- the bytes before the first zero byte
pub until-taken : (s : List ℕ) → take_while (λ b. not (eqb b 0)) s ≡ until_zero s
unfolding until_zero
until-taken [] = refl
until-taken (b ∷ bs) = by (eqb b 0) (until-taken bs)
  where
    by : (t : Bool) → take_while (λ b. not (eqb b 0)) bs ≡ until_zero bs
        → take (cond (not t) (1 + prefix_len (λ b. not (eqb b 0)) bs) 0) (b ∷ bs) ≡ cond t [] (b ∷ until_zero bs)
    by true e = refl
    by false e =
        let f : ℕ → Bool = λ b. not (eqb b 0) in
        let k : 1 + prefix_len f bs ≡ suc (prefix_len f bs) = omega arith in
        rw k (ap (λ l. b ∷ l) e)
