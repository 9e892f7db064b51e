-- The places of a ring by rank, what stands at a place of a list that is made number by number, and lists of four.
-- Assumes nothing.
use Prim.Native.Nat.{ℕ, zero, suc, ◌+◌, ◌-◌, ◌%◌, ◌≤◌, ◌<◌}
use mathlib.Core.Path.{◌≡◌, refl, ap, ◌∙◌}
use mathlib.Core.List.{List, [], ◌∷◌, ◌++◌, map}
use native.Mathlib.Omega.{arith}
use native.Mathlib.Nat.{add-mod_right, mod-eq_of_lt}
use lib.ListN.{length, get_or}
use Rattle.laws.specs.Numbers.{counting}
use Rattle.laws.specs.Ring.{back, places_before}

-- the place before, by comparison
back-first : (c : ℕ) → 0 < c → back c 0 ≡ c - 1
back-first c h = let e : 0 + (c - 1) ≡ c - 1 = omega arith in ap (λ n. n % c) e ∙ mod-eq_of_lt (omega arith)

back-other : (c p : ℕ) → suc p < c → back c (suc p) ≡ p
back-other c p h = let e : suc p + (c - 1) ≡ p + c = omega arith in ap (λ n. n % c) e ∙ add-mod_right p c
    ∙ mod-eq_of_lt (omega arith)

-- the place of rank r: r places back from the one before p, not going round
pub place-low : (c n r p : ℕ) → p < c → r < p → r < n → get_or (places_before c p n) r 0 ≡ p - 1 - r
place-low c zero r p hp hr hn = absurd (omega arith)
place-low c (suc n) r zero hp hr hn = absurd (omega arith)
place-low c (suc n) zero (suc q) hp hr hn = back-other c q hp ∙ omega arith
place-low c (suc n) (suc r) (suc q) hp hr hn =
    ap (λ b. get_or (places_before c b n) r 0) (back-other c q hp) ∙ place-low c n r q (omega arith) (omega arith)
    (omega arith) ∙ omega arith

-- and going round
pub place-high : (c n r p : ℕ) → p < c → p ≤ r → r < c → r < n → get_or (places_before c p n) r 0 ≡ p + (c - 1) - r
place-high c zero r p hp hr hc hn = absurd (omega arith)
place-high c (suc n) zero zero hp hr hc hn = back-first c hp ∙ omega arith
place-high c (suc n) zero (suc q) hp hr hc hn = absurd (omega arith)
place-high c (suc n) (suc r) zero hp hr hc hn =
    ap (λ b. get_or (places_before c b n) r 0) (back-first c hp) ∙ place-low c n r (c - 1) (omega arith) (omega arith)
    (omega arith) ∙ omega arith
place-high c (suc n) (suc r) (suc q) hp hr hc hn =
    ap (λ b. get_or (places_before c b n) r 0) (back-other c q hp) ∙ place-high c n r q (omega arith) (omega arith)
    (omega arith) (omega arith) ∙ omega arith

-- what f makes of the numbers from 0 on: at place k stands what it makes of k
module _ {A : Type 0} (f : ℕ → A) (d : A) where
  each_from : (n from k : ℕ) → k < n → get_or (map f (counting n from)) k d ≡ f (from + k)
  each_from zero from k h = absurd (omega arith)
  each_from (suc n) from zero h = let e : from ≡ from + 0 = omega arith in ap f e
  each_from (suc n) from (suc k) h = let e : suc from + k ≡ from + suc k = omega arith in
      each_from n (suc from) k (omega arith) ∙ ap f e

  pub each_at : (n k : ℕ) → k < n → get_or (map f (counting n 0)) k d ≡ f k
  each_at n k h = let e : 0 + k ≡ k = omega arith in each_from n 0 k h ∙ ap f e

-- four elements one by one
pub four-front : (l rest : List ℕ) → length l ≡ 4 → get_or l 0 0 ∷ get_or l 1 0 ∷ get_or l 2 0 ∷ get_or l 3 0 ∷ rest ≡ l ++ rest
four-front [] rest e = absurd (omega arith)
four-front (a ∷ []) rest e = absurd (omega arith)
four-front (a ∷ b ∷ []) rest e = absurd (omega arith)
four-front (a ∷ b ∷ c ∷ []) rest e = absurd (omega arith)
four-front (a ∷ b ∷ c ∷ d ∷ []) rest e = refl
four-front (a ∷ b ∷ c ∷ d ∷ x ∷ l) rest e = absurd (omega arith)
