-- A list that is mapped in place, from the front on.
use mathlib.Core.Path.{◌≡◌, refl, ap, ◌∙◌}
use mathlib.Core.List.{List, [], ◌∷◌, ◌++◌, map}
use Prim.Native.Nat.{ℕ, zero, suc, ◌+◌, ◌≤◌, ◌<◌}
use native.Mathlib.Numerals.{add-one}
use native.Mathlib.Omega.{arith}
use lib.ListN.{length, get_or, set, take, drop}

module _ (f : ℕ → ℕ) where
  -- `old` with f applied to its first i elements
  abbrev pub mapped : List ℕ → ℕ → List ℕ
  mapped old i = map f (take i old) ++ drop i old

  pub mapped-length : (old : List ℕ) (i : ℕ) → length (mapped old i) ≡ length old
  mapped-length [] zero = refl
  mapped-length [] (suc i) = refl
  mapped-length (x ∷ xs) zero = refl
  mapped-length (x ∷ xs) (suc i) = ap suc (mapped-length xs i)

  -- the next element is still the old one
  pub mapped_at : (old : List ℕ) (i : ℕ) → get_or (mapped old i) i 0 ≡ get_or old i 0
  mapped_at [] zero = refl
  mapped_at [] (suc i) = refl
  mapped_at (x ∷ xs) zero = refl
  mapped_at (x ∷ xs) (suc i) = mapped_at xs i

  mapped-suc : (old : List ℕ) (i : ℕ) → i < length old → set (mapped old i) i (f (get_or old i 0)) ≡ mapped old (suc i)
  mapped-suc [] i h = absurd (omega arith)
  mapped-suc (x ∷ xs) zero h = refl
  mapped-suc (x ∷ xs) (suc i) h = ap (λ (l : List ℕ). f x ∷ l) (mapped-suc xs i (omega arith))

  pub mapped-more : (old : List ℕ) (i : ℕ) → i < length old → set (mapped old i) i (f (get_or old i 0))
      ≡ mapped old (i + 1)
  mapped-more old i h = mapped-suc old i h ∙ rw add-one

  pub mapped_end : (old : List ℕ) (i : ℕ) → length old ≤ i → mapped old i ≡ map f old
  mapped_end [] zero h = refl
  mapped_end [] (suc i) h = refl
  mapped_end (x ∷ xs) zero h = absurd (omega arith)
  mapped_end (x ∷ xs) (suc i) h = ap (λ (l : List ℕ). f x ∷ l) (mapped_end xs i (omega arith))
