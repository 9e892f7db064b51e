-- Laws of tests: what a test that holds says, and two tests that say the same.
use Prim.Native.Nat.{ℕ}
use mathlib.Core.Path.{◌≡◌, refl, sym}
use mathlib.Core.Logic.{◌⊎◌, inl, inr}
use mathlib.Core.Bool.{Bool, true, false, ◌&&◌, ◌||◌, false≢true}
use mathlib.Core.List.{List, [], ◌∷◌}
use lib.Dec.{eqb}
use borrow.Author.Tests.{eq-eqb, ne_eqb, eqb-true}
use Rattle.laws.specs.Tests.{any, every}

pub either : (a b : Bool) → a || b ≡ true → (a ≡ true) ⊎ (b ≡ true)
either true b e = inl refl
either false b e = inr e

pub both_true : (a b : Bool) → a && b ≡ true → (a ≡ true) × (b ≡ true)
both_true true b e = (refl, e)
both_true false b e = absurd (false≢true e)

-- two tests that say the same
pub same_test : (a b : Bool) → (a ≡ true → b ≡ true) → (b ≡ true → a ≡ true) → a ≡ b
same_test true b f g = sym (f refl)
same_test false true f g = g refl
same_test false false f g = refl

pub same-eqb : (a b c d : ℕ) → (a ≡ b → c ≡ d) → (c ≡ d → a ≡ b) → eqb a b ≡ eqb c d
same-eqb a b c d f g =
    same_test (eqb a b) (eqb c d) (λ e. eq-eqb c d (f (eqb-true a b e))) (λ e. eq-eqb a b (g (eqb-true c d e)))

-- n is k, or one of those in the list, as a `match` with several numbers in an arm has it
abbrev pub Among : ℕ → ℕ → List ℕ → Type 0
Among n k [] = n ≡ k
Among n k (l ∷ ls) = (n ≡ k) ⊎ Among n l ls

pub among-any : (n k : ℕ) (ls : List ℕ) → Among n k ls → any (eqb n) (k ∷ ls) ≡ true
among-any n k [] e = rw (eq-eqb n k e)
among-any n k (l ∷ ls) (inl e) = rw (eq-eqb n k e)
among-any n k (l ∷ ls) (inr e) = by (eqb n k) (among-any n l ls e)
  where
    by : (t : Bool) → any (eqb n) (l ∷ ls) ≡ true → (t || any (eqb n) (l ∷ ls)) ≡ true
    by true h = refl
    by false h = h

pub among_none : (n k : ℕ) (ls : List ℕ) → (Among n k ls → ⊥) → any (eqb n) (k ∷ ls) ≡ false
among_none n k [] h = rw (ne_eqb n k h)
among_none n k (l ∷ ls) h = rw (ne_eqb n k (λ e. h (inl e))) (among_none n l ls (λ a. h (inr a)))

-- each of these tests holds
abbrev pub Every : List Bool → Type 0
Every [] = Unit
Every (b ∷ bs) = (b ≡ true) × Every bs

pub every_true : (bs : List Bool) → every bs ≡ true → Every bs
every_true [] h = tt
every_true (b ∷ bs) h = let t = both_true b (every bs) h in (t.0, every_true bs t.1)
