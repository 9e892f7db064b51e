-- A test and what it says in words; and a number of an ordered list, exactly where its test is the first that holds.
-- Assumes nothing.
use Prim.Native.Nat.{ℕ, ◌≤◌, ◌<◌}
use mathlib.Core.Path.{◌≡◌, refl, sym, ap}
use mathlib.Core.Bool.{Bool, true, false, cond, not, ◌&&◌, ◌||◌, false≢true}
use mathlib.Core.Logic.Iff
use mathlib.Core.Logic.{◌↔◌, ◌⊎◌, inl, inr, ⊎_elim}
use mathlib.Core.List.{List, [], ◌∷◌, ◌++◌}
use lib.Dec.{eqb, leb, ltb}
use borrow.Author.Tests.{leb-true, le-leb, ltb-true, ltb-false, le-ltb, lt-ltb, eqb-true, eqb-false, eq-eqb, not-true}
use borrow.Author.Tests.{not-false}
use Rattle.laws.specs.Tests.{first_of, all}
use Rattle.laws.proofs.Refusals.{and_fst, and_snd, and_intro, or_split, or_left, or_right, not-answered}
use Rattle.laws.proofs.Refusals.{NoRefusal}

pub and_iff : (a b : Bool) {A B : Type 0} → (a ≡ true) ↔ A → (b ≡ true) ↔ B → ((a && b) ≡ true) ↔ (A × B)
and_iff a b x y = (
  (λ e. (x.0 (and_fst a b e), y.0 (and_snd a b e))),
  (λ v. and_intro a b (x.1 v.0) (y.1 v.1)),
)

pub or_iff : (a b : Bool) {A B : Type 0} → (a ≡ true) ↔ A → (b ≡ true) ↔ B → ((a || b) ≡ true) ↔ (A ⊎ B)
or_iff a b {A} {B} x y = (there, back)
  where
    there : (a || b) ≡ true → A ⊎ B
    there e = ⊎_elim (λ p. inl (x.0 p)) (λ p. inr (y.0 p)) (or_split a b e)

    back : A ⊎ B → (a || b) ≡ true
    back (inl p) = or_left a b (x.1 p)
    back (inr p) = or_right a b (y.1 p)

pub none_iff : (b : Bool) {X : Type 0} → (b ≡ true) ↔ X → (not b ≡ true) ↔ (X → ⊥)
none_iff true x = ((λ e. absurd (false≢true e)), (λ n. absurd (n (x.0 refl))))
none_iff false x = ((λ _ v. false≢true (x.1 v)), (λ _. refl))

pub some_iff : (b : Bool) {X : Type 0} → (b ≡ true) ↔ X → (not b ≡ false) ↔ X
some_iff b x = ((λ e. x.0 (not-false b e)), (λ v. ap not (x.1 v)))

pub no_iff : (b : Bool) → (not b ≡ true) ↔ (b ≡ false)
no_iff b = (not-true b, (λ e. ap not e))

pub yes_iff : (b : Bool) → (not b ≡ false) ↔ (b ≡ true)
yes_iff b = (not-false b, (λ e. ap not e))

-- a test whose words do not hold
pub refuted : (b : Bool) → (b ≡ true → ⊥) → b ≡ false
refuted true h = absurd (h refl)
refuted false h = refl

pub decided : (b : Bool) → (b ≡ false → ⊥) → b ≡ true
decided true h = refl
decided false h = absurd (h refl)

pub eqb_iff : (a b : ℕ) → (eqb a b ≡ true) ↔ (a ≡ b)
eqb_iff a b = (eqb-true a b, eq-eqb a b)

pub other_iff : (a b : ℕ) → (not (eqb a b) ≡ true) ↔ (a ≡ b → ⊥)
other_iff a b = none_iff (eqb a b) (eqb_iff a b)

pub less_iff : (a b : ℕ) → (ltb a b ≡ true) ↔ (a < b)
less_iff a b = (ltb-true a b, lt-ltb a b)

pub not-less_iff : (a b : ℕ) → (ltb a b ≡ false) ↔ (b ≤ a)
not-less_iff a b = (ltb-false a b, le-ltb a b)

pub least_iff : (a b : ℕ) → (not (ltb a b) ≡ true) ↔ (b ≤ a)
least_iff a b = ((λ e. ltb-false a b (not-true (ltb a b) e)), (λ h. ap not (le-ltb a b h)))

pub most_iff : (a b : ℕ) → (leb a b ≡ true) ↔ (a ≤ b)
most_iff a b = (leb-true a b, le-leb a b)

-- an ordered list: at a number's own test, which stands behind no other of that number, and past another test
pub first_iff : (n : ℕ) (b : Bool) (cs : List (Bool × ℕ)) → all (λ c. not (eqb c.1 n)) cs ≡ true → eqb 0 n ≡ false
    → (first_of ((b, n) ∷ cs) ≡ n) ↔ (b ≡ true)
first_iff n b cs h z = go b
  where
    go : (b : Bool) → (cond b n (first_of cs) ≡ n) ↔ (b ≡ true)
    go true = ((λ _. refl), (λ _. refl))
    go false = ((λ e. absurd (not-answered n cs h z e)), (λ e. absurd (false≢true e)))

pub past_iff : (n : ℕ) {X Y : Type 0} (b : Bool) (k : ℕ) (cs : List (Bool × ℕ)) → eqb k n ≡ false
    → (b ≡ false) ↔ Y → (first_of cs ≡ n) ↔ X → (first_of ((b, k) ∷ cs) ≡ n) ↔ (Y × X)
past_iff n true k cs h y x = ((λ e. absurd (eqb-false k n h e)), (λ v. absurd (false≢true (sym (y.1 v.0)))))
past_iff n false k cs h y x = ((λ e. (y.0 refl, x.0 e)), (λ v. x.1 v.1))

-- one number within a list
pub stands_iff : (n : ℕ) (cs : List (Bool × ℕ)) (b : Bool) (ds : List (Bool × ℕ))
    → all (λ c. not (eqb c.1 n)) cs ≡ true → all (λ c. not (eqb c.1 n)) ds ≡ true → eqb 0 n ≡ false
    → (first_of (cs ++ ((b, n) ∷ ds)) ≡ n) ↔ (NoRefusal cs × (b ≡ true))
stands_iff n [] b ds h g z = let f = first_iff n b ds g z in ((λ e. (tt, f.0 e)), (λ v. f.1 v.1))
stands_iff n (c ∷ cs) b ds h g z =
    let others : List (Bool × ℕ) → Bool = all (λ c. not (eqb c.1 n)) in
    let other : eqb c.1 n ≡ false = not-true (eqb c.1 n) (and_fst (not (eqb c.1 n)) (others cs) h) in
    let rest = stands_iff n cs b ds (and_snd (not (eqb c.1 n)) (others cs) h) g z in
    let p = past_iff n c.0 c.1 (cs ++ ((b, n) ∷ ds)) other Iff.rfl rest in (
      (λ e. let v = p.0 e in ((v.0, v.1.0), v.1.1)),
      (λ v. p.1 (v.0.0, (v.0.1, v.1))),
    )
