-- Names, blanks and text in words.
use mathlib.Core.Path.{◌≡◌, refl, sym, ap}
use mathlib.Core.Logic.{inl, inr, ⊎_elim}
use mathlib.Core.Bool.{Bool, true, false, cond, ◌&&◌, ◌||◌}
use mathlib.Core.List.{List, [], ◌∷◌}
use Prim.Native.Nat.{ℕ, zero, suc, ◌+◌, ◌≤◌, ◌<◌}
use native.Mathlib.Omega.{arith}
use lib.Dec.{eqb, leb}
use lib.ListN.{length, get_or}
use borrow.Author.Tests.{eq-eqb, ne_eqb, eqb-true, eqb-false, le-leb, lt-leb, leb-true, not-true}
use Rattle.laws.proofs.Refusals.{clash, and_fst, and_snd, or_fst, or_snd, or_split, or_left, or_right}
use Rattle.ascii.specs.Text.{is_blank, is_text, lower, compared, same_name}
use Rattle.ascii.specs.Words.{TwoCases, SameByte, SameBytes, NamesSame, OthersApart, Blank, BlankExactly}
use Rattle.ascii.specs.Words.{TextExactly}

-- ---- names

-- bytes are compared as equal exactly if they are the same in words
bytes-forth : (a b : ℕ) → compared true a ≡ compared true b → SameByte a b
unfolding compared lower
bytes-forth a b e = go (leb 65 a && leb a 90) (leb 65 b && leb b 90) refl refl e
  where
    upper : (x : ℕ) → (leb 65 x && leb x 90) ≡ true → (65 ≤ x) × (x ≤ 90)
    upper x h = (leb-true 65 x (and_fst (leb 65 x) (leb x 90) h), leb-true x 90 (and_snd (leb 65 x) (leb x 90) h))

    go : (s t : Bool) → (leb 65 a && leb a 90) ≡ s → (leb 65 b && leb b 90) ≡ t
        → cond s (a + 32) a ≡ cond t (b + 32) b → SameByte a b
    go true true p q h = inl (omega arith)
    go true false p q h = inr (inl ((upper a p).0, (upper a p).1, sym h))
    go false true p q h = inr (inr ((upper b q).0, (upper b q).1, h))
    go false false p q h = inl h

cases-equal : (a b : ℕ) → TwoCases a b → compared true a ≡ compared true b
unfolding compared lower
cases-equal a b h =
    let below : 65 ≤ b = omega (arith, h) in
    let above : 90 < b = omega (arith, h) in
    rw (le-leb 65 a h.0, le-leb a 90 h.1, lt-leb b 90 above, le-leb 65 b below) (sym h.2)

bytes_back : (a b : ℕ) → SameByte a b → compared true a ≡ compared true b
bytes_back a b h = ⊎_elim (λ e. ap (compared true) e) (λ k. ⊎_elim (cases-equal a b) (λ u. sym (cases-equal b a u)) k) h

names-forth : (a b : List ℕ) → same_name a b ≡ true → SameBytes a b
names-forth [] [] e = (refl, λ i h. absurd (omega arith))
names-forth [] (y ∷ b) e = absurd (clash e refl)
names-forth (x ∷ a) [] e = absurd (clash e refl)
names-forth (x ∷ a) (y ∷ b) e =
    let t = eqb (compared true x) (compared true y) in
    let here = bytes-forth x y (eqb-true _ _ (and_fst t (same_name a b) e)) in
    let rest = names-forth a b (and_snd t (same_name a b) e) in
    (ap suc rest.0, at here rest)
  where
    at : SameByte x y → SameBytes a b → (i : ℕ) → i < length (x ∷ a) → SameByte (get_or (x ∷ a) i 0) (get_or (y ∷ b) i 0)
    at p f zero h = p
    at p f (suc i) h = f.1 i (omega arith)

names-back : (a b : List ℕ) → SameBytes a b → same_name a b ≡ true
names-back [] [] h = refl
names-back [] (y ∷ b) h = absurd (omega (arith, h.0))
names-back (x ∷ a) [] h = absurd (omega (arith, h.0))
names-back (x ∷ a) (y ∷ b) h =
    rw (eq-eqb (compared true x) (compared true y) (bytes_back x y (h.1 0 (omega arith))))
    (names-back a b (omega (arith, h.0), λ i k. h.1 (suc i) (omega arith)))

pub names_same : NamesSame
names_same a b = (names-forth a b, names-back a b)

pub others_apart : OthersApart
others_apart a b h e = ⊎_elim (λ q. q) (λ q. absurd (⊎_elim upper lower q))
    ((names-forth (a ∷ []) (b ∷ []) e).1 0 (omega arith))
  where
    upper : TwoCases a b → ⊥
    upper q = ⊎_elim (λ k. omega arith) (λ k. ⊎_elim (λ k. omega arith) (λ k. omega arith) k) h

    lower : TwoCases b a → ⊥
    lower q = ⊎_elim (λ k. omega arith) (λ k. ⊎_elim (λ k. omega arith) (λ k. omega arith) k) h

-- ---- blanks

pub blank-exactly : BlankExactly
blank-exactly b = (forth, back)
  where
    forth : is_blank b ≡ true → Blank b
    forth e = ⊎_elim (λ h. inl (eqb-true b 32 h)) (λ h. inr (eqb-true b 9 h)) (or_split (eqb b 32) (eqb b 9) e)

    back : Blank b → is_blank b ≡ true
    back (inl e) = or_left (eqb b 32) (eqb b 9) (eq-eqb b 32 e)
    back (inr e) = or_right (eqb b 32) (eqb b 9) (eq-eqb b 9 e)

pub not-blank : (b : ℕ) → (Blank b → ⊥) → is_blank b ≡ false
not-blank b h = go (is_blank b) refl
  where
    go : (t : Bool) → is_blank b ≡ t → is_blank b ≡ false
    go true e = absurd (h ((blank-exactly b).0 e))
    go false e = e

-- ---- text

pub text-exactly : TextExactly
text-exactly b = (forth, λ h. rw (ne_eqb b 13 h.0, ne_eqb b 10 h.1))
  where
    forth : is_text b ≡ true → (b ≡ 13 → ⊥) × (b ≡ 10 → ⊥)
    forth h =
        let e = not-true (eqb b 13 || eqb b 10) h in
        (eqb-false b 13 (or_fst (eqb b 13) (eqb b 10) e), eqb-false b 10 (or_snd (eqb b 13) (eqb b 10) e))
