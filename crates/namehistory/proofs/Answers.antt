-- What a call answers in a good area, and in one that is not.
-- Assumes nothing.
use Prim.Native.Nat.{ℕ, ◌-◌, ◌≤◌, ◌<◌}
use native.Mathlib.Omega.{arith}
use mathlib.Core.Path.{◌≡◌, refl, sym, ◌∙◌}
use mathlib.Core.Bool.{Bool, true, false, cond, not}
use mathlib.Core.Logic.{◌⊎◌, inl, inr}
use mathlib.Core.List.{List, [], ◌∷◌, ◌++◌}
use lib.Dec.{eqb, ltb}
use lib.ListN.{length}
use borrow.Author.Tests.{ne_eqb, eqb-true, eqb-false, ltb-true, ltb-false}
use Rattle.laws.specs.Tests.{first_of}
use Rattle.laws.proofs.Refusals.{first_append}
use Rattle.namearea.specs.Area.{text_from, names_in}
use Rattle.namearea.specs.Good.{good_name, good_list}
use Rattle.namearea.specs.Calls.{list_rules, list_answer, is_listed, no_room, add_answer, find_answer}

-- a call with rules of its own behind those of every call: its own decide in a good area, the others in one that is not
module _ (area : List ℕ) (rules : List (Bool × ℕ)) where
  behind : first_of (list_rules area ++ rules) ≡ cond (eqb (list_answer area) 0) (first_of rules) (list_answer area)
  unfolding list_answer
  behind = first_append (list_rules area) rules refl

  in_good : list_answer area ≡ 0 → first_of (list_rules area ++ rules) ≡ first_of rules
  in_good g = behind ∙ rw g

  in_bad : (list_answer area ≡ 0 → ⊥) → first_of (list_rules area ++ rules) ≡ list_answer area
  in_bad b = behind ∙ rw (ne_eqb (list_answer area) 0 b)

-- an add's own rules, and those of a find and a remove
abbrev pub add_own : List ℕ → List ℕ → List (Bool × ℕ)
add_own a x =
    (not (good_name x), 6)
    ∷ (is_listed x (names_in a), 9)
    ∷ (no_room (length a - text_from) (names_in a) x, 20)
    ∷ []

abbrev pub find_own : List ℕ → List ℕ → List (Bool × ℕ)
find_own a x = (not (good_name x), 6) ∷ (not (is_listed x (names_in a)), 10) ∷ []

module _ (a x : List ℕ) where
  pub add-good : list_answer a ≡ 0 → add_answer a x ≡ first_of (add_own a x)
  unfolding add_answer
  add-good = in_good a (add_own a x)

  pub add-bad : (list_answer a ≡ 0 → ⊥) → add_answer a x ≡ list_answer a
  unfolding add_answer
  add-bad = in_bad a (add_own a x)

  pub find-good : list_answer a ≡ 0 → find_answer a x ≡ first_of (find_own a x)
  unfolding find_answer
  find-good = in_good a (find_own a x)

  pub find-bad : (list_answer a ≡ 0 → ⊥) → find_answer a x ≡ list_answer a
  unfolding find_answer
  find-bad = in_bad a (find_own a x)

  -- so 0 is answered in a good area only
  zero-good : (n : ℕ) → ((list_answer a ≡ 0 → ⊥) → n ≡ list_answer a) → n ≡ 0 → list_answer a ≡ 0
  zero-good n bad z = go (eqb (list_answer a) 0) refl
    where
      go : (b : Bool) → eqb (list_answer a) 0 ≡ b → list_answer a ≡ 0
      go true t = eqb-true (list_answer a) 0 t
      go false t = sym (bad (eqb-false (list_answer a) 0 t)) ∙ z

  pub add-zero : add_answer a x ≡ 0 → list_answer a ≡ 0
  add-zero = zero-good (add_answer a x) add-bad

  pub find-zero : find_answer a x ≡ 0 → list_answer a ≡ 0
  find-zero = zero-good (find_answer a x) find-bad

-- an area of the same length that is good
pub good-answer : (area after : List ℕ) → list_answer area ≡ 0 → length after ≡ length area → good_list after ≡ true
    → list_answer after ≡ 0
unfolding list_answer
good-answer area after g e h = rw (e, h) (go (ltb (length area) 4100) g)
  where
    go : (b : Bool) → ◌≡◌ {A = ℕ} (cond b 2 (cond (not (good_list area)) 1 0)) 0 → ◌≡◌ {A = ℕ} (cond b 2 0) 0
    go true z = z
    go false z = refl

-- what a good area is
pub good-parts : (area : List ℕ) → list_answer area ≡ 0 → (4100 ≤ length area) × (good_list area ≡ true)
unfolding list_answer
good-parts area g = go (ltb (length area) 4100) (good_list area) refl refl g
  where
    go : (b c : Bool) → ltb (length area) 4100 ≡ b → good_list area ≡ c
        → ◌≡◌ {A = ℕ} (cond b 2 (cond (not c) 1 0)) 0
        → (4100 ≤ length area) × (good_list area ≡ true)
    go true c t u z = absurd (omega arith)
    go false true t u z = (ltb-false (length area) 4100 t, u)
    go false false t u z = absurd (omega arith)

-- and what it answers that is not
pub bad-which : (area : List ℕ) → (list_answer area ≡ 0 → ⊥)
    → ((list_answer area ≡ 2) × (length area < 4100)) ⊎ ((list_answer area ≡ 1) × (4100 ≤ length area))
unfolding list_answer
bad-which area n = go (ltb (length area) 4100) (good_list area) refl refl n
  where
    go : (b c : Bool) → ltb (length area) 4100 ≡ b → good_list area ≡ c
        → (◌≡◌ {A = ℕ} (cond b 2 (cond (not c) 1 0)) 0 → ⊥)
        → ((list_answer area ≡ 2) × (length area < 4100)) ⊎ ((list_answer area ≡ 1) × (4100 ≤ length area))
    go true c t u z = inl (rw t, ltb-true (length area) 4100 t)
    go false true t u z = absurd (z refl)
    go false false t u z = inr (rw (t, u), ltb-false (length area) 4100 t)
