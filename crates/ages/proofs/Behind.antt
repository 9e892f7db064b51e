-- The age that is handed up behind checks: exactly by which answers there is one, and that it is what a look-up tells.
-- Assumes nothing.
use Prim.Native.Nat.{ℕ, ◌<◌}
use native.Mathlib.Omega.{arith}
use mathlib.Core.Path.{◌≡◌, refl, sym, ap, ◌∙◌}
use mathlib.Core.Bool.{Bool, true, false, not, ◌&&◌}
use mathlib.Core.Logic.{◌↔◌, inl, inr}
use mathlib.Core.List.{List, [], ◌∷◌, ◌++◌}
use lib.Dec.{eqb, leb, ltb}
use borrow.Author.Tests.{eqb-true, eqb-false, not-true}
use Rattle.laws.specs.Tests.{first_of, any, all}
use Rattle.laws.proofs.Refusals.{clash, no-refusal, none-refused}
use Rattle.laws.proofs.Words.{stands_iff}
use Rattle.wire.specs.Header.{header_in, ttl_of, hops_of, size_of}
use Rattle.protocol.specs.declared.Age.{Age}
use Rattle.protocol.specs.declared.Lookup.{Lookup}
use Rattle.protocol.specs.Memory.{here, gone, hit_limit, Number, age_after, no_age, pick_age, age_of, age_behind}
use Rattle.protocol.specs.State.{Station, looked_up}
use Rattle.protocol.specs.Order.{in_order}
use Rattle.protocol.specs.Outcomes.{unused}
use Rattle.protocol.specs.Queries.{query_after}
use Rattle.protocol.specs.Hits.{hit_before, hit_rules}
use Rattle.ages.specs.HandedUp.{none, aged, Tells, UpFrom, HitFound}
use Rattle.ages.proofs.Found.{after-below}
use Rattle.ages.proofs.LookUp.{of_look-up}

-- what holds of both sides of a choice holds of it
of_age : (P : Age → Type 0) (b : Bool) (x y : Age) → (b ≡ true → P x) → (b ≡ false → P y) → P (pick_age b x y)
of_age P true x y f g = f refl
of_age P false x y f g = g refl

module _ (before : List (Bool × ℕ)) (k : Lookup) where
  -- one is handed up exactly where nothing refuses before the look-up, and this finds the number
  known_iff : ((age_behind before k).known ≡ true) ↔ ((first_of before ≡ 0) × (k.found ≡ true))
  known_iff = by (eqb (first_of before) 0) refl k.found
    where
      by : (b : Bool) → eqb (first_of before) 0 ≡ b → (c : Bool)
          → ((pick_age b (pick_age c (age_after k.after) no_age) no_age).known ≡ true)
          ↔ ((first_of before ≡ 0) × (c ≡ true))
      by true e true = ((λ _. (eqb-true (first_of before) 0 e, refl)), (λ _. refl))
      by true e false = ((λ z. absurd (clash z refl)), (λ v. v.1))
      by false e c = ((λ z. absurd (clash z refl)), (λ v. absurd (eqb-false (first_of before) 0 e v.0)))

  -- so, where the check behind the look-up refuses by 9 what is found, exactly where the answer is 9
  pub nine_iff : all (λ c. leb 1 c.1) before ≡ true → all (λ c. not (eqb c.1 9)) before ≡ true
      → ((age_behind before k).known ≡ true) ↔ (first_of (before ++ query_after k) ≡ 9)
  nine_iff p q =
      let nine = stands_iff 9 before k.found [] q refl refl in (
        (λ e. let v = known_iff.0 e in nine.1 (no-refusal before p v.0, v.1)),
        (λ e. let v = nine.0 e in known_iff.1 (none-refused before v.0, v.1)),
      )

-- the answers of a hit whose number was found
module _ (m : List ℕ) where
  hit-answers : (P : ℕ → Bool) → P 0 ≡ true → P 8 ≡ true → P 11 ≡ true → P 12 ≡ true → P 21 ≡ true
      → (n : ℕ) → HitFound m n → P n ≡ true
  hit-answers P a b c d f n (inl e) = ap P e ∙ a
  hit-answers P a b c d f n (inr (inl e)) = ap P e ∙ c
  hit-answers P a b c d f n (inr (inr (inl e))) = ap P e ∙ d
  hit-answers P a b c d f n (inr (inr (inr (inl e)))) = ap P e ∙ f
  hit-answers P a b c d f n (inr (inr (inr (inr v)))) = ap P v.0 ∙ b

  pub hit-sent : (n : ℕ) → HitFound m n → unused n ≡ false
  hit-sent n v = not-true (unused n) (hit-answers (λ n. not (unused n)) refl refl refl refl refl n v)

  -- so not 6, 10, nor 8 where the TTL is 0
  not-hit : (n : ℕ) → any (eqb n) (0 ∷ 8 ∷ 11 ∷ 12 ∷ 21 ∷ []) ≡ false → HitFound m n → ⊥
  not-hit n h v = clash (hit-answers (λ n. any (eqb n) (0 ∷ 8 ∷ 11 ∷ 12 ∷ 21 ∷ [])) refl refl refl refl refl n v) h

  spent : ttl_of m ≡ 0 → HitFound m 8 → ⊥
  spent z (inl e) = omega arith
  spent z (inr (inl e)) = omega arith
  spent z (inr (inr (inl e))) = omega arith
  spent z (inr (inr (inr (inl e)))) = omega arith
  spent z (inr (inr (inr (inr v)))) = omega (arith, v.1)

  -- a hit hands an age up exactly where it is so answered: by its checks, in their order
  pub hit-found : (k : Lookup)
      → ((age_behind (hit_before (header_in m)) k).known ≡ true) ↔ HitFound m (first_of (hit_rules (header_in m) k))
  hit-found k =
      by (ltb (size_of m) 27) (eqb (ttl_of m) 0) k.found (eqb k.asker gone) (eqb k.hits hit_limit)
      (eqb k.asker here) (eqb (ttl_of m) 1) (eqb (hops_of m) 255) (eqb-true (ttl_of m) 0) (eqb-true (ttl_of m) 1)
    where
      yes : {n : ℕ} → HitFound m n → (◌≡◌ {A = Bool} true true) ↔ HitFound m n
      yes v = ((λ _. v), (λ _. refl))

      no : {n : ℕ} → (HitFound m n → ⊥) → (◌≡◌ {A = Bool} false true) ↔ HitFound m n
      no f = ((λ e. absurd (clash e refl)), (λ v. absurd (f v)))

      by : (size dead found gone full here one most : Bool)
          → (dead ≡ true → ttl_of m ≡ 0) → (one ≡ true → ttl_of m ≡ 1)
          → ((pick_age (eqb (first_of ((size, 6) ∷ (dead, 8) ∷ [])) 0) (pick_age found (age_after k.after) no_age) no_age
          ).known ≡ true)
          ↔ HitFound m (first_of ((size, 6) ∷ (dead, 8) ∷ (not found, 10) ∷ (gone, 11) ∷ (full, 21)
          ∷ (not here && one, 8) ∷ (not here && most, 12) ∷ []))
      by true d f g c h o x z w = no (not-hit 6 refl)
      by false true f g c h o x z w = no (spent (z refl))
      by false false false g c h o x z w = no (not-hit 10 refl)
      by false false true true c h o x z w = yes (inr (inl refl))
      by false false true false true h o x z w = yes (inr (inr (inr (inl refl))))
      by false false true false false true o x z w = yes (inl refl)
      by false false true false false false true x z w = yes (inr (inr (inr (inr (refl, w refl)))))
      by false false true false false false false true z w = yes (inr (inr (inl refl)))
      by false false true false false false false false z w = yes (inl refl)

-- what a look-up tells of a state in order is the age of what it finds
module _ (s : Station) (x : Number) where
  pub tells_iff : in_order s ≡ true → (n : ℕ) → (age_of (looked_up s x) ≡ aged n) ↔ Tells s x n
  tells_iff o n =
      of_look-up s x (λ f. (age_of (looked_up s x) ≡ aged n) ↔ ((f.answer ≡ 0) × (f.after ≡ n)))
      (λ z. absurd (clash o z))
      (λ _ e. rw e (
        (λ z. absurd (clash refl (ap (λ (a : Age). a.known) (sym z)))),
        (λ v. absurd (omega (arith, v.0))),
      ))
      (λ _ i a h e. rw e ((λ z. (refl, ap (λ (a : Age). a.after) z)), (λ v. ap age_after v.1)))

  -- what is handed up is what it tells: of none, of what was found, and behind checks that a state which is not in
  -- order does not pass
  pub from-none : UpFrom s x none
  from-none = record { is = λ e. absurd (clash e refl); no = λ _. refl }

  from-looked : in_order s ≡ true → UpFrom s x (age_of (looked_up s x))
  from-looked o =
      record {
        is = λ e. (tells_iff o (age_of (looked_up s x)).after).0 (aged_if (looked_up s x) e);
        no = none_if (looked_up s x);
      }
    where
      aged_if : (k : Lookup) → (age_of k).known ≡ true → age_of k ≡ aged (age_of k).after
      aged_if k = of_age (λ a. a.known ≡ true → a ≡ aged a.after) k.found (age_after k.after) no_age
          (λ _ _. refl) (λ _ e. absurd (clash e refl))

      none_if : (k : Lookup) → (age_of k).known ≡ false → age_of k ≡ none
      none_if k = of_age (λ a. a.known ≡ false → a ≡ none) k.found (age_after k.after) no_age
          (λ _ e. absurd (clash refl e)) (λ _ _. refl)

  pub from-behind : (before : List (Bool × ℕ)) → (first_of before ≡ 0 → in_order s ≡ true)
      → UpFrom s x (age_behind before (looked_up s x))
  from-behind before h =
      of_age (UpFrom s x) (eqb (first_of before) 0) (age_of (looked_up s x)) no_age
      (λ e. from-looked (h (eqb-true (first_of before) 0 e))) (λ _. from-none)

  -- it is below 512
  pub behind-below : (before : List (Bool × ℕ)) → (age_behind before (looked_up s x)).after < 512
  behind-below before =
      of_age (λ a. a.after < 512) (eqb (first_of before) 0) (age_of (looked_up s x)) no_age
      (λ _. of_age (λ a. a.after < 512) (looked_up s x).found (age_after (looked_up s x).after) no_age
      (λ _. after-below s x) (λ _. omega arith))
      (λ _. omega arith)
