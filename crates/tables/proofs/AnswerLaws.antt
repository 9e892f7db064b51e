-- Which way an update goes, and when each answer is given: over the definitions that the contracts cite.
use Prim.Native.Nat.{ℕ}
use mathlib.Core.Path.{◌≡◌, refl, sym, ◌∙◌}
use mathlib.Core.Logic.{◌⊎◌, inl, inr, ⊎_elim}
use mathlib.Core.Bool.{Bool, true, false, not, ◌&&◌, ◌||◌, or-false}
use mathlib.Core.List.{List, [], ◌∷◌}
use native.Mathlib.Omega.{arith}
use lib.Dec.{eqb}
use lib.ListN.{length}
use borrow.Author.Tests.{eqb-true, ne_eqb, eqb-false, not-false}
use Rattle.laws.specs.Tests.{first_of}
use Rattle.laws.proofs.Over.{over-own}
use Rattle.tables.specs.declared.Table.{Table}
use Rattle.tables.specs.Tables.{Held, held_in, marked, broken}
use Rattle.tables.specs.Updates.{is_patch, good_reset, good_patch, in_turn, in_range, reset_by, patch_by, update_answer}
use Rattle.tables.specs.Updates.{updated, broken_by, pick_held, part_with}
use Rattle.tables.proofs.UpdateLaws.{no-reset, no-patch}

-- ---- the tests of an update in order: sent as it must be, a good RESET or PATCH, a PATCH out of turn, a PATCH out of
-- range

abbrev answer_of : Bool → Bool → Bool → Bool → ℕ
answer_of a b c d = first_of ((not a, 14) ∷ (not b, 14) ∷ (c, 15) ∷ (d, 16) ∷ [])

-- what is shown for the first test that decides is shown for all
by_tests : (P : Bool → Bool → Bool → Bool → Type 0)
    → ((b c d : Bool) → P false b c d)
    → ((c d : Bool) → P true false c d)
    → ((d : Bool) → P true true true d)
    → P true true false true
    → P true true false false
    → (a b c d : Bool) → P a b c d
by_tests P i j k l m true true false false = m
by_tests P i j k l m true true false true = l
by_tests P i j k l m true true true d = k d
by_tests P i j k l m true false c d = j c d
by_tests P i j k l m false b c d = i b c d

-- ---- the three ways an update goes

-- refused, with the answer that says so; a RESET that is as it must be; a PATCH that is as it must be, in turn and in
-- range
pub record Refused (room : ℕ) (h : Held) (ttl hops : ℕ) (p : List ℕ) : Type 0 where
  pub number : update_answer room h ttl hops p ≡ 0 → ⊥
  pub left : updated room h ttl hops p ≡ broken_by h

pub record Reset (room : ℕ) (h : Held) (ttl hops : ℕ) (p : List ℕ) : Type 0 where
  pub number : update_answer room h ttl hops p ≡ 0
  pub fields : good_reset room p ≡ true
  pub left : updated room h ttl hops p ≡ reset_by p

pub record Patched (room : ℕ) (h : Held) (ttl hops : ℕ) (p : List ℕ) : Type 0 where
  pub number : update_answer room h ttl hops p ≡ 0
  pub fields : good_patch p ≡ true
  pub turn : in_turn h p ≡ true
  pub range : in_range h p ≡ true
  pub left : updated room h ttl hops p ≡ patch_by h p

module _ (room : ℕ) (h : Held) (ttl hops : ℕ) (p : List ℕ) where
  abbrev n : ℕ
  n = update_answer room h ttl hops p

  refused_way : eqb n 0 ≡ false → Refused room h ttl hops p
  unfolding updated
  refused_way e = record { number = eqb-false n 0 e; left = rw e }

  taken-left : n ≡ 0 → updated room h ttl hops p ≡ pick_held (is_patch p) (patch_by h p) (reset_by p)
  unfolding updated
  taken-left e = rw e

  zero-tests : n ≡ 0
      → ((good_reset room p || good_patch p) ≡ true) × ((is_patch p && not (in_turn h p)) ≡ false)
      × ((is_patch p && not (in_range h p)) ≡ false)
  unfolding update_answer
  zero-tests =
      by_tests (λ a b c d. answer_of a b c d ≡ 0 → (b ≡ true) × (c ≡ false) × (d ≡ false))
      (λ b c d e. absurd (omega arith))
      (λ c d e. absurd (omega arith))
      (λ d e. absurd (omega arith))
      (λ e. absurd (omega arith))
      (λ e. (refl, refl, refl))
      (eqb ttl 1 && eqb hops 0)
      (good_reset room p || good_patch p)
      (is_patch p && not (in_turn h p))
      (is_patch p && not (in_range h p))

  taken_way : n ≡ 0 → (v : Bool) → is_patch p ≡ v → Reset room h ttl hops p ⊎ Patched room h ttl hops p
  taken_way e true v =
      let z = zero-tests e in
      inr
      (record {
        number = e;
        fields = rw (no-reset room h p v) at z.0;
        turn = not-false (in_turn h p) (rw v at z.1);
        range = not-false (in_range h p) (rw v at z.2);
        left = taken-left e ∙ rw v refl;
      })
  taken_way e false v =
      let z = zero-tests e in
      inl
      (record {
        number = e;
        fields = sym (or-false (good_reset room p)) ∙ (rw (no-patch room h p v) at z.0);
        left = taken-left e ∙ rw v refl;
      })

  pub ways : Refused room h ttl hops p ⊎ (Reset room h ttl hops p ⊎ Patched room h ttl hops p)
  ways = by (eqb n 0) refl
    where
      by : (z : Bool) → eqb n 0 ≡ z → Refused room h ttl hops p ⊎ (Reset room h ttl hops p ⊎ Patched room h ttl hops p)
      by true e = inr (taken_way (eqb-true n 0 e) (is_patch p) refl)
      by false e = inl (refused_way e)

  -- what holds after each way holds after the update
  pub each_way : (P : Held → Type 0)
      → P (broken_by h)
      → (good_reset room p ≡ true → P (reset_by p))
      → (good_patch p ≡ true → in_turn h p ≡ true → in_range h p ≡ true → P (patch_by h p))
      → P (updated room h ttl hops p)
  each_way P a b c =
      ⊎_elim
      (λ w. rw w.left a)
      (⊎_elim (λ w. rw w.left (b w.fields)) (λ w. rw w.left (c w.fields w.turn w.range)))
      ways

-- ---- a refused update changes the mark alone, and no entry

pub refusal_keeps : (t : Table) (part : List ℕ) (ttl hops : ℕ) (p : List ℕ)
    → (update_answer (length part) (held_in t part) ttl hops p ≡ 0 → ⊥)
    → ((updated (length part) (held_in t part) ttl hops p).table ≡ marked broken t)
    × (part_with (updated (length part) (held_in t part) ttl hops p) part ≡ part)
unfolding updated broken_by
refusal_keeps t part ttl hops p h =
    rw (ne_eqb (update_answer (length part) (held_in t part) ttl hops p) 0 h) (refl, over-own t.length part)

-- ---- exactly when each answer is given

module _ (room : ℕ) (h : Held) (ttl hops : ℕ) (p : List ℕ) where
  abbrev sent : Bool
  sent = eqb ttl 1 && eqb hops 0

  -- 14: TTL or Hops not as they must be, or neither a good RESET nor a good PATCH
  pub fourteen : eqb (update_answer room h ttl hops p) 14
      ≡ (not sent || not (good_reset room p || good_patch p))
  unfolding update_answer
  fourteen =
      by_tests (λ a b c d. eqb (answer_of a b c d) 14 ≡ (not a || not b)) (λ b c d. refl) (λ c d. refl)
      (λ d. refl) refl refl
      sent
      (good_reset room p || good_patch p)
      (is_patch p && not (in_turn h p))
      (is_patch p && not (in_range h p))

  -- 15: none of that, and a PATCH out of turn
  pub fifteen : eqb (update_answer room h ttl hops p) 15
      ≡ ((sent && (good_reset room p || good_patch p)) && (is_patch p && not (in_turn h p)))
  unfolding update_answer
  fifteen =
      by_tests (λ a b c d. eqb (answer_of a b c d) 15 ≡ ((a && b) && c)) (λ b c d. refl) (λ c d. refl)
      (λ d. refl) refl refl
      sent
      (good_reset room p || good_patch p)
      (is_patch p && not (in_turn h p))
      (is_patch p && not (in_range h p))

  -- 16: none of that, and a PATCH that leads outside 1..Infinity
  pub sixteen : eqb (update_answer room h ttl hops p) 16
      ≡ ((sent && (good_reset room p || good_patch p))
      && (not (is_patch p && not (in_turn h p)) && (is_patch p && not (in_range h p))))
  unfolding update_answer
  sixteen =
      by_tests (λ a b c d. eqb (answer_of a b c d) 16 ≡ ((a && b) && (not c && d))) (λ b c d. refl) (λ c d. refl)
      (λ d. refl) refl refl
      sent
      (good_reset room p || good_patch p)
      (is_patch p && not (in_turn h p))
      (is_patch p && not (in_range h p))

  -- a RESET is answered 0 or 14
  pub reset-never : is_patch p ≡ false → (update_answer room h ttl hops p ≡ 0) ⊎ (update_answer room h ttl hops p ≡ 14)
  unfolding update_answer
  reset-never e = rw e (by sent (good_reset room p || good_patch p))
    where
      by : (a b : Bool) → (answer_of a b false false ≡ 0) ⊎ (answer_of a b false false ≡ 14)
      by true true = inl refl
      by true false = inr refl
      by false b = inr refl
