-- Laws of an update as a whole: what it does where it is refused, and where it is taken.
use Prim.Native.Nat.{ℕ, ◌-◌, ◌≤◌, min}
use mathlib.Core.Path.{◌≡◌, refl, sym, ◌∙◌}
use Rattle.std.proofs.Common.{◌⊎◌, inl, inr}
use mathlib.Core.Bool.{Bool, true, false, not, and-false, or-false}
use mathlib.Core.List.{List, [], ◌∷◌}
use native.Mathlib.Omega.{arith}
use lib.Dec.{eqb, leb}
use lib.ListN.{length, get_or, take, drop, replicate, length-take, length-drop}
use borrow.Author.Tests.{leb-true, eqb-true, ne_eqb}
use borrow.Rule.Slice.PartMut.{put_mid}
use Rattle.laws.specs.Tests.{first_of}
use Rattle.laws.specs.Parts.{over}
use Rattle.laws.proofs.Over.{over-own, over-lent}
use Rattle.laws.proofs.Parts.{part_tail}
use Rattle.tables.specs.declared.Table.{Table}
use Rattle.tables.specs.Patch.{numbers, added, all_fit}
use Rattle.tables.specs.Tables.{Held, held_in, at_rest, waiting}
use Rattle.tables.specs.Updates.{length_in, infinity_in, bits_in, numbers_in, reset_tests, is_patch, good_reset}
use Rattle.tables.specs.Updates.{good_patch, in_turn, in_range}
use Rattle.tables.specs.Updates.{reset_answer, reset_held, reset_by, patch_answer, patched_held, patch_by, moved_on}
use Rattle.tables.specs.Updates.{update_answer, updated, broken_by}
use Rattle.tables.specs.Updates.{Updated, refused_by, answered, part_with}
use Rattle.tables.proofs.TestLaws.{every_true}
use Rattle.tables.proofs.NumberLaws.{fit_wider}
use Rattle.tables.proofs.PatchFacts.{added-length}
use Rattle.tables.proofs.TurnLaws.{turn-within, lent-entries, lent-range}

-- an answer and a part, as the contract of an update has them
pub record Done (part : List ℕ) (n : ℕ) (h : Held) (r : Updated) (left : List ℕ) : Type 0 where
  pub result : r ≡ answered n h
  pub entries : left ≡ part_with h part

-- a refusal leaves the part as it is
pub done_refused : (t : Table) (part : List ℕ) (n : ℕ) → Done part n (broken_by (held_in t part)) (refused_by n t) part
unfolding broken_by
done_refused t part n = record { result = refl; entries = sym (over-own t.length part) }

-- RESET
pub record ResetFields (room : ℕ) (p : List ℕ) : Type 0 where
  pub six : length p ≡ 6
  pub within : length_in p ≤ room

pub reset-fields : (room : ℕ) (p : List ℕ) → good_reset room p ≡ true → ResetFields room p
unfolding good_reset
reset-fields room p h =
    let e = every_true (reset_tests room p) h in
    record { six = eqb-true (length p) 6 e.0; within = leb-true (length_in p) room e.1.1.1.0 }

module _ (t : Table) (p part : List ℕ) where
  pub reset-refused : good_reset (length part) p ≡ false
      → Done part (reset_answer (length part) p) (reset_held (length part) (held_in t part) p) (refused_by 14 t) part
  unfolding reset_held
  reset-refused e = rw e (done_refused t part 14)

  pub reset-taken : good_reset (length part) p ≡ true → (n : ℕ) (next : Table) (ys : List ℕ)
      → n ≡ length_in p
      → next ≡ at_rest waiting n (infinity_in p)
      → ys ≡ over 0 (replicate n (infinity_in p)) part
      → Done part (reset_answer (length part) p) (reset_held (length part) (held_in t part) p)
      (record { answer = 0; table = next }) ys
  unfolding reset_held reset_by
  reset-taken e n next ys m x y = rw e (record { result = rw (x, m) refl; entries = rw (y, m) refl })

-- PATCH: what an answer of 0 says
pub record Taken (h : Held) (p : List ℕ) : Type 0 where
  pub fields : good_patch p ≡ true
  pub turn : in_turn h p ≡ true
  pub range : in_range h p ≡ true

pub taken : (h : Held) (p : List ℕ) → patch_answer h p ≡ 0 → Taken h p
taken h p e =
    let t = by (good_patch p) (in_turn h p) (in_range h p) e in
    record { fields = t.0; turn = t.1; range = t.2 }
  where
    by : (a b c : Bool) → first_of ((not a, 14) ∷ (not b, 15) ∷ (not c, 16) ∷ []) ≡ 0 → (a ≡ true)
        × (b ≡ true) × (c ≡ true)
    by true true true e = (refl, refl, refl)
    by true true false e = absurd (omega arith)
    by true false c e = absurd (omega arith)
    by false b c e = absurd (omega arith)

module _ (t : Table) (p part : List ℕ) (n : ℕ) (e : n ≡ patch_answer (held_in t part) p) where
  pub patch-refused : (n ≡ 0 → ⊥)
      → Done part (patch_answer (held_in t part) p) (patched_held (held_in t part) p) (refused_by n t) part
  unfolding patched_held
  patch-refused z = rw (← e, ne_eqb n 0 z) (done_refused t part n)

  pub patch-taken : n ≡ 0 → (end : ℕ) (ys : List ℕ) (next : Table)
      → end ≡ length (take t.length part)
      → ys ≡ added (bits_in p) (numbers_in p) (take (end - t.nextentry) (drop t.nextentry part))
      → next ≡ moved_on t p
      → Done part (patch_answer (held_in t part) p) (patched_held (held_in t part) p)
      (record { answer = 0; table = next })
      (put_mid t.nextentry (end - t.nextentry) part ys)
  unfolding patched_held patch_by
  patch-taken z end ys next m a b =
      let w = turn-within t p part (taken (held_in t part) p (sym e ∙ z)).turn in
      let y : ys ≡ added (bits_in p) (numbers_in p) (drop t.nextentry (take t.length part)) =
      rw (lent-entries t p part end m) at a in
      rw (← e, z)
      (record {
        result = rw b refl;
        entries =
            rw (m, y)
            (over-lent t.nextentry t.length part
            (added (bits_in p) (numbers_in p) (drop t.nextentry (take t.length part)))
            (omega arith)
            (added-length (bits_in p) (numbers_in p) (drop t.nextentry (take t.length part))
            ∙ length-drop t.nextentry (take t.length part)));
      })

-- the numbers that the code adds fit a byte
pub lent-fit : (t : Table) (p part : List ℕ) (end : ℕ) → end ≡ length (take t.length part) → t.infinity ≤ 255
    → in_range (held_in t part) p ≡ true
    → all_fit (bits_in p) 255 (numbers_in p) (take (end - t.nextentry) (drop t.nextentry part)) ≡ true
lent-fit t p part end e i r =
    fit_wider (bits_in p) t.infinity 255
    (numbers_in p)
    (take (end - t.nextentry) (drop t.nextentry part))
    i
    (lent-range t p part end e ∙ r)

-- an update is a RESET or a PATCH by itself, once its TTL and Hops are allowed
module _ (room : ℕ) (h : Held) (p : List ℕ) where
  pub no-reset : is_patch p ≡ true → good_reset room p ≡ false
  unfolding good_reset
  no-reset e = rw (eqb-true (get_or p 0 0) 1 e) (and-false (eqb (length p) 6))

  pub no-patch : is_patch p ≡ false → good_patch p ≡ false
  unfolding good_patch
  no-patch e = rw e (and-false (leb 5 (length p)))

  patch-answer-alone : is_patch p ≡ true → update_answer room h 1 0 p ≡ patch_answer h p
  unfolding update_answer
  patch-answer-alone e = rw (no-reset e, e)

  patch-alone : is_patch p ≡ true → updated room h 1 0 p ≡ patched_held h p
  unfolding updated patched_held
  patch-alone e = rw (patch-answer-alone e, e)

  reset-answer-alone : is_patch p ≡ false → update_answer room h 1 0 p ≡ reset_answer room p
  unfolding update_answer
  reset-answer-alone e = rw (no-patch e, or-false, e)

  reset-alone : is_patch p ≡ false → updated room h 1 0 p ≡ reset_held room h p
  unfolding updated reset_held
  reset-alone e = rw (reset-answer-alone e, e)

module _ (t : Table) (p part : List ℕ) (ttl hops : ℕ) where
  abbrev h : Held
  h = held_in t part

  abbrev n : ℕ
  n = update_answer (length part) h ttl hops p

  abbrev u : Held
  u = updated (length part) h ttl hops p

  refused-by : n ≡ 14 → Done part n u (refused_by 14 t) part
  unfolding updated
  refused-by e = rw e (done_refused t part 14)

  fourteen-ttl : (ttl ≡ 1 → ⊥) → n ≡ 14
  unfolding update_answer
  fourteen-ttl e = rw (ne_eqb ttl 1 e)

  fourteen-hops : (hops ≡ 0 → ⊥) → n ≡ 14
  unfolding update_answer
  fourteen-hops e = rw (ne_eqb hops 0 e, and-false (eqb ttl 1))

  pub bad-life : (ttl ≡ 1 → ⊥) ⊎ ((ttl ≡ 1) × (hops ≡ 0 → ⊥)) → Done part n u (refused_by 14 t) part
  bad-life (inl e) = refused-by (fourteen-ttl e)
  bad-life (inr e) = refused-by (fourteen-hops e.1)

  -- with a TTL and Hops that are right, what the variant's function leaves is what the update leaves
  pub by-patch : ttl ≡ 1 → hops ≡ 0 → is_patch p ≡ true → {r : Updated} {left : List ℕ}
      → (r ≡ answered (patch_answer h p) (patched_held h p)) × (left ≡ part_with (patched_held h p) part)
      → (r ≡ answered n u) × (left ≡ part_with u part)
  by-patch a b e w = rw (a, b, patch-answer-alone (length part) h p e, patch-alone (length part) h p e) w

  pub by-reset : ttl ≡ 1 → hops ≡ 0 → is_patch p ≡ false → {r : Updated} {left : List ℕ}
      → (r ≡ answered (reset_answer (length part) p) (reset_held (length part) h p))
      × (left ≡ part_with (reset_held (length part) h p) part)
      → (r ≡ answered n u) × (left ≡ part_with u part)
  by-reset a b e w = rw (a, b, reset-answer-alone (length part) h p e, reset-alone (length part) h p e) w
