-- What an update leaves: its three cases, and that a table keeps as many entries as it is long, within its room.
-- Assumes nothing.
use Prim.Native.Nat.{ℕ, ◌≤◌}
use native.Mathlib.Omega.{arith}
use mathlib.Core.Path.{◌≡◌, refl, sym, ◌∙◌}
use mathlib.Core.Bool.{true, false, not, ◌&&◌}
use mathlib.Core.Logic.{⊎_elim}
use mathlib.Core.List.{List, ◌∷◌}
use lib.Dec.{eqb, leb}
use lib.ListN.{length, get_or, length-replicate}
use borrow.Author.Tests.{ne_eqb, leb-true, eqb-true}
use Rattle.laws.specs.Tests.{any}
use Rattle.laws.proofs.Refusals.{Each, each, answer_in, refusal_in, or_right}
use Rattle.tables.specs.Tables.{Held, lengths, good_length}
use Rattle.tables.specs.Updates.{length_in, infinity_in, is_patch, reset_tests, patch_tests, turn_tests, good_reset}
use Rattle.tables.specs.Updates.{good_patch}
use Rattle.tables.specs.Updates.{in_turn, in_range, update_answer, updated, reset_by, patch_by, broken_by}
use Rattle.tables.proofs.AnswerLaws.{ways}
use Rattle.tables.proofs.KeepLaws.{moved_length, patched-length}
use Rattle.protocol.specs.Blind.{update_rules}
use Rattle.protocol.specs.Outcomes.{unused}

-- an accepted RESET, and an accepted PATCH
pub record Resets (room : ℕ) (p : List ℕ) : Type 0 where
  pub variant : is_patch p ≡ false
  pub tests : Each (reset_tests room p)

pub record Patches (h : Held) (p : List ℕ) : Type 0 where
  pub variant : is_patch p ≡ true
  pub tests : Each (patch_tests p)
  pub turn : Each (turn_tests h p)
  pub range : in_range h p ≡ true

resets : (room : ℕ) (p : List ℕ) → good_reset room p ≡ true → Resets room p
unfolding good_reset
resets room p e =
    let t = each (reset_tests room p) e in
    let z : get_or p 0 0 ≡ 0 = eqb-true (get_or p 0 0) 0 t.1.0 in
    record { variant = ne_eqb (get_or p 0 0) 1 (λ y. absurd (omega arith)); tests = t }

patches : (h : Held) (p : List ℕ) → good_patch p ≡ true → in_turn h p ≡ true → in_range h p ≡ true → Patches h p
unfolding good_patch in_turn
patches h p e u r =
    let t = each (patch_tests p) e in
    record { variant = t.1.0; tests = t; turn = each (turn_tests h p) u; range = r }

-- an update's answer, with what it leaves: a PATCH or a RESET was accepted, or only the mark is broken
pub by-update : (P : ℕ → Held → Type 0) (room : ℕ) (h : Held) (ttl hops : ℕ) (p : List ℕ)
    → (Patches h p → P 0 (patch_by h p)) → (Resets room p → P 0 (reset_by p)) → ((n : ℕ) → (n ≡ 0 → ⊥) → P n (broken_by h))
    → P (update_answer room h ttl hops p) (updated room h ttl hops p)
by-update P room h ttl hops p f g b =
    ⊎_elim
    (λ w. rw w.left (b (update_answer room h ttl hops p) w.number))
    (⊎_elim
    (λ w. rw (w.number, w.left) (g (resets room p w.fields)))
    (λ w. rw (w.number, w.left) (f (patches h p w.fields w.turn w.range))))
    (ways room h ttl hops p)

-- its answer is never 1 to 5
pub update-sent : (room : ℕ) (h : Held) (ttl hops : ℕ) (p : List ℕ)
    → not (unused (update_answer room h ttl hops p)) ≡ true
unfolding update_answer
update-sent room h ttl hops p = answer_in (λ n. not (unused n)) (update_rules room h ttl hops p) refl refl

-- and a refusal's is 14, 15 or 16
pub update-range : (room : ℕ) (h : Held) (ttl hops : ℕ) (p : List ℕ) → (update_answer room h ttl hops p ≡ 0 → ⊥)
    → (leb 14 (update_answer room h ttl hops p) && leb (update_answer room h ttl hops p) 16) ≡ true
unfolding update_answer
update-range room h ttl hops p n = refusal_in (λ k. leb 14 k && leb k 16) (update_rules room h ttl hops p) refl n

-- what is written stays within the room
pub updated-within : (room : ℕ) (h : Held) (ttl hops : ℕ) (p : List ℕ)
    → length h.entries ≤ room → length (updated room h ttl hops p).entries ≤ room
unfolding reset_by broken_by
updated-within room h ttl hops p w =
    by-update (λ _ (g : Held). length g.entries ≤ room) room h ttl hops p
    (λ _. rw (patched-length h p) w)
    (λ r. rw (length-replicate (length_in p) (infinity_in p)) (leb-true (length_in p) room r.tests.1.1.1.0))
    (λ _ _. w)

-- a table with its entries is sound: as many as it is long, within the room, and that many is 0 or a length that a
-- RESET may carry
pub record Sound (room : ℕ) (h : Held) : Type 0 where
  pub full : length h.entries ≡ h.table.length
  pub within : h.table.length ≤ room
  pub good : any (eqb h.table.length) (0 ∷ lengths) ≡ true

pub sound-updated : (room : ℕ) (h : Held) (ttl hops : ℕ) (p : List ℕ)
    → Sound room h → Sound room (updated room h ttl hops p)
unfolding reset_by patch_by broken_by good_length
sound-updated room h ttl hops p s =
    by-update (λ _ (g : Held). Sound room g) room h ttl hops p
    (λ _. record {
      full = patched-length h p ∙ s.full ∙ sym (moved_length h.table p);
      within = rw (moved_length h.table p) s.within;
      good = rw (moved_length h.table p) s.good;
    })
    (λ r. record {
      full = length-replicate (length_in p) (infinity_in p);
      within = leb-true (length_in p) room r.tests.1.1.1.0;
      good = or_right (eqb (length_in p) 0) (any (eqb (length_in p)) lengths) r.tests.1.1.0;
    })
    (λ _ _. record { full = s.full; within = s.within; good = s.good })
