-- A RESET, where there was no old table, and the run behind it.
use Prim.Native.Nat.{ℕ, ◌+◌, ◌-◌, ◌≤◌}
use mathlib.Core.Path.{◌≡◌, sym, ap, ◌∙◌}
use mathlib.Core.Bool.{true, false, cond}
use mathlib.Core.List.{List, [], ◌++◌}
use native.Mathlib.Omega.{arith}
use lib.ListN.{length, take, drop}
use borrow.Rule.Slice.PartMut.{put_mid}
use Rattle.laws.specs.Parts.{over}
use Rattle.laws.proofs.Over.{over-length}
use Rattle.laws.proofs.Writing.{written_next, lent-part}
use Rattle.wire.proofs.HeaderLaws.{message-length}
use Rattle.tablemessages.specs.declared.Plan.{Plan}
use Rattle.tablemessages.specs.Writer.{update, reset_payload}
use Rattle.tablemessages.specs.Steps.{Runs, data_by, left_of, all_by}

-- more room does no harm
pub more_room : (number : List ℕ) (p : Plan) (old new : List ℕ) (r s : ℕ) → Runs number p old new r
    → r ≤ s → Runs number p old new s
more_room number p old new r s v h =
    record { sound = v.sound; some = v.some; most = v.most; parts = v.parts; fits = omega (arith, v.fits) }

module _ (number : List ℕ) (p : Plan) (old new : List ℕ) where
  pub all-had : p.had ≡ true → left_of number p 1 (data_by p old new) ≡ all_by number p old new
  unfolding all_by
  all-had e = sym (ap (λ t. cond t [] (update number (reset_payload (length new) p.infinity)) ++ left_of number p 1
      (data_by p old new)) e)

  pub all_none : p.had ≡ false → update number (reset_payload (length new) p.infinity) ++ left_of number p 1
      (data_by p old new) ≡ all_by number p old new
  unfolding all_by
  all_none e = sym (ap (λ t. cond t [] (update number (reset_payload (length new) p.infinity)) ++ left_of number p 1
      (data_by p old new)) e)

  pub reset-length : length number ≡ 16 → length (update number (reset_payload (length new) p.infinity)) ≡ 29
  reset-length h = message-length number 0x30 1 0 (reset_payload (length new) p.infinity) h

  -- the RESET, then the run in the rest of the area, which was lent
  pub all-stored : (out mid left : List ℕ) → length number ≡ 16 → p.had ≡ false
      → 29 + length (left_of number p 1 (data_by p old new)) ≤ length out
      → mid ≡ over 0 (update number (reset_payload (length new) p.infinity)) out
      → left ≡ over 0 (left_of number p 1 (data_by p old new)) (take (length mid - 29) (drop 29 mid))
      → put_mid 29 (length mid - 29) mid left ≡ over 0 (all_by number p old new) out
  all-stored out mid left h e r m f =
      let R = update number (reset_payload (length new) p.infinity) in
      let L = left_of number p 1 (data_by p old new) in
      let g : length R ≡ 29 = reset-length h in
      let q : length mid ≡ length out = ap length m ∙ over-length 0 R out (omega arith) in
      lent-part 29 (length mid - 29) L mid left (omega arith) (omega arith) f
      ∙ ap (over 29 L) m
      ∙ written_next 29 R L out g
      ∙ ap (λ x. over 0 x out) (all_none e)
