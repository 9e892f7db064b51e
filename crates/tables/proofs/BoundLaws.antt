-- Entries stay in 1..Infinity.
use Prim.Native.Nat.{ℕ, zero, suc}
use mathlib.Core.Path.{◌≡◌, refl}
use mathlib.Core.Bool.{Bool, true, or-true}
use mathlib.Core.List.{List, [], ◌∷◌, ◌++◌}
use native.Mathlib.Omega.{arith}
use lib.Dec.{leb}
use lib.ListN.{take, drop, replicate}
use borrow.Author.Tests.{leb-true, le-leb}
use Rattle.laws.specs.Tests.{all}
use Rattle.laws.proofs.Refusals.{all_take}
use Rattle.tables.specs.Patch.{sum_of, fits, added, all_fit}
use Rattle.tables.specs.Tables.{Held, in_bounds, entries_in_bounds}
use Rattle.tables.specs.Updates.{length_in, infinity_in, bits_in, numbers_in, reset_tests, turn_tests, good_reset}
use Rattle.tables.specs.Updates.{in_turn, in_range, reset_by, patch_by}
use Rattle.tables.specs.Updates.{updated, broken_by}
use Rattle.tables.proofs.TestLaws.{both_true, every_true}
use Rattle.tables.proofs.PatchFacts.{fits-exactly}
use Rattle.tables.proofs.AnswerLaws.{each_way}
use Rattle.tables.proofs.KeepLaws.{moved_keeps}

module _ {A : Type 0} (f : A → Bool) where
  all_append : (xs ys : List A) → all f xs ≡ true → all f ys ≡ true → all f (xs ++ ys) ≡ true
  all_append [] ys a b = b
  all_append (x ∷ xs) ys a b = let t = both_true (f x) (all f xs) a in rw t.0 (all_append xs ys t.1 b)

  pub all_drop : (k : ℕ) (xs : List A) → all f xs ≡ true → all f (drop k xs) ≡ true
  all_drop zero xs a = a
  all_drop (suc k) [] a = refl
  all_drop (suc k) (x ∷ xs) a = all_drop k xs (both_true (f x) (all f xs) a).1

  pub all_replicate : (k : ℕ) (x : A) → f x ≡ true → all f (replicate k x) ≡ true
  all_replicate zero x a = refl
  all_replicate (suc k) x a = rw a (all_replicate k x a)

-- a sum that fits is in bounds, and so are all
pub added-bounds : (bits infinity : ℕ) (vs es : List ℕ) → all_fit bits infinity vs es ≡ true → all (in_bounds infinity) es
    ≡ true
    → all (in_bounds infinity) (added bits vs es) ≡ true
unfolding all_fit added
added-bounds bits infinity [] es a b = b
added-bounds bits infinity (v ∷ vs) [] a b = refl
added-bounds bits infinity (v ∷ vs) (e ∷ es) a b =
    let t = both_true (fits bits infinity v e) (all_fit bits infinity vs es) a in
    let f = (fits-exactly bits infinity v e).0 t.0 in
    rw (
      le-leb 1 (sum_of bits v e) (omega arith),
      le-leb (sum_of bits v e) infinity (omega arith),
    )
    (added-bounds bits infinity vs es t.1 (both_true (in_bounds infinity e) (all (in_bounds infinity) es) b).1)

module _ (room : ℕ) (h : Held) (ttl hops : ℕ) (p : List ℕ) where
  bounds-refused : entries_in_bounds (broken_by h) ≡ true
  unfolding broken_by entries_in_bounds
  bounds-refused = refl

  bounds-reset : good_reset room p ≡ true → entries_in_bounds (reset_by p) ≡ true
  unfolding good_reset reset_by entries_in_bounds
  bounds-reset g =
      let i = both_true (leb 2 (infinity_in p)) (leb (infinity_in p) 127)
      (every_true (reset_tests room p) g).1.1.1.1.0 in
      let w = leb-true 2 (infinity_in p) i.0 in
      all_replicate (in_bounds (infinity_in p)) (length_in p) (infinity_in p)
      (rw (le-leb 1 (infinity_in p) (omega arith), le-leb (infinity_in p) (infinity_in p) (omega arith)))

  bounds-patched : entries_in_bounds h ≡ true → in_turn h p ≡ true → in_range h p ≡ true → entries_in_bounds (patch_by h p)
      ≡ true
  unfolding patch_by in_turn in_range entries_in_bounds
  bounds-patched b u r =
      let i = h.table.infinity in
      let a : all (in_bounds i) h.entries ≡ true = rw (every_true (turn_tests h p) u).0 at b in
      let s = all_append (in_bounds i) (take h.table.nextentry h.entries)
      (added (bits_in p) (numbers_in p) (drop h.table.nextentry h.entries))
      (all_take (in_bounds i) h.table.nextentry h.entries a)
      (added-bounds (bits_in p) i (numbers_in p) (drop h.table.nextentry h.entries) r
      (all_drop (in_bounds i) h.table.nextentry h.entries a)) in
      rw (moved_keeps (λ u. u.infinity) h.table p refl refl, s, or-true)

  pub keeps_bounds : entries_in_bounds h ≡ true → entries_in_bounds (updated room h ttl hops p) ≡ true
  keeps_bounds b =
      each_way room h ttl hops p (λ u. entries_in_bounds u ≡ true) bounds-refused bounds-reset
      (λ g u r. bounds-patched b u r)
