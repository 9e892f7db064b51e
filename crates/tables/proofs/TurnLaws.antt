-- Laws of a PATCH against a table: what its tests say, and the parts of payload and table that the code lends.
use Prim.Native.Nat.{ℕ, ◌+◌, ◌-◌, ◌≤◌, min}
use mathlib.Core.Path.{◌≡◌, sym, ap, ◌∙◌}
use mathlib.Core.Bool.{Bool, true, not, ◌&&◌, ◌||◌, and-true}
use mathlib.Core.List.{List}
use native.Mathlib.Omega.{arith}
use lib.Dec.{eqb, leb}
use lib.ListN.{length, take, drop, length-take, length-drop}
use borrow.Author.Tests.{leb-true, eq-eqb}
use Rattle.laws.proofs.Over.{rest-front}
use Rattle.laws.proofs.Parts.{part_tail}
use Rattle.tables.specs.declared.Table.{Table}
use Rattle.tables.specs.Patch.{good_bits, numbers, number_count, all_fit}
use Rattle.tables.specs.Tables.{held_in, ready, running}
use Rattle.tables.specs.Updates.{place_in, size_in, bits_in, numbers_in, is_last, patch_tests, turn_tests, good_patch}
use Rattle.tables.specs.Updates.{in_turn, in_range}
use Rattle.tables.proofs.TestLaws.{every_true}
use Rattle.tables.proofs.PatchFacts.{numbers-length}

-- what a PATCH whose fields are allowed has
pub record PatchFields (p : List ℕ) : Type 0 where
  pub long : 5 ≤ length p
  pub first : 1 ≤ place_in p
  pub within : place_in p ≤ size_in p
  pub width : good_bits (bits_in p) ≡ true

pub patch-fields : (p : List ℕ) → good_patch p ≡ true → PatchFields p
unfolding good_patch
patch-fields p h =
    let e = every_true (patch_tests p) h in
    record {
      long = leb-true 5 (length p) e.0;
      first = leb-true 1 (place_in p) e.1.1.0;
      within = leb-true (place_in p) (size_in p) e.1.1.1.0;
      width = e.1.1.1.1.1.0;
    }

-- the data of a PATCH in turn ends within the table
pub turn-within : (t : Table) (p part : List ℕ) → in_turn (held_in t part) p ≡ true → t.nextentry + length (numbers_in p)
    ≤ length (take t.length part)
unfolding in_turn
turn-within t p part h = leb-true _ _ (every_true (turn_tests (held_in t part) p) h).1.1.1.0

-- the last test, after the others held
pub turn_last : (t : Table) (p part : List ℕ) (r : Bool) (n end : ℕ)
    → ready t.mark ≡ true
    → place_in p ≡ t.nextplace
    → (not (eqb t.mark running) || (eqb (size_in p) t.runsize && eqb (bits_in p) t.runbits)) ≡ true
    → n ≡ length (numbers_in p)
    → end ≡ length (take t.length part)
    → r ≡ (leb (t.nextentry + n) end && (not (is_last p) || eqb (t.nextentry + n) end))
    → r ≡ in_turn (held_in t part) p
unfolding in_turn
turn_last t p part r n end a b c d e f =
    rw (a, eq-eqb _ _ b, c, and-true) (rw (d, e) at f)

-- the entries from the next one on, as the code lends them
module _ (t : Table) (p part : List ℕ) (end : ℕ) (e : end ≡ length (take t.length part)) where
  pub lent-entries : take (end - t.nextentry) (drop t.nextentry part) ≡ drop t.nextentry (take t.length part)
  lent-entries =
      ap (λ k. take (k - t.nextentry) (drop t.nextentry part)) e ∙ rest-front part t.nextentry t.length

  pub lent-range : all_fit (bits_in p) t.infinity (numbers_in p) (take (end - t.nextentry) (drop t.nextentry part))
      ≡ in_range (held_in t part) p
  unfolding in_range
  lent-range = rw lent-entries
