-- An update of a table in order leaves one in order.
use Prim.Native.Nat.{ℕ, ◌+◌}
use mathlib.Core.Path.{◌≡◌, refl}
use mathlib.Core.Bool.{Bool, true, false, cond, not, ◌||◌}
use mathlib.Core.List.{List, [], ◌∷◌}
use native.Mathlib.Omega.{arith}
use lib.Dec.{eqb, leb}
use lib.ListN.{length, length-take}
use borrow.Author.Tests.{eqb-false, le-leb}
use Rattle.tables.specs.declared.Table.{Table}
use Rattle.tables.specs.Tables.{held_in, broken, running, ready, good_length, good_infinity, inside_run, between_runs}
use Rattle.tables.specs.Tables.{within_limits, table_in_order}
use Rattle.tables.specs.Updates.{place_in, size_in, numbers_in, is_last, reset_tests, turn_tests, good_reset, good_patch}
use Rattle.tables.specs.Updates.{in_turn, reset_by, patch_by}
use Rattle.tables.specs.Updates.{moved_on, updated, broken_by}
use Rattle.tables.proofs.TestLaws.{both_true, every_true}
use Rattle.tables.proofs.TurnLaws.{PatchFields, patch-fields, turn-within}
use Rattle.tables.proofs.AnswerLaws.{each_way}

-- what "in order" says of a table that waits, runs or is settled
pub record Limits (room : ℕ) (t : Table) : Type 0 where
  pub length : good_length t.length ≡ true
  pub fits : leb t.length room ≡ true
  pub infinity : good_infinity t.infinity ≡ true
  pub position : cond (eqb t.mark running) (inside_run t) (between_runs t) ≡ true

pub limits : (room : ℕ) (t : Table) → table_in_order room t ≡ true → ready t.mark ≡ true → Limits room t
unfolding table_in_order
limits room t o r =
    let w : within_limits room t ≡ true =
    rw r at (both_true (leb t.mark broken) (not (ready t.mark) || within_limits room t) o).1 in
    let e =
    every_true
    (good_length t.length
    ∷ leb t.length room
    ∷ good_infinity t.infinity
    ∷ cond (eqb t.mark running) (inside_run t) (between_runs t)
    ∷ [])
    w in
    record { length = e.0; fits = e.1.0; infinity = e.1.1.0; position = e.1.1.1.0 }

module _ (room : ℕ) (t : Table) (part : List ℕ) (ttl hops : ℕ) (p : List ℕ) (o : table_in_order room t ≡ true) where
  order-refused : table_in_order room (broken_by (held_in t part)).table ≡ true
  unfolding broken_by table_in_order
  order-refused = refl

  order-reset : good_reset room p ≡ true → table_in_order room (reset_by p).table ≡ true
  unfolding good_reset reset_by table_in_order
  order-reset g =
      let e = every_true (reset_tests room p) g in
      rw (e.1.1.0, e.1.1.1.0, e.1.1.1.1.0)

  order-patched : good_patch p ≡ true → in_turn (held_in t part) p ≡ true → table_in_order room
      (patch_by (held_in t part) p).table ≡ true
  unfolding patch_by moved_on table_in_order in_turn
  order-patched g u =
      let l = limits room t o (every_true (turn_tests (held_in t part) p) u).0 in
      by (is_last p) refl l (patch-fields p g)
    where
      by : (z : Bool) → is_last p ≡ z → Limits room t → PatchFields p → table_in_order room (moved_on t p) ≡ true
      by true e l f = rw (e, l.length, l.fits, l.infinity)
      by false e l f =
          let d = eqb-false (place_in p) (size_in p) e in
          rw (
            e,
            l.length,
            l.fits,
            l.infinity,
            le-leb 2 (place_in p + 1) (omega arith),
            le-leb (place_in p + 1) (size_in p) (omega arith),
            f.width,
            le-leb (t.nextentry + length (numbers_in p)) t.length
                (omega (arith, turn-within t p part u, length-take t.length part)),
          )

  pub keeps_order : table_in_order room (updated room (held_in t part) ttl hops p).table ≡ true
  keeps_order =
      each_way room (held_in t part) ttl hops p (λ u. table_in_order room u.table ≡ true) order-refused order-reset
      (λ g u r. order-patched g u)
