-- The writer takes every table of own names: its entries are 1 and Infinity.
-- Assumes nothing.
use Prim.Native.Nat.{ℕ, ◌≤◌, ◌<◌}
use native.Mathlib.Omega.{arith}
use mathlib.Core.Path.{◌≡◌, refl, sym, ap, ◌∙◌}
use mathlib.Core.Bool.{Bool, true, false, cond, not, ◌&&◌}
use mathlib.Core.Logic.{◌↔◌}
use mathlib.Core.List.{List}
use lib.Dec.{eqb, leb, ltb}
use lib.ListN.{length}
use borrow.Author.Tests.{leb-true, le-leb, eq-eqb, ltb-true, lt-ltb}
use Rattle.laws.specs.Tests.{first_of}
use Rattle.laws.proofs.Refusals.{clash, and_fst, and_intro}
use Rattle.tables.specs.Tables.{good_length, good_infinity}
use Rattle.tablemessages.specs.Writer.{messages_of, joined, good_table, run_rules}
use Rattle.tablemessages.specs.Writer.{writer_answer}
use Rattle.nametable.specs.Table.{own_entries}
use Rattle.nametable.proofs.Words.{table-long, table-within}
use Rattle.namehistory.specs.Updates.{patches, OnlyByLength, WriterTakes}

-- its length and its Infinity are those that were asked for, and its entries are in range
module _ (n infinity : ℕ) (length-good : good_length n ≡ true) (infinity-good : good_infinity infinity ≡ true) where
  some : 1 ≤ infinity
  some = omega (arith, leb-true 2 infinity (and_fst (leb 2 infinity) (leb infinity 127) infinity-good))

  good-own : (names : List (List ℕ)) → good_table (own_entries n infinity names) infinity ≡ true
  unfolding good_table
  good-own names =
      and_intro (good_length (length (own_entries n infinity names))) _
      (ap good_length (table-long n infinity names) ∙ length-good)
      (and_intro (good_infinity infinity) _ infinity-good (table-within n infinity some names))

-- what the rules of a run answer by 14
run_refuses : (count total room : ℕ) → (first_of (run_rules count total room) ≡ 14) ↔ (255 < count)
run_refuses count total room =
    (λ e. to (ltb 255 count) (ltb room total) refl e, λ h. rw (lt-ltb 255 count h))
  where
    to : (p q : Bool) → ltb 255 count ≡ p → ◌≡◌ {A = ℕ} (cond p 14 (cond q 2 0)) 14 → 255 < count
    to true q t e = ltb-true 255 count t
    to false true t e = absurd (omega arith)
    to false false t e = absurd (omega arith)

-- tables that may be written, with a size that may be: the rest are the rules of the run
module _ (had : Bool) (old new : List ℕ) (infinity size : ℕ) (good : good_table new infinity ≡ true)
    (old-good : had ≡ true → (good_table old infinity ≡ true) × (length old ≡ length new)) (low : 1 ≤ size)
    (high : size ≤ 4091) where
  -- what the run is refused by
  abbrev of_run : List ℕ → ℕ → ℕ
  of_run number room =
      first_of
      (run_rules (patches had old new infinity size) (length (joined (messages_of number had old new infinity size)))
      room)

  the_run : (number : List ℕ) (room : ℕ)
      → writer_answer number had old infinity new infinity size room ≡ of_run number room
  unfolding writer_answer
  the_run number room =
      rw (good, le-leb 1 size low, le-leb size 4091 high) (go had (of_run number room) old-good)
    where
      go : (h : Bool) (rest : ℕ) → (h ≡ true → (good_table old infinity ≡ true) × (length old ≡ length new))
          → cond (h && not (good_table old infinity)) 14
          (cond (h && not (eqb (length old) (length new) && eqb infinity infinity)) 14 rest)
          ≡ rest
      go true rest o =
          rw ((o refl).0, eq-eqb (length old) (length new) (o refl).1, eq-eqb infinity infinity refl)
      go false rest o = refl

  pub only-by-length : OnlyByLength had old new infinity size
  only-by-length number room = rw (the_run number room) (run_refuses _ _ room)

pub writer_takes : WriterTakes
writer_takes n infinity names l i =
    let good = good-own n infinity l i in
    record {
      good = good names;
      first = λ old size low high.
          only-by-length false old (own_entries n infinity names) infinity size (good names)
          (λ e. absurd (clash e refl)) low high;
      next = λ before size low high.
          only-by-length true (own_entries n infinity before) (own_entries n infinity names) infinity size (good names)
          (λ _. (good before, table-long n infinity before ∙ sym (table-long n infinity names))) low high;
    }
