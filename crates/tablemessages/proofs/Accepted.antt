-- What an answer 0 of the writer says of its tables, and the numbers of the data that it then writes. Assumes nothing.
use Prim.Native.Nat.{ℕ, ◌/◌, ◌%◌, ◌≤◌, ◌<◌}
use mathlib.Core.Path.{◌≡◌, refl, sym, ◌∙◌}
use mathlib.Core.Bool.{Bool, true, false, cond, ◌&&◌}
use mathlib.Core.List.{List}
use native.Mathlib.Omega.{arith}
use native.Mathlib.Nat.{le_refl}
use lib.Dec.{eqb, leb, ltb}
use borrow.Author.Tests.{leb-true, ltb-false, eqb-true}
use lib.ListN.{length, length-replicate}
use Rattle.laws.specs.Tests.{all}
use Rattle.laws.proofs.Chunks.{each_all, each-replicate, one_of, and_first, and_second, decided, failed}
use Rattle.tables.specs.Patch.{numbers, number_count}
use Rattle.tables.specs.Tables.{lengths, good_length, good_infinity}
use Rattle.tables.proofs.PatchFacts.{Width, four, eight, read-packed}
use Rattle.tablemessages.specs.Writer.{base_of, bits_for, all_near, raws, data_of, parts_of, messages_of, joined}
use Rattle.tablemessages.specs.Writer.{good_table, writer_answer}
use Rattle.tablemessages.proofs.Differences.{Entries, AllReach, all_near_lem, all-byte, raws-length, raws-below}

-- a table that may be written
pub record Good (es : List ℕ) (infinity : ℕ) : Type 0 where
  pub length-test : good_length (length es) ≡ true
  pub limit-test : good_infinity infinity ≡ true
  pub limit : infinity ≤ 127
  pub entries : Entries infinity es

pub good-table : (es : List ℕ) (infinity : ℕ) → good_table es infinity ≡ true → Good es infinity
unfolding good_table
good-table es infinity h =
    let within : ℕ → Bool = λ e. leb 1 e && leb e infinity in
    let rest : (good_infinity infinity && all within es) ≡ true = and_second (good_length (length es))
    (good_infinity infinity && all within es) h in
    let limits : good_infinity infinity ≡ true = and_first (good_infinity infinity) (all within es) rest in
    record {
      length-test = and_first (good_length (length es)) (good_infinity infinity && all within es) h;
      limit-test = limits;
      limit = leb-true infinity 127 (and_second (leb 2 infinity) (leb infinity 127) limits);
      entries = each_all
          within
          (λ e. (1 ≤ e) × (e ≤ infinity))
          (λ e k. (
            leb-true 1 e (and_first (leb 1 e) (leb e infinity) k),
            leb-true e infinity (and_second (leb 1 e) (leb e infinity) k),
          ))
          es
          (and_second (good_infinity infinity) (all within es) rest);
    }

-- what a good length is: even, above 0, and at most 65,536
pub record Length (n : ℕ) : Type 0 where
  pub some : 1 ≤ n
  pub most : n ≤ 65536
  pub even : n % 2 ≡ 0

pub good_length_lem : (n : ℕ) → good_length n ≡ true → Length n
unfolding good_length
good_length_lem n h =
    let test : ℕ → Bool = λ n. leb 1 n && (leb n 65536 && eqb (n % 2) 0) in
    let held : test n ≡ true = one_of test n lengths refl h in
    let rest : (leb n 65536 && eqb (n % 2) 0) ≡ true = and_second (leb 1 n) (leb n 65536 && eqb (n % 2) 0) held in
    record {
      some = leb-true 1 n (and_first (leb 1 n) (leb n 65536 && eqb (n % 2) 0) held);
      most = leb-true n 65536 (and_first (leb n 65536) (eqb (n % 2) 0) rest);
      even = eqb-true (n % 2) 0 (and_second (leb n 65536) (eqb (n % 2) 0) rest);
    }

pub too_long : (n : ℕ) → 65536 < n → false ≡ good_length n
too_long n h = go (good_length n) refl
  where
    go : (b : Bool) → good_length n ≡ b → false ≡ b
    go false e = refl
    go true e = let most = (good_length_lem n e).most in absurd (omega arith)

-- what an answer 0 of the writer says
pub record Accepted (had : Bool) (old new : List ℕ) (infinity size : ℕ) : Type 0 where
  pub fresh : Good new infinity
  pub before : had ≡ true → Good old infinity × (length old ≡ length new)
  pub data_size : (1 ≤ size) × (size ≤ 4091)
  pub run : length (parts_of size (data_of new (base_of had old new infinity))) ≤ 255

refused : ◌≡◌ {A = ℕ} 14 0 → ⊥
refused e = omega arith

short : ◌≡◌ {A = ℕ} 2 0 → ⊥
short e = omega arith

module _ (number : List ℕ) (had : Bool) (old : List ℕ) (old_infinity : ℕ) (new : List ℕ) (infinity size room : ℕ)
    (e : writer_answer number had old old_infinity new infinity size room ≡ 0) where
  new-passed : good_table new infinity ≡ true
  unfolding writer_answer
  new-passed = decided (good_table new infinity) (λ q. refused (rw q at e))

  old-passed : had ≡ true → good_table old old_infinity ≡ true
  unfolding writer_answer
  old-passed h = decided (good_table old old_infinity) (λ q. refused (rw (new-passed, h, q) at e))

  alike-passed : had ≡ true → (eqb (length old) (length new) && eqb old_infinity infinity) ≡ true
  unfolding writer_answer
  alike-passed h =
      decided (eqb (length old) (length new) && eqb old_infinity infinity)
      (λ q. refused (rw (new-passed, h, old-passed h, q) at e))

  size-passed : (leb 1 size && leb size 4091) ≡ true
  unfolding writer_answer
  size-passed = decided (leb 1 size && leb size 4091) (λ q. go had refl q)
    where
      go : (t : Bool) → had ≡ t → (leb 1 size && leb size 4091) ≡ false → ⊥
      go true h q = refused (rw (new-passed, h, old-passed h, alike-passed h, q) at e)
      go false h q = refused (rw (new-passed, h, q) at e)

  run-passed : ltb 255 (length (parts_of size (data_of new (base_of had old new infinity)))) ≡ false
  unfolding writer_answer
  run-passed = failed (ltb 255 (length (parts_of size (data_of new (base_of had old new infinity))))) (λ q. go had refl q)
    where
      go : (t : Bool) → had ≡ t → ltb 255 (length (parts_of size (data_of new (base_of had old new infinity)))) ≡ true → ⊥
      go true h q = refused (rw (new-passed, q, h, old-passed h, alike-passed h, size-passed) at e)
      go false h q = refused (rw (new-passed, q, h, size-passed) at e)

  -- and there is room for what is written
  pub room-passed : length (joined (messages_of number had old new infinity size)) ≤ room
  unfolding writer_answer
  room-passed =
      ltb-false
      room
      (length (joined (messages_of number had old new infinity size)))
      (failed (ltb room (length (joined (messages_of number had old new infinity size)))) (λ q. go had refl q))
    where
      go : (t : Bool) → had ≡ t → ltb room (length (joined (messages_of number had old new infinity size))) ≡ true → ⊥
      go true h q = short (rw (new-passed, run-passed, q, h, old-passed h, alike-passed h, size-passed) at e)
      go false h q = short (rw (new-passed, run-passed, q, h, size-passed) at e)

  pub accepted : Accepted had old new infinity size
  accepted =
      record {
        fresh = good-table new infinity new-passed;
        before = before;
        data_size = (
          leb-true 1 size (and_first (leb 1 size) (leb size 4091) size-passed),
          leb-true size 4091 (and_second (leb 1 size) (leb size 4091) size-passed),
        );
        run = ltb-false 255 (length (parts_of size (data_of new (base_of had old new infinity)))) run-passed;
      }
    where
      before : had ≡ true → Good old infinity × (length old ≡ length new)
      before h =
          let same : old_infinity ≡ infinity
          = eqb-true old_infinity infinity (and_second (eqb (length old) (length new)) (eqb old_infinity infinity)
          (alike-passed h)) in (
            rw same at (good-table old old_infinity (old-passed h)),
            eqb-true (length old) (length new) (and_first (eqb (length old) (length new)) (eqb old_infinity infinity)
                (alike-passed h)),
          )

-- the bits that the writer takes hold every difference
pub bits-reach : (new base : List ℕ) (infinity : ℕ) → infinity ≤ 127 → length new ≡ length base → Entries infinity new
    → Entries infinity base
    → Width (bits_for new base) × AllReach (bits_for new base) new base
bits-reach new base infinity limit long p q = go (all_near new base) refl
  where
    go : (t : Bool) → all_near new base ≡ t → Width (cond t 4 8) × AllReach (cond t 4 8) new base
    go true e = (four, all_near_lem new base long e)
    go false e = (eight, all-byte infinity limit new base long p q)

-- an even count of numbers fills whole bytes
whole-bytes : {bits : ℕ} → Width bits → (n : ℕ) → n % 2 ≡ 0 → (k : ℕ) × (n ≡ number_count bits k)
whole-bytes four n e = (n / 2, omega arith)
whole-bytes eight n e = (n, omega arith)

-- a new table and the one that differences are taken from
pub record Based (new base : List ℕ) (infinity : ℕ) : Type 0 where
  pub fresh : Good new infinity
  pub same : length new ≡ length base
  pub entries : Entries infinity base

pub based : (had : Bool) (old new : List ℕ) (infinity size : ℕ) → Accepted had old new infinity size
    → Based new (base_of had old new infinity) infinity
based true old new infinity size a =
    record { fresh = a.fresh; same = sym (a.before refl).1; entries = (a.before refl).0.entries }
based false old new infinity size a =
    let low : 2 ≤ infinity = leb-true 2 infinity (and_first (leb 2 infinity) (leb infinity 127)
    a.fresh.limit-test) in
    record {
      fresh = a.fresh;
      same = sym (length-replicate (length new) infinity);
      entries = each-replicate (λ e. (1 ≤ e) × (e ≤ infinity)) (length new) infinity (omega arith, le_refl infinity);
    }

-- the run's data: its numbers are the differences
module _ (new base : List ℕ) (infinity : ℕ) (b : Based new base infinity) where
  pub reach : Width (bits_for new base) × AllReach (bits_for new base) new base
  reach = bits-reach new base infinity b.fresh.limit b.same b.fresh.entries b.entries

  pub data_numbers : numbers (bits_for new base) (data_of new base) ≡ raws (bits_for new base) new base
  unfolding data_of
  data_numbers =
      let long : length (raws (bits_for new base) new base) ≡ length new = raws-length reach.0 new base reach.1 in
      let fill : (k : ℕ) × (length new ≡ number_count (bits_for new base) k)
      = whole-bytes reach.0 (length new) (good_length_lem (length new) b.fresh.length-test).even in
      read-packed reach.0 (raws (bits_for new base) new base) fill.0 (raws-below reach.0 new base reach.1)
      (long ∙ fill.1)
