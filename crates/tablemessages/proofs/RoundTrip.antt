-- The round trip: what the writer wrote is read as the new table. Assumes nothing.
use Prim.Native.Nat.{ℕ, suc, ◌+◌, ◌≤◌}
use mathlib.Core.Path.{◌≡◌, refl, sym, ap}
use mathlib.Core.Bool.{Bool, true, false}
use mathlib.Core.List.{List, [], ◌∷◌}
use native.Mathlib.Omega.{arith}
use native.Mathlib.Nat.{le_refl}
use lib.Seq.{take-append_seam}
use lib.ListN.{length, take, drop, replicate, length-replicate}
use Rattle.laws.proofs.Chunks.{Each}
use Rattle.tables.specs.Patch.{numbers}
use Rattle.tables.specs.Tables.{Held}
use Rattle.tables.proofs.PatchFacts.{Width}
use Rattle.tablemessages.specs.Writer.{base_of, bits_for, raws, data_of, parts_of, run_from, messages_of, joined}
use Rattle.tablemessages.specs.Writer.{writer_answer, writer_bytes}
use Rattle.tablemessages.specs.Writer.{writer_result, writer_out}
use Rattle.tablemessages.specs.RoundTrip.{RoundTrip, BytesRoundTrip, ReadAs, Stands, settled_as, run_payloads}
use Rattle.tablemessages.specs.RoundTrip.{payloads_of}
use Rattle.tablemessages.proofs.Differences.{AllReach, raws-length, raws-added, raws-fit}
use Rattle.tablemessages.proofs.Parts.{parts-joined}
use Rattle.tablemessages.proofs.Whole.{Short, all_whole, payloads-short}
use Rattle.tablemessages.proofs.Reading.{Awaits, RunFits, settled_to, reset_to, reset-taken, run-read, read_more}
use Rattle.tablemessages.proofs.Accepted.{good_length_lem, Accepted, accepted, Based, based, reach, data_numbers}

-- what is held before the run, the table that differences are taken from
pub record From (h : Held) (base : List ℕ) (infinity : ℕ) : Type 0 where
  pub awaits : (size bits : ℕ) → Awaits h.table 1 size bits
  pub long : h.table.length ≡ length base
  pub limit : h.table.infinity ≡ infinity
  pub at : h.table.nextentry ≡ 0
  pub entries : h.entries ≡ base

from_old : (h : Held) (old : List ℕ) (infinity : ℕ) → Stands h old infinity → From h old infinity
from_old h old infinity s =
    record {
      awaits = λ size bits. record { open_to = rw s.mark; next = s.place; alike = rw s.mark };
      long = s.long;
      limit = s.limit;
      at = s.at;
      entries = s.entries;
    }

from-reset : (n infinity : ℕ) → From (reset_to n infinity) (replicate n infinity) infinity
from-reset n infinity =
    record {
      awaits = λ size bits. record { open_to = refl; next = refl; alike = refl };
      long = sym (length-replicate n infinity);
      limit = refl;
      at = refl;
      entries = refl;
    }

module _ (new base : List ℕ) (infinity : ℕ) (b : Based new base infinity) (room : ℕ) (number : List ℕ)
    (sixteen : length number ≡ 16)
    (h : Held) (from : From h base infinity) where
  r : Width (bits_for new base) × AllReach (bits_for new base) new base
  r = reach new base infinity b

  numbers_of : (ds : List (List ℕ)) → joined ds ≡ data_of new base → numbers (bits_for new base) (joined ds)
      ≡ raws (bits_for new base) new base
  numbers_of ds e = rw e (data_numbers new base infinity b)

  run_fits : (size : ℕ) (ds : List (List ℕ)) → joined ds ≡ data_of new base → RunFits (bits_for new base) size 1 ds h
  run_fits size ds e =
      let long : length (raws (bits_for new base) new base) ≡ length new = raws-length r.0 new base r.1 in
      record {
        awaits = from.awaits size (bits_for new base);
        long = rw (numbers_of ds e, from.at, from.entries) (omega arith);
        fit = rw (numbers_of ds e, from.at, from.limit, from.entries) (raws-fit r.0 infinity new base r.1
            b.fresh.entries);
      }

  run-settles : (ds : List (List ℕ)) → joined ds ≡ data_of new base → settled_to (bits_for new base) (joined ds) h
      ≡ settled_as new infinity
  run-settles ds e =
      rw (numbers_of ds e, from.at, from.limit, from.long, from.entries, raws-added r.0 new base r.1, b.same)

  -- the run has a message, since the table has an entry
  run-some : joined [] ≡ data_of new base → ⊥
  unfolding joined numbers
  run-some e =
      let none : [] ≡ raws (bits_for new base) new base = numbers_of [] e in
      let zero-long : 0 ≡ length (raws (bits_for new base) new base) = ap length none in
      let long : length (raws (bits_for new base) new base) ≡ length new = raws-length r.0 new base r.1 in
      let some : 1 ≤ length new = (good_length_lem (length new) b.fresh.length-test).some in
      omega arith

  -- a run of parts whose data joined is the writer's
  pub run-back : (ds : List (List ℕ)) → joined ds ≡ data_of new base
      → Each Short (run_payloads 1 (length ds) (bits_for new base) ds)
      → ReadAs room h (run_from number 1 (length ds) (bits_for new base) ds) (settled_as new infinity)
  run-back [] e short = absurd (run-some e)
  run-back (d ∷ ds) e short =
      rw
      (run-settles (d ∷ ds) e)
      at
      (run-read r.0 room (suc (length ds)) number sixteen 1 d ds h (le_refl 1) (omega arith) short
      (run_fits (suc (length ds)) (d ∷ ds) e))

module _ (number : List ℕ) (sixteen : length number ≡ 16) (old new : List ℕ) (infinity size room : ℕ) (h : Held) where
  with_old : Accepted true old new infinity size → Stands h old infinity
      → ReadAs room h (messages_of number true old new infinity size) (settled_as new infinity)
  unfolding messages_of payloads_of
  with_old a stands =
      run-back
      new
      old
      infinity
      (based true old new infinity size a)
      room
      number
      sixteen
      h
      (from_old h old infinity stands)
      (parts_of size (data_of new old))
      (parts-joined size (data_of new old) a.data_size.0)
      (payloads-short true old new infinity size a.data_size.1)

  with_none : Accepted false old new infinity size → length new ≤ room
      → ReadAs room h (messages_of number false old new infinity size) (settled_as new infinity)
  unfolding messages_of payloads_of
  with_none a within =
      let base : List ℕ = base_of false old new infinity in
      let most : length new ≤ 65536 = (good_length_lem (length new) a.fresh.length-test).most in
      read_more
      (reset-taken room (length new) infinity (omega arith) h number sixteen a.fresh.length-test within
      a.fresh.limit-test)
      (run-back
      new
      base
      infinity
      (based false old new infinity size a)
      room
      number
      sixteen
      (reset_to (length new) infinity)
      (from-reset (length new) infinity)
      (parts_of size (data_of new base))
      (parts-joined size (data_of new base) a.data_size.0)
      (payloads-short false old new infinity size a.data_size.1).1)

pub round_trip : RoundTrip
round_trip number true old old_infinity new infinity size outLength room h sixteen e within stands =
    with_old number sixteen old new infinity size room h (accepted number true old old_infinity new infinity size
    outLength e) (stands refl)
round_trip number false old old_infinity new infinity size outLength room h sixteen e within stands =
    with_none number sixteen old new infinity size room h (accepted number false old old_infinity new infinity size
    outLength e) within

-- and of the bytes
module _ (number : List ℕ) (had : Bool) (old : List ℕ) (old_infinity : ℕ) (new : List ℕ) (infinity size : ℕ)
    (out : List ℕ) where
  pub written-bytes : writer_answer number had old old_infinity new infinity size (length out) ≡ 0
      → take (writer_result number had old old_infinity new infinity size out).written
      (writer_out number had old old_infinity new infinity size out)
      ≡ joined (messages_of number had old new infinity size)
  unfolding writer_result writer_out writer_bytes
  written-bytes e =
      let ms : List ℕ = joined (messages_of number had old new infinity size) in
      rw e (take-append_seam ms (drop (0 + length ms) out))

pub bytes-round_trip : BytesRoundTrip
unfolding writer_result
bytes-round_trip number had old old_infinity new infinity size out room h sixteen e within stands =
    let a : Accepted had old new infinity size = accepted number had old old_infinity new infinity size (length out) e in
    rw (
      written-bytes number had old old_infinity new infinity size out e,
      (all_whole number had old new infinity size sixteen a.data_size.1).bytes,
    )
    (round_trip number had old old_infinity new infinity size (length out) room h sixteen e within stands)
