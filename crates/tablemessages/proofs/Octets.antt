-- What the writer writes are bytes, and output keeps its length. Assumes nothing.
use Prim.Native.Nat.{ℕ, zero, suc, ◌+◌, ◌≤◌, ◌<◌}
use mathlib.Core.Path.{◌≡◌, refl}
use mathlib.Core.Bool.{Bool, true, false, cond}
use mathlib.Core.List.{List, [], ◌∷◌, ◌++◌}
use native.Mathlib.Omega.{arith}
use lib.Dec.{eqb}
use borrow.Author.Tests.{eqb-true}
use lib.ListN.{length, drop}
use Rattle.laws.specs.Bytes.{little_bytes}
use Rattle.laws.specs.Parts.{over}
use Rattle.laws.proofs.Over.{over-length}
use Rattle.laws.proofs.Chunks.{Each, each_append, each_take, each-drop, little-bytes}
use Rattle.wire.specs.Header.{message, route_update}
use Rattle.tables.proofs.PatchFacts.{Width, four, eight, Below, packed-bytes}
use Rattle.tablemessages.specs.Writer.{base_of, bits_for, raws, data_of, chunks, parts_of, run_of, update}
use Rattle.tablemessages.specs.Writer.{reset_payload, patch_payload, run_from}
use Rattle.tablemessages.specs.Writer.{messages_of, joined, writer_answer, writer_bytes, writer_out}
use Rattle.tablemessages.proofs.Differences.{AllReach, raws-below}
use Rattle.tablemessages.proofs.Accepted.{Accepted, accepted, room-passed, Based, based, reach}

abbrev pub Bytes : List ℕ → Type 0
Bytes bs = Below 256 bs

-- bytes in parts and joined
parts-bytes : (n size : ℕ) (d : List ℕ) → Bytes d → Each Bytes (chunks n size d)
unfolding chunks
parts-bytes zero size d h = tt
parts-bytes (suc n) size [] h = tt
parts-bytes (suc n) size (b ∷ bs) h = (
  each_take (λ b. b < 256) size (b ∷ bs) h,
  parts-bytes n size (drop size (b ∷ bs)) (each-drop (λ b. b < 256) size (b ∷ bs) h),
)

joined_bytes : (ms : List (List ℕ)) → Each Bytes ms → Bytes (joined ms)
unfolding joined
joined_bytes [] h = tt
joined_bytes (m ∷ ms) h = each_append (λ b. b < 256) m (joined ms) h.0 (joined_bytes ms h.1)

module _ (number : List ℕ) (bytes : Bytes number) where
  update-bytes : (payload : List ℕ) → Bytes payload → Bytes (update number payload)
  unfolding message
  update-bytes payload h =
      each_append
      (λ b. b < 256)
      (number ++ (route_update ∷ 1 ∷ 0 ∷ little_bytes 4 (length payload)))
      payload
      (each_append
      (λ b. b < 256)
      number
      (route_update ∷ 1 ∷ 0 ∷ little_bytes 4 (length payload))
      bytes
      (omega arith, (omega arith, (omega arith, little-bytes 4 (length payload)))))
      h

  reset-bytes : (n infinity : ℕ) → infinity ≤ 127 → Bytes (update number (reset_payload n infinity))
  reset-bytes n infinity h =
      update-bytes
      (reset_payload n infinity)
      (omega arith, each_append (λ b. b < 256) (little_bytes 4 n) (infinity ∷ []) (little-bytes 4 n) (omega arith, tt))

  run-bytes : (place size bits : ℕ) (ds : List (List ℕ)) → place + length ds ≤ suc size
      → size ≤ 255 → bits ≤ 8 → Each Bytes ds
      → Each Bytes (run_from number place size bits ds)
  unfolding run_from
  run-bytes place size bits [] p s b h = tt
  run-bytes place size bits (d ∷ ds) p s b h = (
    update-bytes (patch_payload place size bits d)
        (omega arith, (omega arith, (omega arith, (omega arith, (omega arith, h.0))))),
    run-bytes (suc place) size bits ds (omega arith) s b h.1,
  )

small-bits : {bits : ℕ} → Width bits → bits ≤ 8
small-bits four = omega arith
small-bits eight = omega arith

data_bytes : (new base : List ℕ) (infinity : ℕ) → Based new base infinity → Bytes (data_of new base)
unfolding data_of
data_bytes new base infinity b =
    let r : Width (bits_for new base) × AllReach (bits_for new base) new base = reach new base infinity b in
    packed-bytes r.0 (raws (bits_for new base) new base) (raws-below r.0 new base r.1)

-- the messages of an accepted table are bytes: each place and the run's size are at most 255
messages-bytes : (number : List ℕ) → Bytes number → (had : Bool) (old new : List ℕ) (infinity size : ℕ)
    → Accepted had old new infinity size
    → Each Bytes (messages_of number had old new infinity size)
unfolding messages_of
messages-bytes number bytes had old new infinity size a = go had a
  where
    run : (base : List ℕ) → Based new base infinity → length (parts_of size (data_of new base)) ≤ 255 → Each Bytes
        (run_of number new base size)
    run base b short =
        run-bytes
        number
        bytes
        1
        (length (parts_of size (data_of new base)))
        (bits_for new base)
        (parts_of size (data_of new base))
        (omega arith)
        short
        (small-bits (reach new base infinity b).0)
        (parts-bytes (length (data_of new base)) size (data_of new base) (data_bytes new base infinity b))

    go : (t : Bool) → Accepted t old new infinity size → Each Bytes (messages_of number t old new infinity size)
    go true k = run old (based true old new infinity size k) k.run
    go false k = (
      reset-bytes number bytes (length new) infinity k.fresh.limit,
      run (base_of false old new infinity) (based false old new infinity size k) k.run,
    )

pub written-bytes : (number : List ℕ) → Bytes number → (had : Bool) (old : List ℕ) (old_infinity : ℕ) (new : List ℕ)
    (infinity size outLength : ℕ)
    → writer_answer number had old old_infinity new infinity size outLength ≡ 0
    → Bytes (joined (messages_of number had old new infinity size))
written-bytes number bytes had old old_infinity new infinity size outLength e =
    joined_bytes
    (messages_of number had old new infinity size)
    (messages-bytes number bytes had old new infinity size
    (accepted number had old old_infinity new infinity size outLength e))

-- output keeps its length, whatever is answered
module _ (number : List ℕ) (had : Bool) (old : List ℕ) (old_infinity : ℕ) (new : List ℕ) (infinity size : ℕ)
    (out : List ℕ) where
  pub out-length : length (writer_out number had old old_infinity new infinity size out) ≡ length out
  unfolding writer_out writer_bytes
  out-length = go (eqb answer 0) refl
    where
      answer : ℕ
      answer = writer_answer number had old old_infinity new infinity size (length out)

      bytes : List ℕ
      bytes = joined (messages_of number had old new infinity size)

      go : (t : Bool) → eqb answer 0 ≡ t → length (over 0 (cond t bytes []) out) ≡ length out
      go true q =
          let room : length bytes ≤ length out = room-passed number had old old_infinity new infinity size (length out)
          (eqb-true answer 0 q) in
          over-length 0 bytes out (omega arith)
      go false q = refl
