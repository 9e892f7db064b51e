-- Every message of the writer is whole: type, TTL, Hops and payload are read back from its bytes, and its length is its
-- header's and the payload length that the header says. So messages that stand one after another are told apart.
-- Assumes nothing.
use Prim.Native.Nat.{ℕ, zero, suc, ◌+◌, ◌≤◌, ◌<◌}
use mathlib.Core.Path.{◌≡◌, refl, sym, ap}
use mathlib.Core.Bool.{Bool, true, false}
use mathlib.Core.List.{List, [], ◌∷◌, ◌++◌, map}
use native.Mathlib.Omega.{arith}
use native.Mathlib.Nat.{le_refl}
use lib.ListN.{length, take, drop, length-append, length-drop}
use lib.Seq.{take-append-le, drop-append-le, take-append_seam, drop-append_seam}
use Rattle.laws.proofs.Chunks.{Each}
use Rattle.wire.proofs.HeaderLaws.{message-length, message-kind, message-ttl, message-hops, message-size}
use Rattle.wire.proofs.HeaderLaws.{message-payload}
use Rattle.wire.specs.Header.{kind_of, ttl_of, hops_of, size_of, payload_of, route_update}
use Rattle.tablemessages.specs.Writer.{base_of, update, reset_payload, patch_payload, bits_for, data_of, parts_of}
use Rattle.tablemessages.specs.Writer.{run_from, messages_of, joined}
use Rattle.tablemessages.specs.RoundTrip.{messages_from, messages_in, run_payloads, payloads_of}
use Rattle.tablemessages.proofs.Parts.{part-sizes}

-- an update with this payload, whole
pub record Whole (payload m : List ℕ) : Type 0 where
  pub kind : kind_of m ≡ route_update
  pub ttl : ttl_of m ≡ 1
  pub hops : hops_of m ≡ 0
  pub size : size_of m ≡ length payload
  pub content : payload_of m ≡ payload
  pub long : length m ≡ 23 + size_of m

-- a payload whose length four bytes hold
abbrev pub Short : List ℕ → Type 0
Short payload = length payload < 4294967296

-- a payload that a message may have
abbrev pub Small : List ℕ → Type 0
Small payload = length payload ≤ 4096

-- the payload length in a header, where other bytes follow the message
size-before : (m more : List ℕ) → 23 ≤ length m → size_of (m ++ more) ≡ size_of m
size-before m more h =
    let past : 19 ≤ length m = omega arith in
    let four : 4 ≤ length (drop 19 m) = rw (length-drop 19 m) (omega arith) in
    rw (drop-append-le 19 m more past, take-append-le 4 (drop 19 m) more four)

module _ (number : List ℕ) (sixteen : length number ≡ 16) where
  module _ (payload : List ℕ) (short : Short payload) where
    whole_length : length (update number payload) ≡ 23 + length payload
    whole_length = message-length number route_update 1 0 payload sixteen

    pub whole : Whole payload (update number payload)
    whole =
        let size : size_of (update number payload) ≡ length payload = message-size number route_update 1 0
        payload sixteen short in
        record {
          kind = message-kind number route_update 1 0 payload sixteen;
          ttl = message-ttl number route_update 1 0 payload sixteen;
          hops = message-hops number route_update 1 0 payload sixteen;
          size = size;
          content = message-payload number route_update 1 0 payload sixteen short;
          long = rw size whole_length;
        }

    -- how far it reaches, where other bytes follow
    extent : (more : List ℕ) → 23 + size_of (update number payload ++ more) ≡ length (update number payload)
    extent more =
        let header : 23 ≤ length (update number payload) = rw whole_length (omega arith) in
        rw (size-before (update number payload) more header) (sym whole.long)

    some_bytes : (more : List ℕ) → 1 ≤ length (update number payload ++ more)
    some_bytes more = rw (length-append (update number payload) more, whole_length) (omega arith)

  -- messages one after another are told apart
  next-message : (n : ℕ) (bytes : List ℕ) → 1 ≤ length bytes
      → messages_from (suc n) bytes ≡ take (23 + size_of bytes) bytes ∷ messages_from n (drop (23 + size_of bytes) bytes)
  unfolding messages_from
  next-message n [] h = absurd (omega arith)
  next-message n (b ∷ bs) h = refl

  apart : (n : ℕ) (ps : List (List ℕ)) → Each Short ps → length (joined (map (update number) ps)) ≤ n
      → messages_from n (joined (map (update number) ps)) ≡ map (update number) ps
  unfolding joined messages_from
  apart zero [] h k = refl
  apart (suc n) [] h k = refl
  apart zero (p ∷ ps) h k =
      let some : 1 ≤ length (update number p ++ joined (map (update number) ps)) = some_bytes p h.0
      (joined (map (update number) ps)) in
      absurd (omega arith)
  apart (suc n) (p ∷ ps) h k =
      let m : List ℕ = update number p in
      let more : List ℕ = joined (map (update number) ps) in
      let long : length m + length more ≤ suc n = rw (length-append m more) at k in
      let header : length m ≡ 23 + length p = whole_length p h.0 in
      rw (
        next-message n (m ++ more) (some_bytes p h.0 more),
        extent p h.0 more,
        take-append_seam m more,
        drop-append_seam m more,
        apart n ps h.1 (omega arith),
      )

  -- every message of the writer: an update with its payload
  run-updates : (place size bits : ℕ) (ds : List (List ℕ)) → run_from number place size bits ds ≡ map (update number)
      (run_payloads place size bits ds)
  unfolding run_from run_payloads
  run-updates place size bits [] = refl
  run-updates place size bits (d ∷ ds) = ap (λ (r : List (List ℕ)). update number (patch_payload place size bits d) ∷ r)
      (run-updates (suc place) size bits ds)

  pub updates : (had : Bool) (old new : List ℕ) (infinity size : ℕ)
      → messages_of number had old new infinity size ≡ map (update number) (payloads_of had old new infinity size)
  unfolding messages_of payloads_of
  updates true old new infinity size =
      run-updates 1 (length (parts_of size (data_of new old))) (bits_for new old) (parts_of size (data_of new old))
  updates false old new infinity size =
      let base : List ℕ = base_of false old new infinity in
      ap
      (λ (r : List (List ℕ)). update number (reset_payload (length new) infinity) ∷ r)
      (run-updates 1 (length (parts_of size (data_of new base))) (bits_for new base) (parts_of size (data_of new base)))

  each-whole : (ps : List (List ℕ)) → Each Short ps → Each (λ m. Whole (payload_of m) m) (map (update number) ps)
  each-whole [] h = tt
  each-whole (p ∷ ps) h = (rw (whole p h.0).content (whole p h.0), each-whole ps h.1)

  payloads-back : (ps : List (List ℕ)) → Each Short ps → map payload_of (map (update number) ps) ≡ ps
  payloads-back [] h = refl
  payloads-back (p ∷ ps) h = rw ((whole p h.0).content, payloads-back ps h.1)

-- payloads are small where the data size is, and so they are short
run_small : (place size bits limit : ℕ) (ds : List (List ℕ)) → limit ≤ 4091 → Each (λ d. length d ≤ limit) ds
    → Each Small (run_payloads place size bits ds)
unfolding run_payloads
run_small place size bits limit [] k h = tt
run_small place size bits limit (d ∷ ds) k h =
    let here : length d ≤ limit = h.0 in
    (omega arith, run_small (suc place) size bits limit ds k h.1)

pub payloads-small : (had : Bool) (old new : List ℕ) (infinity size : ℕ) → size ≤ 4091 → Each Small
    (payloads_of had old new infinity size)
unfolding payloads_of
payloads-small true old new infinity size k =
    run_small 1 (length (parts_of size (data_of new old))) (bits_for new old) size (parts_of size (data_of new old)) k
    (part-sizes (length (data_of new old)) size (data_of new old))
payloads-small false old new infinity size k =
    let base : List ℕ = base_of false old new infinity in (
      omega arith,
      run_small 1 (length (parts_of size (data_of new base))) (bits_for new base) size (parts_of size (data_of new base)) k
          (part-sizes (length (data_of new base)) size (data_of new base)),
    )

short_of_small : (ps : List (List ℕ)) → Each Small ps → Each Short ps
short_of_small [] h = tt
short_of_small (p ∷ ps) h = let here : length p ≤ 4096 = h.0 in (omega arith, short_of_small ps h.1)

pub payloads-short : (had : Bool) (old new : List ℕ) (infinity size : ℕ) → size ≤ 4091 → Each Short
    (payloads_of had old new infinity size)
payloads-short had old new infinity size k = short_of_small (payloads_of had old new infinity size)
    (payloads-small had old new infinity size k)

-- every message is whole, their payloads are those written, and from the bytes alone they are told apart
pub record AllWhole (number : List ℕ) (had : Bool) (old new : List ℕ) (infinity size : ℕ) : Type 0 where
  pub each : Each (λ m. Whole (payload_of m) m) (messages_of number had old new infinity size)
  pub payloads : map payload_of (messages_of number had old new infinity size) ≡ payloads_of had old new infinity size
  pub bytes : messages_in (joined (messages_of number had old new infinity size)) ≡ messages_of number had
      old new infinity size

pub all_whole : (number : List ℕ) (had : Bool) (old new : List ℕ) (infinity size : ℕ) → length number ≡ 16 → size ≤ 4091
    → AllWhole number had old new infinity size
all_whole number had old new infinity size sixteen k =
    let ps : List (List ℕ) = payloads_of had old new infinity size in
    let short : Each Short ps = payloads-short had old new infinity size k in
    record {
      each = rw (updates number sixteen had old new infinity size) (each-whole number sixteen ps short);
      payloads = rw (updates number sixteen had old new infinity size) (payloads-back number sixteen ps short);
      bytes =
          rw
          (updates number sixteen had old new infinity size)
          (apart number sixteen (length (joined (map (update number) ps))) ps short
          (le_refl (length (joined (map (update number) ps)))));
    }
