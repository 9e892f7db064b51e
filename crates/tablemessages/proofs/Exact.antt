-- What the writer's definitions come to, in plain numbers: every message is whole, 4 bits exactly where every
-- difference fits, as many messages as the data asks for, and each but the last full.
use Prim.Native.Nat.{ℕ, zero, suc, ◌+◌, ◌-◌, ◌*◌, ◌/◌, ◌≤◌, ◌<◌}
use mathlib.Core.Path.{◌≡◌, refl, sym, ap, ◌∙◌}
use mathlib.Core.Logic.{◌↔◌}
use mathlib.Core.Bool.{Bool, true, false, cond, and-eq-true_iff}
use mathlib.Core.List.{List, [], ◌∷◌, ◌++◌}
use native.Mathlib.Nat.{zero-add}
use native.Mathlib.Omega.{arith}
use lib.Dec.{leb}
use lib.ListN.{length, get_or, drop, replicate, length-take, length-drop}
use borrow.Author.Tests.{leb-true, le-leb}
use Rattle.wire.specs.Header.{number_of, kind_of, ttl_of, hops_of, size_of, payload_of}
use Rattle.wire.proofs.HeaderLaws.{message-length, message-number, message-kind, message-ttl, message-hops}
use Rattle.wire.proofs.HeaderLaws.{message-size, message-payload}
use Rattle.tables.specs.Patch.{packed}
use Rattle.tablemessages.specs.Writer.{all_near, bits_for, raws, data_of, chunks, parts_of, update, reset_payload}
use Rattle.tablemessages.specs.Writer.{patch_payload, run_from, run_of}
use Rattle.tablemessages.specs.Writer.{writer_bytes, writer_out}
use Rattle.tablemessages.specs.Steps.{data_length}
use Rattle.tablemessages.proofs.DataLaws.{near-at, data_length_lem}
use Rattle.tablemessages.proofs.RunLaws.{parts-count}

-- a whole update: as long as its header says, with the number, type, TTL and Hops of an update
pub record Whole (number m : List ℕ) : Type 0 where
  pub long : length m ≡ 23 + size_of m
  pub carries : length (payload_of m) ≡ size_of m
  pub numbered : number_of m ≡ number
  pub kind : kind_of m ≡ 0x30
  pub ttl : ttl_of m ≡ 1
  pub hops : hops_of m ≡ 0

update-whole : (number payload : List ℕ) → length number ≡ 16 → length payload < 4294967296 → Whole number
    (update number payload)
update-whole number payload h k =
    let s = message-size number 0x30 1 0 payload h k in
    record {
      long = message-length number 0x30 1 0 payload h ∙ ap (λ n. 23 + n) (sym s);
      carries = ap length (message-payload number 0x30 1 0 payload h k) ∙ sym s;
      numbered = message-number number 0x30 1 0 payload h;
      kind = message-kind number 0x30 1 0 payload h;
      ttl = message-ttl number 0x30 1 0 payload h;
      hops = message-hops number 0x30 1 0 payload h;
    }

pub reset-whole : (number : List ℕ) (n infinity : ℕ) → length number ≡ 16 → Whole number
    (update number (reset_payload n infinity))
reset-whole number n infinity h = update-whole number (reset_payload n infinity) h (omega arith)

-- message i of a run carries part i of the data
module _ (number : List ℕ) (size bits : ℕ) where
  pub run_at : (place : ℕ) (ds : List (List ℕ)) (i : ℕ) → i < length ds
      → get_or (run_from number place size bits ds) i [] ≡ update number
      (patch_payload (place + i) size bits (get_or ds i []))
  unfolding run_from
  run_at place [] i h = absurd (omega arith)
  run_at place (d ∷ ds) zero h = let e : place ≡ place + 0 = omega arith in
      ap (λ p. update number (patch_payload p size bits d)) e
  run_at place (d ∷ ds) (suc i) h =
      let e : suc place + i ≡ place + suc i = omega arith in
      run_at (suc place) ds i (omega arith) ∙ ap (λ p. update number (patch_payload p size bits (get_or ds i []))) e

  pub run-count : (place : ℕ) (ds : List (List ℕ)) → length (run_from number place size bits ds) ≡ length ds
  unfolding run_from
  run-count place [] = refl
  run-count place (d ∷ ds) = ap suc (run-count (suc place) ds)

-- the parts of the data: none is empty nor longer than `size`, and each but the last is full
module _ (size : ℕ) (some : 1 ≤ size) where
  more_data : (n : ℕ) (d : List ℕ) → 0 < length (chunks n size d) → 0 < length d
  unfolding chunks
  more_data zero d h = absurd (omega arith)
  more_data (suc n) [] h = absurd (omega arith)
  more_data (suc n) (b ∷ bs) h = omega arith

  pub part-bounds : (n : ℕ) (d : List ℕ) (i : ℕ) → i < length (chunks n size d)
      → (1 ≤ length (get_or (chunks n size d) i [])) × (length (get_or (chunks n size d) i []) ≤ size)
  unfolding chunks
  part-bounds zero d i h = absurd (omega arith)
  part-bounds (suc n) [] i h = absurd (omega arith)
  part-bounds (suc n) (b ∷ bs) zero h = let l = length-take size (b ∷ bs) in (omega arith, omega arith)
  part-bounds (suc n) (b ∷ bs) (suc i) h = part-bounds n (drop size (b ∷ bs)) i (omega arith)

  pub part-full : (n : ℕ) (d : List ℕ) (i : ℕ) → i + 1 < length (chunks n size d) → length (get_or (chunks n size d) i [])
      ≡ size
  unfolding chunks
  part-full zero d i h = absurd (omega arith)
  part-full (suc n) [] i h = absurd (omega arith)
  part-full (suc n) (b ∷ bs) zero h =
      omega (
        arith,
        length-take size (b ∷ bs),
        length-drop size (b ∷ bs),
        more_data n (drop size (b ∷ bs)) (omega arith),
      )
  part-full (suc n) (b ∷ bs) (suc i) h = part-full n (drop size (b ∷ bs)) i (omega arith)

-- so every message of a run is whole, and the run has as many as its bytes of data ask for
module _ (number new base : List ℕ) (size : ℕ) (sixteen : length number ≡ 16) (some : 1 ≤ size)
    (most : size ≤ 4091) where
  pub run-whole : (i : ℕ) → i < length (run_of number new base size)
      → Whole number (get_or (run_of number new base size) i [])
  run-whole i h =
      let d = data_of new base in
      let ds = parts_of size d in
      let k : i < length ds = omega (arith, run-count number (length ds) (bits_for new base) 1 ds) in
      rw (run_at number (length ds) (bits_for new base) 1 ds i k)
      (update-whole number (patch_payload (1 + i) (length ds) (bits_for new base) (get_or ds i [])) sixteen
      (omega (arith, (part-bounds size some (length d) d i k).1)))

  -- the bytes of data are the entries times the bits, by 8; the messages are those by `size`, rounded up
  pub data_bytes : length base ≡ length new → length (data_of new base) ≡ length new * bits_for new base / 8
  unfolding data_of
  data_bytes like = data_length_lem new base like (all_near new base) ∙ go (all_near new base)
    where
      go : (t : Bool) → data_length t (length new) ≡ length new * cond t 4 8 / 8
      go true = omega arith
      go false = omega arith

  pub run-messages : length base ≡ length new → length (run_of number new base size)
      ≡ (length new * bits_for new base / 8 + size - 1) / size
  run-messages like =
      let d = data_of new base in
      run-count number (length (parts_of size d)) (bits_for new base) 1 (parts_of size d)
      ∙ parts-count size some (length d) d (omega arith)
      ∙ ap (λ n. (n + size - 1) / size) (data_bytes like)

-- 65,536 entries at 8 bits: 256 messages of 257 bytes, which are too many, and 255 of 258
pub largest : (d : List ℕ) → length d ≡ 65536 → (length (parts_of 257 d) ≡ 256) × (length (parts_of 258 d) ≡ 255)
largest d e = (
  parts-count 257 (omega arith) (length d) d (omega arith) ∙ ap (λ n. (n + 257 - 1) / 257) e,
  parts-count 258 (omega arith) (length d) d (omega arith) ∙ ap (λ n. (n + 258 - 1) / 258) e,
)

-- 4 bits exactly where every difference lies in -8..7, else 8
all-near_of : (es bs : List ℕ) → length bs ≡ length es
    → ((i : ℕ) → i < length es → (get_or es i 0 ≤ get_or bs i 0 + 7) × (get_or bs i 0 ≤ get_or es i 0 + 8))
    → all_near es bs ≡ true
unfolding all_near
all-near_of [] bs h f = refl
all-near_of (e ∷ es) [] h f = refl
all-near_of (e ∷ es) (b ∷ bs) h f =
    let k = f 0 (omega arith) in
    rw (le-leb e (b + 7) k.0, le-leb b (e + 8) k.1)
    (all-near_of es bs (omega arith) (λ i j. f (suc i) (omega arith)))

four-is-near : (t : Bool) → ◌≡◌ {A = ℕ} (cond t 4 8) 4 → t ≡ true
four-is-near true e = refl
four-is-near false e = absurd (omega arith)

pub four-exactly : (new base : List ℕ) → length base ≡ length new
    → (bits_for new base ≡ 4) ↔ ((i : ℕ) → i < length new → (get_or new i 0 ≤ get_or base i 0 + 7)
    × (get_or base i 0 ≤ get_or new i 0 + 8))
four-exactly new base like = (
  λ e i h.
      let k = near-at new base i like h (four-is-near (all_near new base) e) in
      let b = (and-eq-true_iff (leb (get_or new i 0) (get_or base i 0 + 7)) (leb (get_or base i 0) (get_or new i 0 + 8))).0 k in
      (leb-true (get_or new i 0) (get_or base i 0 + 7) b.0, leb-true (get_or base i 0) (get_or new i 0 + 8) b.1),
  λ f. ap (λ t. cond t 4 8) (all-near_of new base like f),
)

pub else_eight : (new base : List ℕ) → (bits_for new base ≡ 4 → ⊥) → bits_for new base ≡ 8
else_eight new base = go (all_near new base)
  where
    go : (t : Bool) → (◌≡◌ {A = ℕ} (cond t 4 8) 4 → ⊥) → ◌≡◌ {A = ℕ} (cond t 4 8) 8
    go true h = absurd (h refl)
    go false h = refl

-- an unchanged table: a full run of zeros
raws-same : (bits : ℕ) (es : List ℕ) → raws bits es es ≡ replicate (length es) 0
unfolding raws
raws-same bits [] = refl
raws-same bits (e ∷ es) = rw (le-leb e e (omega arith), raws-same bits es) (let z : e - e ≡ 0 = omega arith in
    ap (λ x. x ∷ replicate (length es) 0) z)

packed-zeros : (n : ℕ) → packed 4 (replicate n 0) ≡ replicate (n / 2) 0
unfolding packed
packed-zeros zero = refl
packed-zeros (suc zero) = refl
packed-zeros (suc (suc n)) = let e : suc (suc n) / 2 ≡ suc (n / 2) = omega arith in ap (λ l. 0 ∷ l) (packed-zeros n)
    ∙ sym (ap (λ k. replicate k 0) e)

pub unchanged : (es : List ℕ) → data_of es es ≡ replicate (length es / 2) 0
unfolding data_of
unchanged es =
    let a : all_near es es ≡ true = all-near_of es es refl (λ i h. (omega arith, omega arith)) in
    rw a (ap (packed 4) (raws-same 4 es) ∙ packed-zeros (length es))

-- the output: the bytes written, and what stood behind them
pub out_exact : (number : List ℕ) (had : Bool) (old : List ℕ) (old_infinity : ℕ) (new : List ℕ)
    (infinity size : ℕ) (out : List ℕ)
    → writer_out number had old old_infinity new infinity size out
    ≡ writer_bytes number had old old_infinity new infinity size out
    ++ drop (length (writer_bytes number had old old_infinity new infinity size out)) out
unfolding writer_out
out_exact number had old old_infinity new infinity size out =
    let b = writer_bytes number had old old_infinity new infinity size out in
    ap (λ n. b ++ drop n out) (zero-add (length b))
