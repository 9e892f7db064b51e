-- Little-endian numbers read at a place of any bytes: a byte that is not there counts 0. The library's numbers and
-- bytes, and ours.
use Prim.Native.Nat.{ℕ, zero, suc, ◌+◌, ◌-◌, ◌*◌, ◌/◌, ◌%◌, ◌^◌, ◌≤◌, ◌<◌}
use mathlib.Core.Path.{◌≡◌, refl, sym, ap, ◌∙◌}
use mathlib.Core.List.{List, [], ◌∷◌, ◌++◌}
use native.Mathlib.Nat.{add-zero}
use native.Mathlib.Decide.{dec_lt}
use native.Mathlib.Omega.{arith}
use mir.Syntax.{w32}
use lib.ListN.{length, get_or, take, drop, replicate, get_or-append, get_or-eq_default, length-replicate}
use lib.Seq.{get_or-drop, get_or-append_right, get_or-take, drop-drop}
use Rattle.std.specs.Int.{to_le_bytes, from_le_bytes}
use Rattle.laws.specs.Bytes.{little, little_bytes}
use Rattle.laws.specs.Parts.{copied}
use Rattle.laws.proofs.Over.{copied-whole}
use Rattle.laws.proofs.Writing.{little-four}
use Rattle.wire.specs.Header.{header_in}

-- four bytes from i on
pub four-at : (b : List ℕ) (i : ℕ)
    → little (take 4 (drop i b)) ≡ little (get_or b i 0 ∷ get_or b (i + 1) 0 ∷ get_or b (i + 2) 0 ∷ get_or b (i + 3) 0 ∷ [])
four-at b i =
    let n : little (take 4 (drop i b))
    ≡ get_or b i 0 + 256 * (get_or b (i + 1) 0 + 256 * (get_or b (i + 2) 0 + 256 * get_or b (i + 3) 0))
    = simp (get_or-drop, add-zero) at (little-four (drop i b)) in
    omega arith

-- eight bytes are two times four
two-halves : (b : List ℕ) → little (take 8 b) ≡ little (take 4 b) + 4294967296 * little (take 4 (drop 4 b))
two-halves [] = omega arith
two-halves (a ∷ []) = omega arith
two-halves (a ∷ b ∷ []) = omega arith
two-halves (a ∷ b ∷ c ∷ []) = omega arith
two-halves (a ∷ b ∷ c ∷ d ∷ r) = omega arith

pub eight-at : (b : List ℕ) (i : ℕ)
    → little (take 8 (drop i b)) ≡ little (take 4 (drop i b)) + 4294967296 * little (take 4 (drop (i + 4) b))
eight-at b i = two-halves (drop i b) ∙ ap (λ l. little (take 4 (drop i b)) + 4294967296 * little (take 4 l))
    (drop-drop 4 i b)

-- the library's bytes of a number
pub bytes-four : (n : ℕ) → to_le_bytes w32 n ≡ little_bytes 4 n
bytes-four n =
    let one : n / 256 ^ 1 % 256 ≡ n / 256 % 256 = omega arith in
    let two : n / 256 ^ 2 % 256 ≡ n / 256 / 256 % 256 = omega arith in
    let three : n / 256 ^ 3 % 256 ≡ n / 256 / 256 / 256 % 256 = omega arith in
    cc

-- bytes that are the same up to a header's end have one header
module _ (a b : List ℕ) (same : (k : ℕ) → k < 23 → get_or a k 0 ≡ get_or b k 0) where
  four-same : (i : ℕ) → i + 4 ≤ 23 → little (take 4 (drop i a)) ≡ little (take 4 (drop i b))
  four-same i h =
      let p = four-at a i in
      let q = four-at b i in
      let s0 = same i (omega arith) in
      let s1 = same (i + 1) (omega arith) in
      let s2 = same (i + 2) (omega arith) in
      let s3 = same (i + 3) (omega arith) in
      cc

  eight-same : (i : ℕ) → i + 8 ≤ 23 → little (take 8 (drop i a)) ≡ little (take 8 (drop i b))
  eight-same i h = cc (eight-at a i, eight-at b i, four-same i (omega arith), four-same (i + 4) (omega arith))

  pub header-same : header_in a ≡ header_in b
  header-same =
      cc (eight-same 0 (omega arith), eight-same 8 (omega arith), same 16 (omega arith), same 17 (omega arith), same 18 (omega arith), four-same 19 (omega arith))

pub header-front : (m : List ℕ) → header_in (take 23 m) ≡ header_in m
header-front m = header-same (take 23 m) m (λ k h. get_or-take 23 m k 0 h)

-- bytes with zeros behind them
no_byte : (n k : ℕ) → ◌≡◌ {A = ℕ} (get_or (replicate n 0) k 0) 0
no_byte zero k = refl
no_byte (suc n) zero = refl
no_byte (suc n) (suc k) = no_byte n k

padded-same : (n : ℕ) (m : List ℕ) → length m ≤ n → (k : ℕ) → get_or (copied m (replicate n 0)) k 0 ≡ get_or m k 0
padded-same n m h k =
    let room : length m ≤ length (replicate n 0) = simp length-replicate h in
    ap (λ l. get_or l k 0) (copied-whole m (replicate n 0) room) ∙ by (dec_lt k (length m))
  where
    by : Dec (k < length m) → get_or (m ++ drop (0 + length m) (replicate n 0)) k 0 ≡ get_or m k 0
    by (yes g) = get_or-append m (drop (0 + length m) (replicate n 0)) 0 k g
    by (no g) =
        get_or-append_right m (drop (0 + length m) (replicate n 0)) k 0 (omega arith)
        ∙ get_or-drop (0 + length m) (replicate n 0) (k - length m) 0
        ∙ no_byte n _
        ∙ sym (get_or-eq_default m 0 (omega arith))

pub header-padded : (m : List ℕ) → length m < 23 → header_in (copied m (replicate 23 0)) ≡ header_in m
header-padded m h = header-same (copied m (replicate 23 0)) m (λ k g. padded-same 23 m (omega arith) k)

pub four-padded : (b : List ℕ) → length b < 4 → from_le_bytes w32 (copied b (replicate 4 0)) ≡ little (take 4 b)
four-padded b h =
    let p = copied b (replicate 4 0) in
    let s0 = padded-same 4 b (omega arith) 0 in
    let s1 = padded-same 4 b (omega arith) 1 in
    let s2 = padded-same 4 b (omega arith) 2 in
    let s3 = padded-same 4 b (omega arith) 3 in
    let r = little-four b in
    omega arith
