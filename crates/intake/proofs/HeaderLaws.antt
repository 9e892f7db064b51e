-- A header is read off the first 23 bytes alone, and zeros behind bytes count nothing; and what two copies leave of an
-- area of zeros.
-- Assumes nothing.
use Prim.Native.Nat.{ℕ, zero, suc, ◌+◌, ◌-◌, ◌≤◌, ◌<◌, min}
use native.Mathlib.Nat.{zero-add}
use native.Mathlib.Omega.{arith}
use mathlib.Core.Path.{◌≡◌, refl, sym, ap, ap₂, ◌∙◌}
use mathlib.Core.List.{List, [], ◌∷◌, ◌++◌, append_assoc, append-nil}
use lib.ListN.{length, get_or, take, drop, replicate, length-take, length-replicate}
use lib.ListN.{replicate-append-replicate, drop_of_length-le}
use lib.Seq.{get_or-take, take-take, take-append-le, take-append-add, take_at, drop_at, take_all, length-take-le}
use borrow.Rule.Slice.PartMut.{put_mid}
use Rattle.laws.specs.Bytes.{little}
use Rattle.laws.specs.Parts.{copied}
use Rattle.laws.proofs.Over.{copied-whole}
use Rattle.laws.proofs.Writing.{take_min}
use Rattle.wire.specs.Header.{header_in}
use Rattle.wire.proofs.NumberLaws.{four-at, eight-at}

-- two lists whose first 23 bytes are the same, a byte that is not there counting 0
module _ (a b : List ℕ) (same : (i : ℕ) → i < 23 → get_or a i 0 ≡ get_or b i 0) where
  four_same : (i : ℕ) → i < 20 → little (take 4 (drop i a)) ≡ little (take 4 (drop i b))
  four_same i h =
      omega (
        arith,
        four-at a i,
        four-at b i,
        same i (omega arith),
        same (i + 1) (omega arith),
        same (i + 2) (omega arith),
        same (i + 3) (omega arith),
      )

  eight-same : (i : ℕ) → i < 16 → little (take 8 (drop i a)) ≡ little (take 8 (drop i b))
  eight-same i h =
      omega (arith, eight-at a i, eight-at b i, four_same i (omega arith), four_same (i + 4) (omega arith))

  header-same : header_in a ≡ header_in b
  header-same =
      cc (
        eight-same 0 (omega arith),
        eight-same 8 (omega arith),
        same 16 (omega arith),
        same 17 (omega arith),
        same 18 (omega arith),
        four_same 19 (omega arith),
      )

-- the front of bytes has their header
pub header-front : (n : ℕ) (b : List ℕ) → 23 ≤ n → header_in (take n b) ≡ header_in b
header-front n b h = header-same (take n b) b (λ i k. get_or-take n b i 0 (omega arith))

-- and so has the front with anything behind it
pub header-ahead : (count : ℕ) (held bytes : List ℕ) → 23 ≤ count → 23 ≤ length held
    → header_in (take count held ++ bytes) ≡ header_in held
header-ahead count held bytes h g =
    let long : 23 ≤ length (take count held) = rw (length-take count held) (omega arith) in
    sym (header-front 23 (take count held ++ bytes) (omega arith))
    ∙ ap header_in (take-append-le 23 (take count held) bytes long ∙ take-take 23 count held h)
    ∙ header-front 23 held (omega arith)

-- so many zeros, which behind bytes leave it
abbrev zeros : ℕ → List ℕ
zeros n = replicate n 0

zeros-length : (n : ℕ) → length (zeros n) ≡ n
zeros-length n = length-replicate n 0

get_or-zeros : (b : List ℕ) (m i : ℕ) → get_or (b ++ zeros m) i 0 ≡ get_or b i 0
get_or-zeros [] zero i = refl
get_or-zeros [] (suc m) zero = refl
get_or-zeros [] (suc m) (suc i) = get_or-zeros [] m i
get_or-zeros (x ∷ b) m zero = refl
get_or-zeros (x ∷ b) m (suc i) = get_or-zeros b m i

pub header_padded : (b : List ℕ) (m : ℕ) → header_in (take 23 (b ++ replicate m 0)) ≡ header_in b
header_padded b m =
    header-front 23 (b ++ zeros m) (omega arith) ∙ header-same (b ++ zeros m) b (λ i _. get_or-zeros b m i)

-- zeros in two parts
zeros-split : (k m : ℕ) → k ≤ m → zeros m ≡ zeros k ++ zeros (m - k)
zeros-split k m h =
    let e : m ≡ k + (m - k) = omega arith in ap zeros e ∙ sym (replicate-append-replicate k (m - k) 0)

-- bytes copied onto zeros: those that have room, and zeros behind them
zeros-behind : (k m : ℕ) (bs : List ℕ) → k ≤ m
    → take k bs ++ drop (length (take k bs)) (zeros k) ≡ take k (bs ++ zeros m)
zeros-behind zero m bs h = refl
zeros-behind (suc k) m [] h =
    sym (ap (take (suc k)) (zeros-split (suc k) m h)
    ∙ take_at (zeros (suc k)) (zeros (m - suc k)) (suc k) (zeros-length (suc k)))
zeros-behind (suc k) m (b ∷ bs) h = ap (◌∷◌ b) (zeros-behind k m bs (omega arith))

copied-zeros : (k m : ℕ) (bs : List ℕ) → k ≤ m → copied bs (zeros k) ≡ take k (bs ++ zeros m)
unfolding copied
copied-zeros k m bs h = simp (zeros-length, zero-add) (zeros-behind k m bs h)

-- held bytes copied onto w zeros, and then those brought onto the zeros that are left
module _ (w : ℕ) (held bytes : List ℕ) (count n : ℕ) (e : n ≡ min count (length held)) (room : n < w)
    (first rest : List ℕ) (ef : first ≡ copied (take n held) (replicate w 0))
    (er : rest ≡ copied bytes (take (w - n) (drop n first))) where
  abbrev p : List ℕ
  p = take n held

  long : length p ≡ n
  long = length-take-le n held (omega arith)

  ahead : first ≡ p ++ zeros (w - n)
  ahead =
      ef ∙ copied-whole p (zeros w) (rw (long, zeros-length w) (omega arith))
      ∙ ap (λ l. p ++ l)
      (ap₂ drop (zero-add (length p) ∙ long) (zeros-split n w (omega arith))
      ∙ drop_at (zeros n) (zeros (w - n)) n (zeros-length n))

  left : drop n first ≡ zeros (w - n)
  left = ap (drop n) ahead ∙ drop_at p (zeros (w - n)) n long

  short : length (drop n first) ≤ w - n
  short = rw (left, zeros-length (w - n)) (omega arith)

  brought : rest ++ drop (w - n) (drop n first) ≡ take (w - n) (bytes ++ zeros w)
  brought =
      ap (λ l. rest ++ l) (drop_of_length-le (drop n first) short) ∙ append-nil rest ∙ er
      ∙ ap (copied bytes) (take_all (w - n) (drop n first) short ∙ left)
      ∙ copied-zeros (w - n) w bytes (omega arith)

  pub two_copies : put_mid n (w - n) first rest ≡ take w ((take count held ++ bytes) ++ replicate w 0)
  two_copies =
      let parts : length p + (w - n) ≡ w = omega (arith, long) in
      ap₂ ◌++◌ (ap (take n) ahead ∙ take_at p (zeros (w - n)) n long) brought
      ∙ sym (take-append-add p (bytes ++ zeros w) (w - n))
      ∙ ap₂ take parts (sym (append_assoc p bytes (zeros w)) ∙ ap (λ l. (l ++ bytes) ++ zeros w)
      (take_min count n held e))
