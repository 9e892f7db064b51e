-- Laws of chunks in lower case: letters told by the highest bits of their bytes, and chunks that are joined before
-- they are folded.
use mathlib.Core.Path.{◌≡◌, refl, sym, ap, ap₂, ◌∙◌}
use mathlib.Core.List.{List, [], ◌∷◌, map}
use Prim.Native.Nat.{ℕ, zero, suc, ◌+◌, ◌-◌, ◌*◌, ◌/◌, ◌%◌, ◌^◌, ◌≤◌, ◌<◌}
use native.Mathlib.Nat.{lt_of_le_of_lt}
use native.Mathlib.Omega.{arith}
use lib.Dec.{eqb}
use lib.ListN.{length, get_or, take, drop}
use lib.Seq.{get_or-drop}
use lib.Bits.{bit_and, bit_or, bit_xor, and_block, or_block, xor_block, and_high, xor_shr, and_le_l, and_le_r, or_add_and}
use lib.Bits.{or_lt, or_shifted_r, xor_lt}
use borrow.Author.Tests.{eqb-true}
use Rattle.laws.specs.Bytes.{little, little_bytes, xor}
use Rattle.laws.proofs.Chunks.{Each, little-bytes}
use Rattle.laws.proofs.Writing.{little_of_bytes}
use Rattle.laws.proofs.Bits.{xor_regroup, xor-swap, xor_is, xor-none}
use Rattle.ascii.specs.Text.{lower}
use Rattle.ascii.proofs.Letters.{lower-byte}
use Rattle.keywords.specs.Hash.{xor32, word}
use Rattle.keywords.specs.Folding.{highest, lowered, folded}
use Rattle.keywords.proofs.HashLaws.{xor32-is}
use Rattle.keywords.proofs.Bytewise.{Byte, bytewise, difference, quarter, same-on, all_to, below, and_xor}

-- ---- the code's own forms

-- four bytes put together by pairs, each above those before it
pub four_or : (a b c d : ℕ) → a < 256 → b < 256 → c < 256 → d < 256
    → bit_or (bit_or a (b * 2 ^ 8 % 2 ^ 32)) (bit_or (c * 2 ^ 16 % 2 ^ 32) (d * 2 ^ 24 % 2 ^ 32))
    ≡ little (a ∷ b ∷ c ∷ d ∷ [])
four_or a b c d ha hb hc hd =
    let pb : b * 2 ^ 8 % 2 ^ 32 ≡ b * 2 ^ 8 = omega arith in
    let pc : c * 2 ^ 16 % 2 ^ 32 ≡ c * 2 ^ 16 = omega arith in
    let pd : d * 2 ^ 24 % 2 ^ 32 ≡ d * 2 ^ 24 = omega arith in
    let above : d * 2 ^ 24 + c * 2 ^ 16 ≡ (d * 256 + c) * 2 ^ 16 = omega arith in
    ap₂ bit_or (ap (bit_or a) pb ∙ or_shifted_r b 8 a ha)
    (ap₂ bit_or pc pd ∙ or_shifted_r d 24 (c * 2 ^ 16) (omega arith) ∙ above)
    ∙ or_shifted_r (d * 256 + c) 16 (b * 2 ^ 8 + a) (omega arith)
    ∙ omega arith

-- a number with some bits set is no less than those bits
pub guarded : (n m : ℕ) → m ≤ bit_or n m
guarded n m = let e = or_add_and n m in let l = and_le_l n m in omega arith

quarter-below : (m : ℕ) → bit_and m highest / 4 < 2 ^ 32
quarter-below m = let l = and_le_r m highest in omega arith

pub folded-is : (n m : ℕ) → n < 2 ^ 32 → folded n m ≡ bit_xor n (bit_and m highest / 4)
unfolding folded
folded-is n m h = xor32-is n (bit_and m highest / 4) h (quarter-below m)

-- ---- one byte

-- with the highest bit set, a byte has it still after 65 is taken off if its other bits are A or more, and after 91 is
-- taken off if they are more than Z; so the highest bits of the two differ where the other bits are a letter's
abbrev apart : ℕ → ℕ
apart b = bit_xor (bit_or b 128 - 65) (bit_or b 128 - 91)

-- as the code marks a byte: the highest bit is set for a letter A to Z, and not for a byte that had it set itself
abbrev mark : ℕ → ℕ
mark b = bit_and (apart b) (bit_xor b 255)

-- the bit that the mark says is to be changed
abbrev change : ℕ → ℕ
change b = bit_and (mark b) 128 / 4

-- all 256 of them, by computation
folds : (b : ℕ) → b < 256 → bit_xor b (change b) ≡ lower b
unfolding lower all_to
folds b h = eqb-true _ _ (below (λ n. eqb (bit_xor n (change n)) (lower n)) 256 b refl h)

self : Byte (λ b. b)
self b h = h

plain : (n : ℕ) → n < 256 → Byte (λ b. n)
plain n l b h = l

less-byte : (n : ℕ) → Byte (λ b. bit_or b 128 - n)
less-byte n b h = let l = or_lt 8 b 128 h (omega arith) in omega arith

apart-byte : Byte apart
apart-byte b h = xor_lt 8 (bit_or b 128 - 65) (bit_or b 128 - 91) (less-byte 65 b h) (less-byte 91 b h)

mark-byte : Byte mark
mark-byte b h = lt_of_le_of_lt (and_le_l (apart b) (bit_xor b 255)) (apart-byte b h)

change-high : (b : ℕ) → bit_and (mark b) 128 ≡ mark b / 128 % 2 * 128
change-high b = and_high (mark b) 1 7

change-byte : Byte change
change-byte b h = let e = change-high b in omega arith

-- ---- the bytes of a chunk

module _ (bs : List ℕ) (w : Each (λ b. b < 256) bs) where
  -- a number of as many bytes, each n
  all : ℕ → ℕ
  all n = little (map (λ b. n) bs)

  x : ℕ
  x = little (map (λ b. b) bs)

  less-high : (n : ℕ) → n ≤ 128 → bit_or x (all 128) - all n ≡ little (map (λ b. bit_or b 128 - n) bs)
  unfolding x all
  less-high n l =
      ap (λ y. y - all n) (bytewise bit_or or_block refl (λ b. b) (λ b. 128) self (plain 128 (omega arith)) bs w)
      ∙ difference (λ b. bit_or b 128) n bs (λ b. let g = guarded b 128 in omega arith)

  marks : bit_and (bit_xor (bit_or x (all 128) - all 65) (bit_or x (all 128) - all 91)) (bit_xor x (all 255))
      ≡ little (map mark bs)
  unfolding x all
  marks =
      ap₂ bit_and
      (ap₂ bit_xor (less-high 65 (omega arith)) (less-high 91 (omega arith))
      ∙ bytewise bit_xor xor_block refl (λ b. bit_or b 128 - 65) (λ b. bit_or b 128 - 91) (less-byte 65) (less-byte 91)
      bs w)
      (bytewise bit_xor xor_block refl (λ b. b) (λ b. 255) self (plain 255 (omega arith)) bs w)
      ∙ bytewise bit_and and_block refl apart (λ b. bit_xor b 255) apart-byte
      (λ b h. xor_lt 8 b 255 h (omega arith)) bs w

  changes : bit_and (little (map mark bs)) (all 128) / 4 ≡ little (map change bs)
  unfolding all
  changes =
      ap (λ y. y / 4) (bytewise bit_and and_block refl mark (λ b. 128) mark-byte (plain 128 (omega arith)) bs w)
      ∙ quarter (λ b. bit_and (mark b) 128) bs (λ b. let e = change-high b in omega arith)

  lowers : bit_xor x (little (map change bs)) ≡ little (map lower bs)
  unfolding x
  lowers =
      bytewise bit_xor xor_block refl (λ b. b) change self change-byte bs w
      ∙ ap little (same-on (λ b. bit_xor b (change b)) lower bs folds w)

-- the marks that the code makes of a chunk fold it
pub marked : (chunk : ℕ) → chunk < 2 ^ 32
    → folded chunk
    (bit_and (bit_xor (bit_or chunk highest - 0x41414141) (bit_or chunk highest - 0x5B5B5B5B)) (bit_xor chunk 0xFFFFFFFF))
    ≡ lowered chunk
unfolding x all
marked chunk h =
    let bs = little_bytes 4 chunk in
    let w = little-bytes 4 chunk in
    let e = little_of_bytes chunk h in
    folded-is chunk _ h ∙ ap (λ y. bit_xor chunk (bit_and y highest / 4)) (rw e at (marks bs w))
    ∙ ap (bit_xor chunk) (changes bs w)
    ∙ (rw e at (lowers bs w))

-- ---- chunks joined

-- what is joined by exclusive or may be folded before or after
folded-joined : (n m chunk marks : ℕ) → n < 2 ^ 32 → m < 2 ^ 32 → chunk < 2 ^ 32 → marks < 2 ^ 32
    → folded (bit_xor n chunk) (bit_xor m marks) ≡ xor32 (folded n m) (folded chunk marks)
unfolding folded xor32
folded-joined n m chunk marks hn hm hc hs =
    ap₂ (xor 32) (sym (xor_is 32 n chunk hn hc))
    (ap (λ y. y / 4) (and_xor 32 m marks highest hm hs) ∙ xor_shr (bit_and m highest) (bit_and marks highest) 2
    ∙ sym (xor_is 32 p q (quarter-below m) (quarter-below marks)))
    ∙ xor_regroup 32 n chunk (xor 32 p q)
    ∙ ap (xor 32 n)
    (sym (xor_regroup 32 chunk p q) ∙ ap (λ y. xor 32 y q) (xor-swap 32 chunk p) ∙ xor_regroup 32 p chunk q)
    ∙ sym (xor_regroup 32 n p (xor 32 chunk q))
  where
    p : ℕ
    p = bit_and m highest / 4

    q : ℕ
    q = bit_and marks highest / 4

-- zeros in lower case
lowered_none : (n : ℕ) → little (map lower (little_bytes n 0)) ≡ 0
unfolding lower
lowered_none zero = refl
lowered_none (suc n) = let e = lowered_none n in omega arith

-- a chunk, of which some bytes may not be there, in lower case
lowered-chunk : (n : ℕ) (k : List ℕ) → ((i : ℕ) → get_or k i 0 < 256)
    → little (map lower (little_bytes n (little (take n k)))) ≡ little (map lower (take n k))
lowered-chunk zero k h = refl
lowered-chunk (suc n) [] h = lowered_none (suc n)
lowered-chunk (suc n) (b ∷ k) h =
    let t = little (take n k) in
    let l : b < 256 = h 0 in
    let p : (b + 256 * t) % 256 ≡ b = omega arith in
    let q : (b + 256 * t) / 256 ≡ t = omega arith in
    ap₂ (λ y z. lower y + 256 * little (map lower (little_bytes n z))) p q
    ∙ ap (λ y. lower b + 256 * y) (lowered-chunk n k (λ i. h (suc i)))

-- the first chunk, and the rest
word_on : (k : List ℕ) → 4 ≤ length k
    → word (map lower k) ≡ xor32 (little (map lower (take 4 k))) (word (map lower (drop 4 k)))
unfolding word
word_on [] l = absurd (omega arith)
word_on (a ∷ []) l = absurd (omega arith)
word_on (a ∷ b ∷ []) l = absurd (omega arith)
word_on (a ∷ b ∷ c ∷ []) l = absurd (omega arith)
word_on (a ∷ b ∷ c ∷ d ∷ k) l = refl

-- a tail that is one chunk
word_tail : (k : List ℕ) → ((i : ℕ) → get_or k i 0 < 256) → length k ≤ 4
    → word (map lower k) ≡ little (map lower (take 4 k))
unfolding word xor32
word_tail [] h l = refl
word_tail (a ∷ []) h l = refl
word_tail (a ∷ b ∷ []) h l = refl
word_tail (a ∷ b ∷ c ∷ []) h l = refl
word_tail (a ∷ b ∷ c ∷ d ∷ []) h l =
    let ha = lower-byte a (h 0) in
    let hb = lower-byte b (h 1) in
    let hc = lower-byte c (h 2) in
    let hd = lower-byte d (h 3) in
    xor-none 32 (little (lower a ∷ lower b ∷ lower c ∷ lower d ∷ [])) (omega arith)
word_tail (a ∷ b ∷ c ∷ d ∷ e ∷ k) h l = absurd (omega arith)

-- nothing joined yet
pub joined-none : (w : ℕ) → w < 2 ^ 32 → xor32 (folded 0 0) w ≡ w
unfolding folded xor32
joined-none w h = xor-swap 32 0 w ∙ xor-none 32 w h

-- what is joined already, and the chunk at the front of the rest, of which these are the marks
module _ (n m chunk marks : ℕ) (hn : n < 2 ^ 32) (hm : m < 2 ^ 32) (hc : chunk < 2 ^ 32) (hs : marks < 2 ^ 32)
    (rest : List ℕ) (bytes : (i : ℕ) → get_or rest i 0 < 256) (front : chunk ≡ little (take 4 rest))
    (told : folded chunk marks ≡ lowered chunk) where
  next : folded (bit_xor n chunk) (bit_xor m marks) ≡ xor32 (folded n m) (little (map lower (take 4 rest)))
  next =
      folded-joined n m chunk marks hn hm hc hs
      ∙ ap (xor32 (folded n m)) (told ∙ ap lowered front ∙ lowered-chunk 4 rest bytes)

  pub joined-on : 4 ≤ length rest
      → xor32 (folded (bit_xor n chunk) (bit_xor m marks)) (word (map lower (drop 4 rest)))
      ≡ xor32 (folded n m) (word (map lower rest))
  unfolding xor32
  joined-on l =
      ap (λ y. xor32 y (word (map lower (drop 4 rest)))) next
      ∙ xor_regroup 32 (folded n m) (little (map lower (take 4 rest))) (word (map lower (drop 4 rest)))
      ∙ ap (xor32 (folded n m)) (sym (word_on rest l))

  pub joined_tail : length rest ≤ 4
      → folded (bit_xor n chunk) (bit_xor m marks) ≡ xor32 (folded n m) (word (map lower rest))
  joined_tail l = next ∙ ap (xor32 (folded n m)) (sym (word_tail rest bytes l))

-- the bytes of a rest are bytes
pub bytes_on : (n : ℕ) (k : List ℕ) → ((i : ℕ) → get_or k i 0 < 256) → (i : ℕ) → get_or (drop n k) i 0 < 256
bytes_on n k h i = rw (get_or-drop n k i 0) (h (n + i))
