-- Laws of the hash: the chunks joined at once and byte by byte.
use mathlib.Core.Path.{◌≡◌, refl, sym, ap, ap₂, ◌∙◌}
use mathlib.Core.List.{List, [], ◌∷◌, map}
use Prim.Native.Nat.{ℕ, zero, suc, ◌+◌, ◌*◌, ◌%◌, ◌^◌, ◌<◌}
use native.Mathlib.Omega.{arith}
use lib.ListN.{get_or}
use lib.Bits.{bit_xor}
use Rattle.laws.specs.Bytes.{xor}
use Rattle.laws.proofs.Bits.{xor_below, xor_regroup, xor_is, xor-none, xor_above, xor-swap}
use Rattle.ascii.specs.Text.{lower}
use Rattle.ascii.proofs.Letters.{lower-again, lower-byte}
use Rattle.keywords.specs.Hash.{xor32, word, factor, hash_of, rolling}

pub lower-all : (k : List ℕ) → map lower (map lower k) ≡ map lower k
lower-all [] = refl
lower-all (b ∷ bs) = ap₂ (λ (x : ℕ) (l : List ℕ). x ∷ l) (lower-again b) (lower-all bs)

pub lower-bytes : (k : List ℕ) → ((i : ℕ) → get_or k i 0 < 256) → (i : ℕ) → get_or (map lower k) i 0 < 256
lower-bytes [] h i = h i
lower-bytes (b ∷ bs) h zero = lower-byte b (h 0)
lower-bytes (b ∷ bs) h (suc i) = lower-bytes bs (λ j. h (suc j)) i

-- ---- exclusive or of 32 bits

xor32-below : (a b : ℕ) → xor32 a b < 2 ^ 32
unfolding xor32
xor32-below = xor_below 32

xor32_regroup : (a b c : ℕ) → xor32 (xor32 a b) c ≡ xor32 a (xor32 b c)
unfolding xor32
xor32_regroup = xor_regroup 32

pub xor32-is : (a b : ℕ) → a < 2 ^ 32 → b < 2 ^ 32 → xor32 a b ≡ bit_xor a b
unfolding xor32
xor32-is = xor_is 32

xor32-none : (a : ℕ) → a < 2 ^ 32 → xor32 a 0 ≡ a
unfolding xor32
xor32-none = xor-none 32

-- nothing on the left takes nothing away from what was joined
xor32-from : (a b : ℕ) → xor32 0 (xor32 a b) ≡ xor32 a b
unfolding xor32
xor32-from a b = xor-swap 32 0 (xor 32 a b) ∙ xor-none 32 (xor 32 a b) (xor_below 32 a b)

xor32-above : (j a b : ℕ) → a < 2 ^ j → a < 2 ^ 32 → b * 2 ^ j < 2 ^ 32 → xor32 a (b * 2 ^ j) ≡ a + b * 2 ^ j
unfolding xor32
xor32-above = xor_above 32

-- ---- the chunks joined at once, and byte by byte

-- what was joined before stays outside
rolling-from : (n j : ℕ) (bs : List ℕ) → n < 2 ^ 32 → rolling n j bs ≡ xor32 n (rolling 0 j bs)
unfolding rolling
rolling-from n j [] h = sym (xor32-none n h)
rolling-from n j (b ∷ bs) h =
    rolling-from (xor32 n x) next bs (xor32-below n x)
    ∙ xor32_regroup n x (rolling 0 next bs)
    ∙ ap (xor32 n) (sym (rolling-from (xor32 0 x) next bs (xor32-below 0 x) ∙ xor32_regroup 0 x (rolling 0 next bs)
    ∙ xor32-from x (rolling 0 next bs)))
  where
    x : ℕ
    x = b * 256 ^ j

    next : ℕ
    next = (j + 1) % 4

-- one to four bytes joined one after the other are one little-endian number
module _ (a b c d : ℕ) (ha : a < 256) (hb : b < 256) (hc : c < 256) (hd : d < 256) where
  chunk1 : xor32 0 (a * 256 ^ 0) ≡ a
  chunk1 = xor32-above 0 0 a (omega arith) (omega arith) (omega arith) ∙ omega arith

  chunk2 : xor32 (xor32 0 (a * 256 ^ 0)) (b * 256 ^ 1) ≡ a + b * 256
  chunk2 = ap (λ (x : ℕ). xor32 x (b * 256)) chunk1 ∙ xor32-above 8 a b (omega arith) (omega arith) (omega arith)

  chunk3 : xor32 (xor32 (xor32 0 (a * 256 ^ 0)) (b * 256 ^ 1)) (c * 256 ^ 2) ≡ a + b * 256 + c * 65536
  chunk3 = ap (λ (x : ℕ). xor32 x (c * 65536)) chunk2 ∙ xor32-above 16 (a + b * 256) c (omega arith)
      (omega arith) (omega arith)

  chunk4 : xor32 (xor32 (xor32 (xor32 0 (a * 256 ^ 0)) (b * 256 ^ 1)) (c * 256 ^ 2)) (d * 256 ^ 3)
      ≡ a + b * 256 + c * 65536 + d * 16777216
  chunk4 = ap (λ (x : ℕ). xor32 x (d * 16777216)) chunk3 ∙ xor32-above 24 (a + b * 256 + c * 65536) d (omega arith)
      (omega arith) (omega arith)

-- the chunks of RULES 11.3 are what 001's code joins byte by byte
pub word-rolling : (k : List ℕ) → ((i : ℕ) → get_or k i 0 < 256) → word k ≡ rolling 0 0 k
unfolding word rolling
word-rolling [] h = refl
word-rolling (a ∷ []) h = sym (chunk1 a 0 0 0 (h 0) (omega arith) (omega arith) (omega arith) ∙ omega arith)
word-rolling (a ∷ b ∷ []) h = sym (chunk2 a b 0 0 (h 0) (h 1) (omega arith) (omega arith) ∙ omega arith)
word-rolling (a ∷ b ∷ c ∷ []) h = sym (chunk3 a b c 0 (h 0) (h 1) (h 2) (omega arith) ∙ omega arith)
word-rolling (a ∷ b ∷ c ∷ d ∷ rest) h =
    sym
    (ap (λ (x : ℕ). rolling x 0 rest) (chunk4 a b c d (h 0) (h 1) (h 2) (h 3) ∙ omega arith)
    ∙ rolling-from (a + 256 * (b + 256 * (c + 256 * (d + 256 * 0)))) 0 rest
    (let ga = h 0 in let gb = h 1 in let gc = h 2 in let gd = h 3 in omega arith)
    ∙ ap (xor32 (a + 256 * (b + 256 * (c + 256 * (d + 256 * 0)))))
    (sym (word-rolling rest (λ i. h (suc (suc (suc (suc i))))))))

pub word_below : (k : List ℕ) → ((i : ℕ) → get_or k i 0 < 256) → word k < 2 ^ 32
unfolding word
word_below [] h = omega arith
word_below (a ∷ []) h = let ga = h 0 in omega arith
word_below (a ∷ b ∷ []) h = let ga = h 0 in let gb = h 1 in omega arith
word_below (a ∷ b ∷ c ∷ []) h = let ga = h 0 in let gb = h 1 in let gc = h 2 in omega arith
word_below (a ∷ b ∷ c ∷ d ∷ rest) h = xor32-below (a + 256 * (b + 256 * (c + 256 * (d + 256 * 0)))) (word rest)

-- ---- the hash

pub hash-below : (k : List ℕ) → hash_of k < 2 ^ 32
unfolding hash_of
hash-below k = omega arith

-- a hash does not tell upper from lower case
pub hash-lower : (k : List ℕ) → hash_of (map lower k) ≡ hash_of k
unfolding hash_of
hash-lower k = ap (λ (l : List ℕ). word l * factor % 2 ^ 32) (lower-all k)
