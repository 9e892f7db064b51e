-- Letters A to Z as a to z.
use mathlib.Core.Path.{◌≡◌, sym, ap, ◌∙◌}
use mathlib.Core.Logic.{⊎_elim}
use Prim.Native.Nat.{ℕ, ◌+◌, ◌≤◌, ◌<◌}
use native.Mathlib.Decide.{dec_le}
use native.Mathlib.Omega.{arith}
use borrow.Author.Tests.{le-leb, lt-leb}
use Rattle.ascii.specs.Text.{lower}
use Rattle.ascii.specs.Words.{FoldsLetters}

pub lower_under : (b : ℕ) → b < 0x41 → lower b ≡ b
unfolding lower
lower_under b h = simp (lt-leb 0x41 b h)

pub lower-over : (b : ℕ) → 0x5A < b → lower b ≡ b
unfolding lower
lower-over b h = simp (le-leb 0x41 b (omega arith), lt-leb b 0x5A h)

pub lower-letter : (b : ℕ) → 0x41 ≤ b → b ≤ 0x5A → lower b ≡ b + 32
unfolding lower
lower-letter b h g = simp (le-leb 0x41 b h, le-leb b 0x5A g)

pub lower-again : (b : ℕ) → lower (lower b) ≡ lower b
lower-again b = by (dec_le 0x41 b) (dec_le b 0x5A)
  where
    by : Dec (0x41 ≤ b) → Dec (b ≤ 0x5A) → lower (lower b) ≡ lower b
    by (yes h) (yes g) = ap lower (lower-letter b h g) ∙ lower-over (b + 32) (omega arith) ∙ sym (lower-letter b h g)
    by (yes h) (no g) = ap lower (lower-over b (omega arith))
    by (no h) g = ap lower (lower_under b (omega arith))

pub lower-byte : (b : ℕ) → b < 256 → lower b < 256
lower-byte b l = by (dec_le 0x41 b) (dec_le b 0x5A)
  where
    by : Dec (0x41 ≤ b) → Dec (b ≤ 0x5A) → lower b < 256
    by (yes h) (yes g) = rw (lower-letter b h g) (omega arith)
    by (yes h) (no g) = rw (lower-over b (omega arith)) l
    by (no h) g = rw (lower_under b (omega arith)) l

pub folds-letters : FoldsLetters
folds-letters = record { letters = lower-letter; others = λ b h. ⊎_elim (lower_under b) (lower-over b) h }
