-- Letters, blanks and text once more, in words over the values of bytes: what is proved of the definitions that
-- contracts cite. A definition that took another byte for a letter, a blank or the end of a line would not have these.
use Rattle.std.specs.Prelude.{ℕ, ◌+◌, ◌≤◌, ◌<◌, ◌≡◌, ◌↔◌, ◌⊎◌, true, List, [], ◌∷◌, length, get_or}
use Rattle.ascii.specs.Text.{is_blank, is_text, lower, same_name}

-- ---- letters

-- 65 to 90, which is A to Z, becomes 97 to 122; every other byte stays, those of 128 and more too
pub record FoldsLetters : Type 0 where
  pub letters : (b : ℕ) → 65 ≤ b → b ≤ 90 → lower b ≡ b + 32
  pub others : (b : ℕ) → (b < 65) ⊎ (90 < b) → lower b ≡ b

-- ---- names

-- a letter's two bytes: A to Z are 65 to 90, a to z are 97 to 122
abbrev pub TwoCases : ℕ → ℕ → Type 0
TwoCases upper lower = (65 ≤ upper) × (upper ≤ 90) × (lower ≡ upper + 32)

-- equal bytes, or a letter in its two cases
abbrev pub SameByte : ℕ → ℕ → Type 0
SameByte a b = (a ≡ b) ⊎ (TwoCases a b ⊎ TwoCases b a)

-- equally long, and such bytes at each place
abbrev pub SameBytes : List ℕ → List ℕ → Type 0
SameBytes a b = (length a ≡ length b) × ((i : ℕ) → i < length a → SameByte (get_or a i 0) (get_or b i 0))

-- two names are the same exactly if they are so
abbrev pub NamesSame : Type 0
NamesSame = (a b : List ℕ) → (same_name a b ≡ true) ↔ SameBytes a b

-- no letter: below A, from `[` to the byte before a, or above z, as each byte of 128 or more
abbrev pub NoLetter : ℕ → Type 0
NoLetter a = (a < 65) ⊎ (((91 ≤ a) × (a ≤ 96)) ⊎ (123 ≤ a))

-- so a byte that is no letter is the same as no other byte
abbrev pub OthersApart : Type 0
OthersApart = (a b : ℕ) → NoLetter a → same_name (a ∷ []) (b ∷ []) ≡ true → a ≡ b

-- ---- blanks

-- a blank: byte 32 or byte 9, and no other
abbrev pub Blank : ℕ → Type 0
Blank b = (b ≡ 32) ⊎ (b ≡ 9)

abbrev pub BlankExactly : Type 0
BlankExactly = (b : ℕ) → (is_blank b ≡ true) ↔ Blank b

-- ---- text

-- a byte of a line: neither CR, byte 13, nor LF, byte 10
abbrev pub TextExactly : Type 0
TextExactly = (b : ℕ) → (is_text b ≡ true) ↔ ((b ≡ 13 → ⊥) × (b ≡ 10 → ⊥))
