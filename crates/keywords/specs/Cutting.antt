-- What the keywords of a text are (RULES 11.1, 11.2), from outside: which bytes part them, by their ranges, and three
-- laws that fix the keywords of every text: none for an empty one, one for a text of digits and letters alone, and
-- those of both parts where any other byte stands between.
use Rattle.std.specs.Prelude.{ℕ, ◌≤◌, ◌<◌, ◌≡◌, true, false, ◌↔◌, ◌⊎◌, List, [], ◌∷◌, ◌++◌, map, length, get_or}
use Rattle.ascii.specs.Text.{lower}
use Rattle.keywords.specs.Keywords.{is_separator, keywords_of}

-- digits, letters A to Z, letters a to z
abbrev pub Digit : ℕ → Type 0
Digit b = (0x30 ≤ b) × (b ≤ 0x39)

abbrev pub Capital : ℕ → Type 0
Capital b = (0x41 ≤ b) × (b ≤ 0x5A)

abbrev pub Small : ℕ → Type 0
Small b = (0x61 ≤ b) × (b ≤ 0x7A)

-- a byte of a keyword; every other byte parts keywords
abbrev pub Kept : ℕ → Type 0
Kept b = Digit b ⊎ (Capital b ⊎ Small b)

abbrev pub Separates : ℕ → Type 0
Separates b = Kept b → ⊥

pub record SeparatorIs (b : ℕ) : Type 0 where
  pub kept : (is_separator b ≡ false) ↔ Kept b
  pub separates : (is_separator b ≡ true) ↔ Separates b

abbrev pub SeparatorExactly : Type 0
SeparatorExactly = (b : ℕ) → SeparatorIs b

-- it holds of each byte of a text
abbrev pub Throughout : (ℕ → Type 0) → List ℕ → Type 0
Throughout P text = (i : ℕ) → i < length text → P (get_or text i 0)

pub record CutAtSeparators : Type 0 where
  pub none : keywords_of [] ≡ []
  pub one : (text : List ℕ) → 0 < length text → Throughout Kept text → keywords_of text ≡ map lower text ∷ []
  pub both : (a : List ℕ) (b : ℕ) (c : List ℕ) → Separates b → keywords_of (a ++ (b ∷ c)) ≡ keywords_of a ++ keywords_of c
