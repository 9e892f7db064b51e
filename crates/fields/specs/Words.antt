-- Fields (RULES 15.6, 15.7) once more, in words over the values of bytes: what is proved of the definitions that the
-- contracts cite. A definition that took another byte for a name's, or a value from elsewhere, would not have these.
use Rattle.std.specs.Prelude.{ℕ, ◌+◌, ◌<◌, ◌≡◌, ◌↔◌, true, List, get_or, take, drop}
use Rattle.ascii.specs.Words.{Blank}
use Rattle.fields.specs.Fields.{continues, is_field, name_of, value_of}

-- a byte of a name: neither a blank nor a colon
abbrev pub NameByte : ℕ → Type 0
NameByte b = (Blank b → ⊥) × (b ≡ 58 → ⊥)

-- the first n bytes, one or more, are such bytes, and a colon stands behind them
abbrev pub NamedBy : List ℕ → ℕ → Type 0
NamedBy line n = (0 < n) × (get_or line n 0 ≡ 58) × ((i : ℕ) → i < n → NameByte (get_or line i 0))

-- a line is a field exactly if it begins so
abbrev pub FieldExactly : Type 0
FieldExactly = (line : List ℕ) → (is_field line ≡ true) ↔ ((n : ℕ) × NamedBy line n)

-- the text without the blanks at its front, however many they are
pub record Unblanked (text value : List ℕ) : Type 0 where
  pub count : ℕ
  pub blanks : (i : ℕ) → i < count → Blank (get_or text i 0)
  pub stops : Blank (get_or text count 0) → ⊥
  pub rest : value ≡ drop count text

-- then the name is what stands before the colon, and the value what stands behind it without the blanks at its front
abbrev pub FieldParts : Type 0
FieldParts =
    (line : List ℕ) (n : ℕ) → NamedBy line n
    → (name_of line ≡ take n line) × Unblanked (drop (n + 1) line) (value_of line)

-- a line goes on with a value exactly if its first byte is a blank
abbrev pub ContinuesExactly : Type 0
ContinuesExactly = (line : List ℕ) → (continues line ≡ true) ↔ Blank (get_or line 0 0)
