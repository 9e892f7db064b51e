-- The keywords of a text (RULES 11.1, 11.2) are its maximal runs of digits and letters, in lower case, in order; a
-- text has none exactly if it has no digit and no letter.
use Rattle.std.specs.Prelude.{ℕ, ◌+◌, ◌-◌, ◌≤◌, ◌<◌, ◌≡◌, ◌↔◌, ◌⊎◌, length, get_or, take, drop}
use mathlib.Core.List.{List, [], map, Memᴰ}
use Rattle.ascii.specs.Text.{lower}
use Rattle.keywords.specs.Keywords.{keywords_of}
use Rattle.keywords.specs.Cutting.{Digit, Small, Kept, Separates, Throughout}

abbrev pub NoKeyword : Type 0
NoKeyword = (text : List ℕ) → (keywords_of text ≡ []) ↔ Throughout Separates text

-- a keyword has at least one byte, and each of them is a digit or a letter a to z
abbrev pub KeywordBytes : Type 0
KeywordBytes = (text k : List ℕ) → Memᴰ k (keywords_of text)
    → (0 < length k) × Throughout (λ b. Digit b ⊎ Small b) k

-- the bytes from a place on, up to another; and these in lower case
pub record Span : Type 0 where
  pub from : ℕ
  pub to : ℕ

abbrev pub word_at : List ℕ → Span → List ℕ
word_at text r = map lower (take (r.to - r.from) (drop r.from text))

-- a maximal run: not empty, digits and letters alone, and what stands before it and behind it, if anything, is neither
pub record Run (text : List ℕ) (r : Span) : Type 0 where
  pub some : r.from < r.to
  pub inside : r.to ≤ length text
  pub kept : (i : ℕ) → r.from ≤ i → i < r.to → Kept (get_or text i 0)
  pub before : (i : ℕ) → i + 1 ≡ r.from → Separates (get_or text i 0)
  pub behind : r.to < length text → Separates (get_or text r.to 0)

-- the spans of all of them, each behind the one before it, and the keywords are what stands there
pub record Runs (text : List ℕ) : Type 0 where
  pub spans : List Span
  pub words : keywords_of text ≡ map (word_at text) spans
  pub each : (r : Span) → Memᴰ r spans ↔ Run text r
  pub order : (j k : ℕ) (d : Span) → j < k → k < length spans → (get_or spans j d).to < (get_or spans k d).from

abbrev pub MaximalRuns : Type 0
MaximalRuns = (text : List ℕ) → Runs text
