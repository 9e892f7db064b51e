-- Keywords of a text (RULES 11.1, 11.2).
use Rattle.std.specs.Prelude.{ℕ, ◌+◌, ◌-◌, Bool, true, false, not, ◌&&◌, ◌||◌, List, map, leb, length, take, drop}
use Rattle.std.specs.Prelude.{Option, Some, None}
use Rattle.keywords.specs.declared.cut.Cut.{Cut}
use Rattle.keywords.specs.declared.words.Keywords.{Keywords}
-- letters A to Z in lower case, every other byte as it is (RULES 11.2); a text cut into pieces, of which empty ones
-- vanish; how many bytes at the front meet a test
unfoldable pub use Rattle.ascii.specs.Text.{lower, pieces, filled}
pub use Rattle.ascii.specs.Text.{onto, leading}

-- in a range, both ends of which belong to it
abbrev pub within : ℕ → ℕ → ℕ → Bool
within low high b = leb low b && leb b high

-- the bytes that part keywords: all but the digits and the letters A to Z and a to z
unfoldable pub is_separator : ℕ → Bool
is_separator b = not (within 0x30 0x39 b || (within 0x41 0x5A b || within 0x61 0x7A b))

-- the bytes that are separators; or, where this is false, the others
abbrev pub matching : Bool → ℕ → Bool
matching true b = is_separator b
matching false b = not (is_separator b)

-- for any test of a separator
module _ (separates : ℕ → Bool) where
  -- where the first piece that is not empty begins, and where it ends; both the text's length where there is none
  abbrev pub start_by : List ℕ → ℕ
  start_by text = leading separates text

  abbrev pub end_by : List ℕ → ℕ
  end_by text = start_by text + leading (λ b. not (separates b)) (drop (start_by text) text)

-- the keywords of a text, in lower case, in order
unfoldable pub keywords_of : List ℕ → List (List ℕ)
keywords_of text = map (map lower) (filled (pieces is_separator text))

-- where the first keyword of a text begins, and where it ends; both the text's length where there is none
abbrev pub cut_start : List ℕ → ℕ
cut_start = start_by is_separator

abbrev pub cut_end : List ℕ → ℕ
cut_end = end_by is_separator

abbrev pub cut_of : List ℕ → Cut
cut_of text = record { start = cut_start text; end = cut_end text }

-- the first keyword as the text has it, upper case and all, and the text behind it
abbrev pub keyword_at : List ℕ → List ℕ
keyword_at text = take (cut_end text - cut_start text) (drop (cut_start text) text)

abbrev pub text_behind : List ℕ → List ℕ
text_behind text = drop (cut_end text) text

-- the cut that is told of a text: both its length where none is told
abbrev pub cut_told : List ℕ → Option Cut → Cut
cut_told text (Some cut) = cut
cut_told text None = record { start = length text; end = length text }

-- the keywords as the text has them, upper case and all, in order; and those that an iterator over them has left
unfoldable pub words_of : List ℕ → List (List ℕ)
words_of text = filled (pieces is_separator text)

abbrev pub words_left : Keywords → List (List ℕ)
words_left keywords = words_of keywords.rest.now
