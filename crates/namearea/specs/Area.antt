-- How names stand in an area (RULES 22.1): a count of 4 bytes, 512 pairs of offset and length, 4 bytes each, and from
-- byte 4,100 on the text. Numbers are little-endian, offsets count from the area's start.
use Rattle.std.specs.Prelude.{ℕ, zero, suc, ◌+◌, ◌*◌, cond, ◌&&◌, List, [], ◌∷◌, map, leb, ltb, length, take, drop}
use Rattle.laws.specs.Bytes.{little}
use Rattle.namearea.specs.declared.Span.{Span}

-- how many names an area can list, and where its text begins
abbrev pub most_names : ℕ
most_names = 512

abbrev pub text_from : ℕ
text_from = 4100

-- how many names are listed
unfoldable pub count_in : List ℕ → ℕ
count_in a = little (take 4 a)

-- the pair that some bytes begin with; a byte that is not there counts 0
unfoldable pub span_in : List ℕ → Span
span_in d = record { offset = little (take 4 d); size = little (take 4 (drop 4 d)) }

-- pair i, from 0
abbrev pub span_at : List ℕ → ℕ → Span
span_at a i = span_in (drop (4 + 8 * i) a)

-- the same of an area that has room for the pairs, and of places that they have; else no pair
unfoldable pub pair_in : List ℕ → ℕ → Span
pair_in a i = cond (leb text_from (length a) && ltb i most_names) (span_at a i) (record { offset = 0; size = 0 })

-- n pairs, one behind another
unfoldable pub spans_from : ℕ → List ℕ → List Span
spans_from zero d = []
spans_from (suc n) d = span_in d ∷ spans_from n (drop 8 d)

-- the first n pairs of an area
abbrev pub spans_of : ℕ → List ℕ → List Span
spans_of n a = spans_from n (drop 4 a)

-- those that are listed: pairs past the count say nothing
abbrev pub spans_in : List ℕ → List Span
spans_in a = spans_of (count_in a) a

-- where a name ends
abbrev pub end_of : Span → ℕ
end_of s = s.offset + s.size

-- the name that a pair tells of
abbrev pub name_of : List ℕ → Span → List ℕ
name_of a s = take s.size (drop s.offset a)

abbrev pub name_at : List ℕ → ℕ → List ℕ
name_at a i = name_of a (span_at a i)

-- the names in their order, the place of each counted from 0
abbrev pub names_of : ℕ → List ℕ → List (List ℕ)
names_of n a = map (name_of a) (spans_of n a)

abbrev pub names_in : List ℕ → List (List ℕ)
names_in a = names_of (count_in a) a

-- how many bytes names have together
unfoldable pub total : List (List ℕ) → ℕ
total [] = 0
total (x ∷ xs) = length x + total xs
