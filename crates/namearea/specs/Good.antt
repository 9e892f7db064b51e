-- When an area is good (RULES 22.4), and which names may be listed.
use Rattle.std.specs.Prelude.{ℕ, Bool, true, false, not, ◌&&◌, ◌||◌, List, [], ◌∷◌, eqb, leb, length}
use Rattle.laws.specs.Tests.{any, every, all}
use Rattle.ascii.specs.Text.{same}
use Rattle.namearea.specs.declared.Span.{Span}
use Rattle.namearea.specs.Area.{most_names, text_from, count_in, spans_in, end_of, name_of, names_in}

-- how many bytes a name may have
abbrev pub longest_name : ℕ
longest_name = 255

-- a name that may be listed: 1 to 255 bytes, none of them zero
unfoldable pub good_name : List ℕ → Bool
good_name x = every (leb 1 (length x) ∷ leb (length x) longest_name ∷ not (any (eqb 0) x) ∷ [])

-- the pair lies in the text of an area of n bytes
abbrev pub in_text : ℕ → Span → Bool
in_text n s = leb text_from s.offset && leb (end_of s) n

-- it lies in the text, and its name may be listed
unfoldable pub listable : List ℕ → Span → Bool
listable a s = in_text (length a) s && good_name (name_of a s)

-- two names have no byte in common: one ends before the other begins, or just where it begins
abbrev pub apart : Span → Span → Bool
apart s t = leb (end_of s) t.offset || leb (end_of t) s.offset

-- two names are the same, byte for byte; the case of letters counts
abbrev pub same_text : List ℕ → List ℕ → Bool
same_text x y = same false x y

abbrev pub differ : List ℕ → List ℕ → Bool
differ x y = not (same_text x y)

-- the test holds of each element and each one behind it
module _ {A : Type 0} where
  unfoldable pub pairwise : (A → A → Bool) → List A → Bool
  pairwise f [] = true
  pairwise f (x ∷ xs) = all (f x) xs && pairwise f xs

-- at most 512 names, each in the text and one that may be listed, no two of them with a byte in common, and no two the
-- same
unfoldable pub good_list : List ℕ → Bool
good_list a =
    every
    (leb (count_in a) most_names
    ∷ all (listable a) (spans_in a)
    ∷ pairwise apart (spans_in a)
    ∷ pairwise differ (names_in a)
    ∷ [])

-- offsets rise: each name begins where the one before it ends, or behind that; the first at `low` or behind that
unfoldable pub rising_from : ℕ → List Span → Bool
rising_from low [] = true
rising_from low (s ∷ ss) = leb low s.offset && rising_from (end_of s) ss
