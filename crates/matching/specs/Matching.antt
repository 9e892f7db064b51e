-- Names that have every keyword of a text (RULES 25.7): keywords are compared whole, in lower case.
use Rattle.std.specs.Prelude.{ℕ, Bool, false, ◌&&◌, List, [], ◌∷◌, map, leb, ltb, length}
use Rattle.laws.specs.Tests.{any, all}
use Rattle.laws.specs.Numbers.{counting}
use Rattle.ascii.specs.Text.{same}
use Rattle.keywords.specs.Keywords.{keywords_of}
use Rattle.namearea.specs.Area.{most_names, count_in, name_at}

-- a keyword is among these, byte for byte
abbrev pub is_among : List ℕ → List (List ℕ) → Bool
is_among k ks = any (same false k) ks

-- there is some keyword, and each of them is among those
abbrev pub has_each : List (List ℕ) → List (List ℕ) → Bool
has_each [] own = false
has_each (k ∷ ks) own = all (λ q. is_among q own) (k ∷ ks)

-- a name has every keyword of a text among its own; a text without keywords matches no name
unfoldable pub matches : List ℕ → List ℕ → Bool
matches text name = has_each (keywords_of text) (keywords_of name)

-- the longest text that is looked at: a payload's bytes at most
abbrev pub longest_text : ℕ
longest_text = 4096

-- for each of 512 places of an area whether a name is listed there that matches; none for a longer text
unfoldable pub matching_places : List ℕ → List ℕ → List Bool
matching_places text a =
    map (λ i. leb (length text) longest_text && (ltb i (count_in a) && matches text (name_at a i))) (counting most_names 0)
