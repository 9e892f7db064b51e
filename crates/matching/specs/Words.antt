-- The same in words: which names match a text, and which places are told.
use Rattle.std.specs.Prelude.{ℕ, ◌≤◌, ◌<◌, ◌≡◌, true, false, ◌↔◌, length, get_or}
use mathlib.Core.List.{List, [], Memᴰ}
use Rattle.keywords.specs.Keywords.{keywords_of}
use Rattle.namearea.specs.Area.{count_in, name_at}
use Rattle.matching.specs.Matching.{matches, matching_places}

-- the text has a keyword, and each keyword of the text is a keyword of the name
pub record HasEvery (text name : List ℕ) : Type 0 where
  pub some : keywords_of text ≡ [] → ⊥
  pub every : (k : List ℕ) → Memᴰ k (keywords_of text) → Memᴰ k (keywords_of name)

abbrev pub MatchesExactly : Type 0
MatchesExactly = (text name : List ℕ) → (matches text name ≡ true) ↔ HasEvery text name

-- a place is told exactly if a name is listed there that has every keyword of a text of 4,096 bytes at most
pub record ListedMatch (text a : List ℕ) (i : ℕ) : Type 0 where
  pub short : length text ≤ 4096
  pub listed : i < count_in a
  pub every : HasEvery text (name_at a i)

abbrev pub PlacesExactly : Type 0
PlacesExactly =
    (text a : List ℕ) (i : ℕ) → i < 512 → (get_or (matching_places text a) i false ≡ true) ↔ ListedMatch text a i
