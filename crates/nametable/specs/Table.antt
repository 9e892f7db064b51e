-- The table of the station's own names (RULES 22.11): 1 wherever a keyword of some name falls, Infinity elsewhere.
use Rattle.std.specs.Prelude.{ℕ, Bool, cond, not, ◌&&◌, List, [], ◌∷◌, ◌++◌, map, eqb, ltb, length, set, replicate}
use Rattle.laws.specs.Tests.{first_of}
use Rattle.laws.specs.Parts.{over}
use Rattle.keywords.specs.Keywords.{keywords_of}
use Rattle.keywords.specs.Hash.{place_in}
use Rattle.tables.specs.Tables.{good_length, good_infinity}
use Rattle.namearea.specs.Area.{names_in}
use Rattle.namearea.specs.Calls.{list_rules}

-- where the keywords of a text, and of some names, fall in a table of n entries
abbrev pub places_of : ℕ → List ℕ → List ℕ
places_of n text = map (place_in n) (keywords_of text)

unfoldable pub own_places : ℕ → List (List ℕ) → List ℕ
own_places n [] = []
own_places n (x ∷ xs) = places_of n x ++ own_places n xs

-- entries with 1 at each of these places; a place past them counts nothing
unfoldable pub with_ones : List ℕ → List ℕ → List ℕ
with_ones [] es = es
with_ones (p ∷ ps) es = with_ones ps (set es p 1)

-- the entries of the names' table: all Infinity, and then 1 at each place of a keyword
unfoldable pub own_entries : ℕ → ℕ → List (List ℕ) → List ℕ
own_entries n infinity names = with_ones (own_places n names) (replicate n infinity)

-- the table is made over so many bytes of output: then 14 for a length or an Infinity that a RESET may not carry, and
-- 2 for output that is shorter than the table
abbrev pub table_rules : List ℕ → ℕ → ℕ → ℕ → List (Bool × ℕ)
table_rules a n infinity out =
    list_rules a ++ ((not (good_length n && good_infinity infinity), 14) ∷ (ltb out n, 2) ∷ [])

unfoldable pub table_answer : List ℕ → ℕ → ℕ → ℕ → ℕ
table_answer a n infinity out = first_of (table_rules a n infinity out)

-- the output after it: the entries at its front, the rest as it was; all as it was where it is refused
unfoldable pub table_out : List ℕ → ℕ → ℕ → List ℕ → List ℕ
table_out a n infinity out =
    cond (eqb (table_answer a n infinity (length out)) 0) (over 0 (own_entries n infinity (names_in a)) out) out
