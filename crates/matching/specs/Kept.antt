-- The keywords of a text as they are kept: each once, in rising order, told by spans. The contracts of leaves cite
-- this; no rule does.
use Rattle.std.specs.Prelude.{ℕ, ◌+◌, ◌≤◌, ◌<◌, ◌≡◌, Bool, true, false, ◌||◌, ◌↔◌, List, map, length, get_or, take, drop, Result, MatchResult}
use Rattle.laws.specs.Tests.{all}
use Rattle.ascii.specs.Text.{lower}
use Rattle.keywords.specs.Keywords.{keywords_of}
use Rattle.matching.specs.declared.kept.Span.{Span}
use Rattle.matching.specs.Order.{below}

-- the bytes that a span tells of
unfoldable pub part_of : List ℕ → Span → List ℕ
part_of text span = take span.size (drop span.start text)

-- what stands past the end of the spans
abbrev pub no_span : Span
no_span = record { start = 0; size = 0 }

-- the keyword kept at place i, in lower case
unfoldable pub key_at : List ℕ → List Span → ℕ → List ℕ
key_at text spans i = map lower (part_of text (get_or spans i no_span))

-- the first `count` rise: no keyword stands among them twice
abbrev pub Rising : (ℕ → List ℕ) → ℕ → Type 0
Rising key count = (i j : ℕ) → i < j → j < count → below (key i) (key j) ≡ true

-- a test holds of each of them
abbrev pub Each : (List ℕ → Bool) → (ℕ → List ℕ) → ℕ → Type 0
Each test key count = (i : ℕ) → i < count → test (key i) ≡ true

-- so many of them stand before x, and x before all others
pub record Ranked (key : ℕ → List ℕ) (count : ℕ) (x : List ℕ) (r : ℕ) : Type 0 where
  pub within : r ≤ count
  pub before : (i : ℕ) → i < r → below (key i) x ≡ true
  pub behind : (i : ℕ) → r ≤ i → i < count → below x (key i) ≡ true

-- x is the keyword at a place
pub record Standing (key : ℕ → List ℕ) (count : ℕ) (x : List ℕ) (r : ℕ) : Type 0 where
  pub inside : r < count
  pub here : key r ≡ x

-- what a search for x tells: where it stands, or where it would stand
abbrev pub Sought : (ℕ → List ℕ) → ℕ → List ℕ → Result ℕ ℕ → Type 0
Sought key count x found = MatchResult found (Standing key count x) (Ranked key count x)

-- x is kept too: as far as any test can tell, what is kept now is what was kept, and x
pub record Joined (old new : ℕ → List ℕ) (count : ℕ) (x : List ℕ) (r : ℕ) : Type 0 where
  pub few : r ≤ count + 1
  pub rising : Rising new r
  pub more : (test : List ℕ → Bool) → Each test new r ↔ ((test x ≡ true) × Each test old count)

-- what is kept are the keywords of the text
pub record Gathered (text : List ℕ) (spans : List Span) (count : ℕ) : Type 0 where
  pub whole : (test : List ℕ → Bool) → (all test (keywords_of text) ≡ true) ↔ Each test (key_at text spans) count

-- places are marked whose keyword meets a test, beside those that had marks
pub record Marked (test : List ℕ → Bool) (key : ℕ → List ℕ) (count : ℕ) (old new : List Bool) : Type 0 where
  pub size : length new ≡ length old
  pub each : (i : ℕ) → i < count → get_or new i false ≡ (get_or old i false || test (key i))
