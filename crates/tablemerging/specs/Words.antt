-- The entries of a made table once more (RULES 23.4 to 23.10), in words: over hashes, keywords and entries, without the
-- definitions that the code cites.
use Rattle.std.specs.Prelude.{ℕ, ◌+◌, ◌^◌, ◌≤◌, ◌<◌, min, ◌≡◌, true, false, ◌⊎◌, length, get_or}
use mathlib.Core.List.{List, [], Memᴰ}
use Rattle.laws.specs.Tests.{all}
use Rattle.keywords.specs.Keywords.{keywords_of}
use Rattle.keywords.specs.Hash.{place_of}
use Rattle.tables.specs.Tables.{Held, settled, in_bounds}
use Rattle.tables.specs.Admission.{withholds}
use Rattle.nametable.specs.Table.{own_entries}
use Rattle.nametable.specs.Words.{FallsOn}
use Rattle.tablemerging.specs.Merging.{made_entries}
use Rattle.tablemerging.specs.Lengths.{Common}

-- ---- one entry

-- e counts at place i of a table of 2 to the power b entries: it is the entry of one of these tables at a place that
-- stands for a common hash, and is not that table's Infinity
pub record Counts (b i : ℕ) (hs : List Held) (e : ℕ) : Type 0 where
  pub table : Held
  pub one : Memᴰ table hs
  pub bits : ℕ
  pub most : bits ≤ 32
  pub long : length table.entries ≡ 2 ^ bits
  pub place : ℕ
  pub common : Common b i bits place
  pub entry : get_or table.entries place 0 ≡ e
  pub reaches : e ≡ table.table.infinity → ⊥

-- none counts there; e is the least that does
abbrev pub NoneCounts : ℕ → ℕ → List Held → Type 0
NoneCounts b i hs = (e : ℕ) → Counts b i hs e → ⊥

abbrev pub LeastCounts : ℕ → ℕ → List Held → ℕ → Type 0
LeastCounts b i hs e = Counts b i hs e × ((d : ℕ) → Counts b i hs d → e ≤ d)

-- the entry: 1 where a keyword of an own name falls; else Infinity where none counts, and one more than the least that
-- does, but not above Infinity. These are all the cases
pub record MadeEntry (falls : Type 0) (b i : ℕ) (hs : List Held) (infinity entry : ℕ) : Type 0 where
  pub own : falls → entry ≡ 1
  pub none : (falls → ⊥) → NoneCounts b i hs → entry ≡ infinity
  pub relayed : (falls → ⊥) → (e : ℕ) → LeastCounts b i hs e → entry ≡ min infinity (e + 1)
  pub known : falls ⊎ (falls → ⊥)
  pub either : NoneCounts b i hs ⊎ ((e : ℕ) × LeastCounts b i hs e)

-- tables whose lengths are powers of two
abbrev pub Powers : List Held → Type 0
Powers hs = (h : Held) → Memᴰ h hs → (c : ℕ) × (c ≤ 32) × (length h.entries ≡ 2 ^ c)

-- this holds of every entry, for all lengths that are powers of two, all names and any Infinity
abbrev pub MadeExactly : Type 0
MadeExactly = (n b : ℕ) → n ≡ 2 ^ b → b ≤ 32 → (infinity : ℕ) (names : List (List ℕ)) (hs : List Held) → Powers hs
    → (i : ℕ) → i < n → MadeEntry (FallsOn b names i) b i hs infinity (get_or (made_entries infinity n names hs) i 0)

-- ---- all entries

-- there are so many, and all are in 1..Infinity, whatever stands in the other tables
abbrev pub MadeLong : Type 0
MadeLong = (infinity n : ℕ) (names : List (List ℕ)) (hs : List Held) → length (made_entries infinity n names hs) ≡ n

abbrev pub MadeWithin : Type 0
MadeWithin = (infinity n : ℕ) → 1 ≤ infinity → (names : List (List ℕ)) (hs : List Held)
    → all (in_bounds infinity) (made_entries infinity n names hs) ≡ true

-- without other tables it is the table of the names (RULES 22.11)
abbrev pub MadeAlone : Type 0
MadeAlone = (infinity n : ℕ) (names : List (List ℕ)) → made_entries infinity n names [] ≡ own_entries n infinity names

-- ---- keywords

-- the entry of a keyword of an own name is 1
abbrev pub OwnNearest : Type 0
OwnNearest = (b : ℕ) → b ≤ 32 → (infinity : ℕ) (names : List (List ℕ)) (hs : List Held) (x k : List ℕ)
    → Memᴰ x names
    → Memᴰ k (keywords_of x)
    → get_or (made_entries infinity (2 ^ b) names hs) (place_of b k) 0 ≡ 1

-- and that of any keyword is never farther than one more than in one of the tables, where that has it at all
abbrev pub NeverFarther : Type 0
NeverFarther = (b c : ℕ) → b ≤ 32 → c ≤ 32 → (infinity : ℕ) → 1 ≤ infinity → (names : List (List ℕ)) (hs : List Held)
    (h : Held) (k : List ℕ)
    → Memᴰ h hs
    → length h.entries ≡ 2 ^ c
    → (get_or h.entries (place_of c k) 0 ≡ h.table.infinity → ⊥)
    → get_or (made_entries infinity (2 ^ b) names hs) (place_of b k) 0
    ≤ min infinity (get_or h.entries (place_of c k) 0 + 1)

-- a held table is this made one
pub record Holds (t : Held) (b infinity : ℕ) (names : List (List ℕ)) (hs : List Held) : Type 0 where
  pub long : t.table.length ≡ 2 ^ b
  pub limit : t.table.infinity ≡ infinity
  pub entries : t.entries ≡ made_entries infinity (2 ^ b) names hs

-- so whoever holds the made table withholds no query with a TTL of one more that one of those tables, settled, lets
-- pass, as long as the one more is below Infinity
abbrev pub PassesOn : Type 0
PassesOn = (b c : ℕ) → b ≤ 32 → c ≤ 32 → (infinity : ℕ) (names : List (List ℕ)) (hs : List Held) (h t : Held)
    → Holds t b infinity names hs
    → Memᴰ h hs
    → h.table.mark ≡ settled
    → h.table.length ≡ 2 ^ c
    → length h.entries ≡ 2 ^ c
    → (keywords : List (List ℕ)) (ttl : ℕ)
    → ttl + 1 < infinity
    → withholds h keywords ttl ≡ false
    → withholds t keywords (ttl + 1) ≡ false
