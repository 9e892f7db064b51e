-- The table of the station's own names (RULES 22.11) once more, in words: which entries are 1, what a call answers,
-- and which bytes it leaves. A definition that left a name out, or took another place for a keyword, would not have
-- these; what the keywords of a text are is said in crate keywords.
use Rattle.std.specs.Prelude.{ℕ, ◌^◌, ◌≤◌, ◌<◌, ◌≡◌, true, false, ◌↔◌, ◌⊎◌, length, get_or, take, drop}
use mathlib.Core.List.{List, Memᴰ}
use Rattle.laws.specs.Tests.{all}
use Rattle.keywords.specs.Keywords.{keywords_of}
use Rattle.keywords.specs.Hash.{place_of}
use Rattle.tables.specs.Tables.{in_bounds}
use Rattle.namearea.specs.Area.{names_in}
use Rattle.namearea.specs.Good.{good_list}
use Rattle.nametable.specs.Table.{own_entries, table_answer, table_out}

-- ---- the entries

-- some name among these has a keyword whose place, the top b bits of its hash, is i
abbrev pub FallsOn : ℕ → List (List ℕ) → ℕ → Type 0
FallsOn b names i =
    (x : List ℕ) × Memᴰ x names × ((k : List ℕ) × Memᴰ k (keywords_of x) × (place_of b k ≡ i))

-- an entry on which some keyword falls is 1, and every other is Infinity; where that is not 1, 1 says that one falls
-- there
pub record Entry (falls : Type 0) (infinity entry : ℕ) : Type 0 where
  pub near : falls → entry ≡ 1
  pub far : (falls → ⊥) → entry ≡ infinity
  pub exactly : (infinity ≡ 1 → ⊥) → (entry ≡ 1) ↔ falls

-- this holds of every entry of a table of 2 to the power b entries, for all such lengths, all names and any Infinity
abbrev pub TableExactly : Type 0
TableExactly = (n b : ℕ) → n ≡ 2 ^ b → b ≤ 32 → (infinity : ℕ) (names : List (List ℕ)) (i : ℕ) → i < n
    → Entry (FallsOn b names i) infinity (get_or (own_entries n infinity names) i 0)

-- it has so many entries
abbrev pub TableLong : Type 0
TableLong = (n infinity : ℕ) (names : List (List ℕ)) → length (own_entries n infinity names) ≡ n

-- and all of them are in 1..Infinity
abbrev pub TableWithin : Type 0
TableWithin = (n infinity : ℕ) → 1 ≤ infinity → (names : List (List ℕ))
    → all (in_bounds infinity) (own_entries n infinity names) ≡ true

-- ---- the answers

-- the area has room for the pairs, and is good
abbrev pub Sound : List ℕ → Type 0
Sound a = (4100 ≤ length a) × (good_list a ≡ true)

-- a length and an Infinity that a RESET may carry: a power of two, 4 to 65,536, and 2 to 127
abbrev pub Carried : ℕ → ℕ → Type 0
Carried n infinity = ((b : ℕ) × (2 ≤ b) × (b ≤ 16) × (n ≡ 2 ^ b)) × ((2 ≤ infinity) × (infinity ≤ 127))

-- when a call answers what
pub record Answers (a : List ℕ) (n infinity out : ℕ) : Type 0 where
  pub short : (table_answer a n infinity out ≡ 2) ↔ ((length a < 4100) ⊎ (Sound a × Carried n infinity × (out < n)))
  pub bad : (table_answer a n infinity out ≡ 1) ↔ ((4100 ≤ length a) × (good_list a ≡ false))
  pub wrong : (table_answer a n infinity out ≡ 14) ↔ (Sound a × (Carried n infinity → ⊥))
  pub made : (table_answer a n infinity out ≡ 0) ↔ (Sound a × Carried n infinity × (n ≤ out))

abbrev pub TableRefusals : Type 0
TableRefusals = (a : List ℕ) (n infinity out : ℕ) → Answers a n infinity out

-- ---- the output

-- a refusal leaves every byte; answer 0 leaves the table at the front, and the bytes past it
pub record Leaves (a : List ℕ) (n infinity : ℕ) (out : List ℕ) : Type 0 where
  pub refused : (table_answer a n infinity (length out) ≡ 0 → ⊥) → table_out a n infinity out ≡ out
  pub table : table_answer a n infinity (length out) ≡ 0
      → take n (table_out a n infinity out) ≡ own_entries n infinity (names_in a)
  pub behind : table_answer a n infinity (length out) ≡ 0 → drop n (table_out a n infinity out) ≡ drop n out
  pub long : length (table_out a n infinity out) ≡ length out

abbrev pub TableLeaves : Type 0
TableLeaves = (a : List ℕ) (n infinity : ℕ) (out : List ℕ) → Leaves a n infinity out

-- all in one: where a call answers 0, the length is 2 to some power b, and each of that many bytes of the output is 1
-- exactly if a keyword of a listed name falls there, and Infinity exactly if none does
pub record Told (names : List (List ℕ)) (n infinity : ℕ) (after : List ℕ) : Type 0 where
  pub bits : ℕ
  pub power : n ≡ 2 ^ bits
  pub near : (i : ℕ) → i < n → (get_or after i 0 ≡ 1) ↔ FallsOn bits names i
  pub far : (i : ℕ) → i < n → (get_or after i 0 ≡ infinity) ↔ (FallsOn bits names i → ⊥)

abbrev pub TableTold : Type 0
TableTold = (a : List ℕ) (n infinity : ℕ) (out : List ℕ) → table_answer a n infinity (length out) ≡ 0
    → Told (names_in a) n infinity (table_out a n infinity out)
