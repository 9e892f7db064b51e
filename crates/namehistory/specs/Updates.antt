-- The table of the station's own names goes to the writer of updates (RULES 22.12, 13): it takes each such table, for
-- a length and an Infinity that a RESET may carry.
use Rattle.std.specs.Prelude.{ℕ, ◌≤◌, ◌<◌, ◌≡◌, Bool, true, false, ◌↔◌, List, length}
use Rattle.tables.specs.Tables.{good_length, good_infinity}
use Rattle.tablemessages.specs.Writer.{base_of, data_of, parts_of, good_table, writer_answer}
use Rattle.nametable.specs.Table.{own_entries}

-- how many PATCH messages it takes from what was there before
abbrev pub patches : Bool → List ℕ → List ℕ → ℕ → ℕ → ℕ
patches had old new infinity size = length (parts_of size (data_of new (base_of had old new infinity)))

-- the writer refuses a table by 14 exactly if it would take over 255 messages
abbrev pub OnlyByLength : Bool → List ℕ → List ℕ → ℕ → ℕ → Type 0
OnlyByLength had old new infinity size =
    (number : List ℕ) (room : ℕ)
    → (writer_answer number had old infinity new infinity size room ≡ 14) ↔ (255 < patches had old new infinity size)

-- it may be written: as the first table, and behind one of other names
pub record Writable (n infinity : ℕ) (names : List (List ℕ)) : Type 0 where
  pub good : good_table (own_entries n infinity names) infinity ≡ true
  pub first : (old : List ℕ) (size : ℕ)
      → 1 ≤ size
      → size ≤ 4091
      → OnlyByLength false old (own_entries n infinity names) infinity size
  pub next : (before : List (List ℕ)) (size : ℕ)
      → 1 ≤ size
      → size ≤ 4091
      → OnlyByLength true (own_entries n infinity before) (own_entries n infinity names) infinity size

abbrev pub WriterTakes : Type 0
WriterTakes =
    (n infinity : ℕ) (names : List (List ℕ))
    → good_length n ≡ true
    → good_infinity infinity ≡ true
    → Writable n infinity names
