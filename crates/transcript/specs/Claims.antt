-- Which files are good (RULES 17.1, 17.2), in the rules' own terms: numbers of the file and nothing else. What the
-- session's station says of itself, and points of the last column.
use Rattle.std.specs.Prelude.{ℕ, ◌+◌, ◌*◌, ◌≤◌, ◌<◌, ◌≡◌, true, false, ◌↔◌, List, [], ◌∷◌, length, get_or}
use Rattle.laws.specs.Text.{codes}
use Rattle.protocol.specs.Pings.{own_pong}
use Rattle.transcript.specs.Files.{count_of, offset_of, good_file}
use Rattle.transcript.specs.Rows.{age_text}
use Rattle.transcript.specs.Text as text

-- N events: at most 32,768 bytes; the offsets begin just past themselves, at 8 + 4 N, rise by at least 6, and end at
-- the file's length; the first byte of each event is 0, 1 or 2
pub record InForm (file : List ℕ) : Type 0 where
  pub size : length file ≤ 32768
  pub room : 8 + 4 * count_of file ≤ length file
  pub begins : offset_of file 0 ≡ 8 + 4 * count_of file
  pub rises : (i : ℕ) → i < count_of file → offset_of file i + 6 ≤ offset_of file (i + 1)
  pub ends : offset_of file (count_of file) ≡ length file
  pub kinds : (i : ℕ) → i < count_of file → get_or file (offset_of file i) 0 ≤ 2

abbrev pub GoodExactly : Type 0
GoodExactly = (file : List ℕ) → (good_file file ≡ true) ↔ InForm file

-- the own pong's 14 bytes: port 6346, 127.0.0.1, no files, no kilobytes; calls are taken; and the areas
pub record Station : Type 0 where
  pub pong : own_pong text.own_pong ≡ 0xCA ∷ 0x18 ∷ 127 ∷ 0 ∷ 0 ∷ 1 ∷ 0 ∷ 0 ∷ 0 ∷ 0 ∷ 0 ∷ 0 ∷ 0 ∷ 0 ∷ []
  pub calls : (text.own_pong).calls ≡ true
  pub route : text.route_size ≡ 16384

-- the last column (RULES 21.6): every age in decimal, 0 and the oldest's among them, and a dash for none
pub record AgeColumn : Type 0 where
  pub none : age_text (record { known = false; after = 0 }) ≡ codes "-"
  pub newest : age_text (record { known = true; after = 0 }) ≡ codes "0"
  pub hundred : age_text (record { known = true; after = 100 }) ≡ codes "100"
  pub oldest : age_text (record { known = true; after = 511 }) ≡ codes "511"
