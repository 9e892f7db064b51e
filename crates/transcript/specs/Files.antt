-- Event files: where their events stand, and which files are good.
use Rattle.std.specs.Prelude.{ℕ, zero, suc, ◌+◌, ◌-◌, ◌*◌, Bool, List, [], ◌∷◌, eqb, leb, length, get_or, take, drop}
use Rattle.laws.specs.Tests.{every, all}
use Rattle.laws.specs.Bytes.{little}

-- the four-byte number at a place
abbrev pub word_at : List ℕ → ℕ → ℕ
word_at file at = little (take 4 (drop at file))

-- the number of events
abbrev pub count_of : List ℕ → ℕ
count_of file = word_at file 0

-- where event i begins, and the one before it ends
abbrev pub offset_of : List ℕ → ℕ → ℕ
offset_of file i = word_at file (4 + 4 * i)

-- the bytes of event i
abbrev pub event_at : List ℕ → ℕ → List ℕ
event_at file i = take (offset_of file (i + 1) - offset_of file i) (drop (offset_of file i) file)

-- an event's kind, line, clock and message
abbrev pub kind_of : List ℕ → ℕ
kind_of e = get_or e 0 0

abbrev pub line_of : List ℕ → ℕ
line_of e = get_or e 1 0

abbrev pub clock_of : List ℕ → ℕ
clock_of e = word_at e 2

abbrev pub message_of : List ℕ → List ℕ
message_of e = drop 6 e

-- k numbers from i on
abbrev pub count_from : ℕ → ℕ → List ℕ
count_from i zero = []
count_from i (suc k) = i ∷ count_from (i + 1) k

-- the longest file that is read
abbrev pub longest : ℕ
longest = 32768

-- the file has room for its count and its offsets, of which the first is just past them and the last is the file's
-- length
unfoldable pub good_offsets : List ℕ → Bool
good_offsets file =
    every
    (leb (length file) longest
    ∷ leb 8 (length file)
    ∷ leb (8 + 4 * count_of file) (length file)
    ∷ eqb (offset_of file 0) (8 + 4 * count_of file)
    ∷ eqb (offset_of file (count_of file)) (length file)
    ∷ [])

-- event i has at least six bytes, ends within the file, and is of a kind that there is: 0 opens, 1 closes, 2 is a
-- message
unfoldable pub good_event : List ℕ → ℕ → Bool
good_event file i =
    every
    (leb (offset_of file i + 6) (offset_of file (i + 1))
    ∷ leb (offset_of file (i + 1)) (length file)
    ∷ leb (kind_of (event_at file i)) 2
    ∷ [])

abbrev pub good_file : List ℕ → Bool
good_file file = every (good_offsets file ∷ all (good_event file) (count_from 0 (count_of file)) ∷ [])
