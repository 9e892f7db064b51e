-- Each rule of updates at its bounds, by computation: TTL 1 and Hops 0 unless said otherwise.
use Prim.Native.Nat.{ℕ}
use mathlib.Core.Path.{◌≡◌, refl}
use mathlib.Core.List.{List, [], ◌∷◌, ◌++◌, map}
use Rattle.laws.specs.Bytes.{little_bytes}
use Rattle.tables.specs.Tables.{good_length}
use Rattle.tables.specs.Patch.{numbers, added, all_fit}
use Rattle.tables.specs.Updates.{update_answer, updated, good_reset, good_patch, in_turn, in_range, reset_by, moved_on}
use Rattle.tables.specs.Updates.{patch_by, broken_by}
use Rattle.tables.specs.Answers.{Sent, answer_to, after}

abbrev sent : List ℕ → Sent
sent p = record { ttl = 1; hops = 0; payload = p }

-- the payloads of a RESET and of a PATCH with compressor 0
abbrev reset : ℕ → ℕ → List ℕ
reset n infinity = 0 ∷ (little_bytes 4 n ++ (infinity ∷ []))

abbrev patch : ℕ → ℕ → ℕ → List ℕ → List ℕ
patch place size bits d = 1 ∷ place ∷ size ∷ 0 ∷ bits ∷ d

-- the answer to a payload in this room, after these (the newest first, from no table)
abbrev answer : ℕ → List (List ℕ) → List ℕ → ℕ
answer room ps p = answer_to room (after room (map sent ps)) (sent p)

-- the answers to several payloads, each after the same. To open this is to open the rules
answers : ℕ → List (List ℕ) → List (List ℕ) → List ℕ
unfolding update_answer updated good_reset good_patch good_length in_turn in_range reset_by moved_on patch_by broken_by
    numbers added all_fit
answers room ps qs = map (answer room ps) qs

-- the same for updates with their TTL and Hops, behind a RESET
abbrev near : List Sent → List ℕ
near ss = map (answer_to 4 (after 4 (sent (reset 4 8) ∷ []))) ss

-- ---- the points, each rule at its bounds

record Bounds : Type 0 where
  -- lengths 0, 2, 3, 4, 8, 256, 65,535, 65,536, 131,072 and 16,777,220
  lengths : answers 100000000 []
      (reset 0 8 ∷ reset 2 8 ∷ reset 3 8 ∷ reset 4 8 ∷ reset 8 8 ∷ reset 256 8 ∷ reset 65535 8 ∷ reset 65536 8
      ∷ reset 131072 8 ∷ reset 16777220 8 ∷ [])
      ≡ 14 ∷ 14 ∷ 14 ∷ 0 ∷ 0 ∷ 0 ∷ 14 ∷ 0 ∷ 14 ∷ 14 ∷ []
  -- a room as large as the length, and one less
  room-enough : answers 65536 []
      (reset 65536 8 ∷ [])
      ≡ 0 ∷ []
  room-short : answers 65535 []
      (reset 65536 8 ∷ reset 32768 8 ∷ [])
      ≡ 14 ∷ 0 ∷ []
  -- Infinity 0, 1, 2, 127, 128 and 255
  infinities : answers 4 []
      (reset 4 0 ∷ reset 4 1 ∷ reset 4 2 ∷ reset 4 127 ∷ reset 4 128 ∷ reset 4 255 ∷ [])
      ≡ 14 ∷ 14 ∷ 0 ∷ 0 ∷ 14 ∷ 14 ∷ []
  -- five, six and seven bytes; no byte; another variant
  reset-bytes : answers 4 []
      ((0 ∷ 4 ∷ 0 ∷ 0 ∷ 0 ∷ []) ∷ reset 4 8 ∷ (0 ∷ 4 ∷ 0 ∷ 0 ∷ 0 ∷ 8 ∷ 0 ∷ []) ∷ [] ∷ (2 ∷ 4 ∷ 0 ∷ 0 ∷ 0 ∷ 8 ∷ []) ∷ [])
      ≡ 14 ∷ 0 ∷ 14 ∷ 14 ∷ 14 ∷ []
  -- TTL and Hops other than 1 and 0, of a RESET and of a PATCH
  hops_and_ttl : near
      (record { ttl = 1; hops = 0; payload = reset 4 8 }
      ∷ record { ttl = 0; hops = 0; payload = reset 4 8 }
      ∷ record { ttl = 2; hops = 0; payload = reset 4 8 }
      ∷ record { ttl = 1; hops = 1; payload = reset 4 8 }
      ∷ record { ttl = 1; hops = 0; payload = patch 1 1 4 (0 ∷ 0 ∷ []) }
      ∷ record { ttl = 2; hops = 0; payload = patch 1 1 4 (0 ∷ 0 ∷ []) }
      ∷ record { ttl = 1; hops = 1; payload = patch 1 1 4 (0 ∷ 0 ∷ []) }
      ∷ [])
      ≡ 0 ∷ 14 ∷ 14 ∷ 14 ∷ 0 ∷ 14 ∷ 14 ∷ []
  -- place 1 of 1, 0 of 1, 2 of 1, 1 of 0; compressor 1; bits 0, 3, 5, 16; four bytes
  patch-fields : answers 4 (reset 4 8 ∷ [])
      (patch 1 1 4 (0 ∷ 0 ∷ [])
      ∷ patch 0 1 4 (0 ∷ 0 ∷ [])
      ∷ patch 2 1 4 (0 ∷ 0 ∷ [])
      ∷ patch 1 0 4 (0 ∷ 0 ∷ [])
      ∷ (1 ∷ 1 ∷ 1 ∷ 1 ∷ 4 ∷ 0 ∷ 0 ∷ [])
      ∷ patch 1 1 0 (0 ∷ 0 ∷ [])
      ∷ patch 1 1 3 (0 ∷ 0 ∷ [])
      ∷ patch 1 1 5 (0 ∷ 0 ∷ [])
      ∷ patch 1 1 16 (0 ∷ 0 ∷ [])
      ∷ (1 ∷ 1 ∷ 1 ∷ 0 ∷ [])
      ∷ [])
      ≡ 0 ∷ 14 ∷ 14 ∷ 14 ∷ 14 ∷ 14 ∷ 14 ∷ 14 ∷ 14 ∷ 14 ∷ []
  -- no RESET yet; after a refusal; a RESET heals
  no_table : answers 4 []
      (patch 1 1 4 (0 ∷ 0 ∷ []) ∷ [])
      ≡ 15 ∷ []
  after-refusal : answers 4 ([] ∷ reset 4 8 ∷ [])
      (patch 1 1 4 (0 ∷ 0 ∷ []) ∷ reset 4 8 ∷ [])
      ≡ 15 ∷ 0 ∷ []
  healed : answers 4 (reset 4 8 ∷ [] ∷ reset 4 8 ∷ [])
      (patch 1 1 4 (0 ∷ 0 ∷ []) ∷ [])
      ≡ 0 ∷ []
  -- the first place of a run is 1: 1 of 3, 2 of 3, 3 of 3 with all its numbers
  first-place : answers 4 (reset 4 8 ∷ [])
      (patch 1 3 4 (0 ∷ []) ∷ patch 2 3 4 (0 ∷ []) ∷ patch 3 3 4 (0 ∷ 0 ∷ []) ∷ [])
      ≡ 0 ∷ 15 ∷ 15 ∷ []
  -- behind 1 of 3: places 1, 2 and 3; size 4; bits 8; a RESET
  next_place : answers 4 (patch 1 3 4 (0 ∷ []) ∷ reset 4 8 ∷ [])
      (patch 1 3 4 (0 ∷ []) ∷ patch 2 3 4 (0 ∷ []) ∷ patch 3 3 4 (0 ∷ []) ∷ patch 2 4 4 (0 ∷ []) ∷ patch 2 3 8
      (0 ∷ []) ∷ reset 4 8 ∷ [])
      ≡ 15 ∷ 0 ∷ 15 ∷ 15 ∷ 15 ∷ 0 ∷ []
  -- a run of one message with 3, 4 and 5 numbers
  how_many : answers 4 (reset 4 8 ∷ [])
      (patch 1 1 8 (0 ∷ 0 ∷ 0 ∷ []) ∷ patch 1 1 8 (0 ∷ 0 ∷ 0 ∷ 0 ∷ []) ∷ patch 1 1 8 (0 ∷ 0 ∷ 0 ∷ 0 ∷ 0 ∷ []) ∷ [])
      ≡ 15 ∷ 0 ∷ 15 ∷ []
  -- behind 3 numbers of a run of two: none, 1 and 2 more
  how_many-more : answers 4 (patch 1 2 8 (0 ∷ 0 ∷ 0 ∷ []) ∷ reset 4 8 ∷ [])
      (patch 2 2 8 [] ∷ patch 2 2 8 (0 ∷ []) ∷ patch 2 2 8 (0 ∷ 0 ∷ []) ∷ [])
      ≡ 15 ∷ 0 ∷ 15 ∷ []
  -- the same inside a run of three
  how_many-inside : answers 4 (patch 1 3 8 (0 ∷ 0 ∷ 0 ∷ []) ∷ reset 4 8 ∷ [])
      (patch 2 3 8 [] ∷ patch 2 3 8 (0 ∷ []) ∷ patch 2 3 8 (0 ∷ 0 ∷ []) ∷ [])
      ≡ 0 ∷ 0 ∷ 15 ∷ []
  -- a run that has ended: place 1 is next, with any size and bits
  next-run : answers 4 (patch 2 2 4 (0 ∷ []) ∷ patch 1 2 4 (0 ∷ []) ∷ reset 4 8 ∷ [])
      (patch 1 1 8 (0 ∷ 0 ∷ 0 ∷ 0 ∷ []) ∷ patch 2 2 4 (0 ∷ []) ∷ patch 3 3 4 (0 ∷ []) ∷ [])
      ≡ 0 ∷ 15 ∷ 15 ∷ []
  -- sums of 0, 1, Infinity and Infinity + 1 at the first entry, and at the last
  sums : answers 4 (reset 4 8 ∷ [])
      (patch 1 1 8 (248 ∷ 0 ∷ 0 ∷ 0 ∷ [])
      ∷ patch 1 1 8 (249 ∷ 0 ∷ 0 ∷ 0 ∷ [])
      ∷ patch 1 1 8 (0 ∷ 0 ∷ 0 ∷ 0 ∷ [])
      ∷ patch 1 1 8 (1 ∷ 0 ∷ 0 ∷ 0 ∷ [])
      ∷ patch 1 1 8 (0 ∷ 0 ∷ 0 ∷ 248 ∷ [])
      ∷ patch 1 1 8 (0 ∷ 0 ∷ 0 ∷ 1 ∷ [])
      ∷ patch 1 1 4 (128 ∷ 0 ∷ [])
      ∷ patch 1 1 4 (144 ∷ 0 ∷ [])
      ∷ patch 1 1 4 (0 ∷ 8 ∷ [])
      ∷ patch 1 1 4 (0 ∷ 1 ∷ [])
      ∷ [])
      ≡ 16 ∷ 0 ∷ 0 ∷ 16 ∷ 16 ∷ 16 ∷ 16 ∷ 0 ∷ 16 ∷ 16 ∷ []
  -- the same on what a run has left: 8, 1, 8, 1
  sums-after : answers 4 (patch 1 1 4 (9 ∷ 9 ∷ []) ∷ reset 4 8 ∷ [])
      (patch 1 1 8 (0 ∷ 255 ∷ 0 ∷ 0 ∷ []) ∷ patch 1 1 8 (0 ∷ 0 ∷ 0 ∷ 0 ∷ []) ∷ patch 1 1 8 (0 ∷ 7 ∷ 0 ∷ 7 ∷ [])
      ∷ patch 1 1 8 (0 ∷ 8 ∷ 0 ∷ 0 ∷ []) ∷ [])
      ≡ 16 ∷ 0 ∷ 0 ∷ 16 ∷ []
  -- and on what a run's first message has left: 8, 1, with the last two entries next
  sums-inside : answers 4 (patch 1 2 4 (9 ∷ []) ∷ reset 4 8 ∷ [])
      (patch 2 2 4 (153 ∷ []) ∷ patch 2 2 4 (152 ∷ []) ∷ patch 2 2 4 (16 ∷ []) ∷ [])
      ≡ 0 ∷ 16 ∷ 16 ∷ []
  -- and on what a run of two messages has left: 1, 1, 1, 1
  two-messages : (after 4
      (map sent
      (patch 2 2 4 (153 ∷ []) ∷ patch 1 2 4 (153 ∷ []) ∷ reset 4 8 ∷ []))
      ).entries
      ≡ 1 ∷ 1 ∷ 1 ∷ 1 ∷ []
  -- the widest numbers at Infinity 127: -127 leads to 0, -126 to 1
  widest : answers 4 (reset 4 127 ∷ [])
      (patch 1 1 8 (129 ∷ 0 ∷ 0 ∷ 0 ∷ [])
      ∷ patch 1 1 8 (130 ∷ 0 ∷ 0 ∷ 0 ∷ [])
      ∷ patch 1 1 8 (128 ∷ 0 ∷ 0 ∷ 0 ∷ [])
      ∷ patch 1 1 8 (127 ∷ 0 ∷ 0 ∷ 0 ∷ [])
      ∷ [])
      ≡ 16 ∷ 0 ∷ 16 ∷ 16 ∷ []
  -- and from 1: 126 leads to Infinity, 127 past it
  widest-back : answers 4 (patch 1 1 8 (130 ∷ 130 ∷ 130 ∷ 130 ∷ []) ∷ reset 4 127 ∷ [])
      (patch 1 1 8 (126 ∷ 0 ∷ 0 ∷ 0 ∷ []) ∷ patch 1 1 8 (127 ∷ 0 ∷ 0 ∷ 0 ∷ []) ∷ [])
      ≡ 0 ∷ 16 ∷ []

bounds : Bounds
unfolding answers
bounds =
    record {
      lengths = refl;
      room-enough = refl;
      room-short = refl;
      infinities = refl;
      reset-bytes = refl;
      hops_and_ttl = refl;
      patch-fields = refl;
      no_table = refl;
      after-refusal = refl;
      healed = refl;
      first-place = refl;
      next_place = refl;
      how_many = refl;
      how_many-more = refl;
      how_many-inside = refl;
      next-run = refl;
      sums = refl;
      sums-after = refl;
      sums-inside = refl;
      two-messages = refl;
      widest = refl;
      widest-back = refl;
    }
