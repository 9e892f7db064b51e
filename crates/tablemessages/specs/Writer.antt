-- The writer of updates (RULES 13): the new table, the old one if any, a message number and a data size give a RESET,
-- where there was no old table, and a run of PATCH messages.
use Rattle.std.specs.Prelude.{ℕ, zero, suc, ◌+◌, ◌-◌, ◌^◌, Bool, true, cond, not, ◌&&◌, List, [], ◌∷◌, ◌++◌, Result, Ok, Err, eqb, leb, ltb, length, take, drop, replicate}
use Rattle.laws.specs.Tests.{first_of, all}
use Rattle.laws.specs.Bytes.{little_bytes}
use Rattle.laws.specs.Parts.{over}
use Rattle.wire.specs.Header.{message, route_update}
use Rattle.answer.specs.Numbers.{number_of}
use Rattle.answer.specs.declared.Refusal.{Refusal}
use Rattle.tables.specs.Patch.{packed}
use Rattle.tables.specs.Tables.{good_length, good_infinity}
use Rattle.tablemessages.specs.declared.Written.{Written}

-- what differences are taken from: the old table, or every entry Infinity, as a RESET leaves it
abbrev pub base_of : Bool → List ℕ → List ℕ → ℕ → List ℕ
base_of had old new infinity = cond had old (replicate (length new) infinity)

-- the difference of two entries lies in -8..7
abbrev pub near : ℕ → ℕ → Bool
near e b = leb e (b + 7) && leb b (e + 8)

unfoldable pub all_near : List ℕ → List ℕ → Bool
all_near [] bs = true
all_near (e ∷ es) [] = true
all_near (e ∷ es) (b ∷ bs) = near e b && all_near es bs

-- RULES 13.4: 4 bits where every difference lies in -8..7, else 8
abbrev pub bits_for : List ℕ → List ℕ → ℕ
bits_for new base = cond (all_near new base) 4 8

-- e - b as a two's complement number of `bits` bits
abbrev pub raw : ℕ → ℕ → ℕ → ℕ
raw bits e b = cond (leb b e) (e - b) (2 ^ bits + e - b)

unfoldable pub raws : ℕ → List ℕ → List ℕ → List ℕ
raws bits [] bs = []
raws bits (e ∷ es) [] = []
raws bits (e ∷ es) (b ∷ bs) = raw bits e b ∷ raws bits es bs

-- the data of the whole run
unfoldable pub data_of : List ℕ → List ℕ → List ℕ
data_of new base = packed (bits_for new base) (raws (bits_for new base) new base)

-- data in parts of `size` bytes, every part full but the last; at most n parts
unfoldable pub chunks : ℕ → ℕ → List ℕ → List (List ℕ)
chunks zero size d = []
chunks (suc n) size [] = []
chunks (suc n) size (b ∷ bs) = take size (b ∷ bs) ∷ chunks n size (drop size (b ∷ bs))

abbrev pub parts_of : ℕ → List ℕ → List (List ℕ)
parts_of size d = chunks (length d) size d

-- the messages: an update goes with TTL 1 and Hops 0
abbrev pub update : List ℕ → List ℕ → List ℕ
update number payload = message number route_update 1 0 payload

abbrev pub reset_payload : ℕ → ℕ → List ℕ
reset_payload n infinity = 0 ∷ (little_bytes 4 n ++ (infinity ∷ []))

abbrev pub patch_payload : ℕ → ℕ → ℕ → List ℕ → List ℕ
patch_payload place size bits d = 1 ∷ place ∷ size ∷ 0 ∷ bits ∷ d

-- the messages of a run of `size`, from `place` on
unfoldable pub run_from : List ℕ → ℕ → ℕ → ℕ → List (List ℕ) → List (List ℕ)
run_from number place size bits [] = []
run_from number place size bits (d ∷ ds) = update number (patch_payload place size bits d) ∷ run_from number
    (suc place) size bits ds

abbrev pub run_of : List ℕ → List ℕ → List ℕ → ℕ → List (List ℕ)
run_of number new base size =
    run_from number 1 (length (parts_of size (data_of new base))) (bits_for new base) (parts_of size (data_of new base))

-- all the messages, and their bytes
unfoldable pub messages_of : List ℕ → Bool → List ℕ → List ℕ → ℕ → ℕ → List (List ℕ)
messages_of number had old new infinity size =
    cond had [] (update number (reset_payload (length new) infinity) ∷ []) ++ run_of number new
    (base_of had old new infinity) size

unfoldable pub joined : List (List ℕ) → List ℕ
joined [] = []
joined (m ∷ ms) = m ++ joined ms

-- an entry is in 1..Infinity
abbrev pub in_range : ℕ → ℕ → Bool
in_range infinity e = leb 1 e && leb e infinity

-- a table that may be written: a length and an Infinity that a RESET may carry, and each entry in 1..Infinity
unfoldable pub good_table : List ℕ → ℕ → Bool
good_table es infinity = good_length (length es) && (good_infinity infinity && all (in_range infinity) es)

-- a run over 255 messages is 14, then short output 2
abbrev pub run_rules : ℕ → ℕ → ℕ → List (Bool × ℕ)
run_rules count total room = (ltb 255 count, 14) ∷ (ltb room total, 2) ∷ []

-- what the writer answers: 14, then 2
unfoldable pub writer_answer : List ℕ → Bool → List ℕ → ℕ → List ℕ → ℕ → ℕ → ℕ → ℕ
writer_answer number had old old_infinity new infinity size room =
    first_of
    ((not (good_table new infinity), 14)
    ∷ (had && not (good_table old old_infinity), 14)
    ∷ (had && not (eqb (length old) (length new) && eqb old_infinity infinity), 14)
    ∷ (not (leb 1 size && leb size 4091), 14)
    ∷ run_rules (length (parts_of size (data_of new (base_of had old new infinity))))
    (length (joined (messages_of number had old new infinity size))) room)

abbrev pub written_as : ℕ → ℕ → Written
written_as n w = record { answer = n; written = w }

-- the same of an outcome: how many bytes were written, or the refusal
abbrev pub written_by : Result ℕ Refusal → Written
written_by (Ok w) = written_as 0 w
written_by (Err refusal) = written_as (number_of refusal) 0

module _ (number : List ℕ) (had : Bool) (old : List ℕ) (old_infinity : ℕ) (new : List ℕ) (infinity size : ℕ)
    (out : List ℕ) where
  -- the bytes that are written: none where the answer is not 0
  unfoldable pub writer_bytes : List ℕ
  writer_bytes =
      cond (eqb (writer_answer number had old old_infinity new infinity size (length out)) 0)
      (joined (messages_of number had old new infinity size))
      []

  unfoldable pub writer_result : Written
  writer_result = written_as (writer_answer number had old old_infinity new infinity size (length out)) (length writer_bytes)

  -- output past what is written stays
  unfoldable pub writer_out : List ℕ
  writer_out = over 0 writer_bytes out
