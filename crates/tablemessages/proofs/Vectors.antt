-- The table of four entries of RULES 18, written and read back, by computation.
use Prim.Native.Nat.{ℕ}
use mathlib.Core.Path.{◌≡◌, refl}
use mathlib.Core.Bool.{true, false}
use mathlib.Core.List.{List, [], ◌∷◌, map}
use lib.ListN.{replicate, drop}
use Rattle.wire.specs.Header.{message}
use Rattle.tables.specs.Tables.{held_in, no_table, good_length}
use Rattle.tables.specs.Patch.{numbers, packed, added, all_fit}
use Rattle.tables.specs.Updates.{update_answer, updated, good_reset, good_patch, in_turn, in_range, reset_by, moved_on}
use Rattle.tables.specs.Updates.{patch_by, broken_by}
use Rattle.tablemessages.specs.Writer.{all_near, raws, data_of, chunks, run_from, messages_of, joined, good_table}
use Rattle.tablemessages.specs.Writer.{writer_answer, writer_bytes, writer_out}
use Rattle.tablemessages.specs.RoundTrip.{after_all, settled_as}

new : List ℕ
new = 8 ∷ 1 ∷ 8 ∷ 1 ∷ []

messages : List (List ℕ)
messages = messages_of (replicate 16 7) false [] new 8 1

payloads : map (drop 23) messages ≡ (0 ∷ 4 ∷ 0 ∷ 0 ∷ 0 ∷ 8 ∷ []) ∷ (1 ∷ 1 ∷ 2 ∷ 0 ∷ 4 ∷ 9 ∷ [])
    ∷ (1 ∷ 2 ∷ 2 ∷ 0 ∷ 4 ∷ 9 ∷ []) ∷ []
unfolding new messages messages_of all_near raws data_of chunks run_from message packed
payloads = refl

answer : writer_answer (replicate 16 7) false [] 0 new 8 1 87 ≡ 0
unfolding new messages_of all_near raws data_of chunks run_from message packed writer_answer good_table joined good_length
answer = refl

short : writer_answer (replicate 16 7) false [] 0 new 8 1 86 ≡ 2
unfolding new messages_of all_near raws data_of chunks run_from message packed writer_answer good_table joined good_length
short = refl

back : after_all 4 (held_in no_table []) messages ≡ settled_as new 8
unfolding new messages messages_of all_near raws data_of chunks run_from message packed after_all update_answer updated
    good_reset good_patch
    in_turn in_range reset_by moved_on patch_by broken_by good_length numbers added all_fit
back = refl

-- from the old table: no RESET, and each difference 0 or 7
onward : map (drop 23) (messages_of (replicate 16 7) true new (8 ∷ 8 ∷ 8 ∷ 8 ∷ []) 8 2)
    ≡ (1 ∷ 1 ∷ 1 ∷ 0 ∷ 4 ∷ 0x07 ∷ 0x07 ∷ []) ∷ []
unfolding new messages_of all_near raws data_of chunks run_from message packed
onward = refl

-- a difference of -99 from Infinity 100 needs 8 bits; three bytes of data a message, and the last has one
wide : map (drop 23) (messages_of (replicate 16 7) false [] (100 ∷ 1 ∷ 100 ∷ 1 ∷ []) 100 3)
    ≡ (0 ∷ 4 ∷ 0 ∷ 0 ∷ 0 ∷ 100 ∷ []) ∷ (1 ∷ 1 ∷ 2 ∷ 0 ∷ 8 ∷ 0 ∷ 0x9D ∷ 0 ∷ []) ∷ (1 ∷ 2 ∷ 2 ∷ 0 ∷ 8 ∷ 0x9D ∷ []) ∷ []
unfolding messages_of all_near raws data_of chunks run_from message packed
wide = refl

-- an unchanged table: a full run of zeros
again : map (drop 23) (messages_of (replicate 16 7) true new new 8 4091) ≡ (1 ∷ 1 ∷ 1 ∷ 0 ∷ 4 ∷ 0 ∷ 0 ∷ []) ∷ []
unfolding new messages_of all_near raws data_of chunks run_from message packed
again = refl

-- another Infinity, an entry out of range in the old table, and a data size of 0 are 14 even where the output is short
unlike : writer_answer (replicate 16 7) true new 9 new 8 1 0 ≡ 14
unfolding new messages_of all_near raws data_of chunks run_from message packed writer_answer good_table joined good_length
unlike = refl

stale : writer_answer (replicate 16 7) true (9 ∷ 1 ∷ 8 ∷ 1 ∷ []) 8 new 8 1 0 ≡ 14
unfolding new messages_of all_near raws data_of chunks run_from message packed writer_answer good_table joined good_length
stale = refl

empty : writer_answer (replicate 16 7) false [] 0 new 8 0 0 ≡ 14
unfolding new messages_of all_near raws data_of chunks run_from message packed writer_answer good_table joined good_length
empty = refl

-- 87 bytes are written, and the two behind them stay
kept : drop 86 (writer_out (replicate 16 7) false [] 0 new 8 1 (replicate 89 5)) ≡ 9 ∷ 5 ∷ 5 ∷ []
unfolding new messages_of all_near raws data_of chunks run_from message packed writer_answer good_table joined good_length
    writer_out writer_bytes
kept = refl
