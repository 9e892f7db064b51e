-- The six events of RULES 17.7, a session with hits, and files that are not good, by computation.
use Prim.Native.Nat.{ℕ, ◌+◌, ◌*◌}
use mathlib.Core.Path.{◌≡◌, refl}
use mathlib.Core.List.{List, [], ◌∷◌, ◌++◌}
use lib.ListN.{length, replicate}
use Rattle.laws.specs.Text.{codes}
use Rattle.laws.specs.Bytes.{little_bytes}
use Rattle.laws.specs.Ring.{kept_places}
use Rattle.wire.specs.Header.{message, route_update}
use Rattle.keywords.specs.Keywords.{lower}
use Rattle.keywords.specs.Keywords.{is_separator, keywords_of, pieces, filled}
use Rattle.keywords.specs.Hash.{xor32, hash_of, word}
use Rattle.tables.specs.Tables.{good_length, table_in_order}
use Rattle.tables.specs.Patch.{numbers, added, all_fit}
use Rattle.tables.specs.Updates.{update_answer, updated, good_reset, good_patch, in_turn, in_range, reset_by, moved_on}
use Rattle.tables.specs.Updates.{patch_by, broken_by}
use Rattle.tables.specs.Admission.{withholds}
use Rattle.protocol.specs.Memory.{queries_in, find, remember, raise, no_twice, memory_in_order}
use Rattle.protocol.specs.Lines.{stored_pongs}
use Rattle.protocol.specs.Order.{line_in_order, in_order}
use Rattle.protocol.specs.Queries.{until_zero, query_step}
use Rattle.protocol.specs.Hits.{hit_step}
use Rattle.protocol.specs.Calls.{fresh, opening, closing, early, update_step, by_type, arriving}
use Rattle.ages.specs.Sessions.{A, B, C, D, query, hit}
use Rattle.digits.specs.Decimal.{decimal}
use Rattle.transcript.specs.Files.{good_offsets, good_event}
use Rattle.transcript.specs.Rows.{sent_text, age_text, row_text}
use Rattle.transcript.specs.Text.{call_of, rows_from, all_rows, session_text}

-- an event, and a file of events
event : ℕ → ℕ → List ℕ → List ℕ
event kind line m = kind ∷ line ∷ (little_bytes 4 0 ++ m)

offsets : ℕ → List (List ℕ) → List ℕ
offsets at [] = little_bytes 4 at
offsets at (e ∷ es) = little_bytes 4 at ++ offsets (at + length e) es

joined : List (List ℕ) → List ℕ
joined [] = []
joined (e ∷ es) = e ++ joined es

file_of : List (List ℕ) → List ℕ
file_of es = little_bytes 4 (length es) ++ (offsets (8 + 4 * length es) es ++ joined es)

q1 : List ℕ
q1 = message (replicate 16 7) 0x80 3 1 (0 ∷ 0 ∷ 0x65 ∷ 0x62 ∷ 0x20 ∷ 0x65 ∷ 0x62 ∷ 0x63 ∷ 0x6B ∷ 0x6C ∷ 0 ∷ [])

update : List ℕ → List ℕ
update p = message (replicate 16 1) route_update 1 0 p

six_events : List (List ℕ)
six_events =
    event 0 0 []
    ∷ event 0 1 []
    ∷ event 2 1 (update (0 ∷ 4 ∷ 0 ∷ 0 ∷ 0 ∷ 8 ∷ []))
    ∷ event 2 1 (update (1 ∷ 1 ∷ 1 ∷ 0 ∷ 4 ∷ 9 ∷ 9 ∷ []))
    ∷ event 2 0 q1
    ∷ event 2 0 q1
    ∷ []

six : session_text (file_of six_events)
    ≡ codes "event answer to after\n0 0 - -\n1 0 - -\n2 0 - -\n3 0 - -\n4 0 1 -\n5 9 - 0\n"
unfolding event offsets joined file_of q1 update six_events good_offsets good_event decimal sent_text age_text row_text call_of
    rows_from all_rows session_text kept_places message is_separator lower keywords_of pieces filled xor32 hash_of word
    good_length table_in_order numbers added all_fit update_answer updated good_reset good_patch in_turn in_range reset_by
    moved_on patch_by broken_by withholds queries_in find remember no_twice memory_in_order stored_pongs line_in_order in_order
    until_zero query_step fresh opening closing early update_step by_type arriving
six = refl

-- line 0 asks A, B and C, and hits of them come by line 1: the ages are 2, 1 and 0. A TTL of 0 is refused before the
-- look-up, a TTL of 1 behind it, so that only the second has the age of A; and D is not remembered
hit_events : List (List ℕ)
hit_events =
    event 0 0 []
    ∷ event 0 1 []
    ∷ event 2 0 (query A 3)
    ∷ event 2 0 (query B 3)
    ∷ event 2 0 (query C 3)
    ∷ event 2 1 (hit A 3 0 27)
    ∷ event 2 1 (hit B 3 0 27)
    ∷ event 2 1 (hit C 3 0 27)
    ∷ event 2 1 (hit A 0 0 27)
    ∷ event 2 1 (hit A 1 0 27)
    ∷ event 2 1 (hit D 3 0 27)
    ∷ []

hits : session_text (file_of hit_events)
    ≡ codes "event answer to after\n0 0 - -\n1 0 - -\n2 0 1 -\n3 0 1 -\n4 0 1 -\n"
    ++ codes "5 0 0 2\n6 0 0 1\n7 0 0 0\n8 8 - -\n9 8 - 2\n10 10 - -\n"
unfolding event offsets joined file_of query hit hit_events good_offsets good_event decimal sent_text age_text row_text call_of
    rows_from all_rows session_text kept_places message is_separator lower keywords_of pieces filled good_length table_in_order
    withholds queries_in find remember raise no_twice memory_in_order stored_pongs line_in_order in_order until_zero query_step hit_step
    fresh opening early by_type arriving
hits = refl

-- no event: the heading alone
none : session_text (file_of []) ≡ codes "event answer to after\n"
unfolding offsets joined file_of good_offsets good_event rows_from all_rows session_text
none = refl

-- a count whose offsets would pass 2 to the power 32
wrapped : session_text (little_bytes 4 1073741824 ++ little_bytes 4 8) ≡ codes "bad file\n"
unfolding good_offsets session_text
wrapped = refl

-- a kind that there is not, in the last event
other-kind : session_text (file_of (event 0 0 [] ∷ event 3 0 [] ∷ [])) ≡ codes "bad file\n"
unfolding event offsets joined file_of good_offsets good_event session_text
other-kind = refl

-- what stands behind an opening's clock is not read
longer : session_text (file_of (event 0 0 (5 ∷ 6 ∷ []) ∷ event 1 9 [] ∷ []))
    ≡ codes "event answer to after\n0 0 - -\n1 3 - -\n"
unfolding event offsets joined file_of good_offsets good_event decimal sent_text age_text row_text call_of rows_from all_rows
    session_text kept_places no_twice queries_in memory_in_order line_in_order in_order table_in_order good_length stored_pongs
    fresh opening closing
longer = refl
