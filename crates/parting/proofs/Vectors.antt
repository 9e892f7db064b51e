-- Keywords of texts, and the name "LX-04417.jpg" from the area that lists it to the lines that queries go to, by
-- computation.
-- Assumes nothing.
use Prim.Native.Nat.{ℕ, ◌*◌}
use mathlib.Core.Path.{◌≡◌, refl}
use mathlib.Core.Bool.{Bool, true, false, false≢true}
use mathlib.Core.List.Memᴰ
use mathlib.Core.List.{List, [], ◌∷◌, ◌++◌, map}
use native.Mathlib.Omega.{arith}
use lib.Dec.{eqb, ltb}
use lib.ListN.{length, take, set, replicate}
use Rattle.laws.specs.Tests.{any, all}
use Rattle.laws.specs.Ring.{kept_places}
use Rattle.laws.specs.Text.{codes}
use Rattle.wire.specs.Header.{message}
use Rattle.keywords.specs.declared.cut.Cut.{Cut}
use Rattle.keywords.specs.Keywords.{lower, is_separator, pieces, filled, keywords_of, cut_of, text_behind}
use Rattle.keywords.specs.Hash.{xor32, word, hash_of, place_in}
use Rattle.tables.specs.Tables.{good_length, table_in_order}
use Rattle.tables.specs.Patch.{numbers, packed, added, all_fit}
use Rattle.tables.specs.Updates.{update_answer, updated, good_reset, good_patch, in_turn, in_range, reset_by, moved_on}
use Rattle.tables.specs.Updates.{patch_by, broken_by}
use Rattle.tables.specs.Admission.{withholds}
use Rattle.tablemessages.specs.declared.Written.{Written}
use Rattle.tablemessages.specs.Writer.{all_near, raws, data_of, chunks, run_from, messages_of, joined, good_table}
use Rattle.tablemessages.specs.Writer.{writer_answer, writer_bytes, writer_result, writer_out}
use Rattle.tablemessages.specs.RoundTrip.{settled_as}
use Rattle.namearea.specs.Area.{names_in, count_in, span_in, spans_from}
use Rattle.namearea.specs.Good.{good_name, listable, pairwise, good_list}
use Rattle.nametable.specs.Table.{places_of, own_places, with_ones, own_entries, table_answer, table_out}
use Rattle.protocol.specs.Memory.{queries_in, find, remember, no_twice, memory_in_order}
use Rattle.protocol.specs.Lines.{each_line, stored_pongs}
use Rattle.protocol.specs.State.{Station, held_at}
use Rattle.protocol.specs.Order.{line_in_order, in_order}
use Rattle.protocol.specs.Outcomes.{Terms, terms_of, Outcome, nobody, only_to}
use Rattle.protocol.specs.Queries.{until_zero, query_step}
use Rattle.protocol.specs.Calls.{fresh, opening, early, update_step, by_type, arriving, own_answer, asking}
use Rattle.protocol.specs.Calls.{message_outcome, own_outcome}
use Rattle.protocol.proofs.Kept.{fresh_in_order, order-kept}
use Rattle.roundtrip.specs.Feeding.{Fed, fed_by, fed}
use Rattle.roundtrip.specs.RoundTrip.{Listening}
use Rattle.parting.specs.Found.{Named, GoesTo}
use Rattle.parting.proofs.Found.{found-through-calls}

-- ---- keywords

name : List ℕ
name = codes "LX-04417.jpg"

abbrev cut_at : ℕ → ℕ → Cut
cut_at start end = record { start = start; end = end }

-- the name has three; bytes that are no digit and no letter make none, those of a letter past ASCII too
record Texts : Type 0 where
  three : keywords_of name ≡ codes "lx" ∷ codes "04417" ∷ codes "jpg" ∷ []
  hyphens : keywords_of (codes "---") ≡ []
  accented : keywords_of (0xC3 ∷ 0x89 ∷ []) ≡ []
  short : keywords_of (codes "a_b.c") ≡ codes "a" ∷ codes "b" ∷ codes "c" ∷ []

texts : Texts
unfolding name lower is_separator pieces filled keywords_of
texts = record { three = refl; hyphens = refl; accented = refl; short = refl }

-- where the name's stand, each cut of the text that the one before leaves: from 0, 3 and 9 on, and then none
cuts : List Cut
cuts =
    let second = text_behind name in
    let third = text_behind second in
    cut_of name ∷ cut_of second ∷ cut_of third ∷ cut_of (text_behind third) ∷ []

stand : cuts ≡ cut_at 0 2 ∷ cut_at 1 6 ∷ cut_at 1 4 ∷ cut_at 0 0 ∷ []
unfolding name cuts is_separator
stand = refl

-- one byte between "e" and "b": those next to the three ranges part them, as do those far off, and the ends of the
-- ranges do not
between : ℕ → List (List ℕ)
between b = keywords_of (0x65 ∷ b ∷ 0x62 ∷ [])

parting : map between (0x2F ∷ 0x3A ∷ 0x40 ∷ 0x5B ∷ 0x60 ∷ 0x7B ∷ 0x80 ∷ 0xFF ∷ 0x00 ∷ [])
    ≡ replicate 9 (codes "e" ∷ codes "b" ∷ [])
unfolding between lower is_separator pieces filled keywords_of
parting = refl

joining : map between (0x30 ∷ 0x39 ∷ 0x41 ∷ 0x5A ∷ 0x61 ∷ 0x7A ∷ [])
    ≡ map (λ k. k ∷ []) (codes "e0b" ∷ codes "e9b" ∷ codes "eab" ∷ codes "ezb" ∷ codes "eab" ∷ codes "ezb" ∷ [])
unfolding between lower is_separator pieces filled keywords_of
joining = refl

-- ---- the way of a name

-- an area that lists the name at byte 4,100
listed : List ℕ
listed = 1 ∷ 0 ∷ 0 ∷ 0 ∷ 4 ∷ 16 ∷ 0 ∷ 0 ∷ 12 ∷ 0 ∷ 0 ∷ 0 ∷ (replicate 4088 0 ++ name)

-- its table of n entries with Infinity 8, made over n bytes and written with a data size of 4 into 200
table : ℕ → List ℕ
table n = take n (table_out listed n 8 (replicate n 0))

wrote : ℕ → Written
wrote n = writer_result (replicate 16 7) false [] 0 (table n) 8 4 (replicate 200 0)

said : ℕ → List ℕ
said n = take (wrote n).written (writer_out (replicate 16 7) false [] 0 (table n) 8 4 (replicate 200 0))

terms : ℕ → Terms
terms i =
    terms_of i (record { port = 6346; address = 127 ∷ 0 ∷ 0 ∷ 1 ∷ []; files = 0; kilobytes = 0; calls = true }) 4119

-- the neighbour has room for n entries a line, lines 0 and 1 open, and takes the bytes by line 1
neighbour : ℕ → Station
neighbour n = (opening (opening (fresh (8 * n)).state 0).state 1).state

heard : ℕ → Fed
heard n = fed terms 1 (neighbour n) (replicate (8 * n) 0) (said n)

-- then a query comes by line 0, with TTL 3 and Hops 1; or it asks one of its own
asked : ℕ → List ℕ → Outcome
asked n text =
    message_outcome (heard n).state 0 (message (replicate 16 9) 0x80 3 1 (0 ∷ 0 ∷ (text ++ (0 ∷ [])))) (terms 0)
    (heard n).area

own : ℕ → List ℕ → Outcome
own n text = own_outcome (heard n).state (replicate 16 9) text 4119 (heard n).area

-- what a query is answered, and the lines that it goes to
told : Outcome → ℕ × List Bool
told o = (o.answer, o.to)

-- a keyword of the name, two of them in capitals, no keyword, and one as an own query; then another keyword, alone,
-- beside one of the name's, and as an own query
queries : ℕ → List Outcome
queries n =
    asked n (codes "04417")
    ∷ asked n (codes "JPG/Lx")
    ∷ asked n (codes "---")
    ∷ own n (codes "04417")
    ∷ asked n (codes "04418")
    ∷ asked n (codes "lx 04418")
    ∷ own n (codes "04418")
    ∷ []

-- line 1 gets the first four and none of the others; line 0, which has no table, gets both own ones
lines : List (List Bool)
lines = only_to 1 ∷ only_to 1 ∷ only_to 1 ∷ each_line (λ k. ltb k 2) ∷ nobody ∷ nobody ∷ only_to 0 ∷ []

-- the way at n entries: each call answers 0, every byte is used, and what is held is the table; the queries go to
-- those lines, and the other keyword falls on none of the three places
record Way (n : ℕ) : Type 0 where
  calls : (table_answer listed n 8 n ≡ 0)
      × ((wrote n).answer ≡ 0)
      × (all (λ o. eqb o.answer 0) (heard n).outcomes ≡ true)
  held : ((heard n).used ≡ length (said n)) × (held_at (heard n).state 1 (heard n).area ≡ settled_as (table n) 8)
  go : map told (queries n) ≡ map (λ to. (0, to)) lines
  apart : any (eqb (place_in n (codes "04418"))) (places_of n name) ≡ false

-- at two lengths; the keywords' places are 3, 2 and 7 among 8, and 12, 8 and 28 among 32
record Ways : Type 0 where
  eight : Way 8
  more : Way 32
  table_of_eight : table 8 ≡ 8 ∷ 8 ∷ 1 ∷ 1 ∷ 8 ∷ 8 ∷ 8 ∷ 1 ∷ []
  table_of_more : table 32 ≡ set (set (set (replicate 32 8) 12 1) 8 1) 28 1

ways : Ways
unfolding name listed table wrote said terms neighbour heard asked own told queries lines lower is_separator word xor32
    hash_of keywords_of pieces filled own_places with_ones own_entries count_in span_in spans_from good_name listable pairwise good_list
    good_length table_answer table_out kept_places message table_in_order numbers packed added all_fit update_answer updated
    good_reset good_patch in_turn in_range reset_by moved_on patch_by broken_by withholds all_near raws data_of chunks run_from
    messages_of joined good_table writer_answer writer_bytes writer_result writer_out queries_in find remember no_twice
    memory_in_order stored_pongs line_in_order in_order until_zero query_step fresh opening early update_step by_type arriving
    own_answer asking fed_by
ways =
    record {
      eight = record { calls = (refl, refl, refl); held = (refl, refl); go = refl; apart = refl };
      more = record { calls = (refl, refl, refl); held = (refl, refl); go = refl; apart = refl };
      table_of_eight = refl;
      table_of_more = refl;
    }

-- the premises of the theorem on this way are met, and so are those of what it says of a query
listening : Listening (neighbour 8) 1 (replicate 64 0)
unfolding neighbour fresh opening in_order memory_in_order line_in_order table_in_order queries_in no_twice kept_places
    stored_pongs
listening =
    let f = fresh_in_order 64 in
    let z = (order-kept (fresh 64).state f.sized f.order).opens 0 in
    let k = (order-kept (opening (fresh 64).state 0).state z.sized z.order).opens 1 in
    record { sized = k.sized; order = k.order; line = omega arith; live = refl; large = omega arith; room = refl }

met : GoesTo (names_in listed) 1 (heard 8).state (heard 8).area
unfolding table wrote said terms heard
met =
    found-through-calls listed 8 8 (replicate 8 0) (replicate 16 7) false [] 0 4 (replicate 200 0) terms (neighbour 8)
    1 (replicate 64 0) ways.eight.calls.0 refl ways.eight.calls.1 (omega (arith, listening.room)) listening
    (λ i. omega arith) (λ e. absurd (false≢true e))

named : Named (names_in listed) (codes "04417")
unfolding name listed count_in span_in spans_from lower is_separator pieces filled keywords_of
named k m = (name, Memᴰ.head refl, Memᴰ.tail (Memᴰ.head (Memᴰ.eq_of_singleton m)))
