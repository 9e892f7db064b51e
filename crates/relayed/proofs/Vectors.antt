-- Three stations in a row, by computation: the last lists a name, its table goes to the second, which makes one of
-- another length for the first; a query for the name then goes the whole way, and another stays where it was asked.
-- Assumes nothing.
use Prim.Native.Nat.{ℕ, ◌-◌}
use native.Mathlib.Omega.{arith}
use mathlib.Core.Path.{◌≡◌, refl}
use mathlib.Core.Bool.{true, false, false≢true}
use mathlib.Core.List.{List, [], ◌∷◌, ◌++◌}
use lib.Dec.{eqb}
use lib.ListN.{get_or, replicate}
use Rattle.laws.specs.Tests.{all}
use Rattle.laws.specs.Ring.{kept_places}
use Rattle.laws.specs.Text.{codes}
use Rattle.ascii.specs.Text.{lower}
use Rattle.wire.specs.Header.{message}
use Rattle.keywords.specs.Keywords.{is_separator, pieces, filled, keywords_of}
use Rattle.keywords.specs.Hash.{xor32, word, hash_of}
use Rattle.tables.specs.Tables.{settled, good_length, table_in_order}
use Rattle.tables.specs.Patch.{numbers, packed, added, all_fit}
use Rattle.tables.specs.Updates.{update_answer, updated, good_reset, good_patch, in_turn, in_range, reset_by, moved_on}
use Rattle.tables.specs.Updates.{patch_by, broken_by}
use Rattle.tables.specs.Admission.{withholds}
use Rattle.tablemessages.specs.Writer.{all_near, raws, data_of, chunks, run_from, messages_of, joined, good_table}
use Rattle.tablemessages.specs.Writer.{writer_answer, writer_bytes, writer_result, writer_out}
use Rattle.namearea.specs.Area.{count_in, span_in, spans_from}
use Rattle.namearea.specs.Good.{good_name, listable, pairwise, good_list}
use Rattle.nametable.specs.Table.{own_places, with_ones}
use Rattle.tablemerging.specs.Merging.{covered, reaching, distances, nearest, relayed_entries, made_entries}
use Rattle.tablemerging.specs.Merging.{picked_tables}
use Rattle.protocol.specs.Memory.{queries_in, find, remember, no_twice, memory_in_order}
use Rattle.protocol.specs.Lines.{stored_pongs}
use Rattle.protocol.specs.State.{Station, line_at, held_at}
use Rattle.protocol.specs.Order.{line_in_order, in_order}
use Rattle.protocol.specs.Outcomes.{Terms, terms_of, Outcome, nobody, only_to}
use Rattle.protocol.specs.Queries.{usual_limit, until_zero, query_step}
use Rattle.protocol.specs.Calls.{fresh, opening, early, update_step, by_type, arriving, own_answer, asking}
use Rattle.protocol.specs.Calls.{message_outcome, own_outcome}
use Rattle.protocol.proofs.Kept.{fresh_in_order, order-kept}
use Rattle.roundtrip.specs.Feeding.{Fed, fed_by}
use Rattle.roundtrip.specs.RoundTrip.{Listening}
use Rattle.relaying.specs.Calls.{make_answer, making, making_out}
use Rattle.relayed.specs.Settled.{Making, Done, entries_of, infinity_of, Sending, Sent, read_by}
use Rattle.relayed.specs.Hops.{PassesTo}
use Rattle.relayed.proofs.Hops.{passed_on}

-- an area that lists "eb" at byte 4,100, whose place is 6 among eight and 3 among four, and one that lists nothing
listed : List ℕ
listed = 1 ∷ 0 ∷ 0 ∷ 0 ∷ 4 ∷ 16 ∷ 0 ∷ 0 ∷ 2 ∷ 0 ∷ 0 ∷ 0 ∷ (replicate 4088 0 ++ codes "eb")

none : List ℕ
none = replicate 4100 0

terms : ℕ → Terms
terms i =
    terms_of i (record { port = 6346; address = 127 ∷ 0 ∷ 0 ∷ 1 ∷ []; files = 0; kilobytes = 0; calls = true }) 4119

-- stations with room for eight entries a line: with line 0 open, and with lines 0 and 1
end : Station
end = (opening (fresh 64).state 0).state

middle : Station
middle = (opening end 1).state

zeros : List ℕ
zeros = replicate 64 0

-- a table of n entries for line 0 of a station, and how it is written, as the first, and sent to a line of another
table : ℕ → List ℕ → Station → List ℕ → Making
table n names s route =
    record { state = s; line = 0; names = names; size = n; out = replicate n 0; route = route }

sending : Station → ℕ → Sending
sending s l =
    record {
      number = replicate 16 7;
      had = false;
      old = [];
      old_infinity = 0;
      size = 4;
      room = replicate 200 0;
      terms = terms;
      state = s;
      line = l;
      route = zeros;
    }

-- the last station's table of eight entries, read by line 1 of the second; the second's of four, read by line 0 of the
-- first
last : Making
last = table 8 listed end zeros

second : Fed
second = read_by last (sending middle 1)

between : Making
between = table 4 none second.state second.area

first : Fed
first = read_by between (sending end 0)

-- a query asked at the first, and the same come to the second by line 0
asked : List ℕ → Outcome
asked text = own_outcome first.state (replicate 16 9) text 4119 first.area

come : List ℕ → Outcome
come text =
    message_outcome second.state 0 (message (replicate 16 9) 0x80 7 0 (0 ∷ 0 ∷ (text ++ (0 ∷ [])))) (terms 0)
    second.area

-- each call answers 0; the tables are these; the query for the name goes on from both, and another, "ebckl" with place
-- 1 of 4, from neither
record Row : Type 0 where
  calls : (Done last × Done between)
      × ((asked (codes "eb")).answer ≡ 0)
      × (all (λ o. eqb o.answer 0) (second.outcomes ++ first.outcomes) ≡ true)
  written : (writer_result (replicate 16 7) false [] 0 (entries_of between) (infinity_of between) 4 (replicate 200 0)
      ).answer
      ≡ 0
  mark : (line_at second.state 1).table.mark ≡ settled
  lets : withholds (held_at second.state 1 second.area) (keywords_of (codes "eb")) (usual_limit - 1) ≡ false
  tables : (entries_of last ≡ 8 ∷ 8 ∷ 8 ∷ 8 ∷ 8 ∷ 8 ∷ 1 ∷ 8 ∷ []) × (entries_of between ≡ 8 ∷ 8 ∷ 8 ∷ 2 ∷ [])
  passes : ((asked (codes "eb")).to ≡ only_to 0) × ((come (codes "eb")).to ≡ only_to 1)
  stays : ((asked (codes "ebckl")).to ≡ nobody) × ((come (codes "ebckl")).to ≡ nobody)

row : Row
unfolding listed none terms end middle zeros table sending last second between first asked come lower is_separator word
    xor32 hash_of keywords_of pieces filled own_places with_ones count_in span_in spans_from good_name listable pairwise
    good_list good_length covered reaching distances nearest relayed_entries made_entries picked_tables make_answer making making_out
    kept_places message table_in_order numbers packed added all_fit update_answer updated good_reset good_patch in_turn in_range
    reset_by moved_on patch_by broken_by withholds all_near raws data_of chunks run_from messages_of joined good_table
    writer_answer writer_bytes writer_result writer_out queries_in find remember no_twice memory_in_order stored_pongs
    line_in_order in_order until_zero query_step fresh opening early update_step by_type arriving own_answer asking fed_by
row =
    record {
      calls = ((refl, refl), refl, refl);
      written = refl;
      mark = refl;
      lets = refl;
      tables = (refl, refl);
      passes = (refl, refl);
      stays = (refl, refl);
    }

-- the premises of the theorem on passing are met by the second station's table
listening : Listening end 0 zeros
unfolding end zeros fresh opening in_order memory_in_order line_in_order table_in_order queries_in no_twice kept_places
    stored_pongs
listening =
    let f = fresh_in_order 64 in
    let k = (order-kept (fresh 64).state f.sized f.order).opens 0 in
    record { sized = k.sized; order = k.order; line = omega arith; live = refl; large = omega arith; room = refl }

sent : Sent between (sending end 0)
unfolding terms zeros table sending between
sent =
    let room : 8 ≡ (sending end 0).state.room = listening.room in
    record {
      sixteen = refl;
      written = row.written;
      room = omega arith;
      listening = listening;
      outputs = λ i. omega arith;
      before = λ e. absurd (false≢true e);
    }

met : PassesTo (held_at second.state 1 second.area) 0 first.state first.area
unfolding table sending between first
met = passed_on between (sending end 0) row.calls.0.1 sent 1 (omega arith) refl row.mark

-- and so, by the theorem, the query goes to the second, as it was computed
goes : get_or (asked (codes "eb")).to 0 false ≡ true
unfolding asked
goes = met.own (replicate 16 9) (codes "eb") 4119 row.lets row.calls.1
