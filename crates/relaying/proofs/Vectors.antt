-- The call on a station with two tables of unlike lengths, by computation: entries, refusals in their order, and what
-- stays.
-- Assumes nothing.
use Prim.Native.Nat.{ℕ}
use mathlib.Core.Path.{◌≡◌, refl}
use mathlib.Core.List.{List, [], ◌∷◌, ◌++◌}
use lib.ListN.{replicate}
use Rattle.laws.specs.Ring.{kept_places}
use Rattle.laws.specs.Text.{codes}
use Rattle.ascii.specs.Text.{lower}
use Rattle.keywords.specs.Keywords.{keywords_of, pieces, filled, is_separator}
use Rattle.keywords.specs.Hash.{xor32, word, hash_of}
use Rattle.tables.specs.declared.Table.{Table}
use Rattle.tables.specs.Tables.{at_rest, marked, settled, running, broken, good_length, table_in_order}
use Rattle.namearea.specs.Area.{count_in, span_in, spans_from}
use Rattle.namearea.specs.Good.{good_name, listable, pairwise, good_list}
use Rattle.nametable.specs.Table.{own_places, with_ones}
use Rattle.tablemerging.specs.Merging.{covered, reaching, distances, nearest, relayed_entries, made_entries}
use Rattle.tablemerging.specs.Merging.{picked_tables}
use Rattle.protocol.specs.Memory.{queries_in, no_twice, memory_in_order}
use Rattle.protocol.specs.Lines.{with_table, stored_pongs}
use Rattle.protocol.specs.State.{Station, line_at, with_line}
use Rattle.protocol.specs.Order.{line_in_order, in_order}
use Rattle.protocol.specs.Queries.{usual_limit}
use Rattle.protocol.specs.Calls.{fresh, opening}
use Rattle.relaying.specs.Calls.{make_answer, making, making_out, table_for, table_out_for}

-- a station with room for eight entries a line, lines 0, 1 and 2 open, of which 1 and 2 have these tables
opened : Station
opened = (opening (opening (opening (fresh 64).state 0).state 1).state 2).state

tabled : ℕ → Table → Station → Station
tabled k t s = with_line s k (with_table (line_at s k) t)

station : Table → Table → Station
station first second = tabled 2 second (tabled 1 first opened)

four : Table
four = at_rest settled 4 3

eight : Table
eight = at_rest settled 8 8

both : Station
both = station four eight

-- their entries: place 1 of 4 at distance 1, places 2 and 7 of 8 at 5 and 7; line 0 has none
route : List ℕ
route =
    replicate 8 0
    ++ ((3 ∷ 1 ∷ 3 ∷ 3 ∷ 0 ∷ 0 ∷ 0 ∷ 0 ∷ [])
    ++ ((8 ∷ 8 ∷ 5 ∷ 8 ∷ 8 ∷ 8 ∷ 8 ∷ 7 ∷ []) ++ replicate 40 0))

-- an area that lists no name, one that lists "eb" at byte 4,100, whose place among four is 3, and one whose count is
-- 513
none : List ℕ
none = replicate 4100 0

one : List ℕ
one = 1 ∷ 0 ∷ 0 ∷ 0 ∷ 4 ∷ 16 ∷ 0 ∷ 0 ∷ 2 ∷ 0 ∷ 0 ∷ 0 ∷ (replicate 4088 0 ++ codes "eb")

many : List ℕ
many = 1 ∷ 2 ∷ 0 ∷ 0 ∷ replicate 4096 0

-- the output after a call that makes n entries for line l
made : Station → ℕ → List ℕ → ℕ → List ℕ
made s l names n = table_out_for usual_limit s l names n (replicate n 9) route

-- for line 0 at three lengths; for line 1, whose own table plays no part; with a table that is not settled; with a name
record Tables : Type 0 where
  of_four : made both 0 none 4 ≡ 8 ∷ 2 ∷ 8 ∷ 8 ∷ []
  of_eight : made both 0 none 8 ≡ 8 ∷ 8 ∷ 2 ∷ 2 ∷ 8 ∷ 8 ∷ 8 ∷ 8 ∷ []
  of_sixteen : made both 1 none 16 ≡ (8 ∷ 8 ∷ 8 ∷ 8 ∷ 6 ∷ 6 ∷ replicate 10 8)
  for_first : made both 1 none 4 ≡ 8 ∷ 6 ∷ 8 ∷ 8 ∷ []
  own_table : made (tabled 0 four both) 0 none 4 ≡ made both 0 none 4
  runs : made (station (record {
    mark = running;
    length = 4;
    infinity = 3;
    nextplace = 2;
    runsize = 2;
    runbits = 4;
    nextentry = 2;
  }) eight) 0 none 4 ≡ 8 ∷ 6 ∷ 8 ∷ 8 ∷ []
  broke : made (station (marked broken four) (marked broken eight)) 0 none 4 ≡ 8 ∷ 8 ∷ 8 ∷ 8 ∷ []
  named : made both 0 one 4 ≡ 8 ∷ 2 ∷ 8 ∷ 1 ∷ []
  stays : table_out_for usual_limit both 0 none 4 (9 ∷ 9 ∷ 9 ∷ 9 ∷ 9 ∷ []) route ≡ 8 ∷ 2 ∷ 8 ∷ 8 ∷ 9 ∷ []

tables : Tables
unfolding opened tabled station four eight both route none one made covered reaching distances nearest relayed_entries
    made_entries own_places with_ones picked_tables make_answer making making_out lower is_separator word xor32 hash_of
    keywords_of pieces filled count_in span_in spans_from good_name listable pairwise good_list good_length kept_places table_in_order
    queries_in no_twice memory_in_order stored_pongs line_in_order in_order fresh opening
tables =
    record {
      of_four = refl;
      of_eight = refl;
      of_sixteen = refl;
      for_first = refl;
      own_table = refl;
      runs = refl;
      broke = refl;
      named = refl;
      stays = refl;
    }

-- ---- refusals

-- one line's mark is none of the five
disorder : Station
disorder = station (marked 5 four) eight

-- calls that deserve two numbers, next to each other in the order, and what the last hands up
answer : Station → ℕ → List ℕ → ℕ → ℕ → ℕ → ℕ
answer s l names n out room = (table_for usual_limit s l names n out room).answer

record Refusals : Type 0 where
  one_before_two : answer disorder 0 none 4 4 31 ≡ 1
  two_before_three : answer both 3 none 4 4 31 ≡ 2
  other_room : answer both 3 none 4 4 72 ≡ 2
  three_before_two : answer both 3 (replicate 4099 0) 4 4 64 ≡ 3
  line_eight : answer both 8 none 4 4 64 ≡ 3
  two_before_one : answer both 0 (replicate 4099 1) 5 4 64 ≡ 2
  one_before_fourteen : answer both 0 many 5 4 64 ≡ 1
  fourteen_before_two : answer both 0 none 5 0 64 ≡ 14
  short : answer both 0 none 4 3 64 ≡ 2
  any_room : answer both 0 none 65536 65536 64 ≡ 0
  handed : table_for usual_limit both 0 none 4 4 64 ≡ record { answer = 0; infinity = 8 }
  refused : table_for usual_limit both 0 none 4 3 64 ≡ record { answer = 2; infinity = 0 }
  untouched : table_out_for usual_limit both 0 none 4 (9 ∷ 9 ∷ 9 ∷ []) route ≡ 9 ∷ 9 ∷ 9 ∷ []

refusals : Refusals
unfolding opened tabled station four eight both route none many disorder answer make_answer making making_out count_in
    span_in spans_from good_name listable pairwise good_list good_length kept_places table_in_order queries_in no_twice
    memory_in_order stored_pongs line_in_order in_order fresh opening
refusals =
    record {
      one_before_two = refl;
      two_before_three = refl;
      other_room = refl;
      three_before_two = refl;
      line_eight = refl;
      two_before_one = refl;
      one_before_fourteen = refl;
      fourteen_before_two = refl;
      short = refl;
      any_room = refl;
      handed = refl;
      refused = refl;
      untouched = refl;
    }
