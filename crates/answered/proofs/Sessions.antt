-- Three stations in a row, by computation: the first asks, the second passes the query on, the third answers from its
-- list of names, the hit goes back over the second and is delivered at the first, where its result is read. Over a line
-- that has closed since it does not go.
use Prim.Native.Nat.{ℕ}
use mathlib.Core.Path.{◌≡◌, refl}
use mathlib.Core.Bool.{true}
use mathlib.Core.List.{List, [], ◌∷◌, ◌++◌}
use lib.ListN.{take, drop, replicate}
use Rattle.laws.specs.Text.{codes}
use Rattle.laws.specs.Ring.{kept_places}
use Rattle.wire.specs.Header.{number_of, ttl_of, hops_of, payload_of, message}
use Rattle.ascii.specs.Text.{compared}
use Rattle.keywords.specs.Keywords.{keywords_of, pieces, filled, is_separator, lower}
use Rattle.tables.specs.Tables.{table_in_order}
use Rattle.tables.specs.Admission.{withholds}
use Rattle.namearea.specs.Area.{count_in, span_in, spans_from}
use Rattle.namearea.specs.Good.{good_name, listable, pairwise, good_list}
use Rattle.protocol.specs.declared.Own.{Own}
use Rattle.protocol.specs.Memory.{queries_in, find, remember, raise, no_twice, memory_in_order}
use Rattle.protocol.specs.Order.{line_in_order, in_order}
use Rattle.protocol.specs.State.{Station}
use Rattle.protocol.specs.Outcomes.{Outcome, Terms, terms_of, nobody, only_to}
use Rattle.protocol.specs.Queries.{usual_limit, until_zero, query_step}
use Rattle.protocol.specs.Hits.{hit_step}
use Rattle.protocol.specs.Lines.{stored_pongs}
use Rattle.protocol.specs.Calls.{fresh, opening, closing, early, by_type, arriving, message_outcome}
use Rattle.protocol.specs.Calls.{own_answer, asking, own_outcome}
use Rattle.hits.specs.declared.writing.Responder.{Responder}
use Rattle.hits.specs.Results.{result_bytes, results_bytes, is_whole}
use Rattle.hits.specs.Reading.{beginning, next_of}
use Rattle.hits.specs.Writing.{head_bytes, hit_payload}
use Rattle.matching.specs.Matching.{matches}
use Rattle.answering.specs.Writing.{picked_results, fitting, chosen, hit_for, hits_answer, writing, writing_out}

own : Own
own = record { port = 6346; address = 127 ∷ 0 ∷ 0 ∷ 1 ∷ []; files = 0; kilobytes = 0; calls = true }

terms : Terms
terms = terms_of 0 own 4119

route : List ℕ
route = replicate 32 0

-- a station with line 0 open, and one with lines 0 and 1
first : Station
first = (opening (fresh 32).state 0).state

second : Station
second = (opening first 1).state

-- the names of the third: "oak 3m" and "pine"
names : List ℕ
names =
    2 ∷ 0 ∷ 0 ∷ 0
    ∷ 4 ∷ 16 ∷ 0 ∷ 0 ∷ 6 ∷ 0 ∷ 0 ∷ 0
    ∷ 10 ∷ 16 ∷ 0 ∷ 0 ∷ 4 ∷ 0 ∷ 0 ∷ 0
    ∷ (replicate 4080 0 ++ codes "oak 3mpine")

sizes : List ℕ
sizes = 700 ∷ 800 ∷ []

from : Responder
from = record { port = 6346; address = 10 ∷ 0 ∷ 0 ∷ 3 ∷ []; speed = 1000; mark = replicate 16 7 }

-- the query, asked, passed on, and answered
asked : Outcome
asked = own_outcome first (replicate 16 9) (codes "PINE") 4119 route

passed : Outcome
passed = message_outcome second 0 asked.sent terms route

hit : List ℕ
hit =
    take (writing usual_limit passed.sent names sizes from 4119).written
    (writing_out usual_limit passed.sent names sizes from (replicate 4119 0))

-- the hit, at the second and at the first
back : Outcome
back = message_outcome passed.state 1 hit terms route

home : Outcome
home = message_outcome asked.state 0 back.sent terms route

delivered : List ℕ
delivered = payload_of back.sent

-- the same where line 0 of the second has closed since, and has been opened for somebody else
late : Outcome
late = message_outcome (opening (closing passed.state 0).state 0).state 1 hit terms route

record Row : Type 0 where
  goes : (asked.to ≡ only_to 0) × (passed.to ≡ only_to 1) × (hops_of passed.sent ≡ 1)
  written : writing usual_limit passed.sent names sizes from 4119 ≡ record { answer = 0; results = 1; written = 64 }
  header : (number_of hit ≡ replicate 16 9) × (ttl_of hit ≡ 2) × (hops_of hit ≡ 0)
  returns : (back.answer ≡ 0) × (back.to ≡ only_to 0) × (ttl_of back.sent ≡ 1) × (hops_of back.sent ≡ 1)
  arrives : (home.answer ≡ 0) × (home.delivered ≡ true) × (home.to ≡ nobody)
  closed : (late.answer ≡ 11) × (late.to ≡ nobody)
  -- the record as it is read where it was asked: the second name, its size, and who has it
  read : ((beginning delivered).results ≡ 1) × ((beginning delivered).address ≡ 10 ∷ 0 ∷ 0 ∷ 3 ∷ [])
      × ((next_of (beginning delivered).cursor delivered).result.index ≡ 1)
      × ((next_of (beginning delivered).cursor delivered).result.size ≡ 800)
      × (take 4 (drop (next_of (beginning delivered).cursor delivered).result.nameat delivered) ≡ codes "pine")

row : Row
unfolding own terms route first second names sizes from asked passed hit back home delivered late lower compared
    is_separator pieces filled keywords_of matches count_in span_in spans_from good_name listable pairwise good_list kept_places
    message table_in_order withholds queries_in find remember raise no_twice memory_in_order stored_pongs line_in_order in_order
    until_zero query_step hit_step fresh opening closing early by_type arriving own_answer asking result_bytes results_bytes
    is_whole head_bytes hit_payload picked_results fitting chosen hit_for hits_answer writing writing_out beginning next_of
row =
    record {
      goes = (refl, refl, refl);
      written = refl;
      header = (refl, refl, refl);
      returns = (refl, refl, refl, refl);
      arrives = (refl, refl, refl);
      closed = (refl, refl);
      read = (refl, refl, refl, refl, refl);
    }
