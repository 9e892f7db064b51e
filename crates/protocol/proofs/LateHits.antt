-- Late hits by computation: a line closes and is given to another neighbour, and a hit to the query of the old one
-- goes to nobody; and the 513th query, by which the oldest of 512 is forgotten.
-- Assumes nothing.
use Prim.Native.Nat.{ℕ}
use mathlib.Core.Path.{◌≡◌, refl}
use mathlib.Core.Bool.{true, false}
use mathlib.Core.List.{List, [], ◌∷◌, map}
use lib.ListN.{replicate}
use borrow.Author.Tests.{leb-true}
use Rattle.laws.specs.Ring.{kept_places}
use Rattle.wire.specs.Header.{message}
use Rattle.keywords.specs.Keywords.{keywords_of, pieces, filled}
use Rattle.keywords.specs.Hash.{hash_of, word}
use Rattle.tables.specs.Tables.{good_length, table_in_order}
use Rattle.tables.specs.Admission.{withholds}
use Rattle.protocol.specs.State.{remembered}
use Rattle.protocol.specs.declared.Own.{Own}
use Rattle.protocol.specs.Memory.{Memory, memory_of, capacity, here, Number, number_in, queries_in, Absent, At}
use Rattle.protocol.specs.Memory.{find, remember, raise, no_twice, memory_in_order}
use Rattle.protocol.specs.Outcomes.{Terms, terms_of}
use Rattle.protocol.specs.Lines.{stored_pongs}
use Rattle.protocol.specs.Order.{line_in_order, in_order}
use Rattle.protocol.specs.Queries.{usual_limit, until_zero, query_step}
use Rattle.protocol.specs.Hits.{hit_step}
use Rattle.protocol.specs.Calls.{fresh, opening, closing, early, by_type, arriving, own_answer, asking}
use Rattle.protocol.specs.Runs.{Call, Open, Close, Message, Ask, Same, World, run, start}
use Rattle.protocol.specs.Arrived.{Arrived}
use Rattle.protocol.specs.Demand2.{all_taken, Here, Gone, origin, AllRouted}
use Rattle.protocol.proofs.Kept.{fresh_in_order}
use Rattle.protocol.proofs.Demand2.{demand2}
use Rattle.protocol.proofs.Outcomes.{counting}

own : Own
own = record { port = 6346; address = 127 ∷ 0 ∷ 0 ∷ 1 ∷ []; files = 0; kilobytes = 0; calls = true }

query : List ℕ
query = message (replicate 16 7) 0x80 3 1 (0 ∷ 0 ∷ 0x65 ∷ 0x62 ∷ 0 ∷ [])

hit : ℕ → List ℕ
hit n = message (replicate 16 n) 0x81 2 0 (replicate 27 1)

terms : Terms
terms = terms_of 0 own 4119

by : ℕ → List ℕ → Call
by l m = Message l m terms Same

-- line 3 asks and gets its hit; it closes, and is opened anew, and the late hits go to nobody; the number is still a
-- repeat. A query asked here gets its hit delivered; a number that nobody asked has none.
late_hits : List Call
late_hits =
    Open 3
    ∷ Open 5
    ∷ by 3 query
    ∷ by 5 (hit 7)
    ∷ Close 3
    ∷ by 5 (hit 7)
    ∷ Open 3
    ∷ by 5 (hit 7)
    ∷ by 3 query
    ∷ Ask (replicate 16 5) (0x65 ∷ 0x62 ∷ []) terms Same
    ∷ by 5 (hit 5)
    ∷ by 5 (hit 6)
    ∷ []

late : World
late = run (start (fresh 32).state (replicate 32 0)) late_hits

-- the answers, and what is delivered; read off the log, the query of line 3 is gone, and the other was asked here; and
-- after the list, what is brought by a hit of line 5 has arrived
record LateHits : Type 0 where
  answers : map (λ d. d.outcome.answer) late.log
      ≡ 10 ∷ 0 ∷ 0 ∷ 9 ∷ 11 ∷ 0 ∷ 11 ∷ 0 ∷ 0 ∷ 0 ∷ 0 ∷ 0 ∷ []
  delivered : map (λ d. d.outcome.delivered) late.log ≡ false ∷ true ∷ replicate 10 false
  gone : origin capacity late.log [] (number_in (replicate 16 7)) ≡ Gone
  asked : origin capacity late.log [] (number_in (replicate 16 5)) ≡ Here
  arrived : Arrived late.state 5 (hit 7) 4119 (replicate 32 0)

late-hits : LateHits
unfolding own query hit terms by late_hits late kept_places message keywords_of pieces filled hash_of word good_length
    table_in_order withholds queries_in find remember raise no_twice memory_in_order stored_pongs line_in_order in_order until_zero
    query_step hit_step fresh opening closing early by_type arriving own_answer asking all_taken
late-hits =
    record {
      answers = refl;
      delivered = refl;
      gone = refl;
      asked = refl;
      arrived = record {
        areas = record { output = leb-true 4119 4119 refl; long = leb-true 32 32 refl; room = refl };
        line = leb-true 5 7 refl;
        live = refl;
        size = leb-true 27 4096 refl;
        whole = leb-true 50 50 refl;
      };
    }

-- the premises of demand 2 can be met
late-routed : AllRouted usual_limit capacity (remembered (fresh 32).state) (start (fresh 32).state (replicate 32 0))
    late_hits
late-routed = demand2 (fresh 32).state (replicate 32 0) late_hits (fresh_in_order 32).sized (fresh_in_order 32).order

-- a memory of 512 queries asked here, of the numbers 1 to 512, number 1 the oldest
full : Memory
full = memory_of (counting 512 1) (replicate 512 0) (replicate 512 here) (replicate 512 0) 512 0

small : ℕ → Number
small n = record { lo = n; hi = 0 }

more : Memory
more = remember capacity full (small 600) here

-- the oldest of 512 is known; after one more it is not, and the next is the oldest
record Oldest : Type 0 where
  first : find (queries_in capacity full) (small 1) ≡ At 511 here 0
  forgotten : find (queries_in capacity more) (small 1) ≡ Absent
  next : find (queries_in capacity more) (small 2) ≡ At 511 here 0

oldest : Oldest
unfolding counting full small more kept_places queries_in find remember
oldest = record { first = refl; forgotten = refl; next = refl }
