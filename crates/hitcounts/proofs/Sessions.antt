-- Lists of calls with the counts after each, by computation.
-- Assumes nothing.
use Prim.Native.Nat.{ℕ, suc}
use native.Mathlib.Omega.{arith}
use mathlib.Core.Path.{◌≡◌, refl}
use mathlib.Core.Bool.{true, false}
use mathlib.Core.Logic.{inl, inr}
use mathlib.Core.List.{List}
use lib.Dec.{leb, ltb}
use lib.ListN.{length, get_or, take, drop, replicate}
use lib.Seq.{split_at}
use borrow.Author.Tests.{leb-true, ltb-true}
use Rattle.laws.specs.Tests.{any}
use Rattle.laws.specs.Ring.{kept_places}
use Rattle.wire.specs.Header.{message}
use Rattle.tables.specs.Tables.{table_in_order}
use Rattle.protocol.specs.Memory.{Number, number_in, queries_in, find, remember, raise, no_twice, memory_in_order}
use Rattle.protocol.specs.State.{line_at}
use Rattle.protocol.specs.Lines.{stored_pongs}
use Rattle.protocol.specs.Order.{line_in_order, in_order}
use Rattle.protocol.specs.Queries.{query_step}
use Rattle.protocol.specs.Hits.{hit_step}
use Rattle.protocol.specs.Calls.{fresh, opening, closing, early, by_type, arriving, own_answer, asking}
use Rattle.protocol.specs.Runs.{Open, Made, World}
use Rattle.protocol.specs.Demand2.{took, brought_number, brought_by, closed, taken_in}
use Rattle.hitcounts.specs.History.{takes, hits_in}
use Rattle.hitcounts.specs.Few.{CanGo}
use Rattle.hitcounts.specs.Sessions.{query, asks, hit_of, with_two, full, told, Evaluated, OldestLeaves}
use Rattle.hitcounts.specs.Sessions.{after, by_line, Next, TwoHundred, Own}

pub evaluated : Evaluated
unfolding kept_places message table_in_order queries_in find remember raise no_twice memory_in_order stored_pongs line_in_order
    in_order query_step hit_step fresh opening closing early by_type arriving own_answer asking query hit_of with_two told
evaluated =
    record {
      line = refl;
      here = refl;
      gone = refl;
      order = refl;
      uncounted = refl;
      closes = refl;
      anew = refl;
      own = refl;
      in_order' = (refl, refl, refl);
      disorder = refl;
    }

pub oldest-leaves : OldestLeaves
unfolding kept_places message table_in_order queries_in find remember raise no_twice memory_in_order stored_pongs line_in_order
    in_order query_step hit_step fresh opening early by_type arriving query hit_of with_two full told
oldest-leaves = refl

-- what Few asks, by what is computed of the log
none : Made
none = record { call = Open 0; outcome = fresh 0 }

module _ (w : World) (k n : ℕ) where
  abbrev x : Number
  x = number_in (hit_of 5 2 0 27)

  abbrev taking : Made
  taking = get_or w.log n none

  abbrev newer : List Made
  newer = take n w.log

  meets : ltb n (length w.log) ≡ true → took taking.call taking.outcome.answer ≡ true
      → brought_number taking.call ≡ x → any (takes x) newer ≡ false → brought_by taking.call ≡ k
      → leb k 8 ≡ true → ltb (taken_in newer) 512 ≡ true
      → any (λ d. closed d.call d.outcome.answer k) newer ≡ false → hits_in x newer ≡ n
      → w.area ≡ replicate 32 0 → w.state.room ≡ 4 → (line_at w.state 1).live ≡ true
      → CanGo k (hit_of 5 2 0 27) → Next w k n
  unfolding message hit_of
  meets long taken number last by line among unclosed hits area room live can =
      record {
        good = record {
          arrived = record {
            areas = record {
              output = leb-true 4119 4119 refl;
              long = rw area (leb-true 32 32 refl);
              room = rw (area, room);
            };
            line = leb-true 1 7 refl;
            live = live;
            size = leb-true 27 4096 refl;
            whole = leb-true 50 50 refl;
          };
          kind = refl;
          size = leb-true 27 27 refl;
          ttl = leb-true 1 2 refl;
        };
        awaits = record {
          last = record {
            taking = taking;
            older = drop (suc n) w.log;
            split = split_at w.log n none (ltb-true n (length w.log) long);
            taken = taken;
            number = number;
            last = last;
          };
          by = by;
          line = leb-true k 8 line;
          among = ltb-true (taken_in newer) 512 among;
          unclosed = unclosed;
        };
        hits = hits;
        can = can;
      }

-- a hit with a TTL of 2 and no Hops can go on
can-go : CanGo 0 (hit_of 5 2 0 27)
unfolding message hit_of
can-go = inr (leb-true 2 2 refl, λ e. absurd (omega arith))

pub two-hundred : TwoHundred
unfolding kept_places message table_in_order queries_in find remember raise no_twice memory_in_order stored_pongs line_in_order
    in_order query_step hit_step fresh opening early by_type arriving query hit_of told after
two-hundred =
    record {
      passed = refl;
      counted = (refl, refl);
      next = refl;
      full = meets (after by_line 200) 0 200 refl refl refl refl refl refl refl refl refl refl refl refl can-go;
      more = meets (after by_line 199) 0 199 refl refl refl refl refl refl refl refl refl refl refl refl can-go;
    }

pub own : Own
unfolding kept_places message table_in_order queries_in find remember raise no_twice memory_in_order stored_pongs line_in_order
    in_order query_step hit_step fresh opening early by_type arriving own_answer asking query hit_of told after
own =
    record {
      next = refl;
      more = meets (after (asks 5) 2) 8 2 refl refl refl refl refl refl refl refl refl refl refl refl (inl refl);
    }
