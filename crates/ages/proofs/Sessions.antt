-- Lists of calls with their ages, by computation.
-- Assumes nothing.
use mathlib.Core.Path.{refl}
use Rattle.laws.specs.Ring.{kept_places}
use Rattle.wire.specs.Header.{message}
use Rattle.tables.specs.Tables.{table_in_order}
use Rattle.protocol.specs.Memory.{queries_in, find, remember, raise, no_twice, memory_in_order}
use Rattle.protocol.specs.Lines.{stored_pongs}
use Rattle.protocol.specs.Order.{line_in_order, in_order}
use Rattle.protocol.specs.Queries.{query_step}
use Rattle.protocol.specs.Hits.{hit_step}
use Rattle.protocol.specs.Calls.{fresh, opening, closing, early, by_type, arriving, own_answer, asking, looking_up}
use Rattle.receiving.specs.Feeding.{extent_of, feeding}
use Rattle.ages.specs.Sessions.{query, endless, hit, three, hits, repeats, many, hits_of_many, waiting, wrong}
use Rattle.ages.specs.Sessions.{Evaluated}

pub evaluated : Evaluated
unfolding kept_places message table_in_order queries_in find remember raise no_twice memory_in_order stored_pongs line_in_order
    in_order query_step hit_step fresh opening closing early by_type arriving own_answer asking looking_up extent_of feeding
    query endless hit three hits repeats many hits_of_many waiting wrong
evaluated =
    record {
      hits' = refl;
      repeats' = refl;
      many' = refl;
      waits = (refl, refl);
      found = (refl, refl, refl);
      after = (refl, refl);
      disorder = (refl, refl);
      turned = (refl, refl, refl, refl);
    }
