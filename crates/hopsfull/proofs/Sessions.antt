-- Lists of calls, by computation.
-- Assumes nothing.
use mathlib.Core.Path.{refl}
use Rattle.laws.specs.Ring.{kept_places}
use Rattle.wire.specs.Header.{message}
use Rattle.tables.specs.Tables.{table_in_order}
use Rattle.protocol.specs.Memory.{queries_in, find, remember, raise, no_twice, memory_in_order}
use Rattle.protocol.specs.Lines.{stored_pongs}
use Rattle.protocol.specs.Order.{line_in_order, in_order}
use Rattle.protocol.specs.Queries.{query_step}
use Rattle.protocol.specs.Hits.{hit_step}
use Rattle.protocol.specs.Calls.{fresh, opening, early, by_type, arriving, own_answer, asking}
use Rattle.receiving.specs.Feeding.{extent_of, feeding}
use Rattle.ages.specs.Sessions.{query, hit, three, wrong}
use Rattle.tally.specs.Counts.{one_more, bump, bumps}
use Rattle.tallyhistory.specs.Calls.{answers_of}
use Rattle.hopsfull.specs.Sessions.{query_of, calls, Evaluated}

pub evaluated : Evaluated
unfolding kept_places message table_in_order queries_in find remember raise no_twice memory_in_order stored_pongs line_in_order
    in_order query_step hit_step fresh opening early by_type arriving own_answer asking extent_of feeding one_more bump bumps
    answers_of query hit three wrong query_of calls
evaluated =
    record {
      answers = refl;
      tally = refl;
      disorder = (refl, refl);
      scraps = (refl, refl);
      limits = (refl, refl, refl, refl, refl);
      fed_limits = (refl, refl, refl, refl);
      list_limits = (refl, refl, refl, refl);
    }
