-- Lists of calls that bring bytes, by computation.
-- Assumes nothing.
use native.Mathlib.Omega.{arith}
use mathlib.Core.Path.{refl}
use mathlib.Core.List.{◌++◌}
use lib.ListN.{replicate}
use Rattle.laws.specs.Ring.{kept_places}
use Rattle.wire.specs.Header.{message}
use Rattle.keywords.specs.Keywords.{lower, is_separator, keywords_of, pieces, filled}
use Rattle.keywords.specs.Hash.{xor32, hash_of, word}
use Rattle.tables.specs.Tables.{good_length, table_in_order}
use Rattle.tables.specs.Patch.{numbers, added, all_fit}
use Rattle.tables.specs.Updates.{update_answer, updated, good_reset, good_patch, in_turn as nextInRun, in_range, reset_by}
use Rattle.tables.specs.Updates.{moved_on, patch_by, broken_by}
use Rattle.tables.specs.Admission.{withholds}
use Rattle.protocol.specs.Memory.{queries_in, find, remember, raise, no_twice, memory_in_order}
use Rattle.protocol.specs.Lines.{stored_pongs}
use Rattle.protocol.specs.Order.{line_in_order, in_order}
use Rattle.protocol.specs.Queries.{usual_limit, until_zero, query_step}
use Rattle.protocol.specs.Pings.{walk, pongs_sent, ping_step, pong_step}
use Rattle.protocol.specs.Hits.{hit_step}
use Rattle.protocol.specs.Calls.{fresh, opening, closing, early, update_step, by_type, arriving}
use Rattle.protocol.proofs.Kept.{fresh_in_order}
use Rattle.receiving.specs.Feeding.{extent_of, feeding}
use Rattle.receiving.specs.Driven.{Ready}
use Rattle.receiving.specs.Demand3.{EventsClaimed}
use Rattle.receiving.specs.Sessions.{
  empty,
  opened,
  ping,
  query,
  update,
  two,
  six_in_scraps,
  one_at_atime,
  too_large,
  dropped_ones,
  in_turn,
  wrong,
  spoiled,
  largest,
  hit,
  answered,
  ordered,
  Evaluated,
}
use Rattle.receiving.proofs.Demand3.{events-demand3}

pub evaluated : Evaluated
unfolding kept_places message lower is_separator xor32 keywords_of pieces filled hash_of word good_length table_in_order numbers added all_fit
    update_answer updated good_reset good_patch nextInRun in_range reset_by moved_on patch_by broken_by withholds
    queries_in find remember raise no_twice memory_in_order stored_pongs line_in_order in_order until_zero query_step walk
    pongs_sent ping_step pong_step fresh opening closing early update_step by_type arriving extent_of feeding
    ping query update hit hit_step two wrong six_in_scraps one_at_atime too_large dropped_ones in_turn spoiled largest answered
    ordered
evaluated =
    record {
      six = refl;
      six_mark = refl;
      six_to = refl;
      one = refl;
      large = refl;
      drops = refl;
      turns = refl;
      most = refl;
      marks = refl;
      counts = refl;
      order = refl;
    }

-- the premises of what is said of lists and of scraps can be met: by this list and its line, and by this state
claimed : EventsClaimed usual_limit empty 1 4 (opened ++ spoiled)
unfolding fresh spoiled
claimed =
    events-demand3 (fresh 32).state (replicate 32 0) (λ k. replicate 4119 0) 1 (opened ++ spoiled) refl
    (fresh_in_order 32).order (omega arith) refl
    (tt, (tt, (both, (both, (both, (both, (both, (both, (both, tt)))))))))
  where
    both : Unit {0} × Unit {0}
    both = (tt, tt)

ready : Ready 0 two
unfolding kept_places table_in_order queries_in no_twice memory_in_order stored_pongs line_in_order in_order fresh opening extent_of two
ready =
    record {
      sized = record { eight = refl; lo = refl; hi = refl; asker = refl; hits = refl; pongs = refl };
      order = refl;
      areas = record { output = omega arith; long = omega arith; room = refl };
      line = omega arith;
      live = refl;
      open' = refl;
      begun = refl;
      long = omega arith;
    }
