-- What a caller is told of an outcome is the outcome's, value by value; and a fresh state remembers nothing.
-- Assumes nothing.
use Prim.Native.Nat.{ℕ}
use mathlib.Core.Path.{refl}
use Rattle.laws.specs.Ring.{kept_places}
use Rattle.protocol.specs.Memory.{queries_in}
use Rattle.protocol.specs.Outcomes.{Outcome, report_of}
use Rattle.protocol.specs.Calls.{fresh, message_outcome, own_outcome}
use Rattle.protocol.specs.Blind.{used_after}
use Rattle.protocol.specs.HandedBack.{HandedBack, AllHanded, FreshRemembersNothing}

handed : (o : Outcome) (used : ℕ) → HandedBack (report_of o used) o used
handed o used =
    record {
      answer = refl;
      used = refl;
      written = refl;
      to = refl;
      search = refl;
      delivered = refl;
      textat = refl;
      textlen = refl;
      age = refl;
    }

pub all-handed : AllHanded
all-handed =
    record {
      message = λ s l m t route. let o : Outcome = message_outcome s l m t route in handed o (used_after o.answer m);
      asks = λ s number text out route. handed (own_outcome s number text out route) 0;
    }

pub fresh_remembers : FreshRemembersNothing
unfolding queries_in kept_places fresh
fresh_remembers n = refl
