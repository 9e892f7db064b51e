-- The age is history (RULES 21.2), over lists of calls from any state in order: how many queries were taken since the
-- call that took it. Read off the log alone, with what was remembered before the log began.
use Rattle.std.specs.Prelude.{ℕ, ◌+◌, ◌<◌, ◌≡◌, true, ◌↔◌, ◌⊎◌, List, [], ◌∷◌, ◌++◌, length}
use Rattle.protocol.specs.State.{Station, remembered}
use Rattle.protocol.specs.Memory.{capacity, Number, Query}
use Rattle.protocol.specs.Order.{in_order}
use Rattle.protocol.specs.Calls.{looking_up}
use Rattle.protocol.specs.Runs.{Call, Made, outcome_of, run, start}
use Rattle.protocol.specs.Kept.{Sized}
use Rattle.protocol.specs.Demand2.{took, brought_number, taken_in, origin, asker_now}
use Rattle.receiving.specs.Events.{Event, world_of, calls_of, reply_to, handle_all, begin}
use Rattle.ages.specs.HandedUp.{Tells}

-- some call of the log took a query with this number, and n more were taken since
pub record TakenSince (log : List Made) (x : Number) (n : ℕ) : Type 0 where
  pub newer : List Made
  pub taking : Made
  pub older : List Made
  pub split : log ≡ newer ++ (taking ∷ older)
  pub taken : took taking.call taking.outcome.answer ≡ true
  pub number : brought_number taking.call ≡ x
  pub count : taken_in newer ≡ n

-- it was remembered before the log began; those that were newer then count with those taken since
pub record KeptSince (log : List Made) (base : List Query) (x : Number) (n : ℕ) : Type 0 where
  pub newer : List Query
  pub query : Query
  pub older : List Query
  pub split : base ≡ newer ++ (query ∷ older)
  pub number : query.number ≡ x
  pub count : taken_in log + length newer ≡ n

abbrev pub Since : List Made → List Query → Number → ℕ → Type 0
Since log base x n = TakenSince log x n ⊎ KeptSince log base x n

-- what a look-up tells of a state is what its log says: found exactly if fewer than 512 were taken since, and that many
-- are told; the asker is where the query came from
pub record AgeIs (s : Station) (log : List Made) (base : List Query) : Type 0 where
  pub found : (x : Number) (n : ℕ) → Tells s x n ↔ ((n < 512) × Since log base x n)
  pub absent : (x : Number) → ((looking_up s x).answer ≡ 10) ↔ ((n : ℕ) → n < 512 → Since log base x n → ⊥)
  pub asker : (x : Number) → (looking_up s x).asker ≡ asker_now (origin capacity log base x)

-- every list of calls
abbrev pub AgeIsHistory : Type 0
AgeIsHistory =
    (s : Station) (area : List ℕ) (cs : List Call)
    → Sized s
    → in_order s ≡ true
    → AgeIs (run (start s area) cs).state (run (start s area) cs).log (remembered s)

-- and every list with calls that bring bytes
abbrev pub EventsAge : Type 0
EventsAge =
    (s : Station) (area : List ℕ) (held : ℕ → List ℕ) (es : List Event)
    → Sized s
    → in_order s ≡ true
    → AgeIs (handle_all (begin s area held) es).state (world_of (handle_all (begin s area held) es)).log (remembered s)

-- so the age that a call hands up is history: after any list, whatever call comes next
abbrev pub UpIsHistory : Type 0
UpIsHistory =
    (s : Station) (area : List ℕ) (cs : List Call) (c : Call)
    → Sized s
    → in_order s ≡ true
    → (outcome_of (run (start s area) cs) c).age.known ≡ true
    → Since (run (start s area) cs).log (remembered s) (brought_number c)
    (outcome_of (run (start s area) cs) c).age.after

abbrev pub EventsUpHistory : Type 0
EventsUpHistory =
    (s : Station) (area : List ℕ) (held : ℕ → List ℕ) (es : List Event) (e : Event) (c : Call)
    → Sized s
    → in_order s ≡ true
    → calls_of (handle_all (begin s area held) es) e ≡ c ∷ []
    → (reply_to (handle_all (begin s area held) es) e).age.known ≡ true
    → Since (world_of (handle_all (begin s area held) es)).log (remembered s) (brought_number c)
    (reply_to (handle_all (begin s area held) es) e).age.after
