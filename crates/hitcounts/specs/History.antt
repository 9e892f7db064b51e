-- The count of hits of a remembered query is history (RULES 24.1, 24.2), over lists of calls from any state in order:
-- how many hits of its number were answered 0 since the call that took it. Read off the log alone, with what was
-- remembered before the log began.
use Rattle.std.specs.Prelude.{ℕ, suc, ◌+◌, ◌<◌, ◌≡◌, Bool, true, false, cond, ◌&&◌, ◌⊎◌, List, [], ◌∷◌, ◌++◌}
use Rattle.laws.specs.Tests.{any}
use Rattle.protocol.specs.State.{Station, remembered}
use Rattle.protocol.specs.Memory.{Number, Query, same_number}
use Rattle.protocol.specs.Order.{in_order}
use Rattle.protocol.specs.Calls.{fresh}
use Rattle.protocol.specs.Runs.{Call, Made, run, start}
use Rattle.protocol.specs.Kept.{Sized}
use Rattle.protocol.specs.Demand2.{took, brought_number, got_hit, taken_in}

-- the query is one of these
abbrev pub OneOf : Query → List Query → Type 0
OneOf q [] = ⊥
OneOf q (p ∷ ps) = (p ≡ q) ⊎ OneOf q ps

-- a call that took a query with the number x: an arriving one or an own one, answered 0
abbrev pub takes : Number → Made → Bool
takes x d = took d.call d.outcome.answer && same_number x (brought_number d.call)

-- how many calls of a log passed a hit of the number x back or delivered it: messages of type 0x81 with that number,
-- answered 0
abbrev pub hits_in : Number → List Made → ℕ
hits_in x [] = 0
hits_in x (d ∷ ds) = cond (got_hit d.call d.outcome.answer x) (suc (hits_in x ds)) (hits_in x ds)

-- the last call of a log that took a query with the number x, and the calls since
pub record LastTaking (log : List Made) (x : Number) (newer : List Made) : Type 0 where
  pub taking : Made
  pub older : List Made
  pub split : log ≡ newer ++ (taking ∷ older)
  pub taken : took taking.call taking.outcome.answer ≡ true
  pub number : brought_number taking.call ≡ x
  pub last : any (takes x) newer ≡ false

-- it was remembered before the log began, with a count
pub record StoodBefore (base : List Query) (x : Number) (hits : ℕ) : Type 0 where
  pub query : Query
  pub stood : OneOf query base
  pub number : query.number ≡ x
  pub count : query.hits ≡ hits

-- the counts of a state are what its log says
pub record CountIs (s : Station) (log : List Made) (base : List Query) : Type 0 where
  -- of a query that a call of the log took: the hits since
  pub taken : (q : Query) (newer : List Made) → OneOf q (remembered s) → LastTaking log q.number newer
      → q.hits ≡ hits_in q.number newer
  -- of one that none took: those that it had had before, and the hits of the log
  pub stood : (q : Query) → OneOf q (remembered s) → any (takes q.number) log ≡ false
      → (had : ℕ) × StoodBefore base q.number had × (q.hits ≡ had + hits_in q.number log)
  -- one of the two it is
  pub either : (x : Number) → ((newer : List Made) × LastTaking log x newer) ⊎ (any (takes x) log ≡ false)
  -- and one that was taken is remembered while fewer than 512 were taken since
  pub there : (x : Number) (newer : List Made) → LastTaking log x newer → taken_in newer < 512
      → (q : Query) × OneOf q (remembered s) × (q.number ≡ x)

-- every list of calls from any state in order
abbrev pub CountIsHistory : Type 0
CountIsHistory =
    (s : Station) (area : List ℕ) (cs : List Call)
    → Sized s
    → in_order s ≡ true
    → CountIs (run (start s area) cs).state (run (start s area) cs).log (remembered s)

-- whatever is remembered was taken by a call of the log, and its count is how many hits were answered 0 since
abbrev pub CountedSince : Station → List Made → Type 0
CountedSince s log =
    (q : Query) → OneOf q (remembered s)
    → (newer : List Made) × LastTaking log q.number newer × (q.hits ≡ hits_in q.number newer)

-- so it is from a fresh one
abbrev pub FreshCounts : Type 0
FreshCounts =
    (n : ℕ) (area : List ℕ) (cs : List Call)
    → CountedSince (run (start (fresh n).state area) cs).state (run (start (fresh n).state area) cs).log
