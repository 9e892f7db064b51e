-- Lists of calls, and what they leave: the state, the route area, and the log of calls with their outcomes, the newest
-- first.
use Rattle.std.specs.Prelude.{ℕ, ◌/◌, ◌≡◌, Bool, List, [], ◌∷◌, length}
use Rattle.protocol.specs.State.{Station}
use Rattle.protocol.specs.Outcomes.{Terms, Outcome, unused}
use Rattle.protocol.specs.Calls.{opening, closing, message_outcome, own_outcome}

-- the route area lent to a call: the one that the last call with it left, or another
pub data Area : Type 0 where
  Same : Area
  Other : List ℕ → Area

-- a call with all that it brings
pub data Call : Type 0 where
  Open : (line : ℕ) → Call
  Close : (line : ℕ) → Call
  Message : (line : ℕ) (m : List ℕ) (terms : Terms) (area : Area) → Call
  Ask : (number text : List ℕ) (terms : Terms) (area : Area) → Call

-- demand 3 counts a call as unsent that is so answered: 1 to 5, whatever it brought
abbrev pub unsent : Call → ℕ → Bool
unsent c n = unused n

-- a call that was made, and its outcome
pub record Made : Type 0 where
  pub call : Call
  pub outcome : Outcome

pub record World : Type 0 where
  pub state : Station
  pub area : List ℕ
  pub log : List Made

abbrev pub lent : Area → List ℕ → List ℕ
lent Same r = r
lent (Other a) r = a

-- the area that stands after a call: what the call left of it, where it was the one lent
abbrev pub kept_area : Area → List ℕ → List ℕ → List ℕ
kept_area Same r r' = r'
kept_area (Other a) r r' = r

abbrev pub outcome_of : World → Call → Outcome
outcome_of w (Open l) = opening w.state l
outcome_of w (Close l) = closing w.state l
outcome_of w (Message l m t a) = message_outcome w.state l m t (lent a w.area)
outcome_of w (Ask n text t a) = own_outcome w.state n text t.out (lent a w.area)

-- opening and closing take no area
abbrev pub area_after : Call → List ℕ → List ℕ → List ℕ
area_after (Open l) r r' = r
area_after (Close l) r r' = r
area_after (Message l m t a) r r' = kept_area a r r'
area_after (Ask n text t a) r r' = kept_area a r r'

abbrev pub step : World → Call → World
step w c =
    record {
      state = (outcome_of w c).state;
      area = area_after c w.area (outcome_of w c).route;
      log = record { call = c; outcome = outcome_of w c } ∷ w.log;
    }

abbrev pub run : World → List Call → World
run w [] = w
run w (c ∷ cs) = run (step w c) cs

abbrev pub start : Station → List ℕ → World
start s area = record { state = s; area = area; log = [] }

-- another area has another room
abbrev pub FairArea : ℕ → Area → Type 0
FairArea room Same = Unit {0}
FairArea room (Other a) = length a / 8 ≡ room → ⊥

abbrev pub FairCall : ℕ → Call → Type 0
FairCall room (Open l) = Unit {0}
FairCall room (Close l) = Unit {0}
FairCall room (Message l m t a) = FairArea room a
FairCall room (Ask n text t a) = FairArea room a

abbrev pub Fair : ℕ → List Call → Type 0
Fair room [] = Unit {0}
Fair room (c ∷ cs) = FairCall room c × Fair room cs
