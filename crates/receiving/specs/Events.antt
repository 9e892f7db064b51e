-- Lists of calls of every kind, those that bring bytes among them, and what they leave: the state, the route area, each
-- line's held area, and the log of all, the newest first. What a list comes to in whole-message calls.
use Rattle.std.specs.Prelude.{ℕ, ◌<◌, Bool, cond, ◌||◌, List, [], ◌∷◌, ◌++◌, eqb, length}
use Rattle.laws.specs.Tests.{any}
use Rattle.protocol.specs.State.{Station, line_at}
use Rattle.protocol.specs.Outcomes.{Terms, Outcome}
use Rattle.protocol.specs.Runs.{Area, Call, Message, Made, World, lent, kept_area, area_after, outcome_of, FairArea, FairCall}
use Rattle.receiving.specs.Feeding.{Fed, feed_outcome, joined, front_of}

-- the held area lent to a call: its line's as the last such call left it, or another
pub data HeldArea : Type 0 where
  AsLeft : HeldArea
  Lent : List ℕ → HeldArea

-- a call of document 01, or one that brings bytes
pub data Event : Type 0 where
  Plain : Call → Event
  Feed : (line : ℕ) (bytes : List ℕ) (terms : Terms) (area : Area) (held : HeldArea) → Event

-- an event, its outcome, the bytes that it used, and the whole-message call that it came to: none where it waited or
-- was refused by 1 to 3 or 19
pub record Handled : Type 0 where
  pub event : Event
  pub outcome : Outcome
  pub used : ℕ
  pub calls : List Call

pub record Receiver : Type 0 where
  pub state : Station
  pub area : List ℕ
  pub held : ℕ → List ℕ
  pub log : List Handled

-- the calls of the log with their outcomes
abbrev pub made_by : Outcome → List Call → List Made
made_by o [] = []
made_by o (c ∷ cs) = record { call = c; outcome = o } ∷ made_by o cs

abbrev pub call_log : List Handled → List Made
call_log [] = []
call_log (d ∷ ds) = made_by d.outcome d.calls ++ call_log ds

-- what the calls of document 01 see
abbrev pub world_of : Receiver → World
world_of w = record { state = w.state; area = w.area; log = call_log w.log }

abbrev pub lent_held : HeldArea → List ℕ → List ℕ
lent_held AsLeft held = held
lent_held (Lent x) held = x

abbrev pub fed_by : Receiver → ℕ → List ℕ → Terms → Area → HeldArea → Fed Station
fed_by w l bytes t a h = feed_outcome w.state l bytes (lent_held h (w.held l)) t (lent a w.area)

-- answers that leave a call's bytes where they are
abbrev pub unread : ℕ → Bool
unread n = any (eqb n) (1 ∷ 2 ∷ 3 ∷ 19 ∷ [])

-- the whole-message call that bytes by line l come to: the message, or the header alone where its payload is too large,
-- with all else that the call brings which has the last byte
abbrev pub whole_call : Receiver → ℕ → List ℕ → Terms → Area → HeldArea → Call
whole_call w l bytes t a h = Message l (front_of (joined (line_at w.state l) (lent_held h (w.held l)) bytes)) t a

abbrev pub calls_of : Receiver → Event → List Call
calls_of w (Plain c) = c ∷ []
calls_of w (Feed l bytes t a h) =
    cond ((fed_by w l bytes t a h).waits || unread (fed_by w l bytes t a h).result.answer) []
    (whole_call w l bytes t a h ∷ [])

abbrev pub reply_to : Receiver → Event → Outcome
reply_to w (Plain c) = outcome_of (world_of w) c
reply_to w (Feed l bytes t a h) = (fed_by w l bytes t a h).result

abbrev pub used_by : Receiver → Event → ℕ
used_by w (Plain c) = 0
used_by w (Feed l bytes t a h) = (fed_by w l bytes t a h).used

abbrev pub area_of : Event → List ℕ → List ℕ → List ℕ
area_of (Plain c) r r' = area_after c r r'
area_of (Feed l bytes t a h) r r' = kept_area a r r'

-- another area that was lent is not kept
abbrev pub held_after : Receiver → Event → ℕ → List ℕ
held_after w (Plain c) k = w.held k
held_after w (Feed l bytes t a AsLeft) k = cond (eqb k l) (fed_by w l bytes t a AsLeft).held (w.held k)
held_after w (Feed l bytes t a (Lent x)) k = w.held k

abbrev pub handle : Receiver → Event → Receiver
handle w e =
    record {
      state = (reply_to w e).state;
      area = area_of e w.area (reply_to w e).route;
      held = held_after w e;
      log = record { event = e; outcome = reply_to w e; used = used_by w e; calls = calls_of w e } ∷ w.log;
    }

abbrev pub handle_all : Receiver → List Event → Receiver
handle_all w [] = w
handle_all w (e ∷ es) = handle_all (handle w e) es

-- any held areas at the start
abbrev pub begin : Station → List ℕ → (ℕ → List ℕ) → Receiver
begin s area held = record { state = s; area = area; held = held; log = [] }

-- the whole-message calls that a list comes to, in the order in which they are completed
abbrev pub wholes : Receiver → List Event → List Call
wholes w [] = []
wholes w (e ∷ es) = calls_of w e ++ wholes (handle w e) es

-- another held area is too short
abbrev pub FairHeld : HeldArea → Type 0
FairHeld AsLeft = Unit {0}
FairHeld (Lent x) = length x < 4119

abbrev pub FairEvent : ℕ → Event → Type 0
FairEvent room (Plain c) = FairCall room c
FairEvent room (Feed l bytes t a h) = FairArea room a × FairHeld h

abbrev pub FairEvents : ℕ → List Event → Type 0
FairEvents room [] = Unit {0}
FairEvents room (e ∷ es) = FairEvent room e × FairEvents room es
