-- Laws that join an event's call to the station's calls.
use Prim.Native.Nat.{ℕ, ◌<◌}
use mathlib.Core.Path.{◌≡◌, refl, sym, ap, ◌∙◌}
use mathlib.Core.List.{List}
use lib.ListN.{length}
use Rattle.laws.specs.Tests.{first_of}
use Rattle.protocol.specs.declared.Report.{Report}
use Rattle.protocol.specs.Memory.{capacity, no_age}
use Rattle.protocol.specs.State.{Station}
use Rattle.protocol.specs.Outcomes.{Outcome, terms_of, nobody, quiet, refused_or}
use Rattle.protocol.specs.Calls.{opening, closing, message_outcome}
use Rattle.protocol.specs.Runs.{start}
use Rattle.protocol.proofs.Outcomes.{of_refused, opening_in, closing_in}
use Rattle.ages.proofs.HandedUp.{up-below}
use Rattle.station.specs.Calls.{Changed, MessageMet}
use Rattle.transcript.specs.declared.events.Answered.{Answered}
use Rattle.transcript.specs.Files.{kind_of, line_of, clock_of, message_of}
use Rattle.transcript.specs.Text.{own_pong, output_size, call_of, Answers, outcome_by, route_by}

-- ---- opening and closing send nothing and hand nothing up

pub record Quiet (o : Outcome) : Type 0 where
  pub to : o.to ≡ nobody
  pub age : o.age ≡ no_age

refused-quiet : (n k : ℕ) (s t : Station) (r q : List ℕ) → Quiet (refused_or n s r (quiet k t q))
refused-quiet n k s t r q =
    of_refused Quiet n s r (quiet k t q) (λ _. record { to = refl; age = refl }) (λ _. record { to = refl; age = refl })

pub opening-quiet : (s : Station) (l : ℕ) → Quiet (opening s l)
unfolding opening
opening-quiet s l = refused-quiet (first_of (opening_in s l)) _ _ _ _ _

pub closing-quiet : (s : Station) (l : ℕ) → Quiet (closing s l)
unfolding closing
closing-quiet s l = refused-quiet (first_of (closing_in s l)) _ _ _ _ _

-- what is handed on of a call that sends nothing and hands nothing up
pub unsent : (o : Outcome) {n : ℕ} {after : Station} {r : Answered} → Changed o n after → Quiet o
    → r ≡ record { answer = n; to = nobody; age = no_age } → Answers o r after
unsent o c f e = rw e (record { answer = c.answered; to = sym f.to; age = sym f.age; state = c.state })

-- ---- a message

module _ (s : Station) (line clock : ℕ) (m out route : List ℕ) (f : length out ≡ output_size) {report : Report}
    {after : Station} {out' route' : List ℕ}
    (met : MessageMet s line m (terms_of clock own_pong (length out)) route report after out out' route') where
  same_outcome : message_outcome s line m (terms_of clock own_pong (length out)) route
      ≡ message_outcome s line m (terms_of clock own_pong output_size) route
  same_outcome = ap (λ k. message_outcome s line m (terms_of clock own_pong k) route) f

  pub message-answered : Answers (message_outcome s line m (terms_of clock own_pong output_size) route)
      (record { answer = report.answer; to = report.to; age = report.age }) after
  message-answered =
      rw (← same_outcome)
      (record {
        answer = ap (λ (y : Report). y.answer) met.report;
        to = ap (λ (y : Report). y.to) met.report;
        age = ap (λ (y : Report). y.age) met.report;
        state = met.state;
      })

  pub message-route : route' ≡ (message_outcome s line m (terms_of clock own_pong output_size) route).route
  message-route = met.area ∙ ap (λ (o : Outcome). o.route) same_outcome

-- ---- by the event's kind

module _ (s : Station) (route e : List ℕ) (l : ℕ) (f : l ≡ line_of e) {r : Answered} {after : Station} where
  pub act_open : kind_of e ≡ 0 → Answers (opening s l) r after
      → Answers (outcome_by s route e) r after × (route ≡ route_by s route e)
  unfolding call_of
  act_open k g = (rw k (rw f at g), rw k)

  pub act-close : kind_of e ≡ 1 → Answers (closing s l) r after
      → Answers (outcome_by s route e) r after × (route ≡ route_by s route e)
  unfolding call_of
  act-close k g = (rw k (rw f at g), rw k)

  pub act-message : kind_of e ≡ 2 → {clock : ℕ} {m route' : List ℕ} → clock ≡ clock_of e → m ≡ message_of e
      → Answers (message_outcome s l m (terms_of clock own_pong output_size) route) r after
      → route' ≡ (message_outcome s l m (terms_of clock own_pong output_size) route).route
      → Answers (outcome_by s route e) r after × (route' ≡ route_by s route e)
  unfolding call_of
  act-message k g i p q = (rw k (rw (f, g, i) at p), rw k (rw (f, g, i) at q))

-- ---- the age handed on is the outcome's, so it is below the ring's capacity

pub age-below : (s : Station) (route e : List ℕ) {r : Answered} {after : Station}
    → Answers (outcome_by s route e) r after → r.age.after < capacity
age-below s route e a = rw a.age (up-below (start s route) (call_of e))
