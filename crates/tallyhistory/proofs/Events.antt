-- The tally over lists of calls, those that bring bytes among them: what does not wait is answered by an answer number,
-- and what stands for the answer of a call that waits is none.
-- Assumes nothing.
use Prim.Native.Nat.{ℕ, suc}
use mathlib.Core.Path.{◌≡◌, refl, ap, ◌∙◌}
use mathlib.Core.Bool.{Bool, true, false, cond, not}
use mathlib.Core.List.{List, [], ◌∷◌}
use lib.ListN.{length}
use Rattle.laws.specs.Tests.{all}
use borrow.Author.Tests.{not-true}
use Rattle.laws.proofs.Refusals.{clash, and_intro, answer_in, of_choice}
use Rattle.protocol.specs.State.{Station}
use Rattle.protocol.specs.Outcomes.{Terms}
use Rattle.protocol.specs.Runs.{Area, Open, Close, Message, Ask, lent}
use Rattle.receiving.specs.Feeding.{Fed, feed_outcome, front_of, waiting}
use Rattle.receiving.specs.Events.{HeldArea, Event, Plain, Feed, Receiver, lent_held, fed_by, reply_to, handle}
use Rattle.receiving.specs.Calls.{in_all, before}
use Rattle.receiving.proofs.Cases.{FeedCase, Refused, Waits, Over, Whole, feed-case}
use Rattle.tally.specs.Counts.{bump, bumps}
use Rattle.tally.specs.History.{zeros}
use Rattle.tally.proofs.History.{sum-is-messages}
use Rattle.tallyhistory.specs.Calls.{is_message, is_message_answer}
use Rattle.tallyhistory.specs.Events.{
  is_counted,
  answers_in,
  counted_in,
  replies_in,
  WaitingUncounted,
  TallyOfEvents,
}
use Rattle.tallyhistory.proofs.Calls.{message-known, all-counted, from_zero_lem}

-- a call that brings bytes: it waits, and has no answer, or has one
module _ (s : Station) (l : ℕ) (bytes held : List ℕ) (t : Terms) (route : List ℕ) where
  abbrev fed : Fed Station
  fed = feed_outcome s l bytes held t route

  pub record Answers : Type 0 where
    pub known : fed.waits ≡ false → is_message_answer fed.result.answer ≡ true
    pub none : fed.waits ≡ true → fed.result.answer ≡ waiting

  fed-answers : Answers
  fed-answers = by (feed-case s l bytes held t route)
    where
      -- it does not wait
      answered : (f : Fed Station) → fed ≡ f → f.waits ≡ false → is_message_answer f.result.answer ≡ true → Answers
      answered f e w a =
          record {
            known = λ _. ap (λ (x : Fed Station). is_message_answer x.result.answer) e ∙ a;
            none = λ z. absurd (clash z (ap (λ (x : Fed Station). x.waits) e ∙ w));
          }

      by : FeedCase s l bytes held t route → Answers
      by (Refused n e some u f) =
          answered _ f refl (rw (← e) (answer_in is_message_answer (before s l bytes held t route) refl refl))
      by (Waits p e x f) =
          record {
            known = λ z. absurd (clash (ap (λ (x : Fed Station). x.waits) f) z);
            none = λ _. ap (λ (x : Fed Station). x.result.answer) f;
          }
      by (Over p e x f) = answered _ f refl refl
      by (Whole p e x b f) = answered _ f refl (message-known s l (front_of (in_all s l bytes held t route)) t route)

module _ (w : Receiver) (l : ℕ) (bytes : List ℕ) (t : Terms) (a : Area) (h : HeldArea) where
  fed-event : Answers w.state l bytes (lent_held h (w.held l)) t (lent a w.area)
  fed-event = fed-answers w.state l bytes (lent_held h (w.held l)) t (lent a w.area)

counted-known : (w : Receiver) (e : Event) → is_counted w e ≡ true → is_message_answer (reply_to w e).answer ≡ true
counted-known w (Plain (Open l)) c = absurd (clash c refl)
counted-known w (Plain (Close l)) c = absurd (clash c refl)
counted-known w (Plain (Message l m t a)) c = message-known w.state l m t (lent a w.area)
counted-known w (Plain (Ask n text t a)) c = absurd (clash c refl)
counted-known w (Feed l bytes t a h) c = (fed-event w l bytes t a h).known (not-true (fed_by w l bytes t a h).waits c)

all_known : (w : Receiver) (es : List Event) → all is_message_answer (answers_in w es) ≡ true
unfolding answers_in
all_known w [] = refl
all_known w (e ∷ es) =
    let rest = all_known (handle w e) es in
    of_choice (λ ns. all is_message_answer ns ≡ true) (is_counted w e) _ _
    (λ c. and_intro (is_message_answer (reply_to w e).answer) _ (counted-known w e c) rest) (λ _. rest)

-- there is an answer for each that counts
one_more : (b : Bool) (a n : ℕ) (ns : List ℕ) → length ns ≡ n → length (cond b (a ∷ ns) ns) ≡ cond b (suc n) n
one_more true a n ns i = ap suc i
one_more false a n ns i = i

how_many : (w : Receiver) (es : List Event) → length (answers_in w es) ≡ counted_in w es
unfolding answers_in counted_in
how_many w [] = refl
how_many w (e ∷ es) =
    one_more (is_counted w e) (reply_to w e).answer (counted_in (handle w e) es) (answers_in (handle w e) es)
    (how_many (handle w e) es)

pub waiting-uncounted : WaitingUncounted
unfolding bump
waiting-uncounted counts = refl

-- two lists that count alike, and with one number more: in both, or in the first, if it is that of a call that waits
abbrev Alike : List ℕ → List ℕ → Type 0
Alike ns ms = (counts : List ℕ) → bumps counts ns ≡ bumps counts ms

module _ (a : ℕ) (ns ms : List ℕ) (same : Alike ns ms) where
  both-more : (b : Bool) → Alike (cond b (a ∷ ns) ns) (cond b (a ∷ ms) ms)
  unfolding bumps
  both-more true counts = same (bump counts a)
  both-more false counts = same counts

  more_unless : (b : Bool) → (b ≡ true → a ≡ waiting) → Alike (a ∷ ns) (cond (not b) (a ∷ ms) ms)
  unfolding bumps
  more_unless true e counts = rw (e refl, waiting-uncounted counts) (same counts)
  more_unless false e counts = same (bump counts a)

every-reply : (w : Receiver) (es : List Event) → Alike (replies_in w es) (answers_in w es)
unfolding replies_in answers_in
every-reply w [] = λ counts. refl
every-reply w (Plain c ∷ es) =
    let w' : Receiver = handle w (Plain c) in
    both-more (reply_to w (Plain c)).answer (replies_in w' es) (answers_in w' es) (every-reply w' es) (is_message c)
every-reply w (Feed l bytes t a h ∷ es) =
    let w' : Receiver = handle w (Feed l bytes t a h) in
    let f : Fed Station = fed_by w l bytes t a h in
    more_unless f.result.answer (replies_in w' es) (answers_in w' es) (every-reply w' es) f.waits
    (fed-event w l bytes t a h).none

pub tally_of_events : (w : Receiver) (es : List Event) → TallyOfEvents w es
tally_of_events w es =
    record {
      known = all_known w es;
      each = from_zero_lem (answers_in w es);
      together = λ f.
          sum-is-messages (answers_in w es) (all-counted (answers_in w es) (all_known w es)) f ∙ how_many w es;
      every = every-reply w es zeros;
    }
