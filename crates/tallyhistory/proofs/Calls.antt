-- The tally over lists of calls: a message is answered by the first of its refusals, and each of these has an answer
-- number.
-- Assumes nothing.
use Prim.Native.Nat.{ℕ, suc, ◌<◌, min}
use native.Mathlib.Omega.{arith}
use mathlib.Core.Path.{◌≡◌, refl, ap, ◌∙◌}
use mathlib.Core.Bool.{true, ◌||◌}
use mathlib.Core.Logic.{⊎_elim}
use mathlib.Core.List.{List, [], ◌∷◌, ◌++◌}
use lib.Dec.{eqb, ltb}
use lib.ListN.{length, get_or, get_or-replicate}
use borrow.Author.Tests.{eqb-true, lt-ltb, ltb-true}
use Rattle.laws.specs.Tests.{all}
use Rattle.laws.proofs.Refusals.{and_intro, or_split, answer_in}
use Rattle.laws.proofs.Truth.{all_more}
use Rattle.protocol.specs.State.{Station}
use Rattle.protocol.specs.Outcomes.{Terms}
use Rattle.protocol.specs.Calls.{message_outcome}
use Rattle.protocol.specs.Runs.{Call, Open, Close, Message, Ask, World, outcome_of, step, lent}
use Rattle.protocol.proofs.Outcomes.{early_in}
use Rattle.protocol.proofs.Blind.{after_early, numbers, types_all}
use Rattle.tally.specs.Counts.{answer_count, full, bumps, occurrences}
use Rattle.tally.specs.History.{zeros}
use Rattle.tally.proofs.History.{counts-exactly, zeros-sized, sum-is-messages}
use Rattle.tallyhistory.specs.Calls.{is_message_answer, answers_of, messages, TallyOfCalls}

pub message-known : (s : Station) (l : ℕ) (m : List ℕ) (t : Terms) (route : List ℕ)
    → is_message_answer (message_outcome s l m t route).answer ≡ true
message-known s l m t route =
    rw (numbers s l m t route)
    (answer_in is_message_answer (early_in s l m t.out (length route) ++ after_early s l m t route) refl
    (types_all s l m t route (λ c. is_message_answer c.1) refl refl refl refl refl))

all_known : (w : World) (cs : List Call) → all is_message_answer (answers_of w cs) ≡ true
unfolding answers_of
all_known w [] = refl
all_known w (Open l ∷ cs) = all_known (step w (Open l)) cs
all_known w (Close l ∷ cs) = all_known (step w (Close l)) cs
all_known w (Message l m t a ∷ cs) =
    and_intro (is_message_answer (outcome_of w (Message l m t a)).answer) _
    (message-known w.state l m t (lent a w.area))
    (all_known (step w (Message l m t a)) cs)
all_known w (Ask n text t a ∷ cs) = all_known (step w (Ask n text t a)) cs

-- there is an answer for each message
how_many : (w : World) (cs : List Call) → length (answers_of w cs) ≡ messages cs
unfolding answers_of messages
how_many w [] = refl
how_many w (Open l ∷ cs) = how_many (step w (Open l)) cs
how_many w (Close l ∷ cs) = how_many (step w (Close l)) cs
how_many w (Message l m t a ∷ cs) = ap suc (how_many (step w (Message l m t a)) cs)
how_many w (Ask n text t a ∷ cs) = how_many (step w (Ask n text t a)) cs

-- each has a count
pub all-counted : (ns : List ℕ) → all is_message_answer ns ≡ true → all (λ n. ltb n answer_count) ns ≡ true
all-counted =
    all_more is_message_answer (λ n. ltb n answer_count) (λ n e. lt-ltb n answer_count
    (⊎_elim (λ x. omega (arith, ltb-true n 17 x))
    (λ y. ⊎_elim (λ x. omega (arith, eqb-true n 19 x)) (λ x. omega (arith, eqb-true n 21 x))
    (or_split (eqb n 19) (eqb n 21) y))
    (or_split (ltb n 17) (eqb n 19 || eqb n 21) e)))

-- the counts of any answers, from zero
pub from_zero_lem : (ns : List ℕ) (k : ℕ) → k < answer_count → get_or (bumps zeros ns) k 0 ≡ min full (occurrences k ns)
from_zero_lem ns k h =
    let e : get_or zeros k 0 ≡ 0 = get_or-replicate {A = ℕ} answer_count k 0 0 h in
    counts-exactly ns zeros zeros-sized k h ∙ rw e (omega arith)

pub tally_of_calls : (w : World) (cs : List Call) → TallyOfCalls w cs
tally_of_calls w cs =
    record {
      known = all_known w cs;
      each = from_zero_lem (answers_of w cs);
      together = λ f.
          sum-is-messages (answers_of w cs) (all-counted (answers_of w cs) (all_known w cs)) f ∙ how_many w cs;
    }
