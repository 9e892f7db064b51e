-- The tally kept beside the state over any list of calls, those that bring bytes among them. Each whole message and
-- each call that brings bytes counts once, by its answer; but a call that waits does not, nor do openings, closings and
-- own queries.
use Rattle.std.specs.Prelude.{ℕ, suc, ◌<◌, min, ◌≡◌, Bool, true, cond, not, List, [], ◌∷◌, get_or}
use Rattle.laws.specs.Tests.{all}
use Rattle.receiving.specs.Feeding.{waiting}
use Rattle.receiving.specs.Events.{Event, Plain, Feed, Receiver, fed_by, reply_to, handle}
use Rattle.tally.specs.Counts.{answer_count, full, bump, bumps, occurrences, sum}
use Rattle.tally.specs.History.{NoneFull, zeros}
use Rattle.tallyhistory.specs.Calls.{is_message, is_message_answer}

-- it brings a message, or bytes of one
abbrev pub brings : Event → Bool
brings (Plain c) = is_message c
brings (Feed l bytes t a h) = true

abbrev pub is_counted : Receiver → Event → Bool
is_counted w (Plain c) = is_message c
is_counted w (Feed l bytes t a h) = not (fed_by w l bytes t a h).waits

-- the answers of those that count, in their order
unfoldable pub answers_in : Receiver → List Event → List ℕ
answers_in w [] = []
answers_in w (e ∷ es) =
    cond (is_counted w e) ((reply_to w e).answer ∷ answers_in (handle w e) es) (answers_in (handle w e) es)

-- how many there are of them
unfoldable pub counted_in : Receiver → List Event → ℕ
counted_in w [] = 0
counted_in w (e ∷ es) = cond (is_counted w e) (suc (counted_in (handle w e) es)) (counted_in (handle w e) es)

-- what stands where the answer would be of each that brings something, also of those that wait
unfoldable pub replies_in : Receiver → List Event → List ℕ
replies_in w [] = []
replies_in w (e ∷ es) = cond (brings e) ((reply_to w e).answer ∷ replies_in (handle w e) es) (replies_in (handle w e) es)

-- the counts of a tally that starts at zero
abbrev pub tally_in : Receiver → List Event → List ℕ
tally_in w es = bumps zeros (answers_in w es)

-- what stands for the answer of a call that waits counts nothing
abbrev pub WaitingUncounted : Type 0
WaitingUncounted = (counts : List ℕ) → bump counts waiting ≡ counts

-- from any state with any areas, whatever the calls: what counts is answered by a number that a message can have, each
-- count is how often its answer was given, or full where that is more, and while none is full they sum up to how many
-- calls count. A caller that counts after every call that brings something has the same counts
pub record TallyOfEvents (w : Receiver) (es : List Event) : Type 0 where
  pub known : all is_message_answer (answers_in w es) ≡ true
  pub each : (k : ℕ) → k < answer_count → get_or (tally_in w es) k 0 ≡ min full (occurrences k (answers_in w es))
  pub together : NoneFull (tally_in w es) → sum (tally_in w es) ≡ counted_in w es
  pub every : bumps zeros (replies_in w es) ≡ tally_in w es
