-- The tally kept beside the state over any list of calls. Each arriving message counts once, by its answer, whatever
-- that is; openings, closings and own queries do not count.
use Rattle.std.specs.Prelude.{ℕ, suc, ◌<◌, min, ◌≡◌, Bool, true, false, cond, ◌||◌, List, [], ◌∷◌, eqb, ltb, get_or}
use Rattle.laws.specs.Tests.{all}
use Rattle.protocol.specs.Runs.{Call, Open, Close, Message, Ask, World, outcome_of, step}
use Rattle.tally.specs.Counts.{answer_count, full, bumps, occurrences, sum}
use Rattle.tally.specs.History.{NoneFull, zeros}

abbrev pub is_message : Call → Bool
is_message (Open l) = false
is_message (Close l) = false
is_message (Message l m t a) = true
is_message (Ask n text t a) = false

-- an answer that a message can have, whole or in scraps: 0 to 16, 19 and 21. Of the numbers that have a count, handshake
-- groups alone give 17 and 18, and a list of names 20
abbrev pub is_message_answer : ℕ → Bool
is_message_answer n = ltb n 17 || (eqb n 19 || eqb n 21)

-- the answers of the messages among these calls, in their order
unfoldable pub answers_of : World → List Call → List ℕ
answers_of w [] = []
answers_of w (c ∷ cs) = cond (is_message c) ((outcome_of w c).answer ∷ answers_of (step w c) cs) (answers_of (step w c) cs)

-- how many messages there are among them
unfoldable pub messages : List Call → ℕ
messages [] = 0
messages (c ∷ cs) = cond (is_message c) (suc (messages cs)) (messages cs)

-- the counts of a tally that starts at zero
abbrev pub tally_of : World → List Call → List ℕ
tally_of w cs = bumps zeros (answers_of w cs)

-- from any world, whatever the calls: every message is answered by a number that a message can have, each count is how
-- many messages had its answer, or full where that is more, and while none is full they sum up to the number of
-- messages
pub record TallyOfCalls (w : World) (cs : List Call) : Type 0 where
  pub known : all is_message_answer (answers_of w cs) ≡ true
  pub each : (k : ℕ) → k < answer_count → get_or (tally_of w cs) k 0 ≡ min full (occurrences k (answers_of w cs))
  pub together : NoneFull (tally_of w cs) → sum (tally_of w cs) ≡ messages cs
