-- What any list of answers makes of the counts: the theorems on the tally over histories.
use Rattle.std.specs.Prelude.{ℕ, ◌+◌, ◌≤◌, ◌<◌, min, ◌≡◌, true, ◌↔◌, List, ltb, length, get_or, replicate}
use Rattle.laws.specs.Tests.{all}
use Rattle.tally.specs.Counts.{answer_count, full, bumps, occurrences, answers, sum}

-- the numbers that have a count are the answers of RULES 2.1, 0 to 21
abbrev pub RowForEach : Type 0
RowForEach = (n : ℕ) → (n < answer_count) ↔ (n ≤ 21)

-- counts as the type has them: one for each answer number, of 32 bits
pub record Sized (counts : List ℕ) : Type 0 where
  pub long : length counts ≡ answer_count
  pub small : (k : ℕ) → k < answer_count → get_or counts k 0 ≤ full

abbrev pub NoneFull : List ℕ → Type 0
NoneFull counts = (k : ℕ) → k < answer_count → get_or counts k 0 < full

-- each count is what it was and the occurrences of its number together, or full where that is more
abbrev pub CountsExactly : Type 0
CountsExactly =
    (ns counts : List ℕ) → Sized counts → (k : ℕ) → k < answer_count
    → get_or (bumps counts ns) k 0 ≡ min full (get_or counts k 0 + occurrences k ns)

-- below that, the sum grows by the number of answers
abbrev pub SumGrows : Type 0
SumGrows = (ns counts : List ℕ) → Sized counts → NoneFull (bumps counts ns) → sum (bumps counts ns)
    ≡ sum counts + answers ns

-- a tally that starts at zero and none of whose counts is full sums up to the number of messages
abbrev pub zeros : List ℕ
zeros = replicate answer_count 0

abbrev pub SumIsMessages : Type 0
SumIsMessages = (ns : List ℕ) → all (λ n. ltb n answer_count) ns ≡ true → NoneFull (bumps zeros ns)
    → sum (bumps zeros ns) ≡ length ns
