-- What the leaves of the test of order cite.
use Rattle.std.specs.Prelude.{ℕ, ◌+◌, ◌-◌, ◌%◌, ◌≤◌, ◌<◌, ◌≡◌, Bool, true, false, not, ◌&&◌, List, eqb, leb, length, get_or}
use Rattle.std.specs.Int.Bits.{bit_or}
use Rattle.laws.specs.Tests.{all}
use Rattle.protocol.specs.Memory.{memory_of, Query, gone, same_number, no_twice}
use Rattle.memory.specs.Queries.{queries_before}

-- q has the number of p
abbrev pub same_as : Query → Query → Bool
same_as p q = same_number q.number p.number

-- the filter's word for a number, by the lowest ten bits of its first half; it has every bit of that half
abbrev pub word_of : List ℕ → ℕ → ℕ
word_of filter lo = get_or filter (lo % 1024) 0

abbrev pub marked : List ℕ → ℕ → Bool
marked filter lo = eqb (bit_or (word_of filter lo) lo) (word_of filter lo)

-- what is known of the queries that were passed
pub record Passed (filter : List ℕ) (qs : List Query) : Type 0 where
  pub size : length filter ≡ 1024
  pub apart : no_twice qs ≡ true
  pub has : all (λ q. marked filter q.number.lo) qs ≡ true

-- the filter was brought on from `from` to p: where the queries before the one were passed, those before the other
-- are, whatever their second halves, their askers and their counts of hits
abbrev pub BroughtOn : List ℕ → ℕ → ℕ → List ℕ → List ℕ → Type 0
BroughtOn lo from p old filter =
    (hi asker hits : List ℕ) (n : ℕ)
    → Passed old (queries_before (length lo) (memory_of lo hi asker hits n from))
    → Passed filter (queries_before (length lo) (memory_of lo hi asker hits (n + (p - from)) p))

-- brought on to `to`, or to a place whose number has no bit that its word lacks
pub record Filled (lo : List ℕ) (from to p : ℕ) (old filter : List ℕ) : Type 0 where
  pub low : from ≤ p
  pub high : p ≤ to
  pub size : length filter ≡ 1024
  pub stopped : p < to → marked filter (get_or lo p 0) ≡ true
  pub on : BroughtOn lo from p old filter

-- what a test tells of the queries that it went through: they were passed, or a number stands twice
abbrev pub Tested : Bool → List ℕ → List Query → Type 0
Tested true filter qs = Passed filter qs
Tested false filter qs = no_twice qs ≡ false

-- an asker is a line, here or gone, and not this line
abbrev pub fits_beside : ℕ → ℕ → Bool
fits_beside line a = leb a gone && not (eqb a line)
