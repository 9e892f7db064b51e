-- The tally (RULES 16): one count for each answer number. A full 32-bit count stays.
use Rattle.std.specs.Prelude.{ℕ, suc, ◌+◌, min, cond, List, [], ◌∷◌, eqb, ltb, get_or, set}
use Rattle.tally.specs.declared.Tally.{Tally}

-- how many answer numbers there are; the first is 0
abbrev pub answer_count : ℕ
answer_count = 22

-- the largest count
abbrev pub full : ℕ
full = 4294967295

unfoldable pub one_more : ℕ → ℕ
one_more n = min full (n + 1)

-- the counts with one more at a
abbrev pub raised : List ℕ → ℕ → List ℕ
raised counts a = set counts a (one_more (get_or counts a 0))

-- the counts after one more answer a; a number that is no answer counts nothing
unfoldable pub bump : List ℕ → ℕ → List ℕ
bump counts a = cond (ltb a answer_count) (raised counts a) counts

unfoldable pub counted : Tally → ℕ → Tally
counted t a = record { counts = bump t.counts a }

-- the counts after a list of answers, the first first
unfoldable pub bumps : List ℕ → List ℕ → List ℕ
bumps counts [] = counts
bumps counts (a ∷ ns) = bumps (bump counts a) ns

-- how often k stands in a list
unfoldable pub occurrences : ℕ → List ℕ → ℕ
occurrences k [] = 0
occurrences k (a ∷ ns) = cond (eqb a k) (suc (occurrences k ns)) (occurrences k ns)

-- how many of a list are answer numbers
unfoldable pub answers : List ℕ → ℕ
answers [] = 0
answers (a ∷ ns) = cond (ltb a answer_count) (suc (answers ns)) (answers ns)

unfoldable pub sum : List ℕ → ℕ
sum [] = 0
sum (c ∷ cs) = c + sum cs
