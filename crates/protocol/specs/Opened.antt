-- Openings and closings of a line, from outside (RULES 2.4, 5.1 to 5.3): exactly when one is accepted, and what it
-- leaves: a bare line, open or closed, the other lines as they were, and of a closing the queries that the line brought
-- as gone.
use Rattle.std.specs.Prelude.{ℕ, ◌≤◌, ◌<◌, ◌≡◌, Bool, true, false, cond, not, ◌↔◌, ◌⊎◌, List, map, eqb}
use Rattle.protocol.specs.State.{Station, remembered, line_at}
use Rattle.protocol.specs.Memory.{gone, Query}
use Rattle.protocol.specs.Outcomes.{Outcome}
use Rattle.protocol.specs.Frames.{Bare, Beside, Silent}

-- the line is bare, the others are as they were, the remembered queries are these, and no place has another count of
-- hits
pub record Renewed (live : Bool) (l : ℕ) (queries : List Query) (s s' : Station) : Type 0 where
  pub line : Bare live (line_at s' l)
  pub beside : Beside l s s'
  pub memory : remembered s' ≡ queries
  pub hits : s'.memory.hits ≡ s.memory.hits

-- answered 0 exactly where the line is one of eight and stands as it must, else 3
pub record LineAnswered (must : Bool) (s : Station) (l : ℕ) (o : Outcome) : Type 0 where
  pub taken : (o.answer ≡ 0) ↔ ((l ≤ 7) × ((line_at s l).live ≡ must))
  pub refused : (o.answer ≡ 3) ↔ ((7 < l) ⊎ ((line_at s l).live ≡ not must))
  pub silent : Silent o

-- an opening needs a closed line
pub record OpenRouted (s : Station) (l : ℕ) (o : Outcome) : Type 0 where
  pub answered : LineAnswered false s l o
  pub leaves : l ≤ 7 → (line_at s l).live ≡ false → Renewed true l (remembered s) s o.state

-- a closing needs an open one; the queries that it brought are gone, and keep their counts of hits
abbrev pub gone_by : ℕ → Query → Query
gone_by l q = record { number = q.number; asker = cond (eqb q.asker l) gone q.asker; hits = q.hits }

pub record CloseRouted (s : Station) (l : ℕ) (o : Outcome) : Type 0 where
  pub answered : LineAnswered true s l o
  pub leaves : l ≤ 7 → (line_at s l).live ≡ true → Renewed false l (map (gone_by l) (remembered s)) s o.state
