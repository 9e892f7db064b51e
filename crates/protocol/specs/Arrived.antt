-- A message that has arrived: what was brought lets its type decide the answer, and none of 2 to 5 applies. It speaks
-- of the state before the call and of what the call brings, never of its answer; so no statement that begins with it is
-- met by a core that refuses the message.
use Rattle.std.specs.Prelude.{ℕ, ◌+◌, ◌/◌, ◌≤◌, ◌<◌, ◌≡◌, true, ◌↔◌, ◌⊎◌, List, length}
use Rattle.wire.specs.Header.{size_of}
use Rattle.protocol.specs.State.{Station, line_at}
use Rattle.protocol.specs.Outcomes.{Outcome}

-- the areas that are lent fit the state: an output area of 4,119 bytes, a route area of 32 or more that gives the
-- state's room
pub record Areas (s : Station) (out : ℕ) (route : List ℕ) : Type 0 where
  pub output : 4119 ≤ out
  pub long : 32 ≤ length route
  pub room : length route / 8 ≡ s.room

-- the line is open, the payload is not over 4,096 bytes, and header and payload are there
pub record Arrived (s : Station) (l : ℕ) (m : List ℕ) (out : ℕ) (route : List ℕ) : Type 0 where
  pub areas : Areas s out route
  pub line : l ≤ 7
  pub live : (line_at s l).live ≡ true
  pub size : size_of m ≤ 4096
  pub whole : 23 + size_of m ≤ length m

-- none of 1 to 5: so exactly these messages are not unsent, for demand 3 too
abbrev pub Sent : Outcome → Type 0
Sent o = (o.answer ≡ 0) ⊎ (5 < o.answer)

abbrev pub SentIfArrived : (s : Station) (l : ℕ) (m : List ℕ) (out : ℕ) (route : List ℕ) → Outcome → Type 0
SentIfArrived s l m out route o = Sent o ↔ Arrived s l m out route
