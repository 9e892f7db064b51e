-- How much of a message must be there (RULES 2.3), from outside: with a state in order, areas that fit and an open
-- line,
-- 4 and 5 are given exactly for these bytes. A header that is not whole comes first; the payload's size is looked at
-- before its bytes.
use Rattle.std.specs.Prelude.{ℕ, ◌+◌, ◌≤◌, ◌<◌, ◌≡◌, true, ◌↔◌, ◌⊎◌, List, length}
use Rattle.wire.specs.Header.{size_of}
use Rattle.protocol.specs.State.{Station, line_at}
use Rattle.protocol.specs.Order.{in_order}
use Rattle.protocol.specs.Outcomes.{Terms}
use Rattle.protocol.specs.Calls.{message_outcome}
use Rattle.protocol.specs.Arrived.{Areas}

pub record ByExtent (m : List ℕ) (answer : ℕ) : Type 0 where
  pub four : (answer ≡ 4) ↔ ((length m < 23) ⊎ ((size_of m ≤ 4096) × (length m < 23 + size_of m)))
  pub five : (answer ≡ 5) ↔ ((23 ≤ length m) × (4096 < size_of m))

abbrev pub ExtentExactly : Type 0
ExtentExactly =
    (s : Station) (l : ℕ) (m : List ℕ) (t : Terms) (route : List ℕ)
    → in_order s ≡ true
    → Areas s t.out route
    → l ≤ 7
    → (line_at s l).live ≡ true
    → ByExtent m (message_outcome s l m t route).answer
