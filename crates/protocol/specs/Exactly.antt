-- Refusals exactly where RULES 2.1 has them, from outside: 1, 2 and 3 of a message, 7 of one that has arrived, 6 and 8
-- of a query that has arrived, and 1, 2, 5 and 6 of an own query. (4 and 5 of a message: Extent; 9: Demand2; openings
-- and closings: Opened; pings and pongs: Pinged.)
use Rattle.std.specs.Prelude.{ℕ, ◌/◌, ◌≤◌, ◌<◌, ◌≡◌, true, false, ◌↔◌, ◌⊎◌, List, length, get_or}
use Rattle.wire.specs.Header.{kind_of, ttl_of, hops_of, payload_of}
use Rattle.protocol.specs.State.{Station, line_at}
use Rattle.protocol.specs.Order.{in_order}
use Rattle.protocol.specs.Outcomes.{Terms}
use Rattle.protocol.specs.Calls.{message_outcome, own_outcome}
use Rattle.protocol.specs.Arrived.{Areas, Arrived}

-- the output area is under 4,119 bytes, or the route area is under 32, or it gives another room than the state's
abbrev pub AreasUnfit : Station → ℕ → List ℕ → Type 0
AreasUnfit s out route = (out < 4119) ⊎ ((length route < 32) ⊎ (length route / 8 ≡ s.room → ⊥))

-- the line is over 7, or not open
abbrev pub LineNotOpen : Station → ℕ → Type 0
LineNotOpen s l = (7 < l) ⊎ ((line_at s l).live ≡ false)

-- the types that have rules: Ping, Pong, route update, Query, Query Hit
abbrev pub Named : List ℕ → Type 0
Named m = (kind_of m ≡ 0x00) ⊎ ((kind_of m ≡ 0x01) ⊎ ((kind_of m ≡ 0x30) ⊎ ((kind_of m ≡ 0x80) ⊎ (kind_of m ≡ 0x81))))

-- a zero byte stands at this index or later
pub record ZeroFrom (from : ℕ) (bytes : List ℕ) : Type 0 where
  pub index : ℕ
  pub behind : from ≤ index
  pub within : index < length bytes
  pub zero : get_or bytes index 1 ≡ 0

-- a TTL or Hops that a query may not have
abbrev pub NotAllowed : List ℕ → Type 0
NotAllowed m = (ttl_of m ≡ 0) ⊎ ((15 < ttl_of m) ⊎ (7 ≤ hops_of m))

-- a message call
pub record EarlyExactly (s : Station) (l out : ℕ) (route : List ℕ) (answer : ℕ) : Type 0 where
  pub one : (answer ≡ 1) ↔ (in_order s ≡ false)
  pub two : (answer ≡ 2) ↔ ((in_order s ≡ true) × AreasUnfit s out route)
  pub three : (answer ≡ 3) ↔ ((in_order s ≡ true) × (Areas s out route × LineNotOpen s l))

-- a query that has arrived; its text begins behind two bytes of speed
pub record QueryExactly (m : List ℕ) (answer : ℕ) : Type 0 where
  pub six : (answer ≡ 6) ↔ (ZeroFrom 2 (payload_of m) → ⊥)
  pub eight : (answer ≡ 8) ↔ (ZeroFrom 2 (payload_of m) × NotAllowed m)

-- an own query
pub record OwnExactly (s : Station) (text : List ℕ) (out : ℕ) (route : List ℕ) (answer : ℕ) : Type 0 where
  pub one : (answer ≡ 1) ↔ (in_order s ≡ false)
  pub two : (answer ≡ 2) ↔ ((in_order s ≡ true) × AreasUnfit s out route)
  pub five : (answer ≡ 5) ↔ ((in_order s ≡ true) × (Areas s out route × (4093 < length text)))
  pub six : (answer ≡ 6) ↔ ((in_order s ≡ true) × (Areas s out route × ((length text ≤ 4093) × ZeroFrom 0 text)))

pub record Exactly : Type 0 where
  pub early : (s : Station) (l : ℕ) (m : List ℕ) (t : Terms) (route : List ℕ)
      → EarlyExactly s l t.out route (message_outcome s l m t route).answer
  pub seven : (s : Station) (l : ℕ) (m : List ℕ) (t : Terms) (route : List ℕ)
      → in_order s ≡ true
      → Arrived s l m t.out route
      → ((message_outcome s l m t route).answer ≡ 7) ↔ (Named m → ⊥)
  pub query : (s : Station) (l : ℕ) (m : List ℕ) (t : Terms) (route : List ℕ)
      → in_order s ≡ true
      → Arrived s l m t.out route
      → kind_of m ≡ 0x80
      → QueryExactly m (message_outcome s l m t route).answer
  pub asks : (s : Station) (number text : List ℕ) (out : ℕ) (route : List ℕ)
      → OwnExactly s text out route (own_outcome s number text out route).answer
