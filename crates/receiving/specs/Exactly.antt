-- The refusals of a call that brings bytes, exactly where RULES 20.2 has them and in that order, from outside: 1, 2, 3
-- and 19 before the bytes count, 5 of a header with too large a payload; where it waits, and where the message that is
-- whole decides. No list of tests is read here.
use Rattle.std.specs.Prelude.{ℕ, ◌+◌, ◌-◌, ◌≤◌, ◌<◌, ◌≡◌, true, false, ◌↔◌, ◌⊎◌, List, length, take}
use Rattle.wire.specs.Header.{size_of}
use Rattle.protocol.specs.State.{Station, line_at}
use Rattle.protocol.specs.Order.{in_order}
use Rattle.protocol.specs.Outcomes.{Terms, quiet}
use Rattle.protocol.specs.Calls.{message_outcome}
use Rattle.protocol.specs.Arrived.{Areas}
use Rattle.protocol.specs.Exactly.{AreasUnfit, LineNotOpen}
use Rattle.receiving.specs.Feeding.{held_bytes, front_of, dropped}
use Rattle.receiving.specs.Calls.{Unfinished, TooLarge, WholeAt, fed, in_all, held_count}

-- the areas that are lent fit: output and route area as with every call, and a held area of 4,119 bytes or more
abbrev pub AreasFit : Station → ℕ → List ℕ → List ℕ → Type 0
AreasFit s out route held = Areas s out route × (4119 ≤ length held)

-- the line is one of eight, and open
abbrev pub LineOpen : Station → ℕ → Type 0
LineOpen s l = (l ≤ 7) × ((line_at s l).live ≡ true)

-- nothing of state, areas and line refuses the call
pub record Reached (s : Station) (l : ℕ) (held : List ℕ) (out : ℕ) (route : List ℕ) : Type 0 where
  pub order : in_order s ≡ true
  pub areas : Areas s out route
  pub long : 4119 ≤ length held
  pub line : l ≤ 7
  pub live : (line_at s l).live ≡ true
  pub unshut : (line_at s l).pending.shut ≡ false

-- and the held bytes start a message: so the bytes that are brought count
pub record Fits (s : Station) (l : ℕ) (held : List ℕ) (out : ℕ) (route : List ℕ) : Type 0 where
  pub reached : Reached s l held out route
  pub begun : Unfinished (held_bytes (line_at s l) held)

module _ (s : Station) (l : ℕ) (bytes held : List ℕ) (t : Terms) (route : List ℕ) where
  abbrev answer : ℕ
  answer = (fed s l bytes held t route).result.answer

  abbrev j : List ℕ
  j = in_all s l bytes held t route

  abbrev Counts : Type 0
  Counts = Fits s l held t.out route

  pub record FedExactly : Type 0 where
    -- 1 first, and once more as the last of those before the bytes count
    pub one : (answer ≡ 1)
        ↔ ((in_order s ≡ false)
        ⊎ (Reached s l held t.out route × (Unfinished (held_bytes (line_at s l) held) → ⊥)))
    pub two : (answer ≡ 2) ↔ ((in_order s ≡ true) × (AreasUnfit s t.out route ⊎ (length held < 4119)))
    pub three : (answer ≡ 3) ↔ ((in_order s ≡ true) × (AreasFit s t.out route held × LineNotOpen s l))
    pub nineteen : (answer ≡ 19)
        ↔ ((in_order s ≡ true)
        × (AreasFit s t.out route held × (LineOpen s l × ((line_at s l).pending.shut ≡ true))))
    pub five : (answer ≡ 5) ↔ (Counts × TooLarge j)
    pub waits : ((fed s l bytes held t route).waits ≡ true) ↔ (Counts × Unfinished j)
    -- a whole message: what the call with that message gives, its bytes used, and nothing held after it
    pub whole : Counts → WholeAt j
        → ((fed s l bytes held t route).result ≡ dropped l (message_outcome s l (front_of j) t route))
        × (front_of j ≡ take (23 + size_of j) j)
        × ((fed s l bytes held t route).used ≡ 23 + size_of j - held_count s l bytes held t route)
    -- a state that is not in order: everything stays
    pub out_of_order : in_order s ≡ false
        → fed s l bytes held t route
        ≡ record { result = quiet 1 s route; used = 0; held = held; within = false; waits = false }

abbrev pub FeedExactly : Type 0
FeedExactly = (s : Station) (l : ℕ) (bytes held : List ℕ) (t : Terms) (route : List ℕ)
    → FedExactly s l bytes held t route
