-- 12 is left to hits (RULES 9.1): exactly which messages are so answered, and that no other call of any list is.
use Rattle.std.specs.Prelude.{ℕ, ◌≤◌, ◌<◌, ◌≡◌, Bool, true, false, not, ◌||◌, ◌↔◌, List, eqb}
use Rattle.laws.specs.Tests.{any, all}
use Rattle.wire.specs.Header.{kind_of, ttl_of, hops_of, size_of}
use Rattle.protocol.specs.Memory.{capacity, number_in, query_at, place_behind}
use Rattle.protocol.specs.State.{Station}
use Rattle.protocol.specs.Order.{in_order}
use Rattle.protocol.specs.Outcomes.{Terms}
use Rattle.protocol.specs.Calls.{message_outcome, looking_up}
use Rattle.protocol.specs.Arrived.{Arrived}
use Rattle.protocol.specs.Runs.{Call, Open, Close, Message, Ask}
use Rattle.receiving.specs.Events.{Event, Handled, begin, handle_all}

-- a hit that has arrived, with a payload of 27 bytes and a TTL that lets it go on, whose query is remembered, came by
-- a line that has not closed since, and has had fewer than 200 hits, by the count at its place in the ring; but its
-- Hops are 255
pub record GoesNoFurther (s : Station) (l : ℕ) (m : List ℕ) (out : ℕ) (route : List ℕ) : Type 0 where
  pub order : in_order s ≡ true
  pub arrived : Arrived s l m out route
  pub hit : kind_of m ≡ 0x81
  pub size : 27 ≤ size_of m
  pub ttl : 2 ≤ ttl_of m
  pub found : (looking_up s (number_in m)).answer ≡ 0
  pub asker : (looking_up s (number_in m)).asker ≤ 7
  pub hits : (query_at s.memory (place_behind capacity s.memory (looking_up s (number_in m)).after)).hits < 200
  pub hops : hops_of m ≡ 255

-- whatever the state, in order or not
abbrev pub TwelveExactly : Type 0
TwelveExactly =
    (s : Station) (l : ℕ) (m : List ℕ) (t : Terms) (route : List ℕ)
    → ((message_outcome s l m t route).answer ≡ 12) ↔ GoesNoFurther s l m t.out route

abbrev pub is_hit : Call → Bool
is_hit (Open l) = false
is_hit (Close l) = false
is_hit (Message l m t a) = eqb (kind_of m) 0x81
is_hit (Ask number text t a) = false

-- an event of a log that was answered 12 came to a hit
abbrev pub hit_if12 : Handled → Bool
hit_if12 d = not (eqb d.outcome.answer 12) || any is_hit d.calls

-- any list from any state with any areas
abbrev pub HitsAlone : Type 0
HitsAlone =
    (s : Station) (area : List ℕ) (held : ℕ → List ℕ) (es : List Event)
    → all hit_if12 (handle_all (begin s area held) es).log ≡ true
