-- 21, a query that has had its 200 hits (RULES 24.4, 24.5): exactly which messages are so answered, that no other call
-- is, and what it leaves. No list of tests and no search is read here.
use Rattle.std.specs.Prelude.{ℕ, ◌≤◌, ◌≡◌, true, ◌↔◌, List}
use Rattle.wire.specs.Header.{kind_of, ttl_of, size_of}
use Rattle.protocol.specs.State.{Station, remembered}
use Rattle.protocol.specs.Memory.{number_in}
use Rattle.protocol.specs.Order.{in_order}
use Rattle.protocol.specs.Outcomes.{Terms}
use Rattle.protocol.specs.Calls.{opening, closing, message_outcome, own_outcome}
use Rattle.protocol.specs.Arrived.{Arrived}
use Rattle.protocol.specs.Frames.{LeftAsItWas}
use Rattle.hitcounts.specs.History.{OneOf}

-- a hit that has arrived, with a payload of 27 bytes and a TTL
pub record GoodHit (s : Station) (l : ℕ) (m : List ℕ) (out : ℕ) (route : List ℕ) : Type 0 where
  pub arrived : Arrived s l m out route
  pub kind : kind_of m ≡ 0x81
  pub size : 27 ≤ size_of m
  pub ttl : 1 ≤ ttl_of m

-- such a hit, and a query with its number is remembered whose asker is not gone, and that has had 200 hits. Whether it
-- was asked here or came by a line makes no difference, nor do the TTL and the Hops
pub record HasHadAll (s : Station) (l : ℕ) (m : List ℕ) (out : ℕ) (route : List ℕ) : Type 0 where
  pub order : in_order s ≡ true
  pub good : GoodHit s l m out route
  pub asker : ℕ
  pub there : asker ≡ 9 → ⊥
  pub full : OneOf (record { number = number_in m; asker = asker; hits = 200 }) (remembered s)

-- whatever the state, in order or not
pub record TwentyOneExactly : Type 0 where
  pub message : (s : Station) (l : ℕ) (m : List ℕ) (t : Terms) (route : List ℕ)
      → ((message_outcome s l m t route).answer ≡ 21) ↔ HasHadAll s l m t.out route
  pub opens : (s : Station) (l : ℕ) → (opening s l).answer ≡ 21 → ⊥
  pub closes : (s : Station) (l : ℕ) → (closing s l).answer ≡ 21 → ⊥
  pub asks : (s : Station) (number text : List ℕ) (out : ℕ) (route : List ℕ)
      → (own_outcome s number text out route).answer ≡ 21
      → ⊥
  -- it leaves the state and the route area, and sends, delivers and searches nothing
  pub leaves : (s : Station) (l : ℕ) (m : List ℕ) (t : Terms) (route : List ℕ)
      → (message_outcome s l m t route).answer ≡ 21
      → LeftAsItWas (message_outcome s l m t route) 21 s route
