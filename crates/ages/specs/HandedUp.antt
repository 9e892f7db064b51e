-- Which calls hand an age up, and which age (RULES 21.3 to 21.5): a hit whenever its number was looked up and found,
-- and the repeat check of queries. It is the age that a look-up tells just before the call. No list of tests is read
-- here.
use Rattle.std.specs.Prelude.{ℕ, ◌≤◌, ◌<◌, ◌≡◌, true, false, ◌↔◌, ◌⊎◌, List, [], ◌∷◌}
use Rattle.wire.specs.Header.{kind_of, ttl_of, size_of}
use Rattle.protocol.specs.declared.Age.{Age}
use Rattle.protocol.specs.State.{Station}
use Rattle.protocol.specs.Memory.{Number, number_in}
use Rattle.protocol.specs.Order.{in_order}
use Rattle.protocol.specs.Outcomes.{Outcome}
use Rattle.protocol.specs.Calls.{looking_up}
use Rattle.protocol.specs.Runs.{Call, Open, Close, Message, Ask, World, lent, outcome_of}
use Rattle.protocol.specs.Arrived.{Arrived}
use Rattle.receiving.specs.Events.{Event, Receiver, world_of, calls_of, reply_to}

-- none is handed up, and an age of n is: 0 is an age
abbrev pub none : Age
none = record { known = false; after = 0 }

abbrev pub aged : ℕ → Age
aged n = record { known = true; after = n }

-- looking the number up tells of n newer ones
abbrev pub Tells : Station → Number → ℕ → Type 0
Tells s x n = ((looking_up s x).answer ≡ 0) × ((looking_up s x).after ≡ n)

-- what is handed up is none, or what a look-up tells
pub record UpFrom (s : Station) (x : Number) (age : Age) : Type 0 where
  pub is : age.known ≡ true → Tells s x age.after
  pub no : age.known ≡ false → age ≡ none

-- the answers of a hit whose number was found: 0, 11, 12 and 21, and the later of its two 8s, for a TTL of 1. The
-- earlier one, for a TTL of 0, comes before the look-up
abbrev pub HitFound : List ℕ → ℕ → Type 0
HitFound m answer =
    (answer ≡ 0) ⊎ ((answer ≡ 11) ⊎ ((answer ≡ 12) ⊎ ((answer ≡ 21) ⊎ ((answer ≡ 8) × (ttl_of m ≡ 1)))))

-- a message by line l
pub record MessageUp (s : Station) (l : ℕ) (m : List ℕ) (out : ℕ) (route : List ℕ) (o : Outcome) : Type 0 where
  pub hit : kind_of m ≡ 0x81 → (o.age.known ≡ true) ↔ HitFound m o.answer
  pub query : kind_of m ≡ 0x80 → (o.age.known ≡ true) ↔ (o.answer ≡ 9)
  pub others : (kind_of m ≡ 0x80 → ⊥) → (kind_of m ≡ 0x81 → ⊥) → o.age ≡ none
  pub from : UpFrom s (number_in m) o.age
  -- whatever a hit is answered, that has 27 bytes of payload and a TTL
  pub looked : kind_of m ≡ 0x81 → in_order s ≡ true → Arrived s l m out route → 27 ≤ size_of m → 1 ≤ ttl_of m
      → (n : ℕ) → (o.age ≡ aged n) ↔ Tells s (number_in m) n

-- an own query
pub record OwnUp (s : Station) (number : List ℕ) (o : Outcome) : Type 0 where
  pub query : (o.age.known ≡ true) ↔ (o.answer ≡ 9)
  pub from : UpFrom s (number_in number) o.age

-- each call: openings and closings hand nothing up
abbrev pub CallUp : World → Call → Outcome → Type 0
CallUp w (Open l) o = o.age ≡ none
CallUp w (Close l) o = o.age ≡ none
CallUp w (Message l m t a) o = MessageUp w.state l m t.out (lent a w.area) o
CallUp w (Ask number text t a) o = OwnUp w.state number o

-- every call, whatever the state, and so every call of every list
abbrev pub HandedUp : Type 0
HandedUp = (w : World) (c : Call) → CallUp w c (outcome_of w c)

abbrev pub UpBelow : Type 0
UpBelow = (w : World) (c : Call) → (outcome_of w c).age.after < 512

-- bytes as a line brings them: what the message hands up that they make whole, and else none
pub record EventUp (w : Receiver) (e : Event) : Type 0 where
  pub none' : calls_of w e ≡ [] → (reply_to w e).age ≡ none
  pub whole : (c : Call) → calls_of w e ≡ c ∷ [] → CallUp (world_of w) c (reply_to w e)

abbrev pub EventsUp : Type 0
EventsUp = (w : Receiver) (e : Event) → EventUp w e
