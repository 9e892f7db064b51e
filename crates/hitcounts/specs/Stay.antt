-- What each call does to the counts of hits (RULES 24.2, 24.5, 24.6): a taken query comes in front with 0, a hit that
-- is answered 0 raises that of its query, and every other call leaves them all. Call by call, from any state in order.
use Rattle.std.specs.Prelude.{ℕ, suc, ◌≡◌, true, cond, List, ◌∷◌, map, take}
use Rattle.wire.specs.Header.{kind_of}
use Rattle.protocol.specs.State.{Station, remembered}
use Rattle.protocol.specs.Memory.{Number, number_in, same_number}
use Rattle.protocol.specs.Order.{in_order}
use Rattle.protocol.specs.Runs.{Call, Open, Close, Message, Ask, World, outcome_of}
use Rattle.protocol.specs.Kept.{Sized}

-- the remembered numbers with their counts, the newest first
abbrev pub counts : Station → List (Number × ℕ)
counts s = map (λ q. (q.number, q.hits)) (remembered s)

abbrev pub CountsStay : Station → Station → Type 0
CountsStay s s' = counts s' ≡ counts s

-- one more stands in front with 0, whatever stood at its place; of 512 the oldest makes way, and the others stay
abbrev pub OneInFront : Number → Station → Station → Type 0
OneInFront x s s' = counts s' ≡ take 512 ((x, 0) ∷ counts s)

-- the number x has one more, the others stay
abbrev pub OneRaised : Number → Station → Station → Type 0
OneRaised x s s' = counts s' ≡ map (λ c. (c.0, cond (same_number c.0 x) (suc c.1) c.1)) (counts s)

-- a message: a refusal leaves them, 8, 9, 12 and 21 among them
pub record MessageCounts (m : List ℕ) (answer : ℕ) (s s' : Station) : Type 0 where
  pub refused : (answer ≡ 0 → ⊥) → CountsStay s s'
  pub query : kind_of m ≡ 0x80 → answer ≡ 0 → OneInFront (number_in m) s s'
  pub hit : kind_of m ≡ 0x81 → answer ≡ 0 → OneRaised (number_in m) s s'
  pub others : (kind_of m ≡ 0x80 → ⊥) → (kind_of m ≡ 0x81 → ⊥) → CountsStay s s'

pub record OwnCounts (number : List ℕ) (answer : ℕ) (s s' : Station) : Type 0 where
  pub refused : (answer ≡ 0 → ⊥) → CountsStay s s'
  pub query : answer ≡ 0 → OneInFront (number_in number) s s'

-- each call, by its answer
abbrev pub CountsAfter : Call → (answer : ℕ) (s s' : Station) → Type 0
CountsAfter (Open l) answer s s' = CountsStay s s'
CountsAfter (Close l) answer s s' = CountsStay s s'
CountsAfter (Message l m t a) answer s s' = MessageCounts m answer s s'
CountsAfter (Ask number text t a) answer s s' = OwnCounts number answer s s'

abbrev pub CountsByCall : Type 0
CountsByCall =
    (w : World) (c : Call)
    → Sized w.state
    → in_order w.state ≡ true
    → CountsAfter c (outcome_of w c).answer w.state (outcome_of w c).state
