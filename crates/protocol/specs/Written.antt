-- Bytes that are whole messages, one behind the other, and what a call writes that is no hit's.
use Rattle.std.specs.Prelude.{ℕ, ◌≡◌, Bool, true, false, ◌&&◌, List, [], ◌∷◌, ◌++◌, eqb, leb, length, get_or}
use Rattle.laws.specs.Tests.{all}
use Rattle.wire.specs.Header.{message}
use Rattle.protocol.specs.Outcomes.{Outcome}

-- one message of them
pub record Part : Type 0 where
  pub number : List ℕ
  pub kind : ℕ
  pub ttl : ℕ
  pub hops : ℕ
  pub payload : List ℕ

-- a number has exactly 16 bytes and a payload at most 4,096: then the header tells where the message ends, and bytes
-- can be cut into messages in one way only. With a longer number allowed, a whole hit could pass for the beginning of a
-- pong's number.
abbrev pub well_cut : Part → Bool
well_cut p = eqb (length p.number) 16 && leb (length p.payload) 4096

abbrev pub written : List Part → List ℕ
written [] = []
written (p ∷ ps) = message p.number p.kind p.ttl p.hops p.payload ++ written ps

abbrev pub CutOnce : Type 0
CutOnce = (ps qs : List Part) → all well_cut ps ≡ true → all well_cut qs ≡ true → written ps ≡ written qs → ps ≡ qs

-- bytes that are messages of one type and nothing else
pub record Writes (kind : ℕ) (bytes : List ℕ) : Type 0 where
  pub parts : List Part
  pub cut : all well_cut parts ≡ true
  pub kinds : all (λ p. eqb p.kind kind) parts ≡ true
  pub are : bytes ≡ written parts

-- a message is written once where some line is to get it, and not at all where none is
pub record WrittenFor (to : List Bool) (bytes sent : List ℕ) : Type 0 where
  pub some : (k : ℕ) → get_or to k false ≡ true → sent ≡ bytes
  pub none : ((k : ℕ) → get_or to k false ≡ false) → sent ≡ []

-- no hit is written or delivered, but messages of this other type may be
pub record NoHit (kind : ℕ) (o : Outcome) : Type 0 where
  pub sent : Writes kind o.sent
  pub delivered : o.delivered ≡ false
