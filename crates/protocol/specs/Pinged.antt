-- Pings and pongs that have arrived (RULES 10), from outside: their answers, what they leave, and to whom pongs go.
use Rattle.std.specs.Prelude.{ℕ, ◌≤◌, ◌<◌, max, ◌≡◌, true, false, ◌↔◌, ◌⊎◌, List, [], ◌∷◌, ◌++◌, length, get_or, take}
use Rattle.laws.specs.Bytes.{little_bytes}
use Rattle.wire.specs.Header.{kind_of, ttl_of, hops_of, size_of, payload_of, number_of, message}
use Rattle.protocol.specs.State.{Station, remembered, line_at}
use Rattle.protocol.specs.declared.Own.{Own}
use Rattle.protocol.specs.Lines.{stored_pongs, elapsed}
use Rattle.protocol.specs.Outcomes.{Outcome}
use Rattle.protocol.specs.Arrived.{Arrived}
use Rattle.protocol.specs.Frames.{Beside, Silent}
use Rattle.protocol.specs.Written.{NoHit}
use Rattle.protocol.specs.Pongs.{OwnThenStored}

-- port, address, files and kilobytes: the 14 bytes of a pong
abbrev pub own_bytes_of : Own → List ℕ
own_bytes_of own = little_bytes 2 own.port
    ++ (own.address ++ (little_bytes 4 own.files ++ little_bytes 4 own.kilobytes))

-- a probe, TTL 1 with Hops 0 or 1: always the own pong, written once and with the ping's number, TTL 1 and Hops 0; the
-- whole state stays
pub record ProbeTaken (s : Station) (own : Own) (m : List ℕ) (o : Outcome) : Type 0 where
  pub answer : o.answer ≡ 0
  pub sent : o.sent ≡ message (number_of m) 0x01 1 0 (own_bytes_of own)
  pub state : o.state ≡ s

-- the line has a kept time, and less than 1,000 ms have elapsed since
abbrev pub Soon : Station → ℕ → ℕ → Type 0
Soon s l clock = ((line_at s l).pinged ≡ true) × (elapsed clock (line_at s l).pingtime < 1000)

-- the time is kept on that line, and nothing else changes
pub record TimeKept (l clock : ℕ) (s s' : Station) : Type 0 where
  pub pinged : (line_at s' l).pinged ≡ true
  pub time : (line_at s' l).pingtime ≡ clock
  pub live : (line_at s' l).live ≡ (line_at s l).live
  pub pongs : stored_pongs (line_at s' l) ≡ stored_pongs (line_at s l)
  pub table : (line_at s' l).table ≡ (line_at s l).table
  pub beside : Beside l s s'
  pub memory : remembered s' ≡ remembered s

-- any other ping: 13 exactly if it comes too soon, else 0 and the time is kept; then the own pong goes out if the
-- station takes calls, with the ping's number, TTL the ping's Hops, or 1 where those are 0, and Hops 0; and after it up
-- to ten stored pongs (RULES 10.4)
pub record OtherPing (s : Station) (l clock : ℕ) (own : Own) (m : List ℕ) (o : Outcome) : Type 0 where
  pub soon : (o.answer ≡ 13) ↔ Soon s l clock
  pub taken : (o.answer ≡ 0) ↔ (Soon s l clock → ⊥)
  pub kept : (Soon s l clock → ⊥) → TimeKept l clock s o.state
  pub called : (Soon s l clock → ⊥) → own.calls ≡ true
      → OwnThenStored s l clock m (message (number_of m) 0x01 (max 1 (hops_of m)) 0 (own_bytes_of own)) o.sent
  pub uncalled : (Soon s l clock → ⊥) → own.calls ≡ false → OwnThenStored s l clock m [] o.sent

pub record PingRouted (s : Station) (l clock : ℕ) (own : Own) (m : List ℕ) (o : Outcome) : Type 0 where
  pub spent : ttl_of m ≡ 0 → o.answer ≡ 8
  pub probe : ttl_of m ≡ 1 → hops_of m ≤ 1 → ProbeTaken s own m o
  pub other : 1 ≤ ttl_of m → ((ttl_of m ≡ 1) × (hops_of m ≤ 1) → ⊥) → OtherPing s l clock own m o
  -- what is written goes to the ping's own line and to no other
  pub eight : length o.to ≡ 8
  pub to : (k : ℕ) → k < 8 → (get_or o.to k false ≡ true) ↔ ((k ≡ l) × (o.sent ≡ [] → ⊥))

-- a pong is stored as its line's newest, with its first 14 bytes, its Hops and the clock; ten are kept
pub record PongStored (l clock : ℕ) (m : List ℕ) (s s' : Station) : Type 0 where
  pub pongs : stored_pongs (line_at s' l)
      ≡ take 10 (record { bytes = take 14 (payload_of m); hops = hops_of m; clock = clock } ∷ stored_pongs (line_at s l))
  pub live : (line_at s' l).live ≡ (line_at s l).live
  pub pinged : (line_at s' l).pinged ≡ (line_at s l).pinged
  pub time : (line_at s' l).pingtime ≡ (line_at s l).pingtime
  pub table : (line_at s' l).table ≡ (line_at s l).table
  pub beside : Beside l s s'
  pub memory : remembered s' ≡ remembered s

-- 6 exactly if its payload is under 14 bytes, then 8 exactly if its TTL is 0 or its Hops over 7, else 0; it goes to
-- nobody
pub record PongRouted (s : Station) (l clock : ℕ) (m : List ℕ) (o : Outcome) : Type 0 where
  pub short : (o.answer ≡ 6) ↔ (size_of m < 14)
  pub spent : (o.answer ≡ 8) ↔ ((14 ≤ size_of m) × ((ttl_of m ≡ 0) ⊎ (7 < hops_of m)))
  pub taken : (o.answer ≡ 0) ↔ ((14 ≤ size_of m) × (1 ≤ ttl_of m) × (hops_of m ≤ 7))
  pub stored : 14 ≤ size_of m → 1 ≤ ttl_of m → hops_of m ≤ 7 → PongStored l clock m s o.state
  pub silent : Silent o

-- a message of either type; the own address has four bytes by its type, [u8; 4]
pub record PingsRouted (s : Station) (l clock : ℕ) (own : Own) (m : List ℕ) (out : ℕ) (route : List ℕ)
    (o : Outcome) : Type 0 where
  pub ping : kind_of m ≡ 0x00 → Arrived s l m out route → PingRouted s l clock own m o
  pub no_hit : kind_of m ≡ 0x00 → length own.address ≡ 4 → NoHit 0x01 o
  pub pong : kind_of m ≡ 0x01 → Arrived s l m out route → PongRouted s l clock m o
