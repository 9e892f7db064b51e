-- Pings and pongs by computation.
use Rattle.std.proofs.Common.{◌≡◌, ℕ, ◌+◌, Bool, true, false, List, [], ◌∷◌, ◌++◌, map, take, drop, replicate, refl}
use Rattle.laws.specs.Tests.{first_of}
use Rattle.laws.specs.Ring.{kept_places}
use Rattle.wire.specs.declared.Header.{Header}
use Rattle.wire.specs.Header.{message}
use Rattle.protocol.specs.declared.Pong.{Pong}
use Rattle.protocol.specs.declared.Line.{Line}
use Rattle.protocol.specs.declared.Own.{Own}
use Rattle.protocol.specs.Lines.{empty_line, with_pong, stored_pongs}
use Rattle.protocol.specs.Pings.{ping_rules, pong_rules, walk, stored_sent, pongs_sent}
use Rattle.pinging.specs.Sending.{pong_count}

-- a header with this TTL, these Hops and this size
header : ℕ → ℕ → ℕ → Header
header ttl hops size = record { lo = 0; hi = 0; kind = 0; ttl = ttl; hops = hops; size = size }

ping : Bool → ℕ → ℕ → ℕ → ℕ → ℕ
ping pinged time clock ttl hops = first_of (ping_rules pinged time clock (header ttl hops 0))

pong : ℕ → ℕ → ℕ → ℕ
pong size ttl hops = first_of (pong_rules (header ttl hops size))

-- a time is kept by a flag: one kept at clock 0 counts; a second later it doesn't
kept-at_0 : (ping true 0 999 3 2 ≡ 13) × (ping true 0 1000 3 2 ≡ 0) × (ping false 0 999 3 2 ≡ 0)
unfolding header ping
kept-at_0 = (refl, refl, refl)

-- across the clock's turn: 196 ms and 1,000 ms
turned : (ping true 4294967200 100 3 2 ≡ 13) × (ping true 4294967200 904 3 2 ≡ 0)
unfolding header ping
turned = (refl, refl)

-- a probe is never too soon, TTL 0 comes first, and Hops 2 make no probe
probes : (ping true 0 1 1 0 ≡ 0) × (ping true 0 1 1 1 ≡ 0) × (ping true 0 1 1 2 ≡ 13) × (ping true 0 1 0 0 ≡ 8)
unfolding header ping
probes = (refl, refl, refl, refl)

-- 6 before 8; Hops 7 pass
pongs : (pong 13 0 9 ≡ 6) × (pong 14 0 0 ≡ 8) × (pong 14 1 8 ≡ 8) × (pong 14 1 7 ≡ 0)
unfolding header pong
pongs = (refl, refl, refl, refl)

-- pongs of one byte value each, stored on an empty line one after another
arrived : Line → ℕ → ℕ → Line
arrived x byte clock = with_pong x (record { bytes = replicate 14 byte; hops = byte; clock = clock })

all-arrived : Line → List ℕ → Line
all-arrived x [] = x
all-arrived x (b ∷ bs) = all-arrived (arrived x b 0) bs

marks : List Pong → List ℕ
marks = map (λ p. p.hops)

-- the eleventh takes the oldest's place
eleven : marks (stored_pongs (all-arrived (empty_line true) (0 ∷ 1 ∷ 2 ∷ 3 ∷ 4 ∷ 5 ∷ 6 ∷ 7 ∷ 8 ∷ 9 ∷ 10 ∷ [])))
    ≡ 10 ∷ 9 ∷ 8 ∷ 7 ∷ 6 ∷ 5 ∷ 4 ∷ 3 ∷ 2 ∷ 1 ∷ []
unfolding stored_pongs kept_places arrived all-arrived marks
eleven = refl

-- line 0 stores 1 and then 2, line 1 stores 3 and then 4, line 2 stores 5
lines : List Line
lines =
    arrived (arrived (empty_line true) 1 100) 2 200
    ∷ arrived (arrived (empty_line true) 3 300) 4 400
    ∷ arrived (empty_line true) 5 500
    ∷ empty_line true ∷ empty_line false ∷ empty_line false ∷ empty_line false ∷ empty_line false ∷ []

-- rank by rank; the ping's own line is left out
by_rank : (marks (walk lines 3) ≡ 2 ∷ 4 ∷ 5 ∷ 1 ∷ 3 ∷ []) × (marks (walk lines 1) ≡ 2 ∷ 5 ∷ 1 ∷ [])
unfolding walk stored_pongs kept_places lines arrived marks
by_rank = (refl, refl)

-- 15,000 ms old: skipped; 14,999: sent
old : (marks (stored_sent lines 3 15200) ≡ 4 ∷ 5 ∷ 3 ∷ []) × (marks (stored_sent lines 3 15199) ≡ 2 ∷ 4 ∷ 5 ∷ 3 ∷ [])
unfolding walk stored_pongs kept_places lines arrived marks
old = (refl, refl)

own : Bool → Own
own calls = record { port = 0x18CA; address = 127 ∷ 0 ∷ 0 ∷ 1 ∷ []; files = 3; kilobytes = 256; calls = calls }

-- a probe gets the own pong alone, whether the station takes calls or not: TTL 1, Hops 0
probe-bytes : pongs_sent lines 3 600 (own false) (replicate 16 9) 0 true
    ≡ replicate 16 9
    ++ (1 ∷ 1 ∷ 0 ∷ 14 ∷ 0 ∷ 0 ∷ 0 ∷ 0xCA ∷ 0x18 ∷ 127 ∷ 0 ∷ 0 ∷ 1 ∷ 3 ∷ 0 ∷ 0 ∷ 0 ∷ 0 ∷ 1 ∷ 0 ∷ 0 ∷ [])
unfolding pongs_sent message own
probe-bytes = refl

-- another ping: the own pong, and then the stored ones with the ping's Hops as TTL and their own Hops plus 1
other-bytes : take 23 (drop (37 + 16) (pongs_sent lines 3 600 (own true) (replicate 16 9) 4 false))
    ≡ 1 ∷ 4 ∷ 3 ∷ 14 ∷ 0 ∷ 0 ∷ 0 ∷ (replicate 14 2 ++ (9 ∷ 9 ∷ []))
unfolding pongs_sent message own walk stored_pongs kept_places lines arrived
other-bytes = refl

counts : (pong_count lines 3 600 (own true) false ≡ 6)
    × (pong_count lines 3 600 (own false) false ≡ 5)
    × (pong_count lines 3 600 (own false) true ≡ 1)
unfolding pong_count own walk stored_pongs kept_places lines arrived
counts = (refl, refl, refl)
