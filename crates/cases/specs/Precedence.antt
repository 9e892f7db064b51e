-- The order of refusals (RULES 2), by calls that deserve two numbers: each is answered by the one that comes first.
-- One list, over the definitions that the contracts cite; a rule that takes another's place in definition and code
-- alike makes a row of it wrong.
use Rattle.std.specs.Prelude.{ℕ, ◌≡◌, Bool, true, List, [], ◌∷◌, ◌++◌, eqb, replicate, take, set}
use Rattle.laws.specs.Tests.{all}
use Rattle.wire.specs.Header.{header, message}
use Rattle.protocol.specs.Memory.{memory_of}
use Rattle.protocol.specs.State.{with_memory}
use Rattle.protocol.specs.Runs.{Call, Open, Close, Message, Ask, Same, Other, World, run, outcome_of}
use Rattle.cases.specs.Cases.{begun, terms, at, by, number, update, query, p1, p4, eb, opened, waits}

-- in a world, a call is answered by this number
pub record Answer : Type 0 where
  pub before : World
  pub call : Call
  pub number : ℕ

abbrev pub is_answered : Answer → Bool
is_answered a = eqb (outcome_of a.before a.call).answer a.number

-- after some calls; and where besides the query at the first place of the ring has had this many hits
abbrev pub row : List Call → Call → ℕ → Answer
row before call number = record { before = run begun before; call = call; number = number }

abbrev pub with_hits : ℕ → World → World
with_hits hits w =
    record {
      state = with_memory w.state
          (memory_of w.state.memory.lo w.state.memory.hi w.state.memory.asker
          (set w.state.memory.hits 0 hits) w.state.memory.count w.state.memory.next);
      area = w.area;
      log = w.log;
    }

abbrev pub row_with : ℕ → List Call → Call → ℕ → Answer
row_with hits before call number =
    record { before = with_hits hits (run begun before); call = call; number = number }

-- a header that says n bytes of payload, and no payload
abbrev pub bare : ℕ → ℕ → ℕ → ℕ → List ℕ
bare kind ttl hops n = header number kind ttl hops n

unfoldable pub hit : ℕ → ℕ → ℕ → List ℕ
hit size ttl hops = message number 0x81 ttl hops (replicate size 7)

unfoldable pub ping : ℕ → ℕ → List ℕ
ping ttl hops = message number 0x00 ttl hops []

-- a query with the number of all these messages has come by line 0, or was asked here
unfoldable pub came : List Call
came = opened ++ (by 0 0 (query 3 1 eb) ∷ [])

unfoldable pub asked : List Call
asked = opened ++ (Ask number eb (at 0) Same ∷ [])

unfoldable pub precedence : List Answer
precedence =
    -- areas before the line: the output area, a route area that is too short, and one of another room, each with no
    -- such line
    row opened (Message 8 (query 3 1 eb) (terms 0 4118) Same) 2
    ∷ row opened (Message 8 (query 3 1 eb) (at 0) (Other (replicate 31 0))) 2
    ∷ row opened (Message 2 (query 3 1 eb) (at 0) (Other (replicate 40 0))) 2
    -- the line before the extent: a line over 7, and a closed one, with no byte
    ∷ row opened (by 8 0 []) 3
    ∷ row opened (by 2 0 []) 3
    -- no whole header before the payload's size: 22 bytes that begin to say a large one
    ∷ row opened (by 0 0 (take 22 (bare 0x80 3 1 0xFFFFFF))) 4
    -- the payload's size before its bytes: a header alone that says 4,097, and 4,096
    ∷ row opened (by 0 0 (bare 0x80 3 1 4097)) 5
    ∷ row opened (by 0 0 (bare 0x80 3 1 4096)) 4
    -- extent before type, and type before all else
    ∷ row opened (by 0 0 (bare 0x05 0 0 1)) 4
    ∷ row opened (by 0 0 (bare 0x05 0 0 4097)) 5
    ∷ row opened (by 0 0 (bare 0x05 0 255 0)) 7
    -- types that are not named, near to those that are
    ∷ row opened (by 0 0 (bare 0x02 1 0 0)) 7
    ∷ row opened (by 0 0 (message number 0x20 1 0 p1)) 7
    ∷ row opened (by 0 0 (bare 0x40 1 0 0)) 7
    -- queries: text, then TTL and Hops, then the number
    ∷ row came (by 0 0 (message number 0x80 0 9 (0 ∷ 0 ∷ 0x65 ∷ []))) 6
    ∷ row came (by 0 0 (query 16 0 eb)) 8
    ∷ row came (by 0 0 (query 3 255 eb)) 8
    ∷ row came (by 0 0 (query 0 0 eb)) 8
    ∷ row came (by 0 0 (query 3 7 eb)) 8
    ∷ row came (by 0 0 (query 3 1 eb)) 9
    -- hits: size, TTL 0, not remembered, gone, delivered, TTL 1, Hops 255
    ∷ row opened (by 0 0 (hit 26 0 0)) 6
    ∷ row opened (by 0 0 (hit 27 0 0)) 8
    ∷ row opened (by 0 0 (hit 27 1 255)) 10
    ∷ row (came ++ (Close 0 ∷ [])) (by 1 0 (hit 27 1 255)) 11
    ∷ row asked (by 0 0 (hit 27 1 255)) 0
    ∷ row came (by 1 0 (hit 27 1 255)) 8
    ∷ row came (by 1 0 (hit 27 2 255)) 12
    -- hits of a query that has had 200: size, TTL 0, not remembered and gone before that; that before delivery, TTL 1
    -- and Hops 255
    ∷ row_with 200 came (by 1 0 (hit 26 2 0)) 6
    ∷ row_with 200 came (by 1 0 (hit 27 0 0)) 8
    ∷ row_with 200 opened (by 1 0 (hit 27 2 0)) 10
    ∷ row_with 200 (came ++ (Close 0 ∷ [])) (by 1 0 (hit 27 2 0)) 11
    ∷ row_with 200 asked (by 1 0 (hit 27 2 0)) 21
    ∷ row_with 200 asked (by 1 0 (hit 27 1 255)) 21
    ∷ row_with 200 came (by 1 0 (hit 27 2 0)) 21
    ∷ row_with 200 came (by 1 0 (hit 27 1 0)) 21
    ∷ row_with 200 came (by 1 0 (hit 27 2 255)) 21
    -- and of one that has had 199
    ∷ row_with 199 asked (by 1 0 (hit 27 1 255)) 0
    ∷ row_with 199 came (by 1 0 (hit 27 2 0)) 0
    ∷ row_with 199 came (by 1 0 (hit 27 1 255)) 8
    ∷ row_with 199 came (by 1 0 (hit 27 2 255)) 12
    -- with 201 the state is not in order, which is before all else; a query that has had 200 is repeated as any other
    ∷ row_with 201 came (by 8 0 []) 1
    ∷ row_with 200 came (by 0 0 (query 3 1 eb)) 9
    -- pings: TTL 0 before too soon; pongs: size before TTL and Hops
    ∷ row (opened ++ (by 0 5 (ping 7 0) ∷ [])) (by 0 6 (ping 0 0)) 8
    -- a ping too soon leaves the time, so that the next one is too soon as well; 1,000 ms after the first is not
    ∷ row (opened ++ (by 0 5 (ping 7 0) ∷ by 0 6 (ping 7 0) ∷ [])) (by 0 1004 (ping 7 0)) 13
    ∷ row (opened ++ (by 0 5 (ping 7 0) ∷ by 0 6 (ping 7 0) ∷ [])) (by 0 1005 (ping 7 0)) 0
    ∷ row opened (by 0 0 (message number 0x01 0 9 (replicate 13 0))) 6
    -- updates: fields, then turn, then sums
    ∷ row opened (by 1 0 (update (1 ∷ 1 ∷ 1 ∷ 1 ∷ 4 ∷ 9 ∷ 9 ∷ []))) 14
    ∷ row waits (by 1 0 (update (1 ∷ 2 ∷ 2 ∷ 0 ∷ 4 ∷ 0x10 ∷ []))) 15
    ∷ row waits (by 1 0 (update p4)) 16
    -- own queries: areas, length, a zero byte, the number
    ∷ row came (Ask number (replicate 4094 0) (terms 0 4118) Same) 2
    ∷ row came (Ask number (replicate 4094 0) (at 0) (Other (replicate 31 0))) 2
    ∷ row came (Ask number (replicate 4094 0) (at 0) (Other (replicate 40 0))) 2
    ∷ row came (Ask number (replicate 4094 0) (at 0) Same) 5
    ∷ row came (Ask number (replicate 4093 0) (at 0) Same) 6
    ∷ row came (Ask number eb (at 0) Same) 9
    -- openings and closings: any line over 7; opened twice, closed twice
    ∷ row opened (Open 8) 3
    ∷ row opened (Open 0) 3
    ∷ row opened (Close 8) 3
    ∷ row opened (Close 2) 3
    ∷ []

-- each is so answered
abbrev pub Precedence : Type 0
Precedence = all is_answered precedence ≡ true
