-- The pongs that answer one ping, by computation: two lines with two stored pongs each, the own line with one.
-- Assumes nothing.
use Prim.Native.Nat.{ℕ}
use mathlib.Core.Path.{◌≡◌, refl}
use mathlib.Core.Bool.{Bool, true, false}
use mathlib.Core.List.{List, [], ◌∷◌, ◌++◌, map}
use lib.ListN.{replicate, take}
use Rattle.laws.specs.Ring.{kept_places}
use Rattle.wire.specs.Header.{message}
use Rattle.tables.specs.Tables.{good_length, table_in_order}
use Rattle.protocol.specs.declared.Own.{Own}
use Rattle.protocol.specs.Memory.{queries_in, no_twice, memory_in_order}
use Rattle.protocol.specs.Lines.{stored_pongs}
use Rattle.protocol.specs.Order.{line_in_order, in_order}
use Rattle.protocol.specs.Outcomes.{terms_of}
use Rattle.protocol.specs.Pings.{walk, pongs_sent, ping_step, pong_step}
use Rattle.protocol.specs.Calls.{fresh, opening, early, by_type, arriving}
use Rattle.protocol.specs.Runs.{Call, Open, Message, Same, run, start}

own : Bool → Own
own calls = record { port = 6346; address = 127 ∷ 0 ∷ 0 ∷ 1 ∷ []; files = 0; kilobytes = 0; calls = calls }

-- a pong whose 14 bytes are all b
pong : ℕ → ℕ → List ℕ
pong b hops = message (replicate 16 1) 0x01 5 hops (replicate 14 b)

-- by a line, at a clock, of a station that takes calls or does not
by : ℕ → ℕ → Bool → List ℕ → Call
by l clock calls m = Message l m (terms_of clock (own calls) 4119) Same

-- 0xA1 is 15,000 ms old when the ping comes, 0xA2 one less; line 0 asks, so its own 0xC1 is not sent
events : Bool → List Call
events calls =
    Open 0
    ∷ Open 1
    ∷ Open 2
    ∷ by 2 0 calls (pong 0xA1 0)
    ∷ by 1 1 calls (pong 0xB1 1)
    ∷ by 2 1 calls (pong 0xA2 2)
    ∷ by 1 2 calls (pong 0xB2 7)
    ∷ by 0 3 calls (pong 0xC1 0)
    ∷ by 0 15000 calls (message (replicate 16 9) 0x00 4 3 [])
    ∷ []

-- what the last event writes
written : Bool → List (List ℕ)
written calls =
    map (λ d. d.outcome.sent) (take 1 (run (start (fresh 32).state (replicate 32 0)) (events calls)).log)

-- the newest of line 1, the newest of line 2, the second newest of line 1
stored : List ℕ
stored =
    message (replicate 16 9) 0x01 3 8 (replicate 14 0xB2)
    ++ (message (replicate 16 9) 0x01 3 3 (replicate 14 0xA2) ++ message (replicate 16 9) 0x01 3 2 (replicate 14 0xB1))

own_pong_sent : List ℕ
own_pong_sent = message (replicate 16 9) 0x01 3 0 (0xCA ∷ 0x18 ∷ 127 ∷ 0 ∷ 0 ∷ 1 ∷ replicate 8 0)

pongs-sent : (written true ≡ (own_pong_sent ++ stored) ∷ []) × (written false ≡ stored ∷ [])
unfolding own pong by events written stored own_pong_sent kept_places message good_length table_in_order queries_in no_twice
    stored_pongs line_in_order memory_in_order in_order walk pongs_sent ping_step pong_step fresh opening early by_type arriving
pongs-sent = (refl, refl)
