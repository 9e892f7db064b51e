-- Lists of calls, evaluated: what each is answered, and the counts after it. They show that the statements of this
-- crate speak of something, and a rule that takes another's place in definition and code alike makes one of them
-- wrong.
use Rattle.std.specs.Prelude.{ℕ, ◌/◌, ◌%◌, ◌≡◌, Bool, true, false, List, [], ◌∷◌, map, eqb, replicate, set, take}
use Rattle.laws.specs.Tests.{all}
use Rattle.laws.specs.Ring.{places_before}
use Rattle.wire.specs.Header.{message}
use Rattle.protocol.specs.Memory.{Memory, memory_of, number_in}
use Rattle.protocol.specs.State.{Station, remembered, with_memory}
use Rattle.protocol.specs.Order.{in_order}
use Rattle.protocol.specs.Outcomes.{Terms, terms_of}
use Rattle.protocol.specs.Calls.{fresh}
use Rattle.protocol.specs.Runs.{Call, Open, Close, Message, Ask, Same, World, outcome_of, step, run, start}
use Rattle.hitcounts.specs.History.{hits_in}
use Rattle.hitcounts.specs.TwentyOne.{GoodHit}
use Rattle.hitcounts.specs.Few.{Awaits, CanGo}

-- a call at clock 0, with an output area of 4,119 bytes
abbrev pub terms : Terms
terms =
    terms_of 0 (record { port = 6346; address = 127 ∷ 0 ∷ 0 ∷ 1 ∷ []; files = 0; kilobytes = 0; calls = true }) 4119

abbrev pub by : ℕ → List ℕ → Call
by l m = Message l m terms Same

-- numbers below 65,536, as sixteen bytes: their halves are n and 0
abbrev pub number : ℕ → List ℕ
number n = n % 256 ∷ n / 256 ∷ replicate 14 0

-- a query with one letter of text, an own one, and a hit with n bytes of payload
unfoldable pub query : ℕ → List ℕ
query x = message (number x) 0x80 3 0 (0 ∷ 0 ∷ 0x65 ∷ 0 ∷ [])

abbrev pub asks : ℕ → Call
asks x = Ask (number x) (0x65 ∷ []) terms Same

unfoldable pub hit_of : ℕ → ℕ → ℕ → ℕ → List ℕ
hit_of x ttl hops n = message (number x) 0x81 ttl hops (replicate n 1)

-- a hit of the number x by line 1 that can go on
abbrev pub hit : ℕ → Call
hit x = by 1 (hit_of x 2 0 27)

-- lines 0 and 1 are open; the remembered queries are these
unfoldable pub with_two : Memory → World
with_two q =
    start (with_memory (run (start (fresh 32).state []) (Open 0 ∷ Open 1 ∷ [])).state q) (replicate 32 0)

-- a ring that has turned: one query is kept, 5, at the last place, by this asker and with this count; the next place
-- is 0. There stands what is not kept: the number 6, asked here, with a count of 255
abbrev pub turned : ℕ → ℕ → World
turned asker hits =
    with_two
    (memory_of (set (set (replicate 512 0) 511 5) 0 6) (replicate 512 0) (set (replicate 512 8) 511 asker)
    (set (set (replicate 512 0) 511 hits) 0 255) 1 0)

-- a full ring: the numbers 511 down to 0, asked here; the oldest, at the next place, is 511 and has had 200 hits
unfoldable pub full : World
full =
    with_two
    (memory_of (places_before 512 0 512) (replicate 512 0) (replicate 512 8) (set (replicate 512 0) 0 200) 512 0)

-- the counts of the two newest
abbrev pub counts_of : Station → List ℕ
counts_of s = take 2 (map (λ q. q.hits) (remembered s))

-- each call's answer, whether a hit is delivered here, and the counts after it
pub record Told : Type 0 where
  pub answer : ℕ
  pub delivered : Bool
  pub counts : List ℕ

abbrev pub is : ℕ → List ℕ → Told
is answer counts = record { answer = answer; delivered = false; counts = counts }

abbrev pub delivers : List ℕ → Told
delivers counts = record { answer = 0; delivered = true; counts = counts }

unfoldable pub told : World → List Call → List Told
told w [] = []
told w (c ∷ cs) =
    record {
      answer = (outcome_of w c).answer;
      delivered = (outcome_of w c).delivered;
      counts = counts_of (outcome_of w c).state;
    }
    ∷ told (step w c) cs

pub record Evaluated : Type 0 where
  -- by line 0, with 199: one more goes back, and no other does
  pub line : told (turned 0 199) (hit 5 ∷ hit 5 ∷ []) ≡ is 0 (200 ∷ []) ∷ is 21 (200 ∷ []) ∷ []
  -- asked here: one more is delivered, whatever its TTL and Hops, and no other is
  pub here : told (turned 8 199) (by 1 (hit_of 5 1 255 27) ∷ hit 5 ∷ by 1 (hit_of 5 1 255 27) ∷ [])
      ≡ delivers (200 ∷ []) ∷ is 21 (200 ∷ []) ∷ is 21 (200 ∷ []) ∷ []
  -- gone, with 200: 11 stands before 21
  pub gone : told (turned 9 200) (hit 5 ∷ []) ≡ is 11 (200 ∷ []) ∷ []
  -- with 200: 6, the 8 of TTL 0 and 10 stand before 21, and the 8 of TTL 1 and 12 behind it
  pub order : told (turned 0 200)
      (by 1 (hit_of 5 2 0 26) ∷ by 1 (hit_of 5 0 0 27) ∷ hit 6 ∷ by 1 (hit_of 5 1 0 27) ∷ by 1 (hit_of 5 2 255 27) ∷ [])
      ≡ is 6 (200 ∷ []) ∷ is 8 (200 ∷ []) ∷ is 10 (200 ∷ []) ∷ is 21 (200 ∷ []) ∷ is 21 (200 ∷ []) ∷ []
  -- with 199: neither an 8, a 12, repeats of the query nor turning line 1 count
  pub uncounted : told (turned 0 199)
      (by 1 (hit_of 5 1 0 27)
      ∷ by 1 (hit_of 5 2 255 27)
      ∷ by 1 (query 5)
      ∷ asks 5
      ∷ Close 1
      ∷ Open 1
      ∷ hit 5
      ∷ hit 5
      ∷ [])
      ≡ is 8 (199 ∷ [])
      ∷ is 12 (199 ∷ [])
      ∷ is 9 (199 ∷ [])
      ∷ is 9 (199 ∷ [])
      ∷ is 0 (199 ∷ [])
      ∷ is 0 (199 ∷ [])
      ∷ is 0 (200 ∷ [])
      ∷ is 21 (200 ∷ [])
      ∷ []
  -- a query that goes keeps its count
  pub closes : told (turned 0 199) (hit 5 ∷ Close 0 ∷ hit 5 ∷ Open 0 ∷ hit 5 ∷ [])
      ≡ is 0 (200 ∷ []) ∷ is 0 (200 ∷ []) ∷ is 11 (200 ∷ []) ∷ is 0 (200 ∷ []) ∷ is 11 (200 ∷ []) ∷ []
  -- what is not kept has no say: 6 is not remembered; it is taken, or asked here, with 0 where 255 stood, and each
  -- query has its own count
  pub anew : told (turned 0 199) (hit 6 ∷ by 0 (query 6) ∷ hit 6 ∷ hit 5 ∷ hit 5 ∷ hit 6 ∷ [])
      ≡ is 10 (199 ∷ [])
      ∷ is 0 (0 ∷ 199 ∷ [])
      ∷ is 0 (1 ∷ 199 ∷ [])
      ∷ is 0 (1 ∷ 200 ∷ [])
      ∷ is 21 (1 ∷ 200 ∷ [])
      ∷ is 0 (2 ∷ 200 ∷ [])
      ∷ []
  pub own : told (turned 0 200) (asks 6 ∷ hit 6 ∷ hit 5 ∷ [])
      ≡ is 0 (0 ∷ 200 ∷ []) ∷ delivers (1 ∷ 200 ∷ []) ∷ is 21 (1 ∷ 200 ∷ []) ∷ []
  -- in order: a count of 200 is, and 201 is not, also of a query that is gone; what is not kept has 255
  pub in_order' : (in_order (turned 0 200).state ≡ true)
      × (in_order (turned 0 201).state ≡ false)
      × (in_order (turned 9 201).state ≡ false)
  pub disorder : told (turned 0 201) (hit 5 ∷ Open 2 ∷ Close 0 ∷ asks 7 ∷ [])
      ≡ is 1 (201 ∷ []) ∷ is 1 (201 ∷ []) ∷ is 1 (201 ∷ []) ∷ is 1 (201 ∷ []) ∷ []

-- the oldest of a full ring makes way: 600 comes by line 0 in its place, has 0, and gets its first hit
abbrev pub OldestLeaves : Type 0
OldestLeaves = told full (by 0 (query 600) ∷ hit 600 ∷ []) ≡ is 0 (0 ∷ 0 ∷ []) ∷ is 0 (1 ∷ 0 ∷ []) ∷ []

-- from a fresh state: lines 0 and 1 open, this call, which brings the query 5, and this many hits of it by line 1
unfoldable pub after : Call → ℕ → World
after c n = run (start (fresh 32).state (replicate 32 0)) (Open 0 ∷ Open 1 ∷ c ∷ replicate n (hit 5))

abbrev pub by_line : Call
by_line = by 0 (query 5)

-- what Few asks of the next hit and of the log holds: the query came by line k, or here, and has had n hits
pub record Next (w : World) (k n : ℕ) : Type 0 where
  pub good : GoodHit w.state 1 (hit_of 5 2 0 27) 4119 w.area
  pub awaits : Awaits w.log (number_in (hit_of 5 2 0 27)) k (take n w.log)
  pub hits : hits_in (number_in (hit_of 5 2 0 27)) (take n w.log) ≡ n
  pub can : CanGo k (hit_of 5 2 0 27)

-- after 200 that went back the next does not
pub record TwoHundred : Type 0 where
  pub passed : all (λ d. eqb d.outcome.answer 0) (after by_line 200).log ≡ true
  pub counted : (counts_of (after by_line 199).state ≡ 199 ∷ []) × (counts_of (after by_line 200).state ≡ 200 ∷ [])
  pub next : told (after by_line 200) (hit 5 ∷ hit 5 ∷ []) ≡ is 21 (200 ∷ []) ∷ is 21 (200 ∷ []) ∷ []
  pub full : Next (after by_line 200) 0 200
  pub more : Next (after by_line 199) 0 199

-- an own query: after two that were delivered the next is
pub record Own : Type 0 where
  pub next : told (after (asks 5) 2) (hit 5 ∷ []) ≡ delivers (3 ∷ []) ∷ []
  pub more : Next (after (asks 5) 2) 8 2
