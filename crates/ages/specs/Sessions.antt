-- Lists of calls, evaluated: what each is answered, and the age that it hands up. They show that the statements of this
-- crate speak of something, and a rule that takes another's place in definition and code alike makes one of them wrong.
use Rattle.std.specs.Prelude.{ℕ, ◌≡◌, true, List, [], ◌∷◌, replicate, take, drop, set}
use Rattle.wire.specs.Header.{message}
use Rattle.protocol.specs.declared.Age.{Age}
use Rattle.protocol.specs.declared.Finding.{Finding}
use Rattle.protocol.specs.Memory.{memory_of, number_in}
use Rattle.protocol.specs.Lines.{pinged_at}
use Rattle.protocol.specs.State.{Station, line_at, with_line, with_memory}
use Rattle.protocol.specs.Outcomes.{Terms, terms_of}
use Rattle.protocol.specs.Calls.{fresh, looking_up}
use Rattle.protocol.specs.Runs.{Call, Open, Close, Message, Ask, Same, World, outcome_of, step, run, start}
use Rattle.receiving.specs.Events.{AsLeft, Event, Feed, Receiver, reply_to, handle, begin}
use Rattle.ages.specs.HandedUp.{none, aged}

-- a call at clock 0, with an output area of 4,119 bytes
abbrev pub terms : Terms
terms =
    terms_of 0 (record { port = 6346; address = 127 ∷ 0 ∷ 0 ∷ 1 ∷ []; files = 0; kilobytes = 0; calls = true }) 4119

-- numbers of sixteen bytes; A, B and C are taken in this order, by line 0
abbrev pub number : ℕ → List ℕ
number b = replicate 16 b

abbrev pub A : List ℕ
A = number 0xA

abbrev pub B : List ℕ
B = number 0xB

abbrev pub C : List ℕ
C = number 0xC

abbrev pub D : List ℕ
D = number 0xD

-- a query with one letter of text, and one whose text has no zero byte; a hit with n bytes of payload
unfoldable pub query : List ℕ → ℕ → List ℕ
query x ttl = message x 0x80 ttl 0 (0 ∷ 0 ∷ 0x65 ∷ 0 ∷ [])

unfoldable pub endless : List ℕ → List ℕ
endless x = message x 0x80 3 0 (0 ∷ 0 ∷ 0x65 ∷ [])

unfoldable pub hit : List ℕ → ℕ → ℕ → ℕ → List ℕ
hit x ttl hops n = message x 0x81 ttl hops (replicate n 1)

abbrev pub by : ℕ → List ℕ → Call
by l m = Message l m terms Same

abbrev pub asks : List ℕ → List ℕ → Call
asks x text = Ask x text terms Same

unfoldable pub three : World
three =
    run (start (fresh 32).state (replicate 32 0))
    (Open 0 ∷ Open 1 ∷ by 0 (query A 3) ∷ by 0 (query B 3) ∷ by 0 (query C 3) ∷ [])

-- what a call told: its answer, and the age
pub record Told : Type 0 where
  pub answer : ℕ
  pub age : Age

abbrev pub told : ℕ → Age → Told
told answer age = record { answer = answer; age = age }

abbrev pub told_of : World → List Call → List Told
told_of w [] = []
told_of w (c ∷ cs) = told (outcome_of w c).answer (outcome_of w c).age ∷ told_of (step w c) cs

-- hits by line 1: passed back with the ages 2, 1 and 0; of a number not remembered; TTL 0, which is refused before the
-- look-up, and 1, which is refused behind it; Hops 255; 26 bytes of payload
unfoldable pub hits : List Call
hits =
    by 1 (hit A 3 0 27)
    ∷ by 1 (hit B 3 0 27)
    ∷ by 1 (hit C 3 0 27)
    ∷ by 1 (hit D 3 0 27)
    ∷ by 1 (hit A 0 0 27)
    ∷ by 1 (hit A 1 0 27)
    ∷ by 1 (hit A 2 255 27)
    ∷ by 1 (hit A 3 0 26)
    ∷ []

-- repeats: with TTL 16, without a zero byte, and as they should be; the own query with C's number, also with a zero
-- byte in its text; none of these makes a query newer, so A's hit tells 2 again. Then line 0 closes, D is asked here,
-- and it is the newest, delivered whatever its TTL and Hops; A is older by one; and the closed line's own hit is 3
unfoldable pub repeats : List Call
repeats =
    by 1 (query B 16)
    ∷ by 1 (endless B)
    ∷ by 1 (query B 3)
    ∷ asks C (0x65 ∷ [])
    ∷ asks C (0 ∷ [])
    ∷ by 1 (hit A 3 0 27)
    ∷ Close 0
    ∷ by 1 (hit A 3 0 27)
    ∷ asks D (0x65 ∷ [])
    ∷ by 1 (hit D 1 255 27)
    ∷ by 1 (hit A 3 0 27)
    ∷ by 0 (hit A 3 0 27)
    ∷ []

-- three's state with other counts of hits: A has had 199, B 200, and so has C, which was asked here in this one
unfoldable pub many : World
many =
    start
    (with_memory three.state
    (memory_of three.state.memory.lo three.state.memory.hi (set three.state.memory.asker 2 8)
    (set (set (set (replicate 512 0) 0 199) 1 200) 2 200) 3 3))
    (replicate 32 0)

-- A's 200th hit, and one more; B's, with TTL 2 and Hops 0, TTL 1, Hops 255, TTL 0 and 26 bytes of payload; C's; one of
-- a number not remembered; B's again behind a repeat of its query. When line 0 has closed, B's asker is gone
unfoldable pub hits_of_many : List Call
hits_of_many =
    by 1 (hit A 3 0 27)
    ∷ by 1 (hit A 3 0 27)
    ∷ by 1 (hit B 2 0 27)
    ∷ by 1 (hit B 1 0 27)
    ∷ by 1 (hit B 2 255 27)
    ∷ by 1 (hit B 0 0 27)
    ∷ by 1 (hit B 3 0 26)
    ∷ by 1 (hit C 3 0 27)
    ∷ by 1 (hit D 3 0 27)
    ∷ by 1 (query B 3)
    ∷ by 1 (hit B 3 0 27)
    ∷ Close 0
    ∷ by 1 (hit B 3 0 27)
    ∷ by 1 (hit C 3 0 27)
    ∷ []

-- a hit in two scraps
abbrev pub scrap : List ℕ → Event
scrap bytes = Feed 1 bytes terms Same AsLeft

unfoldable pub waiting : Receiver
waiting = handle (begin three.state (replicate 32 0) (λ k. replicate 4119 0)) (scrap (take 30 (hit B 3 0 27)))

-- looked up in a state
abbrev pub looks : Station → List ℕ → Finding
looks s x = looking_up s (number_in x)

abbrev pub finding : ℕ → ℕ → ℕ → Finding
finding answer asker after = record { answer = answer; asker = asker; after = after }

-- the state of `three` out of order: line 2 is closed and has a ping time
unfoldable pub wrong : Station
wrong = with_line three.state 2 (pinged_at (line_at three.state 2) 0)

-- rings that have turned: one query at the last place, with the next place 0; and one more at place 0. Place 7 is not
-- kept
abbrev pub ring : ℕ → ℕ → Station
ring count next =
    with_memory (fresh 32).state
    (memory_of (set (set (set (replicate 512 0) 511 5) 0 6) 7 7) (replicate 512 0) (replicate 512 8) (replicate 512 0)
    count next)

abbrev pub small : ℕ → List ℕ
small n = n ∷ replicate 15 0

pub record Evaluated : Type 0 where
  pub hits' : told_of three hits
      ≡ told 0 (aged 2) ∷ told 0 (aged 1) ∷ told 0 (aged 0) ∷ told 10 none ∷ told 8 none ∷ told 8 (aged 2)
      ∷ told 12 (aged 2) ∷ told 6 none ∷ []
  pub repeats' : told_of three repeats
      ≡ told 8 none ∷ told 6 none ∷ told 9 (aged 1) ∷ told 9 (aged 0) ∷ told 6 none ∷ told 0 (aged 2)
      ∷ told 0 none ∷ told 11 (aged 2) ∷ told 0 none ∷ told 0 (aged 0) ∷ told 11 (aged 3) ∷ told 3 none ∷ []
  pub many' : told_of many hits_of_many
      ≡ told 0 (aged 2) ∷ told 21 (aged 2) ∷ told 21 (aged 1) ∷ told 21 (aged 1) ∷ told 21 (aged 1) ∷ told 8 none
      ∷ told 6 none ∷ told 21 (aged 0) ∷ told 10 none ∷ told 9 (aged 1) ∷ told 21 (aged 1) ∷ told 0 none
      ∷ told 11 (aged 1) ∷ told 21 (aged 0) ∷ []
  pub waits : ((reply_to (begin three.state (replicate 32 0) (λ k. replicate 4119 0))
      (scrap (take 30 (hit B 3 0 27)))).age
      ≡ none)
      × (told (reply_to waiting (scrap (drop 30 (hit B 3 0 27)))).answer
      (reply_to waiting (scrap (drop 30 (hit B 3 0 27)))).age
      ≡ told 0 (aged 1))
  pub found : (looks three.state A ≡ finding 0 0 2)
      × (looks three.state C ≡ finding 0 0 0)
      × (looks three.state D ≡ finding 10 10 0)
  pub after : (looks (run three repeats).state A ≡ finding 0 9 3)
      × (looks (run three repeats).state D ≡ finding 0 8 0)
  pub disorder : (looks wrong A ≡ finding 1 10 0) × (looks wrong D ≡ finding 1 10 0)
  pub turned : (looks (ring 1 0) (small 5) ≡ finding 0 8 0)
      × (looks (ring 2 1) (small 5) ≡ finding 0 8 1)
      × (looks (ring 2 1) (small 6) ≡ finding 0 8 0)
      × (looks (ring 2 1) (small 7) ≡ finding 10 10 0)
