-- Lists of calls that bring bytes, evaluated: what each is answered, how many bytes it uses, and what is then held. They
-- show that the statements of this crate speak of something, and a rule that takes another's place in definition and
-- code alike makes one of them wrong.
use Rattle.std.specs.Prelude.{ℕ, ◌≡◌, Bool, true, false, List, [], ◌∷◌, ◌++◌, map, eqb, take, drop, replicate, get_or}
use Rattle.laws.specs.Tests.{all}
use Rattle.wire.specs.Header.{header, message}
use Rattle.tables.specs.Tables.{none, waiting as waits, settled, broken}
use Rattle.protocol.specs.Lines.{with_pending, pinged_at}
use Rattle.protocol.specs.State.{line_at, with_line}
use Rattle.protocol.specs.Outcomes.{Terms, terms_of, only_to}
use Rattle.protocol.specs.Calls.{fresh}
use Rattle.protocol.specs.Runs.{Open, Close, Message, Same, Other}
use Rattle.receiving.specs.Feeding.{waiting}
use Rattle.receiving.specs.Events.{AsLeft, Lent, Event, Plain, Feed, Receiver, reply_to, used_by, handle, handle_all}
use Rattle.receiving.specs.Events.{begin}

-- a call with a clock, and an output area of so many bytes
abbrev pub terms : ℕ → ℕ → Terms
terms clock out =
    terms_of clock (record { port = 6346; address = 127 ∷ 0 ∷ 0 ∷ 1 ∷ []; files = 0; kilobytes = 0; calls = true }) out

abbrev pub at : ℕ → Terms
at clock = terms clock 4119

-- fresh over 32 bytes, with held areas of 4,119 zeros
abbrev pub empty : Receiver
empty = begin (fresh 32).state (replicate 32 0) (λ k. replicate 4119 0)

-- bytes by a line, with its held area as it was left
abbrev pub by : ℕ → ℕ → List ℕ → Event
by line clock bytes = Feed line bytes (at clock) Same AsLeft

abbrev pub opens : ℕ → Event
opens l = Plain (Open l)

abbrev pub closes : ℕ → Event
closes l = Plain (Close l)

-- what a call told: its answer, the bytes used, and of this line the bytes held and the shut mark after it
pub record Told : Type 0 where
  pub answer : ℕ
  pub used : ℕ
  pub count : ℕ
  pub shut : Bool

abbrev pub told : ℕ → ℕ → ℕ → Bool → Told
told answer used count shut = record { answer = answer; used = used; count = count; shut = shut }

abbrev pub told_of : ℕ → Receiver → List Event → List Told
told_of l w [] = []
told_of l w (e ∷ es) =
    told (reply_to w e).answer (used_by w e)
    (line_at (handle w e).state l).pending.count (line_at (handle w e).state l).pending.shut
    ∷ told_of l (handle w e) es

-- messages: a ping that asks this station alone, a query, updates, and a header that says n bytes of payload
unfoldable pub ping : List ℕ
ping = message (replicate 16 3) 0x00 1 0 []

unfoldable pub query : List ℕ
query = message (replicate 16 7) 0x80 3 1 (0 ∷ 0 ∷ 0x65 ∷ 0x62 ∷ 0x20 ∷ 0x65 ∷ 0x62 ∷ 0x63 ∷ 0x6B ∷ 0x6C ∷ 0 ∷ [])

unfoldable pub update : List ℕ → List ℕ
update payload = message (replicate 16 1) 0x30 1 0 payload

abbrev pub header_of : ℕ → ℕ → List ℕ
header_of kind n = header (replicate 16 5) kind 1 0 n

-- a message in two scraps, the second from byte n on
abbrev pub first_of : ℕ → ℕ → List ℕ → Event
first_of n l m = by l 0 (take n m)

abbrev pub rest_of : ℕ → ℕ → List ℕ → Event
rest_of n l m = by l 0 (drop n m)

-- lines 0 and 1 open, and a state with this held of a line, and of line 0
abbrev pub opened : List Event
opened = opens 0 ∷ opens 1 ∷ []

unfoldable pub two : Receiver
two = handle_all empty opened

abbrev pub held_on : ℕ → ℕ → Bool → List ℕ → Receiver
held_on l count shut area =
    begin (with_line two.state l (with_pending (line_at two.state l) (record { count = count; shut = shut })))
    (replicate 32 0) (λ k. area)

abbrev pub held_of : ℕ → Bool → List ℕ → Receiver
held_of = held_on 0

-- a state that is not in order, with line 0 shut: line 2 is closed and has a ping time
unfoldable pub wrong : Receiver
wrong =
    begin (with_line (held_of 0 true []).state 2 (pinged_at (line_at two.state 2) 0)) (replicate 32 0)
    (λ k. replicate 4119 0)

-- the six events of RULES 17.7, every message of them in scraps: those of line 1 and of line 0 come by turns, and the
-- last scrap of each message counts
unfoldable pub six_in_scraps : List Event
six_in_scraps =
    opened
    ++ (first_of 7 1 (update (0 ∷ 4 ∷ 0 ∷ 0 ∷ 0 ∷ 8 ∷ []))
    ∷ first_of 20 0 query
    ∷ rest_of 7 1 (update (0 ∷ 4 ∷ 0 ∷ 0 ∷ 0 ∷ 8 ∷ []))
    ∷ first_of 29 1 (update (1 ∷ 1 ∷ 1 ∷ 0 ∷ 4 ∷ 9 ∷ 9 ∷ []))
    ∷ by 0 0 (take 13 (drop 20 query))
    ∷ rest_of 29 1 (update (1 ∷ 1 ∷ 1 ∷ 0 ∷ 4 ∷ 9 ∷ 9 ∷ []))
    ∷ rest_of 33 0 query
    ∷ map (λ b. by 0 0 (b ∷ [])) query)

-- each scrap of a query and a ping that were brought together: a call ends with the first message
unfoldable pub one_at_atime : List Event
one_at_atime = first_of 10 0 ping ∷ by 0 0 (drop 10 ping ++ query) ∷ by 0 0 query ∷ []

-- a payload of 4,097 bytes is 5 with the header's last byte, whatever the type; then the line is shut, opening an open
-- line is refused and leaves it shut, the whole-message call takes a message all the same, and closing and opening mend it
unfoldable pub too_large : List Event
too_large =
    by 0 0 (take 20 (header_of 0x02 4097))
    ∷ by 0 0 (drop 20 (header_of 0x02 4097) ++ replicate 100 0)
    ∷ by 0 0 ping
    ∷ opens 0
    ∷ by 0 0 []
    ∷ Plain (Message 0 ping (at 0) Same)
    ∷ closes 0
    ∷ by 0 0 ping
    ∷ opens 0
    ∷ by 0 0 ping
    ∷ []

-- a scrap of an earlier opening is dropped; a refusal drops what is held, 1 to 3 do not
unfoldable pub dropped_ones : List Event
dropped_ones =
    first_of 20 0 query
    ∷ closes 0
    ∷ opens 0
    ∷ by 0 0 ping
    ∷ first_of 30 0 query
    ∷ Feed 0 (drop 30 query) (at 0) Same (Lent (replicate 4118 0))
    ∷ Feed 0 (drop 30 query) (terms 0 4118) Same AsLeft
    ∷ Feed 0 (drop 30 query) (at 0) (Other (replicate 40 0)) AsLeft
    ∷ by 8 0 ping
    ∷ rest_of 30 0 query
    ∷ first_of 30 0 query
    ∷ rest_of 30 0 query
    ∷ by 0 0 ping
    ∷ []

-- messages of two lines count in the order in which they are completed, each with the clock of its last byte
unfoldable pub in_turn : List Event
in_turn =
    first_of 30 0 query
    ∷ by 1 0 query
    ∷ rest_of 30 0 query
    ∷ by 0 0 (take 22 (message (replicate 16 3) 0x00 7 0 []))
    ∷ by 0 5000 (drop 22 (message (replicate 16 3) 0x00 7 0 []))
    ∷ by 0 5999 (message (replicate 16 3) 0x00 7 0 [])
    ∷ by 0 6000 (message (replicate 16 3) 0x00 7 0 [])
    ∷ []

-- the largest message, but for its last byte, and that byte
unfoldable pub largest : List Event
largest = by 0 0 (header_of 0x02 4096 ++ replicate 4095 0) ∷ by 0 0 (0 ∷ 0 ∷ []) ∷ []

-- updates in two scraps: a RESET, one with Hops 1, which marks the table broken with its last byte, and a RESET again;
-- and a hit of 26 bytes
unfoldable pub spoiled : List Event
spoiled =
    first_of 23 1 (update (0 ∷ 4 ∷ 0 ∷ 0 ∷ 0 ∷ 8 ∷ []))
    ∷ rest_of 23 1 (update (0 ∷ 4 ∷ 0 ∷ 0 ∷ 0 ∷ 8 ∷ []))
    ∷ first_of 28 1 (message (replicate 16 1) 0x30 1 1 (0 ∷ 4 ∷ 0 ∷ 0 ∷ 0 ∷ 8 ∷ []))
    ∷ rest_of 28 1 (message (replicate 16 1) 0x30 1 1 (0 ∷ 4 ∷ 0 ∷ 0 ∷ 0 ∷ 8 ∷ []))
    ∷ by 1 0 (update (0 ∷ 4 ∷ 0 ∷ 0 ∷ 0 ∷ 8 ∷ []))
    ∷ first_of 1 1 (message (replicate 16 9) 0x81 3 1 (replicate 26 0))
    ∷ rest_of 1 1 (message (replicate 16 9) 0x81 3 1 (replicate 26 0))
    ∷ []

-- of each call its answer, and the mark of line 1's table after it
abbrev pub marks_of : Receiver → List Event → List (ℕ × ℕ)
marks_of w [] = []
marks_of w (e ∷ es) = ((reply_to w e).answer, (line_at (handle w e).state 1).table.mark) ∷ marks_of (handle w e) es

-- a query by line 0 and hits of it by line 1, the first in two scraps; and the query again. Only the scrap that
-- completes a hit counts it
unfoldable pub hit : List ℕ
hit = message (replicate 16 7) 0x81 3 1 (replicate 27 0)

unfoldable pub answered : List Event
answered = by 0 0 query ∷ first_of 40 1 hit ∷ rest_of 40 1 hit ∷ by 1 0 hit ∷ by 0 0 query ∷ []

-- of each call its answer, and the count of hits at the ring's first place after it
abbrev pub hits_after : Receiver → List Event → List (ℕ × ℕ)
hits_after w [] = []
hits_after w (e ∷ es) = ((reply_to w e).answer, get_or (handle w e).state.memory.hits 0 0) ∷ hits_after (handle w e) es

-- in a state, an event is answered by this number
pub record Answer : Type 0 where
  pub before : Receiver
  pub event : Event
  pub number : ℕ

abbrev pub row : Receiver → Event → ℕ → Answer
row before event number = record { before = before; event = event; number = number }

-- held bytes that start no message, and the order of refusals: state, areas, line, line shut, held bytes
unfoldable pub ordered : List Answer
ordered =
    row (held_of 23 false (replicate 4119 0)) (by 0 0 ping) 1
    ∷ row (held_of 22 false (replicate 4119 0)) (by 0 0 []) waiting
    ∷ row (held_of 4119 false (replicate 4119 0)) (by 0 0 []) 1
    ∷ row (held_of 65535 false (replicate 4119 0)) (by 0 0 []) 1
    ∷ row (held_of 23 true (replicate 4119 0)) (by 0 0 ping) 19
    ∷ row (held_of 0 true (replicate 4119 0)) (Feed 0 ping (terms 0 4118) Same AsLeft) 2
    ∷ row (held_of 0 true (replicate 4118 0)) (by 0 0 ping) 2
    ∷ row (held_of 0 false (replicate 4118 0)) (by 0 0 ping) 2
    ∷ row (held_of 0 true (replicate 4119 0)) (by 8 0 ping) 3
    ∷ row (held_on 2 0 true (replicate 4119 0)) (by 2 0 ping) 3
    ∷ row two (Feed 2 ping (terms 0 4118) Same AsLeft) 2
    ∷ row (held_on 2 0 true (replicate 4118 0)) (by 2 0 ping) 2
    ∷ row wrong (Feed 0 ping (terms 0 4118) Same AsLeft) 1
    ∷ row wrong (by 2 0 ping) 1
    ∷ row wrong (by 0 0 ping) 1
    ∷ row (held_of 0 false (replicate 4119 0)) (by 0 0 (header_of 0x02 10)) waiting
    ∷ row (held_of 0 false (replicate 4119 0)) (by 0 0 (header_of 0x02 10 ++ replicate 10 0)) 7
    ∷ []

abbrev pub is_answered : Answer → Bool
is_answered r = eqb (reply_to r.before r.event).answer r.number

pub record Evaluated : Type 0 where
  pub six : map (λ d. d.answer) (told_of 0 empty six_in_scraps)
      ≡ 0 ∷ 0 ∷ waiting ∷ waiting ∷ 0 ∷ waiting ∷ waiting ∷ 0 ∷ 0 ∷ (replicate 33 waiting ++ (9 ∷ []))
  pub six_mark : (line_at (handle_all empty six_in_scraps).state 1).table.mark ≡ settled
  pub six_to : map (λ d. d.outcome.to) (take 1 (drop 34 (handle_all empty six_in_scraps).log)) ≡ only_to 1 ∷ []
  pub one : told_of 0 two one_at_atime ≡ told waiting 10 10 false ∷ told 0 13 0 false ∷ told 0 34 0 false ∷ []
  pub large : told_of 0 two too_large
      ≡ told waiting 20 20 false
      ∷ told 5 3 0 true
      ∷ told 19 0 0 true
      ∷ told 3 0 0 true
      ∷ told 19 0 0 true
      ∷ told 0 0 0 true
      ∷ told 0 0 0 false
      ∷ told 3 0 0 false
      ∷ told 0 0 0 false
      ∷ told 0 23 0 false
      ∷ []
  pub drops : told_of 0 two dropped_ones
      ≡ told waiting 20 20 false
      ∷ told 0 0 0 false
      ∷ told 0 0 0 false
      ∷ told 0 23 0 false
      ∷ told waiting 30 30 false
      ∷ told 2 0 30 false
      ∷ told 2 0 30 false
      ∷ told 2 0 30 false
      ∷ told 3 0 30 false
      ∷ told 0 4 0 false
      ∷ told waiting 30 30 false
      ∷ told 9 4 0 false
      ∷ told 0 23 0 false
      ∷ []
  pub turns : told_of 0 two in_turn
      ≡ told waiting 30 30 false
      ∷ told 0 34 30 false
      ∷ told 9 4 0 false
      ∷ told waiting 22 22 false
      ∷ told 0 1 0 false
      ∷ told 13 23 0 false
      ∷ told 0 23 0 false
      ∷ []
  pub most : told_of 0 two largest ≡ told waiting 4118 4118 false ∷ told 7 1 0 false ∷ []
  pub marks : marks_of two spoiled
      ≡ (waiting, none)
      ∷ (0, waits)
      ∷ (waiting, waits)
      ∷ (14, broken)
      ∷ (0, waits)
      ∷ (waiting, waits)
      ∷ (6, waits)
      ∷ []
  pub counts : hits_after two answered ≡ (0, 0) ∷ (waiting, 0) ∷ (0, 1) ∷ (0, 2) ∷ (9, 2) ∷ []
  pub order : all is_answered ordered ≡ true
