-- The worked cases of RULES 18: eleven in one list. A case is a whole message that arrives after some calls, or a
-- keyword and its place; each with what it must come to, by the definitions that the contracts cite.
use Rattle.std.specs.Prelude.{ℕ, suc, ◌≡◌, Bool, true, false, cond, List, [], ◌∷◌, ◌++◌, replicate}
use Rattle.laws.specs.Text.{codes}
use Rattle.wire.specs.Header.{message}
use Rattle.keywords.specs.Hash.{place_of}
use Rattle.tables.specs.Tables.{waiting, settled, broken}
use Rattle.protocol.specs.declared.Own.{Own}
use Rattle.protocol.specs.Memory.{number_in}
use Rattle.protocol.specs.State.{line_at, held_at, seen}
use Rattle.protocol.specs.Outcomes.{Terms, Outcome, terms_of}
use Rattle.protocol.specs.Calls.{fresh, message_outcome}
use Rattle.protocol.specs.Runs.{Call, Open, Message, Same, World, run, start}

-- what is seen of a call with a message: its answer, the lines sent to, all bytes written, the mark and the entries of
-- line 1's table after it, and whether the message's number is remembered after it
pub record Seen : Type 0 where
  pub answer : ℕ
  pub to : List ℕ
  pub written : List ℕ
  pub mark : ℕ
  pub entries : List ℕ
  pub remembered : Bool

pub data Case : Type 0 where
  Arrives : (before : List Call) (line : ℕ) (m : List ℕ) (then : Seen) → Case
  Stands : (keyword : List ℕ) (bits : ℕ) (place : ℕ) → Case

-- every case starts at a fresh state over a route area of 32 bytes, which is room for 4 entries a line
unfoldable pub begun : World
begun = start (fresh 32).state (replicate 32 0)

-- the station's own figures play no part
unfoldable pub own : Own
own = record { port = 6346; address = 127 ∷ 0 ∷ 0 ∷ 1 ∷ []; files = 0; kilobytes = 0; calls = true }

-- what a call brings besides: a clock, and an output area of n bytes; 4,119 is the shortest that a call takes
abbrev pub terms : ℕ → ℕ → Terms
terms clock n = terms_of clock own n

abbrev pub at : ℕ → Terms
at clock = terms clock 4119

-- the places of the flags that are set, rising, where the first flag's place is l
abbrev pub places_from : ℕ → List Bool → List ℕ
places_from l [] = []
places_from l (b ∷ bs) = cond b (l ∷ places_from (suc l) bs) (places_from (suc l) bs)

abbrev pub seen_of : List ℕ → Outcome → Seen
seen_of m o =
    record {
      answer = o.answer;
      to = places_from 0 o.to;
      written = o.sent;
      mark = (line_at o.state 1).table.mark;
      entries = (held_at o.state 1 o.route).entries;
      remembered = seen o.state (number_in m);
    }

-- bytes that arrive by a line at a clock, with areas that fit
abbrev pub by : ℕ → ℕ → List ℕ → Call
by line clock m = Message line m (at clock) Same

-- a message of a line in a world, through the definition that the message call's contract cites
abbrev pub arrives : World → ℕ → List ℕ → Outcome
arrives w line m = message_outcome w.state line m (at 0) w.area

-- a case holds
abbrev pub Holds : Case → Type 0
Holds (Arrives before line m then) = seen_of m (arrives (run begun before) line m) ≡ then
Holds (Stands keyword bits place) = place_of bits keyword ≡ place

abbrev pub AllHold : List Case → Type 0
AllHold [] = Unit {0}
AllHold (c ∷ cs) = Holds c × AllHold cs

-- messages: updates, and queries with a number of sixteen different bytes, speed 0
unfoldable pub update : List ℕ → List ℕ
update payload = message (replicate 16 1) 0x30 1 0 payload

unfoldable pub number : List ℕ
number =
    0xA0 ∷ 0xA1 ∷ 0xA2 ∷ 0xA3 ∷ 0xA4 ∷ 0xA5 ∷ 0xA6 ∷ 0xA7
    ∷ 0xA8 ∷ 0xA9 ∷ 0xAA ∷ 0xAB ∷ 0xAC ∷ 0xAD ∷ 0xAE ∷ 0xAF ∷ []

abbrev pub query_payload : List ℕ → List ℕ
query_payload text = 0 ∷ 0 ∷ (text ++ (0 ∷ []))

unfoldable pub query : ℕ → ℕ → List ℕ → List ℕ
query ttl hops text = message number 0x80 ttl hops (query_payload text)

-- the payloads of the four updates, and the keywords of the queries
unfoldable pub p1 : List ℕ
p1 = 0x00 ∷ 0x04 ∷ 0x00 ∷ 0x00 ∷ 0x00 ∷ 0x08 ∷ []

unfoldable pub p2 : List ℕ
p2 = 0x01 ∷ 0x01 ∷ 0x01 ∷ 0x00 ∷ 0x04 ∷ 0x09 ∷ 0x09 ∷ []

unfoldable pub p3 : List ℕ
p3 = 0x01 ∷ 0x01 ∷ 0x01 ∷ 0x00 ∷ 0x08 ∷ 0x00 ∷ 0xF9 ∷ 0x00 ∷ 0xF9 ∷ []

unfoldable pub p4 : List ℕ
p4 = 0x01 ∷ 0x01 ∷ 0x01 ∷ 0x00 ∷ 0x04 ∷ 0x10 ∷ 0x00 ∷ []

unfoldable pub eb : List ℕ
eb = codes "eb"

unfoldable pub ebckl : List ℕ
ebckl = codes "ebckl"

unfoldable pub ebcklmen : List ℕ
ebcklmen = codes "ebcklmen"

unfoldable pub both : List ℕ
both = codes "eb ebckl"

-- what stands before: lines 0 and 1 open; line 1's RESET taken; its PATCH taken too
unfoldable pub opened : List Call
opened = Open 0 ∷ Open 1 ∷ []

abbrev pub from_one : List ℕ → Call
from_one payload = by 1 0 (update payload)

unfoldable pub waits : List Call
waits = opened ++ (from_one p1 ∷ [])

unfoldable pub settles : List Call
settles = waits ++ (from_one p2 ∷ [])

-- an update of line 1, and what must then be seen: nothing goes out
abbrev pub updates : List Call → List ℕ → ℕ → ℕ → List ℕ → Case
updates before payload answer mark entries =
    Arrives before 1 (update payload)
    (record { answer = answer; to = []; written = []; mark = mark; entries = entries; remembered = false })

-- a query of line 0 where line 1's table is that of P2, and what must then be seen: the table stays
abbrev pub asks : ℕ → ℕ → List ℕ → ℕ → List ℕ → List ℕ → Bool → Case
asks ttl hops text answer to written remembered =
    Arrives settles 0 (query ttl hops text)
    (record {
      answer = answer;
      to = to;
      written = written;
      mark = settled;
      entries = 8 ∷ 1 ∷ 8 ∷ 1 ∷ [];
      remembered = remembered;
    })

-- a query as sent on: its number as it came, bytes 16 to 22 as told, its payload as it came
abbrev pub sent_on : List ℕ → List ℕ → List ℕ
sent_on seven text = number ++ (seven ++ query_payload text)

unfoldable pub cases : List Case
cases =
    -- P1, a RESET: four entries of 8
    updates opened p1 0 waiting (8 ∷ 8 ∷ 8 ∷ 8 ∷ [])
    -- P2, a PATCH of 4 bits, and P3, the same of 8 bits: 8, 1, 8, 1
    ∷ updates waits p2 0 settled (8 ∷ 1 ∷ 8 ∷ 1 ∷ [])
    ∷ updates waits p3 0 settled (8 ∷ 1 ∷ 8 ∷ 1 ∷ [])
    -- P4, a PATCH of +1 on 8: 16, and nothing is added
    ∷ updates waits p4 16 broken (8 ∷ 8 ∷ 8 ∷ 8 ∷ [])
    -- Q1, places 3 and 1: sent
    ∷ asks 3 1 both 0 (1 ∷ []) (sent_on (0x80 ∷ 0x02 ∷ 0x02 ∷ 0x0B ∷ 0x00 ∷ 0x00 ∷ 0x00 ∷ []) both) true
    -- Q2, place 0: withheld
    ∷ asks 3 1 ebcklmen 0 [] [] true
    -- Q3, no keyword: withheld from nobody
    ∷ asks 3 1 [] 0 (1 ∷ []) (sent_on (0x80 ∷ 0x02 ∷ 0x02 ∷ 0x03 ∷ 0x00 ∷ 0x00 ∷ 0x00 ∷ []) []) true
    -- Q4, TTL 15 and Hops 6: taken, not sent
    ∷ asks 15 6 both 0 [] [] true
    -- Q5, TTL 16: 8
    ∷ asks 16 0 both 8 [] [] false
    -- H1 and H2: places at 13 bits
    ∷ Stands eb 13 6791
    ∷ Stands ebckl 13 3179
    ∷ []
