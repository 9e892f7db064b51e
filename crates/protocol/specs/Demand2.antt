-- Demand 2, over lists of calls: a query not seen before goes to exactly the lines of RULES 7.5 and 8.3, and a hit goes
-- back by the line its query came by if that has not closed since and the query is among the last 512. Where a query
-- came from is read off the log alone.
-- What is demanded of a call is demanded of what it brings to a state (Arrived), so that refusing it is no way out; the
-- statements on openings and closings, pings and pongs, and the bytes of messages are in Opened, Pinged and Written.
use Rattle.std.specs.Prelude.{ℕ, suc, ◌+◌, ◌-◌, ◌≤◌, ◌<◌, ◌≡◌, Bool, true, false, cond, ◌&&◌, ◌||◌, ◌↔◌, ◌⊎◌, List, [], ◌∷◌, ◌++◌, map, eqb, ltb, length, get_or, take, drop}
use Rattle.laws.specs.Tests.{any, all}
use Rattle.wire.specs.Header.{kind_of, ttl_of, hops_of, size_of, payload_of, number_of, message}
use Rattle.keywords.specs.Keywords.{keywords_of}
use Rattle.tables.specs.Admission.{withholds}
use Rattle.protocol.specs.State.{Station, remembered, line_at, held_at}
use Rattle.protocol.specs.Memory.{capacity, here, gone, Number, number_in, same_number, Query, query_at, no_twice}
use Rattle.protocol.specs.Order.{in_order}
use Rattle.protocol.specs.Outcomes.{Terms, Outcome, nobody, only_to}
use Rattle.protocol.specs.Queries.{text_in}
use Rattle.protocol.specs.Calls.{fresh}
use Rattle.protocol.specs.Runs.{Area, Call, Open, Close, Message, Ask, Made, World, lent, outcome_of, step, run}
use Rattle.protocol.specs.Runs.{start}
use Rattle.protocol.specs.Periods.{life_left}
use Rattle.protocol.specs.Kept.{Sized, hit_by}
use Rattle.protocol.specs.Arrived.{Areas, Arrived, SentIfArrived}
use Rattle.protocol.specs.Frames.{NotSearched, TableOnly, MarkedBroken, PartOnly, Silent}
use Rattle.protocol.specs.Written.{NoHit, WrittenFor}
use Rattle.protocol.specs.Opened.{OpenRouted, CloseRouted}
use Rattle.protocol.specs.Pinged.{PingsRouted}

-- Calls and their answers. One that took a query: an arriving one or an own one, answered 0
abbrev pub took : Call → ℕ → Bool
took (Open k) n = false
took (Close k) n = false
took (Message k m t a) n = eqb (kind_of m) 0x80 && eqb n 0
took (Ask number text t a) n = eqb n 0

-- the number that it brought, and the asker: its line, or here
abbrev pub brought_number : Call → Number
brought_number (Open k) = record { lo = 0; hi = 0 }
brought_number (Close k) = record { lo = 0; hi = 0 }
brought_number (Message k m t a) = number_in m
brought_number (Ask number text t a) = number_in number

abbrev pub brought_by : Call → ℕ
brought_by (Open k) = here
brought_by (Close k) = here
brought_by (Message k m t a) = k
brought_by (Ask number text t a) = here

-- one that opened line l, one that closed it
abbrev pub opened : Call → ℕ → ℕ → Bool
opened (Open k) n l = eqb l k && eqb n 0
opened (Close k) n l = false
opened (Message k m t a) n l = false
opened (Ask number text t a) n l = false

abbrev pub closed : Call → ℕ → ℕ → Bool
closed (Open k) n l = false
closed (Close k) n l = eqb l k && eqb n 0
closed (Message k m t a) n l = false
closed (Ask number text t a) n l = false

-- one by which the query with number x got a hit, passed back or delivered
abbrev pub got_hit : Call → ℕ → Number → Bool
got_hit (Open k) n x = false
got_hit (Close k) n x = false
got_hit (Message k m t a) n x = eqb (kind_of m) 0x81 && (eqb n 0 && same_number x (number_in m))
got_hit (Ask number text t a) n x = false

-- how often line l was opened
abbrev pub openings : ℕ → List Made → ℕ
openings l [] = 0
openings l (d ∷ ds) = cond (opened d.call d.outcome.answer l) (suc (openings l ds)) (openings l ds)

-- a taken query: its number, its asker as it was taken, whether that line has closed since, and how often it had been
-- opened before
pub record Past : Type 0 where
  pub number : Number
  pub asker : ℕ
  pub shut : Bool
  pub opening : ℕ

abbrev pub past : (ℕ → Bool) → Number → ℕ → ℕ → Past
past shut x who n = record { number = x; asker = who; shut = shut who; opening = n }

-- all queries that were taken, the newest first, then those remembered before the log began; `shut` says which lines
-- have closed since
unfoldable pub all_taken : (ℕ → Bool) → List Made → List Query → List Past
all_taken shut [] base = map (λ q. past shut q.number q.asker 0) base
all_taken shut (d ∷ ds) base =
    cond (took d.call d.outcome.answer)
    (past shut (brought_number d.call) (brought_by d.call) (openings (brought_by d.call) ds)
    ∷ all_taken shut ds base)
    (all_taken (λ l. shut l || closed d.call d.outcome.answer l) ds base)

-- the last n of them
abbrev pub last_taken : ℕ → List Made → List Query → List Past
last_taken n log base = take n (all_taken (λ l. false) log base)

-- The hits of the number x that were passed back or delivered since its query was taken; a query that was remembered
-- before the log began had had some by then
abbrev pub hits_before : List Query → Number → ℕ
hits_before [] x = 0
hits_before (q ∷ qs) x = cond (same_number x q.number) q.hits (hits_before qs x)

abbrev pub hits_since : List Made → List Query → Number → ℕ
hits_since [] base x = hits_before base x
hits_since (d ∷ ds) base x =
    cond (took d.call d.outcome.answer && same_number x (brought_number d.call)) 0
    (cond (got_hit d.call d.outcome.answer x) (suc (hits_since ds base x)) (hits_since ds base x))

-- numbers are the same exactly if their 16 bytes are
abbrev pub SameBytes : Type 0
SameBytes =
    (a b : List ℕ)
    → all (λ x. ltb x 256) a ≡ true
    → all (λ x. ltb x 256) b ≡ true
    → 16 ≤ length a
    → 16 ≤ length b
    → (same_number (number_in a) (number_in b) ≡ true) ↔ (number_of a ≡ number_of b)

-- where a query came from: not among the last n; here; a line that has not closed since, in its opening of this count;
-- one that has
pub data Origin : Type 0 where
  Unknown : Origin
  Here : Origin
  From : (line opening : ℕ) → Origin
  Gone : Origin

abbrev pub pick_origin : Bool → Origin → Origin → Origin
pick_origin true a b = a
pick_origin false a b = b

abbrev pub origin_of : Past → Origin
origin_of p = pick_origin (eqb p.asker here) Here (pick_origin (eqb p.asker gone || p.shut) Gone
    (From p.asker p.opening))

abbrev pub look_up : List Past → Number → Origin
look_up [] x = Unknown
look_up (p ∷ ps) x = pick_origin (same_number p.number x) (origin_of p) (look_up ps x)

abbrev pub origin : ℕ → List Made → List Query → Number → Origin
origin n log base x = look_up (last_taken n log base) x

-- What stands in a state is this history: the remembered queries are the last n taken, the newest first, each with its
-- asker now and the hits that it has had since
abbrev pub asker_now : Origin → ℕ
asker_now Unknown = 10
asker_now Here = here
asker_now (From l n) = l
asker_now Gone = gone

abbrev pub standing : (Number → ℕ) → Past → Query
standing hits p = record { number = p.number; asker = asker_now (origin_of p); hits = hits p.number }

abbrev pub standing_in : ℕ → List Made → List Query → List Query
standing_in n log base = map (standing (hits_since log base)) (last_taken n log base)

pub record MemoryIs (n : ℕ) (s : Station) (log : List Made) (base : List Query) : Type 0 where
  pub last : remembered s ≡ standing_in n log base
  pub once : no_twice (standing_in n log base) ≡ true

abbrev pub MemoryHistory : Type 0
MemoryHistory =
    (s : Station) (area : List ℕ) (cs : List Call)
    → Sized s
    → in_order s ≡ true
    → MemoryIs capacity (run (start s area) cs).state (run (start s area) cs).log (remembered s)

-- Queries. An arriving query that only its number can refuse, and such an own query
pub record Acceptable (limit : ℕ) (s : Station) (l : ℕ) (m : List ℕ) (out : ℕ) (route : List ℕ) : Type 0 where
  pub arrived : Arrived s l m out route
  pub text : any (eqb 0) (drop 2 (payload_of m)) ≡ true
  pub ttl : 1 ≤ ttl_of m
  pub ttl15 : ttl_of m ≤ 15
  pub hops : hops_of m < limit

pub record OwnAcceptable (s : Station) (text : List ℕ) (out : ℕ) (route : List ℕ) : Type 0 where
  pub areas : Areas s out route
  pub size : length text ≤ 4093
  pub no_zero : any (eqb 0) text ≡ false

-- it is taken exactly if its number is not among those remembered, and is a repeat exactly if it is
pub record Answered (acceptable : Type 0) (from : Origin) (o : Outcome) : Type 0 where
  pub taken : (o.answer ≡ 0) ↔ (acceptable × (from ≡ Unknown))
  pub repeats : (o.answer ≡ 9) ↔ (acceptable × (from ≡ Unknown → ⊥))

-- a taken one goes, written once, to exactly the lines that are open, others than its own, with life 2 or more, that do
-- not withhold it; it is offered to the local search, and an own one is not
pub record QueryTo (limit : ℕ) (s : Station) (route : List ℕ) (l : ℕ) (m : List ℕ) (o : Outcome) : Type 0 where
  pub eight : length o.to ≡ 8
  pub to : (k : ℕ) → k < 8
      → (get_or o.to k false ≡ true)
      ↔ (((line_at s k).live ≡ true)
      × (k ≡ l → ⊥)
      × (2 ≤ life_left limit m)
      × (withholds (held_at s k route) (keywords_of (text_in (payload_of m))) (life_left limit m - 1) ≡ false))
  pub sent : WrittenFor o.to (message (number_of m) 0x80 (life_left limit m - 1) (hops_of m + 1) (payload_of m))
      o.sent
  pub search : (o.search ≡ true) × (o.textat ≡ 25) × (o.textlen ≡ length (text_in (payload_of m)))
  pub lines : o.state.lines ≡ s.lines

pub record OwnTo (limit : ℕ) (s : Station) (route number text : List ℕ) (o : Outcome) : Type 0 where
  pub eight : length o.to ≡ 8
  pub to : (k : ℕ) → k < 8
      → (get_or o.to k false ≡ true) ↔ (((line_at s k).live ≡ true)
      × (withholds (held_at s k route) (keywords_of text) limit ≡ false))
  pub sent : WrittenFor o.to (message number 0x80 limit 0 (0 ∷ 0 ∷ (text ++ (0 ∷ [])))) o.sent
  pub search : NotSearched o
  pub lines : o.state.lines ≡ s.lines

-- Hits. What one with TTL 1 or more and 27 bytes of payload is answered, by where its query came from and how many
-- hits that has had: at most 200, and at 200 it gets no more
abbrev pub Counted : ℕ → Outcome → Type 0 → Type 0
Counted hits o fewer = (hits ≤ 200) × (hits ≡ 200 → o.answer ≡ 21) × (hits < 200 → fewer)

-- It goes back over a line that is open, and that has been since the query came: it has been opened as often now as it
-- had been then
pub record GoesBack (l n : ℕ) (w : World) : Type 0 where
  pub below : l ≤ 7
  pub live : (line_at w.state l).live ≡ true
  pub opening : openings l w.log ≡ n

pub record PassedBack (l : ℕ) (m : List ℕ) (o : Outcome) : Type 0 where
  pub spent : ttl_of m ≡ 1 → o.answer ≡ 8
  pub full : 2 ≤ ttl_of m → hops_of m ≡ 255 → o.answer ≡ 12
  pub goes : 2 ≤ ttl_of m → (hops_of m ≡ 255 → ⊥)
      → (o.answer ≡ 0) × (o.delivered ≡ false) × (o.to ≡ only_to l)
      × (o.sent ≡ message (number_of m) 0x81 (ttl_of m - 1) (hops_of m + 1) (payload_of m))

abbrev pub HitBy : Origin → ℕ → World → List ℕ → Outcome → Type 0
HitBy Unknown hits w m o = o.answer ≡ 10
HitBy Gone hits w m o = o.answer ≡ 11
HitBy Here hits w m o =
    Counted hits o ((o.answer ≡ 0) × (o.delivered ≡ true) × (o.to ≡ nobody) × (o.sent ≡ []))
HitBy (From l n) hits w m o = GoesBack l n w × Counted hits o (PassedBack l m o)

-- a hit that is passed back or delivered raises its query's count by one, and of the state changes nothing else; any
-- other changes nothing
pub record OneHitMore (n : Number) (s s' : Station) : Type 0 where
  pub room : s'.room ≡ s.room
  pub lines : s'.lines ≡ s.lines
  pub memory : remembered s' ≡ map (hit_by n) (remembered s)
  pub rest : (s'.memory.lo ≡ s.memory.lo) × (s'.memory.hi ≡ s.memory.hi)
      × (s'.memory.asker ≡ s.memory.asker) × (s'.memory.count ≡ s.memory.count)
      × (s'.memory.next ≡ s.memory.next)
  -- the count at a place with another number stays, kept or not
  pub beside : (p : ℕ) → same_number (query_at s.memory p).number n ≡ false
      → get_or s'.memory.hits p 0 ≡ get_or s.memory.hits p 0

pub record HitRouted (from : Origin) (hits : ℕ) (w : World) (m : List ℕ) (o : Outcome) : Type 0 where
  pub counts : o.answer ≡ 0 → OneHitMore (number_in m) w.state o.state
  pub leaves : (o.answer ≡ 0 → ⊥) → o.state ≡ w.state
  pub search : NotSearched o
  pub short : size_of m < 27 → o.answer ≡ 6
  pub spent : 27 ≤ size_of m → ttl_of m ≡ 0 → o.answer ≡ 8
  pub by : 27 ≤ size_of m → 1 ≤ ttl_of m → HitBy from hits w m o

-- One call, with the world before it and the queries remembered before its log began. Whatever has arrived is decided
-- by its type, and nothing else is; a refused call sends nothing
pub record MessageRouted (limit n : ℕ) (base : List Query) (w : World) (l : ℕ) (m : List ℕ) (out : ℕ) (route : List ℕ)
    (o : Outcome) : Type 0 where
  pub arrives : SentIfArrived w.state l m out route o
  pub query : kind_of m ≡ 0x80 → Answered (Acceptable limit w.state l m out route)
      (origin n w.log base (number_in m)) o
  pub goes : kind_of m ≡ 0x80 → o.answer ≡ 0 → QueryTo limit w.state route l m o
  pub hit : kind_of m ≡ 0x81 → Arrived w.state l m out route
      → HitRouted (origin n w.log base (number_in m)) (hits_since w.log base (number_in m)) w m o
  pub no_hit : kind_of m ≡ 0x80 → NoHit 0x80 o
  pub pings : kind_of m ≡ 0x00 → NotSearched o
  -- an update changes its line's table and nothing else, and a refused one only that table's mark
  pub update : kind_of m ≡ 0x30 → Arrived w.state l m out route → TableOnly l w.state o.state
  pub broken : kind_of m ≡ 0x30 → Arrived w.state l m out route → (o.answer ≡ 0 → ⊥)
      → MarkedBroken l w.state o.state
  -- the route area is written by accepted updates alone, and by them within the entries of the line's table as it is
  -- then
  pub area : ((kind_of m ≡ 0x30) × (o.answer ≡ 0) → ⊥) → o.route ≡ route
  pub part : kind_of m ≡ 0x30 → o.answer ≡ 0 → PartOnly w.state.room l (line_at o.state l).table.length route
      o.route
  -- neither a ping, a query nor a hit
  pub others : (kind_of m ≡ 0x00 → ⊥) → (kind_of m ≡ 0x80 → ⊥) → (kind_of m ≡ 0x81 → ⊥) → Silent o
  pub refused : (o.answer ≡ 0 → ⊥) → Silent o

-- the number of an own query has 16 bytes by its type, [u8; 16]
pub record AskRouted (limit n : ℕ) (base : List Query) (w : World) (number text : List ℕ) (out : ℕ) (route : List ℕ)
    (o : Outcome) : Type 0 where
  pub query : Answered (OwnAcceptable w.state text out route) (origin n w.log base (number_in number)) o
  pub goes : o.answer ≡ 0 → OwnTo limit w.state route number text o
  pub no_hit : length number ≡ 16 → NoHit 0x80 o
  pub area : o.route ≡ route
  pub refused : (o.answer ≡ 0 → ⊥) → Silent o

abbrev pub Routed : (limit n : ℕ) → List Query → World → Call → Outcome → Type 0
Routed limit n base w (Open l) o = OpenRouted w.state l o
Routed limit n base w (Close l) o = CloseRouted w.state l o
Routed limit n base w (Message l m t a) o =
    MessageRouted limit n base w l m t.out (lent a w.area) o
    × PingsRouted w.state l t.clock t.own m t.out (lent a w.area) o
Routed limit n base w (Ask number text t a) o = AskRouted limit n base w number text t.out (lent a w.area) o

-- Every call of a list, in turn
abbrev pub AllRouted : (limit n : ℕ) → List Query → World → List Call → Type 0
AllRouted limit n base w [] = Unit {0}
AllRouted limit n base w (c ∷ cs) = Routed limit n base w c (outcome_of w c) × AllRouted limit n base (step w c) cs

-- every list of calls, with any areas, from any state in order, at the usual limit and capacity; from a fresh one
-- nothing is remembered at the start
abbrev pub Demand2 : Type 0
Demand2 =
    (s : Station) (area : List ℕ) (cs : List Call)
    → Sized s
    → in_order s ≡ true
    → AllRouted 7 capacity (remembered s) (start s area) cs

-- Gone stays gone: after any list, no later list makes a line or here of it; it only leaves, as one among those
-- remembered no more
abbrev pub GoneForever : Type 0
GoneForever =
    (s : Station) (area : List ℕ) (cs later : List Call) (x : Number)
    → Sized s
    → in_order s ≡ true
    → origin capacity (run (start s area) cs).log (remembered s) x ≡ Gone
    → (origin capacity (run (run (start s area) cs) later).log (remembered s) x ≡ Gone)
    ⊎ ((ps qs : List Call) × (later ≡ ps ++ qs)
    × (origin capacity (run (run (start s area) cs) ps).log (remembered s) x ≡ Unknown))

-- With the log laid open, from a fresh state: where a hit goes to line l, that line is open and some call of the log
-- took a query with its number by it; since then fewer than n were taken, the line was not closed, and it has been
-- opened as often now as it had been then
abbrev pub taken_in : List Made → ℕ
taken_in [] = 0
taken_in (d ∷ ds) = cond (took d.call d.outcome.answer) (suc (taken_in ds)) (taken_in ds)

pub record Brought (n : ℕ) (log : List Made) (x : Number) (l opening : ℕ) : Type 0 where
  pub newer : List Made
  pub taking : Made
  pub older : List Made
  pub split : log ≡ newer ++ (taking ∷ older)
  pub taken : took taking.call taking.outcome.answer ≡ true
  pub number : brought_number taking.call ≡ x
  pub by : brought_by taking.call ≡ l
  pub among : taken_in newer < n
  pub unclosed : any (λ d. closed d.call d.outcome.answer l) newer ≡ false
  pub before : openings l older ≡ opening

abbrev pub BackOnly : ℕ → World → Type 0
BackOnly n w =
    (l : ℕ) (m : List ℕ) (t : Terms) (a : Area) (k : ℕ)
    → kind_of m ≡ 0x81
    → k < 8
    → get_or (outcome_of w (Message l m t a)).to k false ≡ true
    → ((line_at w.state k).live ≡ true) × Brought n w.log (number_in m) k (openings k w.log)

abbrev pub AnswersBack : Type 0
AnswersBack = (n : ℕ) (area : List ℕ) (cs : List Call) → BackOnly 512 (run (start (fresh n).state area) cs)
