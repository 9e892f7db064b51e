-- The call that makes the table to send a neighbour (RULES 23) once more, in words: what it answers, what it leaves of
-- the output, and each entry, over hashes and the bytes of the route area.
use Rattle.std.specs.Prelude.{ℕ, ◌+◌, ◌*◌, ◌/◌, ◌^◌, ◌≤◌, ◌<◌, min, ◌≡◌, true, false, ◌↔◌, ◌⊎◌, List, length, get_or, drop}
use Rattle.tables.specs.Tables.{settled}
use Rattle.namearea.specs.Area.{names_in}
use Rattle.namearea.specs.Good.{good_list}
use Rattle.nametable.specs.Words.{FallsOn, Sound}
use Rattle.tablemerging.specs.Lengths.{Common}
use Rattle.protocol.specs.Lines.{is_other}
use Rattle.protocol.specs.State.{Station, line_at, held_at}
use Rattle.protocol.specs.Order.{in_order}
use Rattle.protocol.specs.Exactly.{LineNotOpen}
use Rattle.relaying.specs.Calls.{table_for, table_out_for}

-- ---- the answers

-- the route area is under 32 bytes, or gives another room than the state's; or neither
abbrev pub RouteUnfit : Station → List ℕ → Type 0
RouteUnfit s route = (length route < 32) ⊎ (length route / 8 ≡ s.room → ⊥)

abbrev pub RouteFits : Station → List ℕ → Type 0
RouteFits s route = (32 ≤ length route) × (length route / 8 ≡ s.room)

-- a length that a RESET may carry into some room: a power of two, 4 to 65,536
abbrev pub MayCarry : ℕ → Type 0
MayCarry n = (b : ℕ) × (2 ≤ b) × (b ≤ 16) × (n ≡ 2 ^ b)

-- nothing is wrong with state, route area and line
pub record Standing (s : Station) (l : ℕ) (route : List ℕ) : Type 0 where
  pub order : in_order s ≡ true
  pub fits : RouteFits s route
  pub line : l ≤ 7
  pub live : (line_at s l).live ≡ true

-- when the call answers what
pub record MakeAnswers (s : Station) (l : ℕ) (names : List ℕ) (n out : ℕ) (route : List ℕ) (answer : ℕ) : Type 0 where
  pub one : (answer ≡ 1)
      ↔ ((in_order s ≡ false) ⊎ (Standing s l route × ((4100 ≤ length names) × (good_list names ≡ false))))
  pub two : (answer ≡ 2)
      ↔ (((in_order s ≡ true) × RouteUnfit s route)
      ⊎ ((Standing s l route × (length names < 4100))
      ⊎ (Standing s l route × (Sound names × (MayCarry n × (out < n))))))
  pub three : (answer ≡ 3) ↔ ((in_order s ≡ true) × (RouteFits s route × LineNotOpen s l))
  pub fourteen : (answer ≡ 14) ↔ (Standing s l route × (Sound names × (MayCarry n → ⊥)))
  pub done : (answer ≡ 0) ↔ (Standing s l route × (Sound names × (MayCarry n × (n ≤ out))))

abbrev pub MakeExactly : Type 0
MakeExactly = (limit : ℕ) (s : Station) (l : ℕ) (names : List ℕ) (n out : ℕ) (route : List ℕ)
    → MakeAnswers s l names n out route (table_for limit s l names n out (length route)).answer

-- ---- the output, and the Infinity that is handed up, which goes with the limit

pub record Left (limit answer infinity n : ℕ) (out after : List ℕ) : Type 0 where
  pub refused : (answer ≡ 0 → ⊥) → (after ≡ out) × (infinity ≡ 0)
  pub handed : answer ≡ 0 → infinity ≡ limit + 1
  pub behind : answer ≡ 0 → drop n after ≡ drop n out
  pub long : length after ≡ length out

abbrev pub MakeLeaves : Type 0
MakeLeaves = (limit : ℕ) (s : Station) (l : ℕ) (names : List ℕ) (n : ℕ) (out route : List ℕ)
    → let told = table_for limit s l names n (length out) (length route) in
    Left limit told.answer told.infinity n out (table_out_for limit s l names n out route)

-- ---- the entries

-- the neighbour of line l is to hear of a distance e at place i of 2 to the power b: another line's table is settled
-- and has, at a place that stands for a common hash, the byte e, which is not its Infinity
pub record Heard (s : Station) (l : ℕ) (route : List ℕ) (b i e : ℕ) : Type 0 where
  pub line : ℕ
  pub below : line ≤ 7
  pub other : line ≡ l → ⊥
  pub mark : (line_at s line).table.mark ≡ settled
  pub bits : ℕ
  pub long : (line_at s line).table.length ≡ 2 ^ bits
  pub place : ℕ
  pub common : Common b i bits place
  pub byte : get_or route (line * s.room + place) 0 ≡ e
  pub reaches : e ≡ (line_at s line).table.infinity → ⊥

abbrev pub NoneHeard : Station → ℕ → List ℕ → ℕ → ℕ → Type 0
NoneHeard s l route b i = (e : ℕ) → Heard s l route b i e → ⊥

abbrev pub LeastHeard : Station → ℕ → List ℕ → ℕ → ℕ → ℕ → Type 0
LeastHeard s l route b i e = Heard s l route b i e × ((d : ℕ) → Heard s l route b i d → e ≤ d)

-- one entry: 1 where a keyword of a listed name falls; else Infinity where nothing is heard, and one more than the
-- least, but not above Infinity. These are all the cases
pub record EntryTold (falls : Type 0) (s : Station) (l : ℕ) (route : List ℕ) (b i infinity entry : ℕ) : Type 0 where
  pub own : falls → entry ≡ 1
  pub none : (falls → ⊥) → NoneHeard s l route b i → entry ≡ infinity
  pub relayed : (falls → ⊥) → (e : ℕ) → LeastHeard s l route b i e → entry ≡ min infinity (e + 1)
  pub known : falls ⊎ (falls → ⊥)
  pub either : NoneHeard s l route b i ⊎ ((e : ℕ) × LeastHeard s l route b i e)

-- all entries of a call that answers 0: as many as the length says, a power of two
pub record EntriesTold (s : Station) (l : ℕ) (names : List ℕ) (n infinity : ℕ) (route after : List ℕ) : Type 0 where
  pub bits : ℕ
  pub most : bits ≤ 16
  pub power : n ≡ 2 ^ bits
  pub entry : (i : ℕ) → i < n
      → EntryTold (FallsOn bits (names_in names) i) s l route bits i infinity (get_or after i 0)

abbrev pub EntriesExactly : Type 0
EntriesExactly = (limit : ℕ) (s : Station) (l : ℕ) (names : List ℕ) (n : ℕ) (out route : List ℕ)
    → let told = table_for limit s l names n (length out) (length route) in
    told.answer ≡ 0 → EntriesTold s l names n told.infinity route (table_out_for limit s l names n out route)

-- ---- what plays no part

-- of the lines that are other than line l, the same ones of two stations have settled tables, and the same tables
pub record SameOthers (l : ℕ) (s : Station) (route : List ℕ) (s' : Station) (route' : List ℕ) : Type 0 where
  pub marks : (k : ℕ) → k ≤ 7 → is_other l k ≡ true
      → ((line_at s k).table.mark ≡ settled) ↔ ((line_at s' k).table.mark ≡ settled)
  pub tables : (k : ℕ) → k ≤ 7 → is_other l k ≡ true → (line_at s k).table.mark ≡ settled
      → held_at s k route ≡ held_at s' k route'

-- then the entries are the same, whatever else stands in states and route areas: the table of line l itself, tables
-- that are not settled, rooms, pongs, remembered queries
abbrev pub OthersOnly : Type 0
OthersOnly = (limit l : ℕ) (s : Station) (route : List ℕ) (s' : Station) (route' : List ℕ) (names : List ℕ) (n : ℕ)
    (out : List ℕ)
    → SameOthers l s route s' route'
    → (table_for limit s l names n (length out) (length route)).answer ≡ 0
    → (table_for limit s' l names n (length out) (length route')).answer ≡ 0
    → table_out_for limit s l names n out route ≡ table_out_for limit s' l names n out route'
