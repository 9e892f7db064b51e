-- When an update is answered 0, 14, 15 or 16 (RULES 12), and what a list of updates leaves of a table that begins as no
-- table: in words of the bytes and of the updates before (specs/History), not of the rules that the code cites. They
-- are laws of those rules, proved in proofs/HistoryLaws (the table) and proofs/Answers.
use Rattle.std.specs.Prelude.{ℕ, ◌+◌, ◌^◌, ◌≤◌, ◌<◌, ◌≡◌, Bool, true, false, ◌||◌, ◌↔◌, ◌⊎◌, List, [], ◌∷◌, eqb, ltb, ℤ, pos, negsuc, ◌+ℤ◌, length, get_or, replicate}
use Rattle.laws.specs.Tests.{any}
use Rattle.tables.specs.Tables.{Held, no_table, settled}
use Rattle.tables.specs.Updates.{update_answer, updated}
use Rattle.tables.specs.History.{byte, length_bytes, carried, Update, is_reset, messages, ended, brought, under_way}
use Rattle.tables.specs.History.{length_named, infinity_named}
use Rattle.tables.specs.History.{sum_at, spoiled, speaks, mark_after}

-- an update as it arrives
pub record Sent : Type 0 where
  pub ttl : ℕ
  pub hops : ℕ
  pub payload : List ℕ

-- the answer to one, the table after a list of them (the newest first, from no table), and the same list with the
-- answers
abbrev pub answer_to : ℕ → Held → Sent → ℕ
answer_to room h s = update_answer room h s.ttl s.hops s.payload

abbrev pub no_held : Held
no_held = record { table = no_table; entries = [] }

abbrev pub after : ℕ → List Sent → Held
after room [] = no_held
after room (s ∷ ss) = updated room (after room ss) s.ttl s.hops s.payload

abbrev pub history : ℕ → List Sent → List Update
history room [] = []
history room (s ∷ ss) = record { payload = s.payload; answer = answer_to room (after room ss) s } ∷ history room ss

-- a RESET that is accepted: TTL 1, Hops 0, exactly six bytes, the first 0, a length of 2 ^ bits for 2 to 16 bits
-- and within the room, and an Infinity of 2 to 127
pub record MayReset (room : ℕ) (s : Sent) : Type 0 where
  pub ttl : s.ttl ≡ 1
  pub hops : s.hops ≡ 0
  pub six : length s.payload ≡ 6
  pub variant : byte s.payload 0 ≡ 0
  pub bits : ℕ
  pub least : 2 ≤ bits
  pub most : bits ≤ 16
  pub power : length_bytes s.payload ≡ 2 ^ bits
  pub within : length_bytes s.payload ≤ room
  pub above : 2 ≤ byte s.payload 5
  pub below : byte s.payload 5 ≤ 127

-- a PATCH whose fields are allowed: TTL 1, Hops 0, five bytes or more, the first 1, a place from 1 to the size,
-- compressor 0, 4 or 8 bits
pub record MayPatch (s : Sent) : Type 0 where
  pub ttl : s.ttl ≡ 1
  pub hops : s.hops ≡ 0
  pub five : 5 ≤ length s.payload
  pub variant : byte s.payload 0 ≡ 1
  pub first : 1 ≤ byte s.payload 1
  pub last : byte s.payload 1 ≤ byte s.payload 2
  pub plain : byte s.payload 3 ≡ 0
  pub width : (byte s.payload 4 ≡ 4) ⊎ (byte s.payload 4 ≡ 8)

-- size and bits are those of the run's first message, where there is one
abbrev pub LikeFirst : List (List ℕ) → List ℕ → Type 0
LikeFirst [] p = Unit {0}
LikeFirst (m ∷ ms) p = (byte p 2 ≡ byte m 2) × (byte p 4 ≡ byte m 4)

-- a PATCH in turn: a RESET was accepted and nothing refused since; its place is one more than the messages of the
-- run under way; size and bits are the first one's; the run's numbers with its own are not more than the table is
-- long, and exactly as many where it is the last
pub record InTurn (us : List Update) (p : List ℕ) : Type 0 where
  pub begun : any is_reset us ≡ true
  pub unspoiled : spoiled us ≡ false
  pub next : byte p 1 ≡ length (messages us) + 1
  pub alike : LikeFirst (messages us) p
  pub within : length (under_way us) + length (carried p) ≤ length_named us
  pub whole : byte p 1 ≡ byte p 2 → length (under_way us) + length (carried p) ≡ length_named us

-- what the j-th number of a PATCH makes of its entry: Infinity, the sum so far and the number
abbrev pub entry_then : List Update → List ℕ → ℕ → ℤ
entry_then us p j = pos (infinity_named us) +ℤ sum_at us (length (under_way us) + j) +ℤ get_or (carried p) j (pos 0)

-- below 1 or above n
abbrev pub outside : ℕ → ℤ → Bool
outside n (pos k) = eqb k 0 || ltb n k
outside n (negsuc k) = true

-- some number of a PATCH leads outside 1..Infinity
abbrev pub LeadsOut : List Update → List ℕ → Type 0
LeadsOut us p = (j : ℕ) × (j < length (carried p)) × (outside (infinity_named us) (entry_then us p j) ≡ true)

-- the answer n to an update after these: exactly when it is each of the four
pub record Answers (room : ℕ) (us : List Update) (s : Sent) (n : ℕ) : Type 0 where
  pub done : (n ≡ 0) ↔ (MayReset room s ⊎ (MayPatch s × InTurn us s.payload × (LeadsOut us s.payload → ⊥)))
  pub fourteen : (n ≡ 14) ↔ ((MayReset room s ⊎ MayPatch s) → ⊥)
  pub fifteen : (n ≡ 15) ↔ (MayPatch s × (InTurn us s.payload → ⊥))
  pub sixteen : (n ≡ 16) ↔ (MayPatch s × InTurn us s.payload × LeadsOut us s.payload)

abbrev pub EveryAnswer : Type 0
EveryAnswer = (room : ℕ) (ss : List Sent) (s : Sent) → Answers room (history room ss) s
    (answer_to room (after room ss) s)

-- what a list of updates leaves: as many entries as the last accepted RESET named, its Infinity, each entry that
-- Infinity plus the sum of its numbers, and the mark, which is settled exactly where no quiet period is
pub record Leaves (us : List Update) (h : Held) : Type 0 where
  pub long : length h.entries ≡ length_named us
  pub known : h.table.length ≡ length_named us
  pub infinity : h.table.infinity ≡ infinity_named us
  pub sums : (j : ℕ) → j < length h.entries → pos (get_or h.entries j 0) ≡ pos (infinity_named us) +ℤ sum_at us j
  pub mark : h.table.mark ≡ mark_after us
  pub speaking : eqb h.table.mark settled ≡ speaks us

abbrev pub EveryTable : Type 0
EveryTable = (room : ℕ) (ss : List Sent) → Leaves (history room ss) (after room ss)

-- the table that a RESET makes: every entry Infinity, the mark waiting (1), place 1 and the first entry next
pub record Filled (p : List ℕ) (h : Held) : Type 0 where
  pub entries : h.entries ≡ replicate (length_bytes p) (byte p 5)
  pub long : h.table.length ≡ length_bytes p
  pub infinity : h.table.infinity ≡ byte p 5
  pub mark : h.table.mark ≡ 1
  pub place : h.table.nextplace ≡ 1
  pub next : h.table.nextentry ≡ 0

-- one that may be is accepted by any table and makes that one of it, whatever was there
abbrev pub EveryReset : Type 0
EveryReset =
    (room : ℕ) (h : Held) (s : Sent)
    → MayReset room s
    → (answer_to room h s ≡ 0) × Filled s.payload (updated room h s.ttl s.hops s.payload)

-- the n-th message of a run bears place n and the first one's size and bits
abbrev pub Numbered : List (List ℕ) → Type 0
Numbered ms = (i : ℕ) → i < length ms → (byte (get_or ms i []) 1 ≡ i + 1) × LikeFirst ms (get_or ms i [])

-- a run that ended has as many messages as each of them says, and as many numbers as the table has entries
pub record WholeRun (long : ℕ) (ms : List (List ℕ)) : Type 0 where
  pub numbered : Numbered ms
  pub sized : byte (get_or ms 0 []) 2 ≡ length ms
  pub entries : length (brought ms) ≡ long

pub record Runs (us : List Update) : Type 0 where
  pub begun : Numbered (messages us)
  pub whole : (r : ℕ) → r < length (ended us) → WholeRun (length_named us) (get_or (ended us) r [])

abbrev pub EveryRun : Type 0
EveryRun = (room : ℕ) (ss : List Sent) → Runs (history room ss)
