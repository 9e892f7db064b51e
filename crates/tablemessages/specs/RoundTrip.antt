-- Reading what was written: from the old table, settled and with room, or from anything where there was none, every
-- message is answered 0 and the new table stands, settled.
use Rattle.std.specs.Prelude.{ℕ, zero, suc, ◌+◌, ◌≤◌, ◌≡◌, Bool, true, cond, List, [], ◌∷◌, ◌++◌, length, take, drop, replicate}
use Rattle.wire.specs.Header.{ttl_of, hops_of, size_of, payload_of}
use Rattle.tables.specs.declared.Table.{Table}
use Rattle.tables.specs.Tables.{Held, settled}
use Rattle.tables.specs.Updates.{update_answer, updated}
use Rattle.tablemessages.specs.Writer.{base_of, bits_for, data_of, parts_of, reset_payload, patch_payload, messages_of}
use Rattle.tablemessages.specs.Writer.{writer_answer, writer_result, writer_out}

-- a whole message handed to the table's rules
abbrev pub answer_to : ℕ → Held → List ℕ → ℕ
answer_to room h m = update_answer room h (ttl_of m) (hops_of m) (payload_of m)

abbrev pub after : ℕ → Held → List ℕ → Held
after room h m = updated room h (ttl_of m) (hops_of m) (payload_of m)

-- messages in turn: the answers, and what is held at last
unfoldable pub answers_to : ℕ → Held → List (List ℕ) → List ℕ
answers_to room h [] = []
answers_to room h (m ∷ ms) = answer_to room h m ∷ answers_to room (after room h m) ms

unfoldable pub after_all : ℕ → Held → List (List ℕ) → Held
after_all room h [] = h
after_all room h (m ∷ ms) = after_all room (after room h m) ms

-- the messages that stand one after another in some bytes, each 23 bytes and its payload; at most n of them
unfoldable pub messages_from : ℕ → List ℕ → List (List ℕ)
messages_from zero bytes = []
messages_from (suc n) [] = []
messages_from (suc n) (b ∷ bs) = take (23 + size_of (b ∷ bs)) (b ∷ bs) ∷ messages_from n
    (drop (23 + size_of (b ∷ bs)) (b ∷ bs))

abbrev pub messages_in : List ℕ → List (List ℕ)
messages_in bytes = messages_from (length bytes) bytes

-- the payloads of the writer's messages
unfoldable pub run_payloads : ℕ → ℕ → ℕ → List (List ℕ) → List (List ℕ)
run_payloads place size bits [] = []
run_payloads place size bits (d ∷ ds) = patch_payload place size bits d ∷ run_payloads (suc place) size bits ds

unfoldable pub payloads_of : Bool → List ℕ → List ℕ → ℕ → ℕ → List (List ℕ)
payloads_of had old new infinity size =
    cond had [] (reset_payload (length new) infinity ∷ [])
    ++ run_payloads
    1
    (length (parts_of size (data_of new (base_of had old new infinity))))
    (bits_for new (base_of had old new infinity))
    (parts_of size (data_of new (base_of had old new infinity)))

-- a settled table of these entries
abbrev pub settled_table : ℕ → ℕ → Table
settled_table n infinity =
    record { mark = settled; length = n; infinity = infinity; nextplace = 1; runsize = 0; runbits = 0; nextentry = 0 }

abbrev pub settled_as : List ℕ → ℕ → Held
settled_as es infinity = record { table = settled_table (length es) infinity; entries = es }

-- what the old table must be where there was one
pub record Stands (h : Held) (es : List ℕ) (infinity : ℕ) : Type 0 where
  pub mark : h.table.mark ≡ settled
  pub long : h.table.length ≡ length es
  pub limit : h.table.infinity ≡ infinity
  pub place : h.table.nextplace ≡ 1
  pub at : h.table.nextentry ≡ 0
  pub entries : h.entries ≡ es

-- every message is answered 0, and this is held at last
pub record ReadAs (room : ℕ) (h : Held) (ms : List (List ℕ)) (last : Held) : Type 0 where
  pub answers : answers_to room h ms ≡ replicate (length ms) 0
  pub held : after_all room h ms ≡ last

-- RULES 13.5: who holds the old table, settled, and has room gets the new one by reading the writer's bytes; without an
-- old table, whatever is held
abbrev pub RoundTrip : Type 0
RoundTrip =
    (number : List ℕ) (had : Bool) (old : List ℕ) (old_infinity : ℕ) (new : List ℕ) (infinity size outLength room : ℕ)
    (h : Held)
    → length number ≡ 16
    → writer_answer number had old old_infinity new infinity size outLength ≡ 0
    → length new ≤ room
    → (had ≡ true → Stands h old infinity)
    → ReadAs room h (messages_of number had old new infinity size) (settled_as new infinity)

-- the same of the output alone: as many of its bytes as the writer says it wrote, cut into messages and read
abbrev pub BytesRoundTrip : Type 0
BytesRoundTrip =
    (number : List ℕ) (had : Bool) (old : List ℕ) (old_infinity : ℕ) (new : List ℕ) (infinity size : ℕ) (out : List ℕ)
    (room : ℕ) (h : Held)
    → length number ≡ 16
    → (writer_result number had old old_infinity new infinity size out).answer ≡ 0
    → length new ≤ room
    → (had ≡ true → Stands h old infinity)
    → ReadAs
    room
    h
    (messages_in
    (take
    (writer_result number had old old_infinity new infinity size out).written
    (writer_out number had old old_infinity new infinity size out)))
    (settled_as new infinity)
