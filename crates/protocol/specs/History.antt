-- The updates of a line in its present opening, read off the log alone. What demand 3 makes of them, the quiet
-- periods in which a table says nothing and the sum that each entry is, is said of any list of updates in crate
-- tables. Nothing here mentions an expected table, a state or an area.
use Rattle.std.specs.Prelude.{ℕ, Bool, false, cond, not, ◌&&◌, List, [], ◌∷◌, eqb}
use Rattle.wire.specs.Header.{payload_of}
pub use Rattle.tables.specs.History.{Update, sum_at, before_reset, before_run, inside_run, spoiled, speaks}
use Rattle.protocol.specs.Runs.{Call, Open, Close, Message, Ask, Made, unsent}
use Rattle.protocol.specs.Expected.{is_update_of}

-- what a call is to line L: an opening or closing of it, or an update from it, with its payload
abbrev pub turns_line : ℕ → Call → Bool
turns_line L (Open l) = eqb l L
turns_line L (Close l) = eqb l L
turns_line L (Message l m t a) = false
turns_line L (Ask number text t a) = false

abbrev pub updates_line : ℕ → Call → Bool
updates_line L (Open l) = false
updates_line L (Close l) = false
updates_line L (Message l m t a) = is_update_of L l m
updates_line L (Ask number text t a) = false

abbrev pub payload_by : Call → List ℕ
payload_by (Open l) = []
payload_by (Close l) = []
payload_by (Message l m t a) = payload_of m
payload_by (Ask number text t a) = []

-- an accepted opening or closing begins anew; an update counts unless it is unsent
abbrev pub noted : ℕ → Call → ℕ → List Update → List Update
noted L c n us =
    cond (turns_line L c && eqb n 0) []
    (cond (updates_line L c && not (unsent c n)) (record { payload = payload_by c; answer = n } ∷ us) us)

-- the updates of the opening, the newest first
abbrev pub updates_of : ℕ → List Made → List Update
updates_of L [] = []
updates_of L (d ∷ ds) = noted L d.call d.outcome.answer (updates_of L ds)
