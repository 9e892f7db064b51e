-- The six events of RULES 17.7 and every mark of a line, over a route area of 32 bytes, by computation; and that the
-- premises of demand 3 can be met.
-- Assumes nothing.
use Prim.Native.Nat.{ℕ}
use native.Mathlib.Omega.{arith}
use mathlib.Core.Path.{◌≡◌, refl}
use mathlib.Core.Bool.{true}
use mathlib.Core.List.{List, [], ◌∷◌, map}
use lib.ListN.{replicate, take}
use Rattle.laws.specs.Ring.{kept_places}
use Rattle.wire.specs.Header.{message, route_update}
use Rattle.keywords.specs.Keywords.{keywords_of, pieces, filled}
use Rattle.keywords.specs.Hash.{hash_of, word}
use Rattle.tables.specs.Tables.{none, waiting, running, settled, broken, good_length, table_in_order}
use Rattle.tables.specs.Patch.{numbers, added, all_fit}
use Rattle.tables.specs.Updates.{update_answer, updated, good_reset, good_patch, in_turn, in_range, reset_by, moved_on}
use Rattle.tables.specs.Updates.{patch_by, broken_by}
use Rattle.tables.specs.Admission.{withholds}
use Rattle.protocol.specs.Memory.{queries_in, find, remember, no_twice, memory_in_order}
use Rattle.protocol.specs.State.{line_at}
use Rattle.protocol.specs.Lines.{stored_pongs}
use Rattle.protocol.specs.Order.{line_in_order, in_order}
use Rattle.protocol.specs.Outcomes.{Terms, terms_of}
use Rattle.protocol.specs.Queries.{usual_limit, until_zero, query_step}
use Rattle.protocol.specs.Calls.{fresh, opening, closing, early, update_step, by_type, arriving, own_answer, asking}
use Rattle.protocol.specs.Runs.{Call, Open, Close, Message, Ask, Same, Other, World, run, start}
use Rattle.protocol.specs.Demand3.{Claimed}
use Rattle.protocol.proofs.Kept.{fresh_in_order}
use Rattle.protocol.proofs.Demand3.{demand3}

abbrev terms : Terms
terms = terms_of 0 (record { port = 6346; address = 127 ∷ 0 ∷ 0 ∷ 1 ∷ []; files = 0; kilobytes = 0; calls = true }) 4119

abbrev q1 : List ℕ
q1 = message (replicate 16 7) 0x80 3 1 (0 ∷ 0 ∷ 0x65 ∷ 0x62 ∷ 0x20 ∷ 0x65 ∷ 0x62 ∷ 0x63 ∷ 0x6B ∷ 0x6C ∷ 0 ∷ [])

abbrev update : List ℕ → List ℕ
update p = message (replicate 16 1) route_update 1 0 p

abbrev reset : List ℕ
reset = update (0 ∷ 4 ∷ 0 ∷ 0 ∷ 0 ∷ 8 ∷ [])

abbrev six_events : List Call
six_events =
    Open 0
    ∷ Open 1
    ∷ Message 1 reset terms Same
    ∷ Message 1 (update (1 ∷ 1 ∷ 1 ∷ 0 ∷ 4 ∷ 9 ∷ 9 ∷ [])) terms Same
    ∷ Message 0 q1 terms Same
    ∷ Message 0 q1 terms Same
    ∷ []

-- Every mark of line 1: none, waiting, running, settled, broken by a PATCH out of turn, waiting again, and none once
-- the line has closed. A cut message (4) and one over an area of another room (2) between the two PATCHes change
-- nothing; an own query goes by the table.
abbrev first : List ℕ
first = update (1 ∷ 1 ∷ 2 ∷ 0 ∷ 4 ∷ 9 ∷ [])

abbrev second : List ℕ
second = update (1 ∷ 2 ∷ 2 ∷ 0 ∷ 4 ∷ 9 ∷ [])

abbrev every_mark : List Call
every_mark =
    Open 1
    ∷ Message 1 reset terms Same
    ∷ Message 1 first terms Same
    ∷ Message 1 (take 20 second) terms Same
    ∷ Message 1 second terms (Other (replicate 40 0))
    ∷ Message 1 second terms Same
    ∷ Ask (replicate 16 5) (0x65 ∷ 0x62 ∷ []) terms Same
    ∷ Message 1 second terms Same
    ∷ Message 1 reset terms Same
    ∷ Close 1
    ∷ []

abbrev after : List Call → World
after cs = run (start (fresh 32).state (replicate 32 0)) cs

abbrev answers : World → List ℕ
answers w = map (λ d. d.outcome.answer) w.log

abbrev marks : World → List ℕ
marks w = map (λ d. (line_at d.outcome.state 1).table.mark) w.log

record Computed : Type 0 where
  six : answers (after six_events) ≡ 9 ∷ 0 ∷ 0 ∷ 0 ∷ 0 ∷ 0 ∷ []
  every : answers (after every_mark) ≡ 0 ∷ 0 ∷ 15 ∷ 0 ∷ 0 ∷ 2 ∷ 4 ∷ 0 ∷ 0 ∷ 0 ∷ []
  marked : marks (after every_mark)
      ≡ none ∷ waiting ∷ broken ∷ settled ∷ settled ∷ running ∷ running ∷ running ∷ waiting ∷ none ∷ []

computed : Computed
unfolding kept_places message keywords_of pieces filled hash_of word good_length table_in_order numbers added all_fit
    update_answer updated good_reset good_patch in_turn in_range reset_by moved_on patch_by broken_by withholds
    queries_in find remember no_twice memory_in_order stored_pongs line_in_order in_order until_zero query_step
    fresh opening closing early update_step by_type arriving own_answer asking
computed = record { six = refl; every = refl; marked = refl }

-- the premises of demand 3 can be met: this list, its line, this area
session_claimed : Claimed usual_limit (fresh 32).state (replicate 32 0) 1 every_mark
unfolding fresh
session_claimed =
    demand3 (fresh 32).state (replicate 32 0) 1 every_mark refl (fresh_in_order 32).order (omega arith) refl
    (tt, (tt, (tt, (tt, ((λ e. absurd (omega arith)), (tt, (tt, (tt, (tt, (tt, tt))))))))))
