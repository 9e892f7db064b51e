-- A tally over a list of calls, by computation: two cut messages and one of a line that is not open are counted, the
-- rest is not. And with bytes brought: of a line that is not open and with too short a held area they are counted, and
-- where the call waits they are not.
-- Assumes nothing.
use Prim.Native.Nat.{◌-◌}
use mathlib.Core.Path.{◌≡◌, refl}
use mathlib.Core.Bool.{true}
use mathlib.Core.List.{List, [], ◌∷◌}
use lib.ListN.{replicate}
use Rattle.laws.specs.Ring.{kept_places}
use Rattle.tables.specs.Tables.{table_in_order}
use Rattle.protocol.specs.declared.Own.{Own}
use Rattle.protocol.specs.Memory.{queries_in, find, remember, no_twice, memory_in_order}
use Rattle.protocol.specs.Lines.{stored_pongs}
use Rattle.protocol.specs.Order.{line_in_order, in_order}
use Rattle.protocol.specs.Outcomes.{Terms, terms_of}
use Rattle.protocol.specs.Calls.{fresh, opening, closing, early, arriving, own_answer, asking}
use Rattle.protocol.specs.Runs.{Call, Open, Close, Message, Ask, Same, World, start}
use Rattle.receiving.specs.Feeding.{extent_of, feeding}
use Rattle.receiving.specs.Events.{Event, Plain, Feed, AsLeft, Lent, Receiver, begin}
use Rattle.tally.specs.Counts.{answer_count, one_more, bump, bumps}
use Rattle.tallyhistory.specs.Calls.{answers_of, messages, tally_of}
use Rattle.tallyhistory.specs.Events.{answers_in, tally_in}

own : Own
own = record { port = 6346; address = 127 ∷ 0 ∷ 0 ∷ 1 ∷ []; files = 0; kilobytes = 0; calls = true }

terms : Terms
terms = terms_of 0 own 4119

begun : World
begun = start (fresh 32).state (replicate 32 0)

calls : List Call
calls =
    Open 0
    ∷ Message 0 [] terms Same
    ∷ Message 1 [] terms Same
    ∷ Ask (replicate 16 5) [] terms Same
    ∷ Message 0 (0 ∷ []) terms Same
    ∷ Close 0
    ∷ []

three : messages calls ≡ 3
unfolding calls messages
three = refl

tallied : tally_of begun calls ≡ 0 ∷ 0 ∷ 0 ∷ 1 ∷ 2 ∷ replicate (answer_count - 5) 0
unfolding own terms begun calls answers_of one_more bump bumps kept_places table_in_order queries_in find remember no_twice
    memory_in_order stored_pongs line_in_order in_order fresh opening closing early arriving own_answer asking
tallied = refl

receiver : Receiver
receiver = begin (fresh 32).state (replicate 32 0) (λ k. replicate 4119 0)

events : List Event
events =
    Plain (Open 0)
    ∷ Feed 0 (7 ∷ 8 ∷ []) terms Same AsLeft
    ∷ Feed 1 (7 ∷ []) terms Same AsLeft
    ∷ Feed 0 (9 ∷ []) terms Same (Lent (7 ∷ 8 ∷ []))
    ∷ Plain (Message 0 [] terms Same)
    ∷ Feed 0 (9 ∷ []) terms Same AsLeft
    ∷ []

brought : tally_in receiver events ≡ 0 ∷ 0 ∷ 1 ∷ 1 ∷ 1 ∷ replicate (answer_count - 5) 0
unfolding own terms receiver events answers_in one_more bump bumps kept_places table_in_order queries_in find remember no_twice
    memory_in_order stored_pongs line_in_order in_order fresh opening closing early arriving own_answer asking extent_of feeding
brought = refl
