-- However a line's bytes are cut, the answers, the bytes sent and the state at the end, held bytes and shut marks aside,
-- are those of whole messages, each with the clock, the own pong and the areas of the call that brought its last byte,
-- in the order in which they were completed.
use Rattle.std.specs.Prelude.{◌≡◌, List, []}
use Rattle.protocol.specs.Runs.{run}
use Rattle.receiving.specs.Events.{Event, Receiver, world_of, calls_of, reply_to, handle, handle_all, wholes}
use Rattle.receiving.specs.Bare.{bare, bare_world}

-- any list, from anywhere: state, route area, and the log of calls with their outcomes
abbrev pub Cutting : Type 0
Cutting = (w : Receiver) (es : List Event)
    → bare_world (world_of (handle_all w es)) ≡ run (bare_world (world_of w)) (wholes w es)

-- two lists that come to the same whole messages
abbrev pub CutEither : Type 0
CutEither =
    (w : Receiver) (es es' : List Event) → wholes w es ≡ wholes w es'
    → bare_world (world_of (handle_all w es)) ≡ bare_world (world_of (handle_all w es'))

-- an event that comes to none sends nothing and leaves all, held bytes and shut marks aside (its own line's alone:
-- Calls, `Leaves.others`)
abbrev pub AsideLeaves : Type 0
AsideLeaves =
    (w : Receiver) (e : Event) → calls_of w e ≡ []
    → (bare (handle w e).state ≡ bare w.state) × ((handle w e).area ≡ w.area) × ((reply_to w e).sent ≡ [])
