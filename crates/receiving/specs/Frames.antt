-- What a line's messages are, read off the bytes that its calls used, one after the other: nothing is lost, nothing
-- comes twice, nothing is of an earlier opening or of another line. No state, held area or count is looked at.
use Rattle.std.specs.Prelude.{ℕ, ◌≤◌, ◌≡◌, Bool, true, false, cond, ◌||◌, List, [], ◌∷◌, ◌++◌, eqb, length, take}
use Rattle.protocol.specs.State.{Station, line_at}
use Rattle.protocol.specs.Outcomes.{Terms}
use Rattle.protocol.specs.Calls.{fresh}
use Rattle.protocol.specs.Runs.{Area, Call, Open, Close, Message, Ask}
use Rattle.protocol.specs.Demand2.{opened, closed}
use Rattle.receiving.specs.Feeding.{extent_of, held_bytes}
use Rattle.receiving.specs.Events.{Event, Plain, Feed, Handled, Receiver, reply_to, handle_all, begin, FairEvents}

-- the messages so far, the first first, each as the whole-message call that it comes to; the bytes of one that is not
-- whole; and whether a payload was too large, behind which nothing is a message
pub record Stream : Type 0 where
  pub whole : List Call
  pub rest : List ℕ
  pub over : Bool

abbrev pub empty : Stream
empty = record { whole = []; rest = []; over = false }

abbrev pub pick_stream : Bool → Stream → Stream → Stream
pick_stream true a b = a
pick_stream false a b = b

-- a byte of line l more, brought by a call with these terms and this route area
module _ (l : ℕ) (t : Terms) (a : Area) where
  abbrev pub ended : Stream → List ℕ → Bool → Stream
  ended f m over = record { whole = f.whole ++ (Message l m t a ∷ []); rest = []; over = over }

  abbrev pub grown : Stream → List ℕ → Stream
  grown f b =
      pick_stream (eqb (extent_of b) 4) (record { whole = f.whole; rest = b; over = false })
      (ended f b (eqb (extent_of b) 5))

  abbrev pub byte_in : Stream → ℕ → Stream
  byte_in f b = pick_stream f.over f (grown f (f.rest ++ (b ∷ [])))

  -- bytes more, one after the other: so it is all one how they are cut
  abbrev pub bytes_in : Stream → List ℕ → Stream
  bytes_in f [] = f
  bytes_in f (b ∷ bs) = bytes_in (byte_in f b) bs

-- an opening or closing of line L that was done begins anew
abbrev pub turned : ℕ → Call → ℕ → Bool
turned L c n = opened c n L || closed c n L

-- the stream of line L in its present opening, of the bytes that its calls used; an event, its answer, the bytes used
abbrev pub streamed : ℕ → Event → ℕ → ℕ → Stream → Stream
streamed L (Plain c) n used f = pick_stream (turned L c n) empty f
streamed L (Feed l bytes t a h) n used f = pick_stream (eqb l L) (bytes_in l t a f (take used bytes)) f

abbrev pub stream_of : ℕ → List Handled → Stream
stream_of L [] = empty
stream_of L (d ∷ ds) = streamed L d.event d.outcome.answer d.used (stream_of L ds)

-- what the log says that line L's calls came to in that opening, the first first
abbrev pub came : ℕ → Event → ℕ → List Call → List Call → List Call
came L (Plain c) n calls cs = cond (turned L c n) [] cs
came L (Feed l bytes t a h) n calls cs = cond (eqb l L) (cs ++ calls) cs

abbrev pub came_to : ℕ → List Handled → List Call
came_to L [] = []
came_to L (d ∷ ds) = came L d.event d.outcome.answer d.calls (came_to L ds)

-- and the bytes that they used
abbrev pub taken : ℕ → Event → ℕ → ℕ → List ℕ → List ℕ
taken L (Plain c) n used bs = cond (turned L c n) [] bs
taken L (Feed l bytes t a h) n used bs = cond (eqb l L) (bs ++ take used bytes) bs

abbrev pub bytes_used : ℕ → List Handled → List ℕ
bytes_used L [] = []
bytes_used L (d ∷ ds) = taken L d.event d.outcome.answer d.used (bytes_used L ds)

-- messages one after the other
abbrev pub bytes_of : List Call → List ℕ
bytes_of [] = []
bytes_of (Open l ∷ cs) = bytes_of cs
bytes_of (Close l ∷ cs) = bytes_of cs
bytes_of (Message l m t a ∷ cs) = m ++ bytes_of cs
bytes_of (Ask n text t a ∷ cs) = bytes_of cs

-- while line L is open: its calls came to the messages of its stream, the line is shut where that says so, and else its
-- held bytes are the bytes of the message that is not whole; and all bytes of these messages were brought in this opening
pub record Framed (L : ℕ) (w : Receiver) : Type 0 where
  pub messages : came_to L w.log ≡ (stream_of L w.log).whole
  pub over : (line_at w.state L).pending.shut ≡ (stream_of L w.log).over
  pub rest : (stream_of L w.log).over ≡ false
      → held_bytes (line_at w.state L) (w.held L) ≡ (stream_of L w.log).rest
  pub this_opening : bytes_used L w.log ≡ bytes_of (came_to L w.log) ++ (stream_of L w.log).rest

-- for every line that was closed at the start, after every list, with held areas as they were left, or too short
abbrev pub Frames : Type 0
Frames =
    (s : Station) (area : List ℕ) (held : ℕ → List ℕ) (L : ℕ) (es : List Event)
    → length s.lines ≡ 8
    → L ≤ 7
    → (line_at s L).live ≡ false
    → FairEvents s.room es
    → (line_at (handle_all (begin s area held) es).state L).live ≡ true
    → Framed L (handle_all (begin s area held) es)

-- from a fresh state no call of any such list is answered 1
abbrev pub NeverOne : Type 0
NeverOne =
    (n : ℕ) (area : List ℕ) (held : ℕ → List ℕ) (es : List Event) (e : Event)
    → FairEvents (fresh n).state.room (es ++ (e ∷ []))
    → (reply_to (handle_all (begin (fresh n).state area held) es) e).answer ≡ 1 → ⊥
