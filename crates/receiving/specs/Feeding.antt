-- A call that brings bytes of a line as they come. What the line has brought of a message that is not whole stands at
-- the front of its held area, an area of 4,119 bytes that is lent with each such call; its record has how many bytes
-- that are, and whether the line is shut. A call takes at most to the end of one message.
-- Held bytes and the bytes brought are read as one list, and the message at its front is dealt with as the
-- whole-message call deals with it.
use Rattle.std.specs.Prelude.{ℕ, ◌+◌, ◌-◌, Bool, true, false, cond, not, ◌||◌, List, [], ◌∷◌, ◌++◌, eqb, ltb, length, take}
use Rattle.laws.specs.Tests.{first_of}
use Rattle.laws.specs.Parts.{over}
use Rattle.wire.specs.Header.{header_size, largest_message, size_of}
use Rattle.protocol.specs.declared.Line.{Line}
use Rattle.protocol.specs.Lines.{with_pending}
use Rattle.protocol.specs.State.{Station, line_at, with_line}
use Rattle.protocol.specs.Order.{in_order}
use Rattle.protocol.specs.Outcomes.{Terms, Result, Outcome, quiet, leaving}
use Rattle.protocol.specs.Queries.{usual_limit}
use Rattle.protocol.specs.Calls.{unfit_areas, not_open, extent_rules, arriving}

-- the least held area: the largest message has room
abbrev pub held_size : ℕ
held_size = largest_message

-- what bytes are of a message: 4 where they end before it does, 5 where its header has too large a payload, and 0 where
-- it stands whole at their front
unfoldable pub extent_of : List ℕ → ℕ
extent_of b = first_of (extent_rules (length b) (size_of b))

-- they start one, and do not end it
abbrev pub starts : List ℕ → Bool
starts b = eqb (extent_of b) 4

-- the message at their front, of so many bytes; where the header has too large a payload, that header
abbrev pub size_at_front : List ℕ → ℕ
size_at_front b = cond (eqb (extent_of b) 5) header_size (header_size + size_of b)

abbrev pub front_of : List ℕ → List ℕ
front_of b = take (size_at_front b) b

-- the held bytes of a line, and with those that are brought now
abbrev pub held_bytes : Line → List ℕ → List ℕ
held_bytes x held = take x.pending.count held

abbrev pub joined : Line → List ℕ → List ℕ → List ℕ
joined x held bytes = held_bytes x held ++ bytes

-- the refusals before the bytes count: state, areas, line, line shut, held bytes that start no message
abbrev pub feed_rules : Bool → ℕ → ℕ → ℕ → ℕ → ℕ → Line → Bool → List (Bool × ℕ)
feed_rules order room out route held l x start =
    (not order, 1)
    ∷ (unfit_areas room out route || ltb held held_size, 2)
    ∷ (not_open l x.live, 3)
    ∷ (x.pending.shut, 19)
    ∷ (not start, 1)
    ∷ []

-- what stands where the answer would be while the message is not whole: no answer has this number
abbrev pub waiting : ℕ
waiting = 255

-- a line that has brought so many bytes of a message, and one that is shut
abbrev pub holding : ℕ → Line → Line
holding n x = with_pending x (record { count = n; shut = x.pending.shut })

abbrev pub shut_line : Line → Line
shut_line x = with_pending x (record { count = 0; shut = true })

-- the state with this made of its line l
abbrev pub on_line : (Line → Line) → ℕ → Station → Station
on_line f l s = with_line s l (f (line_at s l))

-- the result as of a call with a whole message, the bytes used of those that were brought, the held area after the
-- call, whether the message that was taken stands there (else it stands where the bytes were brought), and whether the
-- call only waits
pub record Fed (S : Type 0) : Type 0 where
  pub result : Result S
  pub used : ℕ
  pub held : List ℕ
  pub within : Bool
  pub waits : Bool

abbrev pub pick_fed : {S : Type 0} → Bool → Fed S → Fed S → Fed S
pick_fed true a b = a
pick_fed false a b = b

-- h bytes are held, these are brought, with this held area and this route area
module _ {S : Type 0} (h : ℕ) (bytes held route : List ℕ) where
  -- nothing is used, and nothing changes
  abbrev pub refused_feed : ℕ → S → Fed S
  refused_feed n s = record { result = quiet n s route; used = 0; held = held; within = false; waits = false }

  -- all bytes are used, and stand behind the held ones
  abbrev pub waiting_feed : S → Fed S
  waiting_feed s =
      record {
        result = quiet waiting s route;
        used = length bytes;
        held = over h bytes held;
        within = false;
        waits = true;
      }

  -- the header is used
  abbrev pub over_feed : S → Fed S
  over_feed s =
      record { result = quiet 5 s route; used = header_size - h; held = held; within = false; waits = false }

  -- the bytes of a message of n bytes are used; where some of it were held, it stands in the held area in one piece
  abbrev pub whole_feed : ℕ → Result S → Fed S
  whole_feed n r =
      record {
        result = r;
        used = n - h;
        held = cond (ltb 0 h) (over h (take (n - h) bytes) held) held;
        within = ltb 0 h;
        waits = false;
      }

  -- by the first refusal, and by what the bytes are of a message of n bytes: what is left of the state where the call
  -- is refused, where it waits and where the payload is too large, and the result of a whole message
  abbrev pub feed_by : ℕ → ℕ → ℕ → S → S → S → Result S → Fed S
  feed_by refusal extent n same more shut whole =
      pick_fed (eqb refusal 0)
      (pick_fed (eqb extent 4) (waiting_feed more) (pick_fed (eqb extent 5) (over_feed shut) (whole_feed n whole)))
      (refused_feed refusal same)

abbrev pub feed_refusal : Station → ℕ → List ℕ → ℕ → ℕ → ℕ
feed_refusal s l held out route =
    first_of (feed_rules (in_order s) s.room out route (length held) l (line_at s l)
    (starts (held_bytes (line_at s l) held)))

-- the outcome of a call, with nothing held of line l
abbrev pub dropped : ℕ → Outcome → Outcome
dropped l o = leaving (on_line (holding 0) l o.state) o

-- bytes by line l, where this is the call with the message at their front
abbrev pub feeding_by : (List ℕ → Outcome) → Station → ℕ → List ℕ → List ℕ → Terms → List ℕ → Fed Station
feeding_by call s l bytes held t route =
    feed_by (line_at s l).pending.count bytes held route
    (feed_refusal s l held t.out (length route))
    (extent_of (joined (line_at s l) held bytes))
    (size_at_front (joined (line_at s l) held bytes))
    s
    (on_line (holding ((line_at s l).pending.count + length bytes)) l s)
    (on_line shut_line l s)
    (dropped l (call (front_of (joined (line_at s l) held bytes))))

-- bytes by line l
unfoldable pub feeding : ℕ → Station → ℕ → List ℕ → List ℕ → Terms → List ℕ → Fed Station
feeding limit s l bytes held t route = feeding_by (λ m. arriving limit s l m t route) s l bytes held t route

-- with the usual limit
abbrev pub feed_outcome : Station → ℕ → List ℕ → List ℕ → Terms → List ℕ → Fed Station
feed_outcome = feeding usual_limit
