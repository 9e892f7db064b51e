-- Lists of calls, evaluated: what queries and hits with many Hops are answered, and the tally of it. They show that
-- the statements of this crate speak of something. The state is that of crate ages: lines 0 and 1 are open, and
-- queries A, B and C have come by line 0.
use Rattle.std.specs.Prelude.{ℕ, ◌-◌, ◌≡◌, List, [], ◌∷◌, map, replicate, take, drop, get_or}
use Rattle.wire.specs.Header.{message}
use Rattle.protocol.specs.State.{Station}
use Rattle.protocol.specs.Queries.{usual_limit}
use Rattle.protocol.specs.Calls.{arriving}
use Rattle.protocol.specs.Runs.{Call, Same}
use Rattle.receiving.specs.Feeding.{feeding}
use Rattle.receiving.specs.Events.{AsLeft, Event, Plain, Feed, Receiver, reply_to, handle, begin}
use Rattle.ages.specs.Sessions.{A, D, terms, number, hit, by, asks, three, wrong}
use Rattle.tally.specs.Counts.{answer_count}
use Rattle.tallyhistory.specs.Calls.{answers_of, tally_of}
use Rattle.hopsfull.specs.PutBack.{arriving_with_row, feeding_with_row, handle_all_with_row, handle_all_at}

-- a query with these bytes behind its speed: one letter and a zero, or the letter alone
unfoldable pub query_of : List ℕ → List ℕ → ℕ → List ℕ
query_of behind x hops = message x 0x80 3 hops (0 ∷ 0 ∷ behind)

abbrev pub query : List ℕ → ℕ → List ℕ
query = query_of (0x65 ∷ 0 ∷ [])

abbrev pub endless : List ℕ → ℕ → List ℕ
endless = query_of (0x65 ∷ [])

abbrev pub E : List ℕ
E = number 0xE

-- queries by line 0: Hops 255 of one that is new, of one without a zero byte, and of one that is remembered; Hops 7
-- and 6. Hits by line 1 that would go back to line 0: Hops 255 with TTL 2, Hops 254, Hops 255 with TTL 1. Then E is
-- asked here, and a hit of it with Hops 255 is delivered
unfoldable pub calls : List Call
calls =
    by 0 (query D 255)
    ∷ by 0 (endless D 255)
    ∷ by 0 (query A 255)
    ∷ by 0 (query D 7)
    ∷ by 0 (query D 6)
    ∷ by 1 (hit A 2 255 27)
    ∷ by 1 (hit A 2 254 27)
    ∷ by 1 (hit A 1 255 27)
    ∷ asks E (0x65 ∷ [])
    ∷ by 1 (hit E 1 255 27)
    ∷ []

-- a message by line l at a limit, of this state, as it is and with the row put back
abbrev pub at : ℕ → Station → ℕ → List ℕ → ℕ
at limit s l m = (arriving limit s l m terms (replicate 32 0)).answer

abbrev pub at_with_row : ℕ → Station → ℕ → List ℕ → ℕ
at_with_row limit s l m = (arriving_with_row limit s l m terms (replicate 32 0)).answer

-- bytes by line 0 with nothing held, the same
abbrev pub fed_at : ℕ → List ℕ → ℕ
fed_at limit m = (feeding limit three.state 0 m (replicate 4119 0) terms (replicate 32 0)).result.answer

abbrev pub fed_at_with_row : ℕ → List ℕ → ℕ
fed_at_with_row limit m = (feeding_with_row limit three.state 0 m (replicate 4119 0) terms (replicate 32 0)).result.answer

-- in two scraps: what the second is answered
abbrev pub scrap : ℕ → List ℕ → Event
scrap l bytes = Feed l bytes terms Same AsLeft

abbrev pub receiver : Receiver
receiver = begin three.state (replicate 32 0) (λ k. replicate 4119 0)

abbrev pub whole : List Event
whole = Plain (by 0 (query D 255)) ∷ []

abbrev pub cut : List Event
cut = scrap 0 (take 25 (query D 255)) ∷ scrap 0 (drop 25 (query D 255)) ∷ []

abbrev pub last_of : Receiver → ℕ
last_of w = get_or (map (λ d. d.outcome.answer) w.log) 0 255

abbrev pub in_two : ℕ → List ℕ → ℕ
in_two l m = (reply_to (handle receiver (scrap l (take 25 m))) (scrap l (drop 25 m))).answer

pub record Evaluated : Type 0 where
  pub answers : answers_of three calls ≡ 8 ∷ 6 ∷ 8 ∷ 8 ∷ 0 ∷ 12 ∷ 0 ∷ 8 ∷ 0 ∷ []
  -- three were answered 0, one 6, four 8; and row 12 has one
  pub tally : tally_of three calls
      ≡ 3 ∷ 0 ∷ 0 ∷ 0 ∷ 0 ∷ 0 ∷ 1 ∷ 0 ∷ 4 ∷ 0 ∷ 0 ∷ 0 ∷ 1 ∷ replicate (answer_count - 13) 0
  pub disorder : (at usual_limit wrong 0 (query D 255) ≡ 1) × (at usual_limit wrong 1 (hit A 2 255 27) ≡ 1)
  pub scraps : (in_two 0 (query D 255) ≡ 8) × (in_two 1 (hit A 2 255 27) ≡ 12)
  -- the largest limit of a byte: Hops 254 are taken, and 255 are one too many, with the row and without. At 256 the
  -- two would differ
  pub limits : (at 255 three.state 0 (query D 254) ≡ 0)
      × (at 255 three.state 0 (query D 255) ≡ 8)
      × (at_with_row 255 three.state 0 (query D 255) ≡ 8)
      × (at 256 three.state 0 (query D 255) ≡ 0)
      × (at_with_row 256 three.state 0 (query D 255) ≡ 12)
  pub fed_limits : (fed_at 255 (query D 255) ≡ 8)
      × (fed_at_with_row 255 (query D 255) ≡ 8)
      × (fed_at 256 (query D 255) ≡ 0)
      × (fed_at_with_row 256 (query D 255) ≡ 12)
  -- the last answers of lists of a whole query and one in two scraps
  pub list_limits : (last_of (handle_all_at 256 receiver whole) ≡ 0)
      × (last_of (handle_all_with_row 256 receiver whole) ≡ 12)
      × (last_of (handle_all_at 256 receiver cut) ≡ 0)
      × (last_of (handle_all_with_row 256 receiver cut) ≡ 12)
