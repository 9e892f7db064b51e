-- The calls with the row for 12 put back behind the checks of a query (protocol, specs/HopsFull), where it stood until
-- it was shown to count for nothing. Each of them is the call as it is, in all that it gives.
use Rattle.std.specs.Prelude.{ℕ, ◌≤◌, ◌≡◌, cond, ◌||◌, List, [], ◌∷◌, eqb, length}
use Rattle.laws.specs.Tests.{first_of}
use Rattle.wire.specs.Header.{header_in, kind_of, payload_of, query_type}
use Rattle.protocol.specs.declared.Line.{Line}
use Rattle.protocol.specs.declared.Lookup.{Lookup}
use Rattle.protocol.specs.Memory.{number_in, age_behind}
use Rattle.protocol.specs.Lines.{line_in}
use Rattle.protocol.specs.State.{Station, line_only, looked_up}
use Rattle.protocol.specs.Outcomes.{Terms, Outcome, Step, hands_up, refused_or, pick_result, stored}
use Rattle.protocol.specs.Queries.{usual_limit, has_text, query_before, query_taken}
use Rattle.protocol.specs.Calls.{opening, closing, early, by_type, arriving, asking}
use Rattle.protocol.specs.Runs.{Area, Call, Open, Close, Message, Ask, lent, kept_area, area_after}
use Rattle.protocol.specs.HopsFull.{rules_with_row}
use Rattle.receiving.specs.Feeding.{Fed, feeding_by, feeding}
use Rattle.receiving.specs.Events.{HeldArea, AsLeft, Lent, Event, Plain, Feed, Receiver, lent_held, unread, whole_call}
use Rattle.receiving.specs.Events.{handle_all, begin}

-- an arriving query by line l, of whose number the look-up found k
abbrev pub query_step_with_row : ℕ → ℕ → List Line → ℕ → Lookup → List ℕ → List ℕ → Step
query_step_with_row limit room lines l k m route =
    hands_up (age_behind (query_before limit (header_in m) (has_text (payload_of m))) k)
    (refused_or (first_of (rules_with_row limit (header_in m) (has_text (payload_of m)) k))
    (line_only (line_in lines l)) route (query_taken limit room lines l m route))

-- a message by line l: a query is dealt with so, and any other as it is
abbrev pub arriving_with_row : ℕ → Station → ℕ → List ℕ → Terms → List ℕ → Outcome
arriving_with_row limit s l m t route =
    refused_or (early s l m t.out (length route)) s route
    (stored s l (number_in m)
    (pick_result (eqb (kind_of m) query_type)
    (query_step_with_row limit s.room s.lines l (looked_up s (number_in m)) m route)
    (by_type limit s.room s.lines l (looked_up s (number_in m)) m t route)))

-- bytes by line l, of which the message at the front is dealt with so
abbrev pub feeding_with_row : ℕ → Station → ℕ → List ℕ → List ℕ → Terms → List ℕ → Fed Station
feeding_with_row limit s l bytes held t route =
    feeding_by (λ m. arriving_with_row limit s l m t route) s l bytes held t route

-- in every state, in order or not, at every limit that a byte holds: answer, state, lines, bytes written, areas, text,
-- delivery and age are the same; and bytes used, held area and whether the call waits
pub record SameCalls : Type 0 where
  pub message : (limit : ℕ) → limit ≤ 255 → (s : Station) (l : ℕ) (m : List ℕ) (t : Terms) (route : List ℕ)
      → arriving_with_row limit s l m t route ≡ arriving limit s l m t route
  pub scrap : (limit : ℕ) → limit ≤ 255 → (s : Station) (l : ℕ) (bytes held : List ℕ) (t : Terms) (route : List ℕ)
      → feeding_with_row limit s l bytes held t route ≡ feeding limit s l bytes held t route

-- Lists: what stands after a whole-message call with this outcome, and after a call with bytes that gave this; as
-- `handle` has it
abbrev pub after_call : Receiver → Call → Outcome → Receiver
after_call w c o =
    record {
      state = o.state;
      area = area_after c w.area o.route;
      held = w.held;
      log = record { event = Plain c; outcome = o; used = 0; calls = c ∷ [] } ∷ w.log;
    }

abbrev pub held_by : HeldArea → ℕ → List ℕ → (ℕ → List ℕ) → ℕ → List ℕ
held_by AsLeft l after held k = cond (eqb k l) after (held k)
held_by (Lent x) l after held k = held k

abbrev pub after_feed : Receiver → ℕ → List ℕ → Terms → Area → HeldArea → Fed Station → Receiver
after_feed w l bytes t a h f =
    record {
      state = f.result.state;
      area = kept_area a w.area f.result.route;
      held = held_by h l f.held w.held;
      log = record {
        event = Feed l bytes t a h;
        outcome = f.result;
        used = f.used;
        calls = cond (f.waits || unread f.result.answer) [] (whole_call w l bytes t a h ∷ []);
      } ∷ w.log;
    }

-- an event where own queries have this limit and these are the calls with a whole message and with bytes; and a list
-- of events
module _ (limit : ℕ) (message : Station → ℕ → List ℕ → Terms → List ℕ → Outcome)
    (feed : Station → ℕ → List ℕ → List ℕ → Terms → List ℕ → Fed Station) where
  abbrev pub handle_by : Receiver → Event → Receiver
  handle_by w (Plain (Open l)) = after_call w (Open l) (opening w.state l)
  handle_by w (Plain (Close l)) = after_call w (Close l) (closing w.state l)
  handle_by w (Plain (Message l m t a)) =
      after_call w (Message l m t a) (message w.state l m t (lent a w.area))
  handle_by w (Plain (Ask number text t a)) =
      after_call w (Ask number text t a) (asking limit w.state number text t.out (lent a w.area))
  handle_by w (Feed l bytes t a h) =
      after_feed w l bytes t a h (feed w.state l bytes (lent_held h (w.held l)) t (lent a w.area))

  abbrev pub handle_all_by : Receiver → List Event → Receiver
  handle_all_by w [] = w
  handle_all_by w (e ∷ es) = handle_all_by (handle_by w e) es

-- lists at a limit, with the row put back and without
abbrev pub handle_all_with_row : ℕ → Receiver → List Event → Receiver
handle_all_with_row limit = handle_all_by limit (arriving_with_row limit) (feeding_with_row limit)

abbrev pub handle_all_at : ℕ → Receiver → List Event → Receiver
handle_all_at limit = handle_all_by limit (arriving limit) (feeding limit)

-- every list from any state, with any areas, leaves the same: state, areas, held bytes, and the log of all outcomes; at
-- the usual limit, what the calls leave
pub record SameLists : Type 0 where
  pub lists : (limit : ℕ) → limit ≤ 255
      → (s : Station) (area : List ℕ) (held : ℕ → List ℕ) (es : List Event)
      → handle_all_with_row limit (begin s area held) es ≡ handle_all_at limit (begin s area held) es
  pub usual : (s : Station) (area : List ℕ) (held : ℕ → List ℕ) (es : List Event)
      → handle_all_at usual_limit (begin s area held) es ≡ handle_all (begin s area held) es
