-- With the row put back, every call is the call as it is.
-- Assumes nothing.
use Prim.Native.Nat.{ℕ, ◌≤◌}
use mathlib.Core.Path.{◌≡◌, refl, sym, ap, ◌∙◌}
use mathlib.Core.List.{List, [], ◌∷◌}
use lib.Dec.{eqb}
use lib.ListN.{length}
use borrow.Author.Tests.{eqb-true}
use Rattle.wire.specs.Header.{header_in, kind_of, payload_of, query_type}
use Rattle.protocol.specs.declared.Line.{Line}
use Rattle.protocol.specs.declared.Lookup.{Lookup}
use Rattle.protocol.specs.Memory.{number_in, age_behind}
use Rattle.protocol.specs.Lines.{line_in}
use Rattle.protocol.specs.State.{Station, line_only, line_at, looked_up}
use Rattle.protocol.specs.Outcomes.{Terms, Outcome, Step, hands_up, refused_or, stored}
use Rattle.protocol.specs.Queries.{usual_limit, has_text, query_before, query_taken, query_step}
use Rattle.protocol.specs.Calls.{early, by_type, arriving}
use Rattle.protocol.specs.Runs.{Open, Close, Message, Ask, lent}
use Rattle.protocol.proofs.Outcomes.{of_pick}
use Rattle.protocol.proofs.HopsFull.{row-never-counts}
use Rattle.receiving.specs.Feeding.{front_of, joined, feeding_by, feeding}
use Rattle.receiving.specs.Events.{AsLeft, Lent, Event, Plain, Feed, Receiver, lent_held, handle}
use Rattle.receiving.specs.Events.{handle_all, begin}
use Rattle.hopsfull.specs.PutBack.{query_step_with_row, arriving_with_row, feeding_with_row, SameCalls}
use Rattle.hopsfull.specs.PutBack.{after_call, after_feed, handle_by, handle_all_with_row, handle_all_at, SameLists}

module _ (limit : ℕ) (b : limit ≤ 255) where
  same_step : (room : ℕ) (lines : List Line) (l : ℕ) (k : Lookup) (m route : List ℕ)
      → query_step_with_row limit room lines l k m route ≡ query_step limit room lines l k m route
  unfolding query_step
  same_step room lines l k m route =
      ap (λ n. hands_up (age_behind (query_before limit (header_in m) (has_text (payload_of m))) k)
      (refused_or n (line_only (line_in lines l)) route (query_taken limit room lines l m route)))
      (row-never-counts.never limit b (header_in m) (has_text (payload_of m)) k)

  module _ (s : Station) (l : ℕ) where
    -- what a message does by its type
    abbrev typed : List ℕ → Terms → List ℕ → Step
    typed m t route = by_type limit s.room s.lines l (looked_up s (number_in m)) m t route

    is-query : (m : List ℕ) (t : Terms) (route : List ℕ) → kind_of m ≡ 0x80
        → typed m t route ≡ query_step limit s.room s.lines l (looked_up s (number_in m)) m route
    unfolding by_type
    is-query m t route k = rw k

    same-message : (m : List ℕ) (t : Terms) (route : List ℕ)
        → arriving_with_row limit s l m t route ≡ arriving limit s l m t route
    unfolding arriving
    same-message m t route =
        ap (λ (r : Step). refused_or (early s l m t.out (length route)) s route (stored s l (number_in m) r))
        (of_pick (λ (r : Step). r ≡ typed m t route) (eqb (kind_of m) query_type) _ (typed m t route)
        (λ e. same_step s.room s.lines l (looked_up s (number_in m)) m route
        ∙ sym (is-query m t route (eqb-true (kind_of m) query_type e)))
        (λ _. refl))

    same-scrap : (bytes held : List ℕ) (t : Terms) (route : List ℕ)
        → feeding_with_row limit s l bytes held t route ≡ feeding limit s l bytes held t route
    unfolding feeding
    same-scrap bytes held t route =
        ap (λ (o : Outcome). feeding_by (λ _. o) s l bytes held t route)
        (same-message (front_of (joined (line_at s l) held bytes)) t route)

pub same-calls : SameCalls
same-calls = record { message = same-message; scrap = same-scrap }

-- lists, event by event: with the row and without
module _ (limit : ℕ) (b : limit ≤ 255) where
  same-event : (w : Receiver) (e : Event)
      → handle_by limit (arriving_with_row limit) (feeding_with_row limit) w e
      ≡ handle_by limit (arriving limit) (feeding limit) w e
  same-event w (Plain (Open l)) = refl
  same-event w (Plain (Close l)) = refl
  same-event w (Plain (Message l m t a)) =
      ap (after_call w (Message l m t a)) (same-message limit b w.state l m t (lent a w.area))
  same-event w (Plain (Ask number text t a)) = refl
  same-event w (Feed l bytes t a h) =
      ap (after_feed w l bytes t a h)
      (same-scrap limit b w.state l bytes (lent_held h (w.held l)) t (lent a w.area))

  same-list : (w : Receiver) (es : List Event) → handle_all_with_row limit w es ≡ handle_all_at limit w es
  same-list w [] = refl
  same-list w (e ∷ es) =
      ap (λ w. handle_all_with_row limit w es) (same-event w e)
      ∙ same-list (handle_by limit (arriving limit) (feeding limit) w e) es

-- and as the calls have it
pub usual-event : (w : Receiver) (e : Event)
    → handle_by usual_limit (arriving usual_limit) (feeding usual_limit) w e ≡ handle w e
usual-event w (Plain (Open l)) = refl
usual-event w (Plain (Close l)) = refl
usual-event w (Plain (Message l m t a)) = refl
usual-event w (Plain (Ask number text t a)) = refl
usual-event w (Feed l bytes t a AsLeft) = refl
usual-event w (Feed l bytes t a (Lent x)) = refl

usual-list : (w : Receiver) (es : List Event) → handle_all_at usual_limit w es ≡ handle_all w es
usual-list w [] = refl
usual-list w (e ∷ es) = ap (λ w. handle_all_at usual_limit w es) (usual-event w e) ∙ usual-list (handle w e) es

pub same_lists : SameLists
same_lists =
    record {
      lists = λ limit b s area held es. same-list limit b (begin s area held) es;
      usual = λ s area held es. usual-list (begin s area held) es;
    }
