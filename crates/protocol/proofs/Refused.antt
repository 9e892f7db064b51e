-- A refusal leaves what stands; a state out of order is answered 1.
-- Assumes nothing.
use Prim.Native.Nat.{ℕ, ◌*◌, ◌≤◌}
use native.Mathlib.Omega.{arith}
use mathlib.Core.Path.{◌≡◌, refl, sym, ap, ◌∙◌}
use mathlib.Core.Bool.{Bool, true, false, cond, ◌&&◌, and-false}
use mathlib.Core.List.{List, []}
use lib.Dec.{eqb, leb, ltb}
use lib.ListN.{length, get_or-replicate, get_or-eq_default}
use borrow.Author.Tests.{leb-true, lt-leb, lt-ltb, le-ltb, ltb-true, ltb-false}
use Rattle.laws.specs.Tests.{first_of}
use Rattle.laws.specs.Parts.{over}
use Rattle.laws.specs.Ring.{kept_places}
use Rattle.laws.proofs.Refusals.{and_snd, and_intro}
use Rattle.laws.proofs.Overlay.{over-same-front}
use Rattle.wire.specs.Header.{kind_of, ttl_of, hops_of, payload_of, route_update}
use Rattle.tables.specs.Tables.{Held}
use Rattle.tables.specs.Updates.{broken_by}
use Rattle.protocol.specs.declared.Age.{Age}
use Rattle.protocol.specs.Memory.{queries_in, no_age}
use Rattle.protocol.specs.State.{Station, line_at, with_line, held_at}
use Rattle.protocol.specs.Lines.{line_count, empty_line, nowhere, with_table, stored_pongs}
use Rattle.protocol.specs.Outcomes.{Terms, Outcome, quiet, hands_up, refused_or, unused}
use Rattle.protocol.specs.Queries.{usual_limit}
use Rattle.protocol.specs.Calls.{fresh_lines, fresh, opening, closed_state, closing}
use Rattle.protocol.specs.Calls.{early, update_step, arriving, own_age, own_answer, own_taken, asking}
use Rattle.protocol.specs.Kept.{OutOfOrder, marks_broken, broken_at, after_refusal, RefusedQuietly, RefusalsLeave}
use Rattle.protocol.specs.Kept.{RefusalFrame}
use Rattle.protocol.specs.Frames.{Bare}
use Rattle.protocol.proofs.Updates.{by-update, update-range}
use Rattle.protocol.proofs.Outcomes.{of_refused, opening_in, closing_in}
use Rattle.protocol.proofs.ByType.{update_number, update_done, of_types, of_message}
use Rattle.protocol.proofs.Kept.{fresh_in_order}
use Rattle.protocol.proofs.Opened.{quiet-silent, bare-at}

-- out of order
pub out_of_order : OutOfOrder
unfolding opening closing arriving early asking own_answer
out_of_order s o =
    record {
      opens = λ l. rw o;
      closes = λ l. rw o;
      message = λ l m t route. rw o;
      asks = λ number text out route. rw o;
    }

-- refused by a list of rules, or else answered 0; and the same with an age
rules-leave : (s : Station) (route : List ℕ) (n : ℕ) (o : Outcome) → o.answer ≡ 0
    → RefusedQuietly (refused_or n s route o) (λ n. s) route
rules-leave s route n o e =
    of_refused (λ r. RefusedQuietly r (λ n. s) route) n s route o (λ _ h. absurd (h e)) (λ _ _. refl)

aged-leave : (a : Age) (s : Station) (route : List ℕ) (n : ℕ) (o : Outcome) → o.answer ≡ 0
    → RefusedQuietly (hands_up a (refused_or n s route o)) (λ n. s) route
aged-leave a s route n o e =
    of_refused (λ r. RefusedQuietly (hands_up a r) (λ n. s) route) n s route o (λ _ h. absurd (h e)) (λ _ _. refl)

-- of a message it may leave the line's table marked broken
module _ (s : Station) (l : ℕ) (m route : List ℕ) where
  abbrev Leaves : Outcome → Type 0
  Leaves o = RefusedQuietly o (λ n. after_refusal n s l m) route

  -- the state after a refusal by n, told whether that marks the table
  left_by : (n : ℕ) (a : Age) (b : Bool) → marks_broken n m ≡ b
      → hands_up a (quiet n (cond b (broken_at s l) s) route) ≡ hands_up a (quiet n (after_refusal n s l m) route)
  left_by n a b e = ap (λ c. hands_up a (quiet n (cond c (broken_at s l) s) route)) (sym e)

  not-marked : (n : ℕ) (a : Age) → eqb (kind_of m) route_update ≡ false → Leaves (hands_up a (quiet n s route))
  not-marked n a k _ = left_by n a false (ap (λ b. b && (leb 14 n && leb n 16)) k)

  early-leaves : (n : ℕ) → unused n ≡ true → Leaves (quiet n s route)
  early-leaves n u _ =
      let a : n ≤ 5 = leb-true n 5 (and_snd (leb 1 n) (leb n 5) u) in
      let update : Bool = eqb (kind_of m) route_update in
      left_by n no_age false (ap (λ c. update && (c && leb n 16)) (lt-leb 14 n (omega arith)) ∙ and-false update)

  update-leaves : eqb (kind_of m) route_update ≡ true → Leaves (update_done s l m route)
  unfolding update_step broken_by
  update-leaves k ne =
      by-update
      (λ n (g : Held). (n ≡ 0 → ⊥)
      → quiet n (with_line s l (with_table (line_at s l) g.table)) (over (l * s.room) g.entries route)
      ≡ quiet n (broken_at s l) route)
      s.room (held_at s l route) (ttl_of m) (hops_of m) (payload_of m)
      (λ _ h. absurd (h refl))
      (λ _ h. absurd (h refl))
      (λ n _ _. ap (quiet n (broken_at s l)) (over-same-front (l * s.room) (line_at s l).table.length s.room route))
      ne
      ∙ left_by n no_age true (and_intro (eqb (kind_of m) route_update) (leb 14 n && leb n 16) k range)
    where
      n : ℕ
      n = update_number s l m route

      range : (leb 14 n && leb n 16) ≡ true
      range = update-range s.room (held_at s l route) (ttl_of m) (hops_of m) (payload_of m) ne

  message-leaves : (limit : ℕ) (t : Terms) → Leaves (arriving limit s l m t route)
  message-leaves limit t =
      of_message Leaves s l m route limit t early-leaves
      (λ _. of_types Leaves s l m route (λ n a r. not-marked n a r.type) limit t
      (λ _ _ h. absurd (h refl))
      (λ _ _ h. absurd (h refl))
      update-leaves
      (λ _ _ h. absurd (h refl))
      (λ _ _ h. absurd (h refl)))

calls-leave : (s : Station) → RefusalsLeave s
unfolding opening closing asking
calls-leave s =
    record {
      opens = λ l. rules-leave s [] (first_of (opening_in s l)) (quiet 0 (with_line s l (empty_line true)) []) refl;
      closes = λ l. rules-leave s [] (first_of (closing_in s l)) (quiet 0 (closed_state s l) []) refl;
      message = λ l m t route. message-leaves s l m route usual_limit t;
      asks = λ number text out route.
          aged-leave (own_age s number text out (length route)) s route (own_answer s number text out (length route))
          (own_taken usual_limit s number text route) refl;
    }

-- a fresh state is made whatever its answer
fresh-bare : (n l : ℕ) → Bare false (line_at (fresh n).state l)
unfolding fresh stored_pongs kept_places
fresh-bare n l = go (ltb l line_count) refl
  where
    go : (b : Bool) → ltb l line_count ≡ b → Bare false (line_at (fresh n).state l)
    go true e =
        bare-at false (line_at (fresh n).state l)
        (get_or-replicate line_count l (empty_line false) nowhere (ltb-true l line_count e))
    go false e =
        rw (get_or-eq_default fresh_lines nowhere {n = l} (ltb-false l line_count e))
        (record { is_live = refl; mark = refl; pongs = refl; unpinged = refl; unheld = refl; unshut = refl })

pub refusal-frame : RefusalFrame
unfolding fresh queries_in kept_places
refusal-frame =
    record {
      calls = calls-leave;
      quietly = λ n a s route.
          record { answer = refl; state = refl; route' = refl; silent = quiet-silent n a s route };
      fresh_refused = λ n h.
          record {
            answer = rw (lt-ltb n 32 h);
            room = rw (lt-ltb n 32 h);
            lines = fresh-bare n;
            memory = refl;
            order = (fresh_in_order n).order;
          };
      fresh_taken = λ n h. rw (le-ltb n 32 h) (refl, refl);
    }
