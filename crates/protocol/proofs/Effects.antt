-- What each call does to the memory and the lines: it takes a query, closes a line, answers a query, or none of these.
-- Assumes nothing.
use Prim.Native.Nat.{ℕ, ◌≤◌, ◌<◌}
use native.Mathlib.Omega.{arith}
use mathlib.Core.Path.{◌≡◌, refl, sym, ap, ◌∙◌}
use mathlib.Core.Bool.{true, false, ◌&&◌, and-false, and-true}
use mathlib.Core.Logic.{◌⊎◌, inl, inr}
use mathlib.Core.List.{List, [], ◌∷◌, map}
use lib.Dec.{eqb}
use lib.ListN.{length, take}
use lib.Seq.{get_or-set_other}
use borrow.Author.Tests.{lt-ltb, eqb-false, ne_eqb}
use Rattle.laws.specs.Tests.{first_of}
use Rattle.laws.proofs.Refusals.{clash, of_choice, no-refusal, NoRefusal}
use Rattle.wire.specs.Header.{header_in, kind_of, route_update, query_type, hit_type, ping_type, pong_type}
use Rattle.protocol.specs.declared.Age.{Age}
use Rattle.protocol.specs.declared.Line.{Line}
use Rattle.protocol.specs.Memory.{capacity, here, Number, number_in, same_number, no_age}
use Rattle.protocol.specs.State.{Station, remembered, seen, looked_up, line_at, with_line}
use Rattle.protocol.specs.Lines.{line_count, empty_line, nowhere}
use Rattle.protocol.specs.Order.{in_order}
use Rattle.protocol.specs.Outcomes.{Terms, Outcome, quiet, hands_up}
use Rattle.protocol.specs.Queries.{usual_limit}
use Rattle.protocol.specs.Pings.{is_probe, time_kept}
use Rattle.protocol.specs.Calls.{opening, closed_state, closing}
use Rattle.protocol.specs.Calls.{update_step, arrived, arriving, own_age, own_answer, own_taken, asking}
use Rattle.protocol.specs.Runs.{Area, Call, Open, Close, Message, Ask, World, lent, outcome_of}
use Rattle.protocol.specs.Kept.{Sized, asked, left_by, hit_by}
use Rattle.protocol.specs.Demand2.{took, brought_number, brought_by, opened, closed, got_hit}
use Rattle.protocol.proofs.Outcomes.{of_refused, opening_in, closing_in, other-type, unused-some}
use Rattle.protocol.proofs.Outcomes.{is_open, is-closed, LetIn, asked_in}
use Rattle.protocol.proofs.ByType.{ping_done, pong_done, update_done, query_done, hit_done, query_in}
use Rattle.protocol.proofs.ByType.{hit_in}
use Rattle.protocol.proofs.ByType.{of_types, of_message}
use Rattle.protocol.proofs.Memory.{remembered-left}
use Rattle.protocol.proofs.InOrder.{fits_in, state_facts}
use Rattle.protocol.proofs.Places.{remembered-hit}
use Rattle.protocol.proofs.Answered.{FoundFew, found-few}
use Rattle.protocol.proofs.Kept.{open_still, remembered-one}

-- What a call does to the memory: it takes a query, closes a line, answers a query by a hit, or none of these
pub record Takes (s : Station) (c : Call) (o : Outcome) : Type 0 where
  pub taken : took c o.answer ≡ true
  pub unclosed : (l : ℕ) → closed c o.answer l ≡ false
  pub unanswered : (x : Number) → got_hit c o.answer x ≡ false
  pub memory : remembered o.state ≡ take capacity (asked (brought_number c) (brought_by c) ∷ remembered s)
  pub unseen : seen s (brought_number c) ≡ false
  pub fits : fits_in s (brought_by c) ≡ true

pub record Closes (s : Station) (c : Call) (o : Outcome) : Type 0 where
  pub passed : took c o.answer ≡ false
  pub line : ℕ
  pub below : line ≤ 7
  pub closes : (l : ℕ) → closed c o.answer l ≡ eqb l line
  pub unanswered : (x : Number) → got_hit c o.answer x ≡ false
  pub memory : remembered o.state ≡ map (left_by line) (remembered s)

pub record Answers (s : Station) (c : Call) (o : Outcome) : Type 0 where
  pub passed : took c o.answer ≡ false
  pub unclosed : (l : ℕ) → closed c o.answer l ≡ false
  pub answers : (x : Number) → got_hit c o.answer x ≡ same_number x (brought_number c)
  pub memory : remembered o.state ≡ map (hit_by (brought_number c)) (remembered s)

pub record Passes (s : Station) (c : Call) (o : Outcome) : Type 0 where
  pub passed : took c o.answer ≡ false
  pub unclosed : (l : ℕ) → closed c o.answer l ≡ false
  pub unanswered : (x : Number) → got_hit c o.answer x ≡ false
  pub memory : remembered o.state ≡ remembered s

-- and an open line that it does not close stays open, and is not opened again
pub record Effect (s : Station) (c : Call) (o : Outcome) : Type 0 where
  pub does : Takes s c o ⊎ (Closes s c o ⊎ (Answers s c o ⊎ Passes s c o))
  pub stays : (l : ℕ) → (line_at s l).live ≡ true → closed c o.answer l ≡ false
      → (opened c o.answer l ≡ false) × ((line_at o.state l).live ≡ true)

-- a refused call takes, closes, opens and answers nothing
not_done : (c : Call) (n : ℕ) → eqb n 0 ≡ false
    → (took c n ≡ false) × ((l : ℕ) → (closed c n l ≡ false) × (opened c n l ≡ false))
    × ((x : Number) → got_hit c n x ≡ false)
not_done (Open k) n e = (refl, λ l. (refl, rw (e, and-false)), λ _. refl)
not_done (Close k) n e = (refl, λ l. (rw (e, and-false), refl), λ _. refl)
not_done (Message k m t a) n e = (rw (e, and-false), λ l. (refl, refl), λ _. rw (e, and-false))
not_done (Ask number text t a) n e = (e, λ l. (refl, refl), λ _. refl)

refused_effect : (s : Station) (c : Call) (n : ℕ) (a : Age) (route : List ℕ) → (n ≡ 0 → ⊥)
    → Effect s c (hands_up a (quiet n s route))
refused_effect s c n a route ne =
    let h = not_done c n (ne_eqb n 0 ne) in
    record {
      does = inr (inr (inr (record {
        passed = h.0;
        unclosed = λ l. (h.1 l).0;
        unanswered = h.2;
        memory = refl;
      })));
      stays = λ l v _. ((h.1 l).1, v);
    }

-- an arriving message that was let in
module _ (s : Station) (z : Sized s) (o : in_order s ≡ true) (l : ℕ) (m : List ℕ) (t : Terms) (a : Area) (route : List ℕ)
    (d : LetIn s l m (length route)) where
  abbrev c : Call
  c = Message l m t a

  -- neither a query nor a hit: the line's record is set
  passes_line : (k : ℕ) → eqb (kind_of m) k ≡ true → eqb k query_type ≡ false → eqb k hit_type ≡ false
      → (r : Outcome) (x : Line) → r.state ≡ with_line s l x → ((line_at s l).live ≡ true → x.live ≡ true)
      → Effect s c r
  passes_line k e n h r x y v =
      record {
        does = inr (inr (inr (record {
          passed = ap (λ b. b && eqb r.answer 0) (other-type m k query_type e n);
          unclosed = λ _. refl;
          unanswered = λ a. ap (λ b. b && (eqb r.answer 0 && same_number a (number_in m)))
              (other-type m k hit_type e h);
          memory = ap remembered y;
        })));
        stays = λ j w _. (refl, ap (λ (q : Station). (line_at q j).live) y ∙ open_still s z o l d.line x v j w);
      }

  hit_effect : eqb (kind_of m) hit_type ≡ true → NoRefusal (hit_in s m) → Effect s c (hit_done s l m route)
  hit_effect k n =
      let w : FoundFew s (number_in m) = found-few s o m n in
      record {
        does = inr (inr (inl (record {
          passed = ap (λ b. b && eqb 0 0) (other-type m hit_type query_type k refl);
          unclosed = λ _. refl;
          answers = λ x. ap (λ b. b && (eqb 0 0 && same_number x (number_in m))) k;
          memory = remembered-hit s (number_in m) (looked_up s (number_in m)).after w.who w.hits z
              (state_facts s o).twice w.found w.few;
        })));
        stays = λ j v _. (refl, v);
      }

  query_effect : (limit : ℕ) → eqb (kind_of m) query_type ≡ true → NoRefusal (query_in limit s m)
      → Effect s c (query_done limit s l m route)
  query_effect limit k n =
      let b : l < line_count = let h = d.line in omega arith in
      record {
        does = inl (record {
          taken = ap (λ b. b && eqb 0 0) k;
          unclosed = λ _. refl;
          unanswered = λ x. ap (λ b. b && (eqb 0 0 && same_number x (number_in m)))
              (other-type m query_type hit_type k refl);
          memory = remembered-one s z o (number_in m) l;
          unseen = n.1.1.0;
          fits = rw (lt-ltb l line_count b, d.live);
        });
        stays = λ j w _. (refl, w);
      }

  types_effect : (limit : ℕ) → Effect s c (arrived limit s l m t route)
  unfolding update_step
  types_effect limit =
      of_types (Effect s c) s l m route (λ n a r. refused_effect s c n a route r.some) limit t
      (λ k _. passes_line ping_type k refl refl (ping_done s l t m route) kept refl
      (of_choice (λ (x : Line). (line_at s l).live ≡ true → x.live ≡ true) (is_probe (header_in m)) _ _ (λ _ v. v)
      (λ _ v. v)))
      (λ k _. passes_line pong_type k refl refl (pong_done s l t.clock m route) _ refl (λ v. v))
      (λ k. passes_line route_update k refl refl (update_done s l m route) _ refl (λ v. v))
      (query_effect limit)
      hit_effect
    where
      kept : Line
      kept = time_kept (line_at s l) (is_probe (header_in m)) t.clock

-- the four calls
module _ (s : Station) (z : Sized s) (o : in_order s ≡ true) where
  message_effect : (limit l : ℕ) (m : List ℕ) (t : Terms) (a : Area) (route : List ℕ)
      → Effect s (Message l m t a) (arriving limit s l m t route)
  message_effect limit l m t a route =
      of_message (Effect s (Message l m t a)) s l m route limit t
      (λ n u. refused_effect s (Message l m t a) n no_age route (unused-some n u))
      (λ d. types_effect s z o l m t a route d limit)

  ask_effect : (limit : ℕ) (number text : List ℕ) (t : Terms) (a : Area) (route : List ℕ)
      → Effect s (Ask number text t a) (asking limit s number text t.out route)
  unfolding asking
  ask_effect limit number text t a route =
      of_refused (λ o. Effect s (Ask number text t a) (hands_up age o)) answer s route
      (own_taken limit s number text route)
      (λ e. record {
        does = inl (record {
          taken = refl;
          unclosed = λ _. refl;
          unanswered = λ _. refl;
          memory = remembered-one s z o (number_in number) here;
          unseen = (asked_in s number text t.out (length route) e).unseen;
          fits = refl;
        });
        stays = λ j w _. (refl, w);
      })
      (refused_effect s (Ask number text t a) answer age route)
    where
      age : Age
      age = own_age s number text t.out (length route)

      answer : ℕ
      answer = own_answer s number text t.out (length route)

  opening_effect : (l : ℕ) → Effect s (Open l) (opening s l)
  unfolding opening
  opening_effect l =
      of_refused (Effect s (Open l)) (first_of (opening_in s l)) s [] (quiet 0 (with_line s l (empty_line true)) [])
      (λ e. let v = is-closed s l (no-refusal (opening_in s l) refl e).1.0 in
      record {
        does = inr (inr (inr (record {
          passed = refl;
          unclosed = λ _. refl;
          unanswered = λ _. refl;
          memory = refl;
        })));
        stays = λ j w _.
            let ne : eqb j l ≡ false = ne_eqb j l (λ q. clash w (ap (λ k. (line_at s k).live) q ∙ v.1)) in
            (ap (λ b. b && eqb 0 0) ne, open_still s z o l v.0 (empty_line true) (λ _. refl) j w);
      })
      (refused_effect s (Open l) (first_of (opening_in s l)) no_age [])

  closing_effect : (l : ℕ) → Effect s (Close l) (closing s l)
  unfolding closing
  closing_effect l =
      of_refused (Effect s (Close l)) (first_of (closing_in s l)) s [] (quiet 0 (closed_state s l) [])
      (λ e. record {
        does = inr (inl (record {
          passed = refl;
          line = l;
          below = (is_open s l (no-refusal (closing_in s l) refl e).1.0).0;
          closes = λ j. and-true (eqb j l);
          unanswered = λ _. refl;
          memory = remembered-left s l z;
        }));
        stays = λ j w n.
            let ne : eqb j l ≡ false = sym (and-true (eqb j l)) ∙ n in
            let same = get_or-set_other s.lines l j (empty_line false) nowhere (eqb-false j l ne) in
            (refl, ap (λ (x : Line). x.live) same ∙ w);
      })
      (refused_effect s (Close l) (first_of (closing_in s l)) no_age [])

pub call_effect : (w : World) → Sized w.state → in_order w.state ≡ true → (c : Call)
    → Effect w.state c (outcome_of w c)
call_effect w z o (Open l) = opening_effect w.state z o l
call_effect w z o (Close l) = closing_effect w.state z o l
call_effect w z o (Message l m t a) = message_effect w.state z o usual_limit l m t a (lent a w.area)
call_effect w z o (Ask number text t a) = ask_effect w.state z o usual_limit number text t a (lent a w.area)
