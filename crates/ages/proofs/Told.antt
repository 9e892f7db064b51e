-- The answer and the age of a call, by what refuses it: a message by its type, and an own query.
-- Assumes nothing.
use Prim.Native.Nat.{ℕ}
use mathlib.Core.Path.{◌≡◌, refl, sym, subst}
use mathlib.Core.Bool.{true, false}
use mathlib.Core.List.{List, []}
use lib.Dec.{eqb}
use lib.ListN.{length}
use borrow.Author.Tests.{eqb-true, eqb-false}
use Rattle.laws.specs.Tests.{first_of}
use Rattle.wire.specs.Header.{kind_of, ping_type, pong_type, route_update, query_type, hit_type}
use Rattle.protocol.specs.declared.Age.{Age}
use Rattle.protocol.specs.declared.Lookup.{Lookup}
use Rattle.protocol.specs.Memory.{number_in, no_age}
use Rattle.protocol.specs.Lines.{with_pong, empty_line}
use Rattle.protocol.specs.State.{Station, Change, line_only, line_at, with_line, looked_up}
use Rattle.protocol.specs.Outcomes.{Terms, Result, Outcome, Step, quiet, refused_or, pick_result, unused}
use Rattle.protocol.specs.Queries.{usual_limit, query_taken, query_step}
use Rattle.protocol.specs.Hits.{hit_taken, hit_step}
use Rattle.protocol.specs.Pings.{ping_taken, ping_step, arrived_pong, pong_step}
use Rattle.protocol.specs.Calls.{opening, closing, closed_state}
use Rattle.protocol.specs.Calls.{update_step, by_type, message_outcome, own_age, own_taken, asking, own_outcome, own_answer}
use Rattle.protocol.proofs.Outcomes.{of_pick, of_refused, answer-taken, other-type, opening_in, closing_in, LetIn}
use Rattle.protocol.proofs.ByType.{ping_in, pong_in, query_in, hit_in, query_age, hit_age, of_message}

-- what hands nothing up, refused or not; so openings and closings hand nothing up
none-refused_or : {S : Type 0} (n : ℕ) (s : S) (route : List ℕ) (r : Result S) → r.age ≡ no_age
    → (refused_or n s route r).age ≡ no_age
none-refused_or n s route r e = of_refused (λ r. r.age ≡ no_age) n s route r (λ _. e) (λ _. refl)

pub opening-none : (s : Station) (l : ℕ) → (opening s l).age ≡ no_age
unfolding opening
opening-none s l = none-refused_or (first_of (opening_in s l)) s [] (quiet 0 (with_line s l (empty_line true)) []) refl

pub closing-none : (s : Station) (l : ℕ) → (closing s l).age ≡ no_age
unfolding closing
closing-none s l = none-refused_or (first_of (closing_in s l)) s [] (quiet 0 (closed_state s l) []) refl

-- what holds of the answer and the age
module _ (P : ℕ → Age → Type 0) where
  abbrev Of : {S : Type 0} → Result S → Type 0
  Of r = P r.answer r.age

  -- what may be refused, with this handed up, where what follows is answered 0: answered by the refusal
  refused_or_lem : {S : Type 0} (a : Age) (n : ℕ) (s : S) (route : List ℕ) (r : Result S) → r.answer ≡ 0
      → P n a → P (refused_or n s route r).answer a
  refused_or_lem a n s route r z h = subst (λ k. P k a) (sym (answer-taken n s route r z)) h

  refused_none : {S : Type 0} (n : ℕ) (s : S) (route : List ℕ) (r : Result S) → r.age ≡ no_age
      → ((k : ℕ) → P k no_age) → Of (refused_or n s route r)
  refused_none n s route r e h = subst (P _) (sym (none-refused_or n s route r e)) (h _)

  module _ (s : Station) (l : ℕ) (m : List ℕ) (t : Terms) (route : List ℕ) where
    -- a message of any other type hands nothing up
    abbrev Other : Type 0
    Other = (kind_of m ≡ 0x80 → ⊥) → (kind_of m ≡ 0x81 → ⊥) → (n : ℕ) → P n no_age

    -- the line's record as it stands, which a refused message leaves
    abbrev same : Change
    same = line_only (line_at s l)

    abbrev looked : Lookup
    looked = looked_up s (number_in m)

    -- a message that was let in: a query or a hit is answered by its checks
    of_arrived : (kind_of m ≡ 0x80 → P (first_of (query_in usual_limit s m)) (query_age usual_limit s m))
        → (kind_of m ≡ 0x81 → P (first_of (hit_in s m)) (hit_age s m))
        → Other
        → Of (by_type usual_limit s.room s.lines l looked m t route)
    unfolding by_type ping_step pong_step update_step query_step hit_step
    of_arrived query hit other =
        by ping_type _ _ ping
        (λ _. by pong_type _ _ pong
        (λ _. by route_update _ _ (λ k. neither route_update refl refl k _)
        (λ _. by query_type _ _ asked
        (λ nq. by hit_type _ _ answered
        (λ nh. other (eqb-false (kind_of m) query_type nq) (eqb-false (kind_of m) hit_type nh) 7)))))
      where
        by : (n : ℕ) (x y : Step) → (eqb (kind_of m) n ≡ true → Of x) → (eqb (kind_of m) n ≡ false → Of y)
            → Of (pick_result (eqb (kind_of m) n) x y)
        by n x y f g = of_pick (λ (r : Step). Of r) (eqb (kind_of m) n) x y f g

        neither : (n : ℕ) → eqb n query_type ≡ false → eqb n hit_type ≡ false → eqb (kind_of m) n ≡ true → (k : ℕ)
            → P k no_age
        neither n q h k =
            other (eqb-false (kind_of m) query_type (other-type m n query_type k q))
            (eqb-false (kind_of m) hit_type (other-type m n hit_type k h))

        ping : eqb (kind_of m) ping_type ≡ true → Of (ping_step s.lines l t m route)
        ping k =
            refused_none (first_of (ping_in s l t m)) same route (ping_taken s.lines l t m route) refl
            (neither ping_type refl refl k)

        kept : Step
        kept = quiet 0 (line_only (with_pong (line_at s l) (arrived_pong t.clock m))) route

        pong : eqb (kind_of m) pong_type ≡ true → Of (pong_step (line_at s l) t.clock m route)
        pong k = refused_none (first_of (pong_in m)) same route kept refl (neither pong_type refl refl k)

        asked : eqb (kind_of m) query_type ≡ true → Of (query_step usual_limit s.room s.lines l looked m route)
        asked k =
            refused_or_lem (query_age usual_limit s m) (first_of (query_in usual_limit s m)) same route
            (query_taken usual_limit s.room s.lines l m route) refl (query (eqb-true (kind_of m) query_type k))

        answered : eqb (kind_of m) hit_type ≡ true → Of (hit_step (line_at s l) looked m route)
        answered k =
            refused_or_lem (hit_age s m) (first_of (hit_in s m)) same route (hit_taken (line_at s l) looked m route) refl
            (hit (eqb-true (kind_of m) hit_type k))

    -- a message: refused before its type counts, or let in
    pub of_message-told : ((n : ℕ) → unused n ≡ true → P n no_age)
        → (LetIn s l m (length route) → kind_of m ≡ 0x80
        → P (first_of (query_in usual_limit s m)) (query_age usual_limit s m))
        → (LetIn s l m (length route) → kind_of m ≡ 0x81 → P (first_of (hit_in s m)) (hit_age s m))
        → Other
        → Of (message_outcome s l m t route)
    of_message-told early query hit other =
        of_message (λ (o : Outcome). Of o) s l m route usual_limit t early (λ d. of_arrived (query d) (hit d) other)

  -- an own query
  pub of_own-told : (s : Station) (number text : List ℕ) (out : ℕ) (route : List ℕ)
      → P (own_answer s number text out (length route)) (own_age s number text out (length route))
      → Of (own_outcome s number text out route)
  unfolding asking
  of_own-told s number text out route h =
      refused_or_lem _ _ s route (own_taken usual_limit s number text route) refl h
