-- What a message that was let in comes to, by its type: it is refused by its type's rules, which leaves what stands,
-- or is taken. One law for all that is shown of every type.
-- Assumes nothing.
use Prim.Native.Nat.{ℕ}
use native.Mathlib.Omega.{arith}
use mathlib.Core.Path.{◌≡◌, refl, sym, subst}
use mathlib.Core.Bool.{Bool, true, false, not}
use mathlib.Core.List.{List}
use lib.Dec.{eqb, leb}
use lib.ListN.{length}
use Rattle.laws.specs.Tests.{first_of, all}
use Rattle.laws.proofs.Refusals.{no-refusal, NoRefusal}
use Rattle.wire.specs.Header.{header_in, kind_of, ttl_of, hops_of, payload_of}
use Rattle.wire.specs.Header.{route_update, query_type, hit_type, ping_type, pong_type}
use Rattle.tables.specs.Tables.{Held}
use Rattle.tables.specs.Updates.{update_answer, updated}
use Rattle.protocol.specs.declared.Line.{Line}
use Rattle.protocol.specs.declared.Lookup.{Lookup}
use Rattle.protocol.specs.declared.Age.{Age}
use Rattle.protocol.specs.Memory.{capacity, number_in, remember, raise, no_age, age_behind}
use Rattle.protocol.specs.State.{Station, line_only, line_at, with_line, with_memory, held_at, looked_up}
use Rattle.protocol.specs.Lines.{with_pong}
use Rattle.protocol.specs.Outcomes.{Terms, Outcome, Step, quiet, hands_up, leaving, pick_result, refused_or, stored}
use Rattle.protocol.specs.Outcomes.{unused}
use Rattle.protocol.specs.Queries.{has_text, query_before, query_rules, query_taken, query_step}
use Rattle.protocol.specs.Hits.{hit_before, hit_rules, hit_taken, hit_step}
use Rattle.protocol.specs.Pings.{is_probe, ping_rules, time_kept, ping_taken, ping_step}
use Rattle.protocol.specs.Pings.{pong_rules, arrived_pong, pong_step}
use Rattle.protocol.specs.Calls.{early, update_step, by_type, arrived, arriving}
use Rattle.protocol.proofs.Outcomes.{of_pick, of_refused, of_stored, stored-again, other-type}
use Rattle.protocol.proofs.Outcomes.{none-unused, early-unused, LetIn, let_in}

-- the rules of each type, of a state
abbrev pub ping_in : Station → ℕ → Terms → List ℕ → List (Bool × ℕ)
ping_in s l t m = ping_rules (line_at s l).pinged (line_at s l).pingtime t.clock (header_in m)

abbrev pub pong_in : List ℕ → List (Bool × ℕ)
pong_in m = pong_rules (header_in m)

abbrev pub query_in : ℕ → Station → List ℕ → List (Bool × ℕ)
query_in limit s m = query_rules limit (header_in m) (has_text (payload_of m)) (looked_up s (number_in m))

abbrev pub hit_in : Station → List ℕ → List (Bool × ℕ)
hit_in s m = hit_rules (header_in m) (looked_up s (number_in m))

-- the age that a query and a hit hand up
abbrev pub query_age : ℕ → Station → List ℕ → Age
query_age limit s m = age_behind (query_before limit (header_in m) (has_text (payload_of m))) (looked_up s (number_in m))

abbrev pub hit_age : Station → List ℕ → Age
hit_age s m = age_behind (hit_before (header_in m)) (looked_up s (number_in m))

-- the outcome of one that is taken: a ping or a pong sets its line's record, a query is remembered, and a hit raises its
-- query's count
abbrev pub ping_done : Station → ℕ → Terms → List ℕ → List ℕ → Outcome
ping_done s l t m route =
    leaving (with_line s l (time_kept (line_at s l) (is_probe (header_in m)) t.clock)) (ping_taken s.lines l t m route)

abbrev pub pong_done : Station → ℕ → ℕ → List ℕ → List ℕ → Outcome
pong_done s l clock m route = quiet 0 (with_line s l (with_pong (line_at s l) (arrived_pong clock m))) route

abbrev pub query_done : ℕ → Station → ℕ → List ℕ → List ℕ → Outcome
query_done limit s l m route =
    hands_up (query_age limit s m)
    (leaving (with_memory s (remember capacity s.memory (number_in m) l))
    (query_taken limit s.room s.lines l m route))

abbrev pub hit_done : Station → ℕ → List ℕ → List ℕ → Outcome
hit_done s l m route =
    hands_up (hit_age s m)
    (leaving (with_memory s (raise capacity s.memory (looked_up s (number_in m)).after))
    (hit_taken (line_at s l) (looked_up s (number_in m)) m route))

-- an update, taken or refused: its answer, and what it leaves of the line's table
abbrev pub update_number : Station → ℕ → List ℕ → List ℕ → ℕ
update_number s l m route = update_answer s.room (held_at s l route) (ttl_of m) (hops_of m) (payload_of m)

abbrev pub held_after : Station → ℕ → List ℕ → List ℕ → Held
held_after s l m route = updated s.room (held_at s l route) (ttl_of m) (hops_of m) (payload_of m)

abbrev pub update_done : Station → ℕ → List ℕ → List ℕ → Outcome
update_done s l m route = stored s l (number_in m) (update_step s.room l (line_at s l) m route)

-- a message that is no update, refused by its type's rules
pub record TypeRefuses (m : List ℕ) (n : ℕ) : Type 0 where
  pub some : n ≡ 0 → ⊥
  pub used : unused n ≡ false
  pub type : eqb (kind_of m) route_update ≡ false

module _ (P : Outcome → Type 0) (s : Station) (l : ℕ) (m route : List ℕ) where
  abbrev OfStep : Step → Type 0
  OfStep r = P (stored s l (number_in m) r)

  abbrev line : Line
  line = line_at s l

  abbrev looked : Lookup
  looked = looked_up s (number_in m)

  -- one that leaves the line's record
  again : (f : Station → Outcome) → P (f s) → P (f (with_line s l line))
  again f h = subst (λ (x : Station). P (f x)) (sym (stored-again s l)) h

  -- one type, by its rules, whatever is shown of its outcome
  of_checks : (Q : Outcome → Type 0) → ((n : ℕ) → TypeRefuses m n → Q (quiet n s route))
      → (k : ℕ) (cs : List (Bool × ℕ)) (r : Step) → eqb (kind_of m) k ≡ true → eqb k route_update ≡ false
      → all (λ c. not (unused c.1)) cs ≡ true → all (λ c. leb 1 c.1) cs ≡ true
      → (NoRefusal cs → Q (stored s l (number_in m) r))
      → Q (stored s l (number_in m) (refused_or (first_of cs) (line_only line) route r))
  of_checks Q refused k cs r e ne u p f =
      of_stored Q s l (number_in m) (first_of cs) route r (λ z. f (no-refusal cs p z))
      (λ n. refused (first_of cs)
      (record { some = n; used = none-unused cs u; type = other-type m k route_update e ne }))

  -- a refused one may hand an age up
  module _ (refused : (n : ℕ) (a : Age) → TypeRefuses m n → P (hands_up a (quiet n s route))) where
    pub of_ping : (t : Terms) → eqb (kind_of m) ping_type ≡ true
        → (NoRefusal (ping_in s l t m) → P (ping_done s l t m route)) → OfStep (ping_step s.lines l t m route)
    unfolding ping_step
    of_ping t k f = of_checks P (λ n. refused n no_age) ping_type (ping_in s l t m) _ k refl refl refl f

    pub of_pong : (clock : ℕ) → eqb (kind_of m) pong_type ≡ true
        → (NoRefusal (pong_in m) → P (pong_done s l clock m route)) → OfStep (pong_step line clock m route)
    unfolding pong_step
    of_pong clock k f = of_checks P (λ n. refused n no_age) pong_type (pong_in m) _ k refl refl refl f

    pub of_query : (limit : ℕ) → eqb (kind_of m) query_type ≡ true
        → (NoRefusal (query_in limit s m) → P (query_done limit s l m route))
        → OfStep (query_step limit s.room s.lines l looked m route)
    unfolding query_step
    of_query limit k f =
        of_checks (λ o. P (hands_up (query_age limit s m) o)) (λ n. refused n (query_age limit s m)) query_type
        (query_in limit s m) _ k refl refl refl (λ n. again done (f n))
      where
        done : Station → Outcome
        done x =
            hands_up (query_age limit s m)
            (leaving (with_memory x (remember capacity s.memory (number_in m) l))
            (query_taken limit s.room s.lines l m route))

    pub of_hit : eqb (kind_of m) hit_type ≡ true → (NoRefusal (hit_in s m) → P (hit_done s l m route))
        → OfStep (hit_step line looked m route)
    unfolding hit_step
    of_hit k f =
        of_checks (λ o. P (hands_up (hit_age s m) o)) (λ n. refused n (hit_age s m)) hit_type (hit_in s m) _ k refl refl refl
        (λ n. again done (f n))
      where
        done : Station → Outcome
        done x =
            hands_up (hit_age s m)
            (leaving (with_memory x (raise capacity s.memory looked.after)) (hit_taken line looked m route))

    -- a type that has no rules
    unnamed : eqb (kind_of m) route_update ≡ false → OfStep (quiet 7 (line_only line) route)
    unnamed u =
        again (λ x. quiet 7 x route)
        (refused 7 no_age (record { some = λ e. absurd (omega arith); used = refl; type = u }))

    -- what is left of the types: hits and the rest, with queries, with updates, with pongs
    module _ (limit : ℕ) (t : Terms) where
      abbrev hits : Step
      hits =
          pick_result (eqb (kind_of m) hit_type) (hit_step line looked m route)
          (quiet 7 (line_only line) route)

      abbrev queries : Step
      queries = pick_result (eqb (kind_of m) query_type) (query_step limit s.room s.lines l looked m route) hits

      abbrev updates : Step
      updates = pick_result (eqb (kind_of m) route_update) (update_step s.room l line m route) queries

      abbrev pongs : Step
      pongs = pick_result (eqb (kind_of m) pong_type) (pong_step line t.clock m route) updates

    -- all of them
    pub of_types : (limit : ℕ) (t : Terms)
        → (eqb (kind_of m) ping_type ≡ true → NoRefusal (ping_in s l t m) → P (ping_done s l t m route))
        → (eqb (kind_of m) pong_type ≡ true → NoRefusal (pong_in m) → P (pong_done s l t.clock m route))
        → (eqb (kind_of m) route_update ≡ true → P (update_done s l m route))
        → (eqb (kind_of m) query_type ≡ true → NoRefusal (query_in limit s m) → P (query_done limit s l m route))
        → (eqb (kind_of m) hit_type ≡ true → NoRefusal (hit_in s m) → P (hit_done s l m route))
        → P (arrived limit s l m t route)
    unfolding by_type
    of_types limit t ping pong update query hit =
        by ping_type (ping_step s.lines l t m route) (pongs limit t) (λ k. of_ping t k (ping k))
        (λ _. by pong_type (pong_step line t.clock m route) (updates limit t) (λ k. of_pong t.clock k (pong k))
        (λ _. by route_update (update_step s.room l line m route) (queries limit t) update
        (λ u. by query_type (query_step limit s.room s.lines l looked m route) (hits limit t)
        (λ k. of_query limit k (query k))
        (λ _. by hit_type (hit_step line looked m route) (quiet 7 (line_only line) route)
        (λ k. of_hit k (hit k))
        (λ _. unnamed u)))))
      where
        by : (n : ℕ) (x y : Step) → (eqb (kind_of m) n ≡ true → OfStep x) → (eqb (kind_of m) n ≡ false → OfStep y)
            → OfStep (pick_result (eqb (kind_of m) n) x y)
        by n x y f g = of_pick OfStep (eqb (kind_of m) n) x y f g

  -- a message, let in or not
  pub of_message : (limit : ℕ) (t : Terms) → ((n : ℕ) → unused n ≡ true → P (quiet n s route))
      → (LetIn s l m (length route) → P (arrived limit s l m t route)) → P (arriving limit s l m t route)
  unfolding arriving
  of_message limit t f g =
      of_refused P (early s l m t.out (length route)) s route (arrived limit s l m t route)
      (λ e. g (let_in s l m t.out (length route) e))
      (λ ne. f (early s l m t.out (length route)) (early-unused s l m t.out (length route) ne))
