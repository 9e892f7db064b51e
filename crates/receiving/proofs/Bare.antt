-- The calls of document 01 read no held bytes and no shut marks, and change none but for an opening and a closing.
-- Assumes nothing.
use Prim.Native.Nat.{ℕ, zero, suc}
use mathlib.Core.Path.{◌≡◌, refl, sym, ap, ap₂, ◌∙◌, fun_ext}
use mathlib.Core.Bool.{Bool, true, false, ◌&&◌}
use mathlib.Core.List.{List, [], ◌∷◌, map}
use lib.Dec.{eqb}
use lib.ListN.{length, set, get_or-map}
use Rattle.laws.specs.Tests.{first_of}
use Rattle.laws.proofs.Refusals.{all_map}
use Rattle.laws.proofs.Rings.{map-map}
use Rattle.wire.specs.Header.{header_in, payload_of, ping_type, pong_type, route_update, query_type, hit_type}
use Rattle.protocol.specs.declared.Line.{Line}
use Rattle.protocol.specs.declared.Lookup.{Lookup}
use Rattle.protocol.specs.declared.Age.{Age}
use Rattle.protocol.specs.Lines.{line_in, nowhere, empty_line, stored_pongs}
use Rattle.protocol.specs.Memory.{capacity, memory_in_order, number_in, age_behind}
use Rattle.protocol.specs.State.{Station, line_only, station_of, line_at, with_line, remembered, looked_up}
use Rattle.protocol.specs.Order.{line_in_order, in_order}
use Rattle.protocol.specs.Outcomes.{Terms, Result, Outcome, Step, pick_result, refused_or, hands_up, leaving, quiet}
use Rattle.protocol.specs.Queries.{usual_limit, has_text, query_before, query_rules, query_step}
use Rattle.protocol.specs.Hits.{hit_before, hit_rules, hit_step}
use Rattle.protocol.specs.Pings.{is_probe, time_kept, walk, pongs_sent, ping_rules, ping_taken, ping_step}
use Rattle.protocol.specs.Pings.{pong_rules, pong_step}
use Rattle.protocol.specs.Calls.{opening_rules, opening, closed_state, closing_rules, closing}
use Rattle.protocol.specs.Calls.{early, update_step, by_type, arrived, arriving, own_age, own_answer, own_taken}
use Rattle.protocol.specs.Calls.{asking}
use Rattle.protocol.specs.Runs.{Call, Open, Close, Message, Ask, World, lent, step, run}
use Rattle.protocol.proofs.Outcomes.{of_pick, stored-again, early_in, own_in}
use Rattle.receiving.specs.Feeding.{holding, shut_line, on_line, dropped}
use Rattle.receiving.specs.Bare.{bare_line, bare, bare_outcome, bare_world, SamePending, HeldUnread, CallUnread}

-- of bare lines line k is the line, bare
pub bare_in : (lines : List Line) (k : ℕ) → line_in (map bare_line lines) k ≡ bare_line (line_in lines k)
bare_in lines k = get_or-map bare_line lines k nowhere

pub bare-at : (s : Station) (k : ℕ) → line_at (bare s) k ≡ bare_line (line_at s k)
bare-at s = bare_in s.lines

pub bare-live : (s : Station) (k : ℕ) → (line_at (bare s) k).live ≡ (line_at s k).live
bare-live s k = ap (λ x. x.live) (bare-at s k)

pub bare-table : (s : Station) (k : ℕ) → (line_at (bare s) k).table ≡ (line_at s k).table
bare-table s k = ap (λ x. x.table) (bare-at s k)

pub bare_twice : (s : Station) → bare (bare s) ≡ bare s
bare_twice s = ap (λ ls. station_of s.room ls s.memory) (map-map bare_line bare_line s.lines)

pub bare-remembered : (s : Station) → remembered (bare s) ≡ remembered s
bare-remembered s = refl

-- with one line changed
pub bare_set : (lines : List Line) (l : ℕ) (x : Line)
    → map bare_line (set lines l x) ≡ set (map bare_line lines) l (bare_line x)
bare_set [] l x = refl
bare_set (y ∷ ys) zero x = refl
bare_set (y ∷ ys) (suc l) x = ap (◌∷◌ (bare_line y)) (bare_set ys l x)

-- a change of what is held of a line leaves the bare state
pub bare-on-line : (f : Line → Line) → ((x : Line) → bare_line (f x) ≡ bare_line x) → (l : ℕ) (s : Station)
    → bare (on_line f l s) ≡ bare s
bare-on-line f same l s =
    ap (λ ls. station_of s.room ls s.memory)
    (bare_set s.lines l (f (line_at s l))
    ∙ ap (set (map bare_line s.lines) l) (same (line_at s l))
    ∙ sym (bare_set s.lines l (line_at s l)))
    ∙ ap bare (stored-again s l)

pub bare-holding : (n l : ℕ) (s : Station) → bare (on_line (holding n) l s) ≡ bare s
bare-holding n = bare-on-line (holding n) (λ x. refl)

pub bare-shut : (l : ℕ) (s : Station) → bare (on_line shut_line l s) ≡ bare s
bare-shut = bare-on-line shut_line (λ x. refl)

pub bare-dropped : (l : ℕ) (o : Outcome) → bare_outcome (dropped l o) ≡ bare_outcome o
bare-dropped l o = ap (λ s. leaving s o) (bare-holding 0 l o.state)

-- the same held of each line, where the line that is stored has what it had
pub set-held : (lines : List Line) (l : ℕ) (x : Line) → x.pending ≡ (line_in lines l).pending → (k : ℕ)
    → (line_in (set lines l x) k).pending ≡ (line_in lines k).pending
set-held [] l x e k = refl
set-held (y ∷ ys) zero x e zero = e
set-held (y ∷ ys) zero x e (suc k) = refl
set-held (y ∷ ys) (suc l) x e zero = refl
set-held (y ∷ ys) (suc l) x e (suc k) = set-held ys l x e k

-- a choice between two, and the same choice between two others
pick-both : {S T : Type 0} (R : Result S → Result T → Type 0) (b : Bool) {x y : Result S} {x' y' : Result T}
    → R x x' → R y y' → R (pick_result b x y) (pick_result b x' y')
pick-both R true p q = p
pick-both R false p q = q

-- a probe's line and another ping's
time-bare : (x : Line) (probe : Bool) (clock : ℕ)
    → (time_kept (bare_line x) probe clock ≡ bare_line (time_kept x probe clock))
    × ((time_kept x probe clock).pending ≡ x.pending)
time-bare x true clock = (refl, refl)
time-bare x false clock = (refl, refl)

-- the same step, bare
abbrev bare_step : Step → Step
bare_step r =
    leaving
    (record { line = bare_line r.state.line; taken = r.state.taken; answered = r.state.answered })
    r

module _ (lines : List Line) where
  abbrev bared : List Line
  bared = map bare_line lines

  -- the stored pongs that a ping's answer is made of
  walk-bare : (l : ℕ) → walk bared l ≡ walk lines l
  unfolding walk stored_pongs
  walk-bare l = simp (bare_in lines)

  module _ (l : ℕ) where
    abbrev x : Line
    x = line_in lines l

    -- a step of the bare lines, and the step: that, bare, with the same held
    record Alike (r' r : Step) : Type 0 where
      bare : r' ≡ bare_step r
      held : r.state.line.pending ≡ x.pending

    -- refused or not
    refused-alike : (n : ℕ) (route : List ℕ) {r' r : Step} → Alike r' r
        → Alike (refused_or n (line_only (bare_line x)) route r') (refused_or n (line_only x) route r)
    refused-alike n route a = pick-both Alike (eqb n 0) a (record { bare = refl; held = refl })

    -- with an age
    aged-alike : (a : Age) {r' r : Step} → Alike r' r → Alike (hands_up a r') (hands_up a r)
    aged-alike a e = record { bare = ap (hands_up a) e.bare; held = e.held }

    -- each type of message
    ping-taken : (t : Terms) (m route : List ℕ) → Alike (ping_taken bared l t m route) (ping_taken lines l t m route)
    unfolding pongs_sent
    ping-taken t m route =
        let kept = time-bare x (is_probe (header_in m)) t.clock in
        record { bare = rw (bare_in lines l, walk-bare l, kept.0); held = kept.1 }

    ping-alike : (t : Terms) (m route : List ℕ) → Alike (ping_step bared l t m route) (ping_step lines l t m route)
    unfolding ping_step
    ping-alike t m route =
        rw (bare_in lines l)
        (refused-alike (first_of (ping_rules x.pinged x.pingtime t.clock (header_in m))) route
        (rw (bare_in lines l) at (ping-taken t m route)))

    pong-alike : (clock : ℕ) (m route : List ℕ) → Alike (pong_step (bare_line x) clock m route) (pong_step x clock m route)
    unfolding pong_step
    pong-alike clock m route =
        refused-alike (first_of (pong_rules (header_in m))) route (record { bare = refl; held = refl })

    update_alike : (room : ℕ) (m route : List ℕ)
        → Alike (update_step room l (bare_line x) m route) (update_step room l x m route)
    unfolding update_step
    update_alike room m route = record { bare = refl; held = refl }

    query-alike : (limit room : ℕ) (k : Lookup) (m route : List ℕ)
        → Alike (query_step limit room bared l k m route) (query_step limit room lines l k m route)
    unfolding query_step
    query-alike limit room k m route =
        rw (bare_in lines l)
        (aged-alike (age_behind (query_before limit (header_in m) (has_text (payload_of m))) k)
        (refused-alike (first_of (query_rules limit (header_in m) (has_text (payload_of m)) k)) route
        (record { bare = simp (bare_in lines); held = refl })))

    hit-alike : (k : Lookup) (m route : List ℕ) → Alike (hit_step (bare_line x) k m route) (hit_step x k m route)
    unfolding hit_step
    hit-alike k m route =
        aged-alike (age_behind (hit_before (header_in m)) k)
        (refused-alike (first_of (hit_rules (header_in m) k)) route (record { bare = refl; held = refl }))

    types_alike : (limit room : ℕ) (k : Lookup) (m : List ℕ) (t : Terms) (route : List ℕ)
        → Alike (by_type limit room bared l k m t route) (by_type limit room lines l k m t route)
    unfolding by_type
    types_alike limit room k m t route =
        rw (bare_in lines l)
        (pick-both Alike (eqb (header_in m).kind ping_type) (ping-alike t m route)
        (pick-both Alike (eqb (header_in m).kind pong_type) (pong-alike t.clock m route)
        (pick-both Alike (eqb (header_in m).kind route_update) (update_alike room m route)
        (pick-both Alike (eqb (header_in m).kind query_type) (query-alike limit room k m route)
        (pick-both Alike (eqb (header_in m).kind hit_type) (hit-alike k m route)
        (record { bare = refl; held = refl }))))))

-- a state is in order with whatever held
pub order-bare : (s : Station) → in_order (bare s) ≡ in_order s
unfolding in_order line_in_order stored_pongs
order-bare s =
    ap₂ ◌&&◌ (ap (λ live. memory_in_order capacity live s.memory) (fun_ext (bare-live s)))
    (all_map bare_line (line_in_order s.room) s.lines)

module _ (s : Station) where
  -- refused or not
  refused-bare : (n : ℕ) (route : List ℕ) (o : Outcome) {o' : Outcome} → o' ≡ bare_outcome o
      → refused_or n (bare s) route o' ≡ bare_outcome (refused_or n s route o)
  refused-bare n route o e = pick-both (λ o' o. o' ≡ bare_outcome o) (eqb n 0) e refl

  refused-held : (n : ℕ) (route : List ℕ) (o : Outcome) → SamePending s o.state
      → SamePending s (refused_or n s route o).state
  refused-held n route o e =
      of_pick (λ o. SamePending s o.state) (eqb n 0) o (quiet n s route) (λ _. e) (λ _ k. refl)

  opens-bare : (l : ℕ) → opening (bare s) l ≡ bare_outcome (opening s l)
  unfolding opening
  opens-bare l =
      rw (order-bare s, bare-live s l)
      (refused-bare (first_of (opening_rules (in_order s) l (line_at s l).live)) []
      (quiet 0 (with_line s l (empty_line true)) []) (rw (bare_set s.lines l (empty_line true))))

  closes-bare : (l : ℕ) → closing (bare s) l ≡ bare_outcome (closing s l)
  unfolding closing
  closes-bare l =
      rw (order-bare s, bare-live s l)
      (refused-bare (first_of (closing_rules (in_order s) l (line_at s l).live)) []
      (quiet 0 (closed_state s l) []) (rw (bare_set s.lines l (empty_line false))))

  module _ (limit l : ℕ) (m : List ℕ) (t : Terms) (route : List ℕ) where
    abbrev done : List Line → Step
    done lines = by_type limit s.room lines l (looked_up s (number_in m)) m t route

    message-alike : Alike s.lines l (done (bare s).lines) (done s.lines)
    message-alike = types_alike s.lines l limit s.room (looked_up s (number_in m)) m t route

    message-bare : arriving limit (bare s) l m t route ≡ bare_outcome (arriving limit s l m t route)
    unfolding arriving early
    message-bare =
        rw (order-bare s, bare-live s l)
        (refused-bare (first_of (early_in s l m t.out (length route))) route (arrived limit s l m t route)
        (rw (message-alike.bare, bare_set s.lines l (done s.lines).state.line)))

    message-held : SamePending s (arriving limit s l m t route).state
    unfolding arriving
    message-held =
        refused-held (early s l m t.out (length route)) route (arrived limit s l m t route)
        (set-held s.lines l (done s.lines).state.line message-alike.held)

  module _ (limit : ℕ) (number text : List ℕ) (out : ℕ) (route : List ℕ) where
    own_bare : asking limit (bare s) number text out route ≡ bare_outcome (asking limit s number text out route)
    unfolding asking own_answer
    own_bare =
        rw (order-bare s)
        (ap (hands_up (own_age s number text out (length route)))
        (refused-bare (first_of (own_in s number text out (length route))) route (own_taken limit s number text route)
        (simp (bare-at s))))

    own_held : SamePending s (asking limit s number text out route).state
    unfolding asking
    own_held =
        refused-held (own_answer s number text out (length route)) route (own_taken limit s number text route) (λ k. refl)

pub held-unread : HeldUnread
held-unread s =
    record {
      order = order-bare s;
      opens = opens-bare s;
      closes = closes-bare s;
      message = message-bare s;
      asks = own_bare s;
      message_held = message-held s;
      asks_held = own_held s;
    }

pub call-unread : CallUnread
call-unread w (Open l) = opens-bare w.state l
call-unread w (Close l) = closes-bare w.state l
call-unread w (Message l m t a) = message-bare w.state usual_limit l m t (lent a w.area)
call-unread w (Ask n text t a) = own_bare w.state usual_limit n text t.out (lent a w.area)

pub step-bare : (w : World) (c : Call) → bare_world (step w c) ≡ step (bare_world w) c
step-bare w c = rw (call-unread w c)

pub run-bare : (w : World) (cs : List Call) → bare_world (run w cs) ≡ run (bare_world w) cs
run-bare w [] = refl
run-bare w (c ∷ cs) = run-bare (step w c) cs ∙ ap (λ v. run v cs) (step-bare w c)
