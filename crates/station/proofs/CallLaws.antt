-- The calls from their parts: what a message does by its type, its first refusal, and what a call leaves, given what
-- the ring is surveyed to be. A line's number counts modulo eight: where it is over seven, the call is refused, and
-- what stands there is stored again.
-- Assumes nothing.
use Prim.Native.Nat.{ℕ, ◌+◌, ◌/◌, ◌%◌, ◌≤◌, ◌<◌}
use native.Mathlib.Omega.{arith}
use native.Mathlib.Numerals.{add-one}
use mathlib.Core.Path.{◌≡◌, refl, sym, ap, ap₂, subst, ◌∙◌}
use mathlib.Core.Bool.{Bool, true, false, cond, not, ◌&&◌, ◌||◌}
use mathlib.Core.List.{List, [], ◌∷◌, map}
use lib.Dec.{eqb, leb, ltb}
use lib.ListN.{length, get_or, set, drop, replicate, length-append}
use lib.Seq.{set-get_or, drop-cons}
use borrow.Author.Tests.{le-leb, eq-eqb, ne_eqb, eqb-true, ltb-true, ltb-false, not-false}
use Rattle.laws.specs.Parts.{over}
use Rattle.laws.specs.Tests.{first_of, any, all, every}
use Rattle.laws.proofs.Refusals.{or_fst, or_snd, no-refusal, NoRefusal}
use Rattle.std.specs.Prelude.{Result as Named}
use Rattle.std.specs.Prelude.{Ok, Err}
use Rattle.wire.specs.declared.Header.{Header}
use Rattle.wire.specs.declared.Kind.{Kind}
use Rattle.wire.specs.declared.Kind.TheVariants.{Ping, Pong, RouteUpdate, Query, Hit}
use Rattle.wire.specs.declared.UnknownKind.{UnknownKind}
use Rattle.wire.specs.Header.{
  header_in,
  kind_of,
  size_of,
  payload_of,
  largest_message,
  ping_type,
  pong_type,
  route_update,
  query_type,
  hit_type,
  message,
  byte_of,
  kind_named,
}
use Rattle.protocol.specs.declared.Line.{Line}
use Rattle.protocol.specs.declared.Lookup.{Lookup}
use Rattle.protocol.specs.declared.Age.{Age}
use Rattle.protocol.specs.declared.Report.{Report}
use Rattle.protocol.specs.Memory.{Memory, no_age, age_after, pick_age, age_behind, memory_of, capacity, here, gone, Number, number_in, number_from, queries_in, find, lookup_of, no_twice, asker_fits, memory_in_order, hits_fit, remember_if, raised, raise, raise_if, left, left_all}
use Rattle.protocol.specs.Lines.{line_in, lives_in, nowhere, empty_line, with_pong}
use Rattle.protocol.specs.State.{Station, Change, line_only, station_of, looked_up, with_line, with_memory}
use Rattle.protocol.specs.State.{state_after}
use Rattle.protocol.specs.Order.{lines_in_order, in_order}
use Rattle.protocol.specs.Outcomes.{Terms, Result, Outcome, Step, quiet, sends, written_for, pick_result, refused_or}
use Rattle.protocol.specs.Outcomes.{hands_up, stored, unused, used_of}
use Rattle.protocol.specs.Queries.{usual_limit, has_text, query_rules, query_taken, query_step, own_to, own_lines, own_bytes}
use Rattle.protocol.specs.Hits.{hit_step, hit_rules, hit_taken}
use Rattle.protocol.specs.Pings.{ping_step, ping_rules, ping_taken, pong_step, pong_rules, arrived_pong}
use Rattle.protocol.specs.Calls.{fresh_room, fresh_answer, fresh_memory, fresh, opening_rules, opening, closing_rules, closing, closed_state, short_route, other_room, unfit_areas, extent_rules, early_rules, early, update_step, by_type, arrived, arriving, own_before, own_rules, own_age, own_answer, asking, own_taken}
use Rattle.protocol.proofs.Outcomes.{each_line-at}
use Rattle.station.specs.declared.actions.Action.{Action}
use Rattle.forwarding.specs.Messages.{sendable, count_if, written_if, own_into}
use Rattle.forwarding.specs.Passing.{held_of}
use Rattle.station.specs.declared.lines.View.{View}
use Rattle.station.specs.declared.changes.LineChange.{LineChange}
use Rattle.station.specs.declared.changes.Beginning.{Beginning}
use Rattle.station.specs.Actions.{action_of, view_of, quiet_report, quiet_action, aged_report, Does}
use Rattle.station.specs.Actions.{Fit, acting}
use Rattle.station.specs.Calls.{Met, OwnMet, Changed, both_in_order, changed_by, opened_by, closed_by, first_refusal}
use Rattle.station.specs.Calls.{arrival_step, Handed, MessageMet, own_answer_by, own_age_by, own_query_sent, Sends}
use Rattle.station.specs.Calls.{begun_over}
use Rattle.station.specs.Feeding.{used_by}
use Rattle.station.proofs.AgeLaws.{repeat_is}
use Rattle.station.proofs.ActionLaws.{sent_in, step-refused}

-- ---- what a message does by its type

-- a step that is refused by n or else r leaves the route area, where r does; one that writes nothing leaves the output
-- area
module _ (n : ℕ) (c : Change) (route : List ℕ) (r : Step) where
  route-by : (b : Bool) → r.route ≡ route → route ≡ (pick_result b r (quiet n c route)).route
  route-by true e = sym e
  route-by false e = refl

  route-kept : r.route ≡ route → route ≡ (refused_or n c route r).route
  route-kept e = route-by (eqb n 0) e

  silent-by : (out : List ℕ) (b : Bool) → r.sent ≡ [] → out ≡ over 0 (pick_result b r (quiet n c route)).sent out
  silent-by out true e = rw e
  silent-by out false e = refl

  silent : (out : List ℕ) → r.sent ≡ [] → out ≡ over 0 (refused_or n c route r).sent out
  silent out e = silent-by out (eqb n 0) e

module _ (room : ℕ) (lines : List Line) (l : ℕ) (k : Lookup) (m : List ℕ) (t : Terms) (route out : List ℕ) where
  -- a message whose first refusal is n is done, with the route area after it
  abbrev pub Done : ℕ → Action → List ℕ → List ℕ → Type 0
  Done n a out' route' = Does (acting n room lines l k m t route) a out out'
      × (route' ≡ (acting n room lines l k m t route).route)

  pub act-refused : {n : ℕ} {x : Line} {a : Action} → x ≡ line_in lines l → (n ≡ 0 → ⊥) → a ≡ quiet_action n x
      → Done n a out route
  act-refused {n} ex z ea = (
    step-refused n (line_in lines l) route (by_type usual_limit room lines l k m t route) out refl z
        (ea ∙ ap (λ (x : Line). quiet_action n x) ex),
    rw (ne_eqb n 0 z),
  )

-- it is done as its type's step is; x is its line's record as the step has it
module _ (room : ℕ) (lines : List Line) (l : ℕ) (k : Lookup) (m : List ℕ) (t : Terms) (route out : List ℕ) where
  abbrev unchanged : Change
  unchanged = line_only (line_in lines l)

  -- the step of a type by its name
  abbrev named : Named Kind UnknownKind → Step
  named (Ok Ping) = ping_step lines l t m route
  named (Ok Pong) = pong_step (line_in lines l) t.clock m route
  named (Ok RouteUpdate) = update_step room l (line_in lines l) m route
  named (Ok Query) = query_step usual_limit room lines l k m route
  named (Ok Hit) = hit_step (line_in lines l) k m route
  named (Err other) = quiet 7 unchanged route

  -- the tests of the types, in their order, and the name that they come to
  tests : (a b c d e : Bool) (other : UnknownKind)
      → pick_result a (named (Ok Ping)) (pick_result b (named (Ok Pong)) (pick_result c (named (Ok RouteUpdate))
      (pick_result d (named (Ok Query)) (pick_result e (named (Ok Hit)) (named (Err other))))))
      ≡ named (cond a (Ok Ping) (cond b (Ok Pong) (cond c (Ok RouteUpdate) (cond d (Ok Query) (cond e (Ok Hit)
      (Err other))))))
  tests true b c d e other = refl
  tests false true c d e other = refl
  tests false false true d e other = refl
  tests false false false true e other = refl
  tests false false false false true other = refl
  tests false false false false false other = refl

  module _ {h : Header} (eh : h ≡ header_in m) {kind : Named Kind UnknownKind} (ek : kind ≡ kind_named h.kind) where
    step-is : by_type usual_limit room lines l k m t route ≡ named kind
    unfolding by_type
    step-is =
        tests (eqb (kind_of m) ping_type) (eqb (kind_of m) pong_type) (eqb (kind_of m) route_update)
        (eqb (kind_of m) query_type) (eqb (kind_of m) hit_type) (record { 0 = kind_of m })
        ∙ ap named (sym (ek ∙ ap (λ (h : Header). kind_named h.kind) eh))

    done : {a : Action} {out' route' : List ℕ} → Does (named kind) a out out' → route' ≡ (named kind).route
        → Done room lines l k m t route out 0 a out' route'
    done {a} {out'} {route'} d f =
        subst (λ (r : Step). Does r a out out' × (route' ≡ r.route)) (sym step-is) (d, f)

  module _ {h : Header} (eh : h ≡ header_in m) {a : Action} where
    pub act-ping : Ok Ping ≡ kind_named h.kind → {out' : List ℕ}
        → ((area : List ℕ) → Does (ping_step lines l t m area) a out out')
        → Done room lines l k m t route out 0 a out' route
    unfolding ping_step
    act-ping e d =
        done eh e (d route)
        (route-kept (first_of (ping_rules (line_in lines l).pinged (line_in lines l).pingtime t.clock (header_in m)))
        unchanged route
        (ping_taken lines l t m route) refl)

    pub act-pong : {x : Line} → x ≡ line_in lines l → Ok Pong ≡ kind_named h.kind
        → ((area : List ℕ) → a ≡ action_of (pong_step x t.clock m area))
        → Done room lines l k m t route out 0 a out route
    unfolding pong_step
    act-pong ex e d =
        done eh e
        (record {
          action = d route ∙ ap (λ (x : Line). action_of (pong_step x t.clock m route)) ex;
          output = silent (first_of (pong_rules (header_in m))) unchanged route stays out refl;
        })
        (route-kept (first_of (pong_rules (header_in m))) unchanged route stays refl)
      where
        stays : Step
        stays = quiet 0 (line_only (with_pong (line_in lines l) (arrived_pong t.clock m))) route

    pub act-update : {x : Line} → x ≡ line_in lines l → Ok RouteUpdate ≡ kind_named h.kind → {route' : List ℕ}
        → a ≡ action_of (update_step room l x m route) → route' ≡ (update_step room l x m route).route
        → Done room lines l k m t route out 0 a out route'
    unfolding update_step
    act-update ex e d f =
        done eh e
        (record { action = d ∙ ap (λ (x : Line). action_of (update_step room l x m route)) ex; output = refl })
        (f ∙ ap (λ (x : Line). (update_step room l x m route).route) ex)

    pub act-query : Ok Query ≡ kind_named h.kind → {out' : List ℕ}
        → Does (query_step usual_limit room lines l k m route) a out out'
        → Done room lines l k m t route out 0 a out' route
    unfolding query_step
    act-query e d =
        done eh e d
        (route-kept (first_of (query_rules usual_limit (header_in m) (has_text (payload_of m)) k)) unchanged route
        (query_taken usual_limit room lines l m route) refl)

    pub act-hit : {x : Line} → x ≡ line_in lines l → Ok Hit ≡ kind_named h.kind → {out' : List ℕ}
        → ((area : List ℕ) → Does (hit_step x k m area) a out out') → Done room lines l k m t route out 0 a out' route
    unfolding hit_step
    act-hit ex e {out'} d =
        done eh e
        (subst (λ (x : Line). Does (hit_step x k m route) a out out') ex (d route))
        (route-kept (first_of (hit_rules (header_in m) k)) unchanged route (hit_taken (line_in lines l) k m route) refl)

    pub act-none : {x : Line} → x ≡ line_in lines l → {other : UnknownKind} → Err other ≡ kind_named h.kind
        → a ≡ quiet_action 7 x → Done room lines l k m t route out 0 a out route
    act-none ex e d = done eh e (record { action = d ∙ ap (λ (x : Line). quiet_action 7 x) ex; output = refl }) refl

-- a byte that is named is that of its name
byte_in : Named Kind UnknownKind → ℕ
byte_in (Ok kind) = byte_of kind
byte_in (Err other) = other.0

byte-back : (b : ℕ) → byte_in (kind_named b) ≡ b
unfolding byte_in
byte-back b = by (eqb b ping_type) (eqb b pong_type) (eqb b route_update) (eqb b query_type) (eqb b hit_type) refl refl refl
    refl refl
  where
    by : (p q r s t : Bool) → eqb b ping_type ≡ p → eqb b pong_type ≡ q → eqb b route_update ≡ r → eqb b query_type ≡ s
        → eqb b hit_type ≡ t
        → byte_in (cond p (Ok Ping) (cond q (Ok Pong) (cond r (Ok RouteUpdate) (cond s (Ok Query) (cond t (Ok Hit)
        (Err (record { 0 = b })))))))
        ≡ b
    by true q r s t e f g h i = sym (eqb-true b ping_type e)
    by false true r s t e f g h i = sym (eqb-true b pong_type f)
    by false false true s t e f g h i = sym (eqb-true b route_update g)
    by false false false true t e f g h i = sym (eqb-true b query_type h)
    by false false false false true e f g h i = sym (eqb-true b hit_type i)
    by false false false false false e f g h i = refl

pub kind-is : {kind : Kind} {b : ℕ} → Ok kind ≡ kind_named b → b ≡ byte_of kind
unfolding byte_in
kind-is {kind} {b} e = sym (ap byte_in e ∙ byte-back b)

-- ---- the first refusal of a call, given what is read off the lines

-- a test of every element, from element i on
pub all_from : {A : Type 0} (f : A → Bool) (l : List A) (i : ℕ) (d : A) → i < length l → all f (drop i l)
    ≡ (f (get_or l i d) && all f (drop (i + 1) l))
all_from f l i d h = ap (all f) (drop-cons l i d h) ∙ ap (λ n. f (get_or l i d) && all f (drop n l)) (sym (add-one i))

-- a test of every element is another where the two agree
all_same : {A : Type 0} (f g : A → Bool) → ((x : A) → f x ≡ g x) → (xs : List A) → all f xs ≡ all g xs
all_same f g h [] = refl
all_same f g h (x ∷ xs) = ap₂ ◌&&◌ (h x) (all_same f g h xs)

module _ (room : ℕ) (lines : List Line) (q : Memory) where
  abbrev state : Station
  state = station_of room lines q

  fits-same : (a : ℕ) → asker_fits (λ k. get_or (lives_in lines) k false) a ≡ asker_fits (λ k. (line_in lines k).live) a
  fits-same a = by (ltb a 8) refl
    where
      by : (b : Bool) → ltb a 8 ≡ b
          → ((b && get_or (lives_in lines) a false) || (eqb a here || eqb a gone))
          ≡ ((b && (line_in lines a).live) || (eqb a here || eqb a gone))
      by true e =
          let h : a < 8 = ltb-true a 8 e in
          ap (λ b. b || (eqb a here || eqb a gone)) (each_line-at (λ k. (line_in lines k).live) a (omega arith))
      by false e = refl

  -- the state is in order where its memory and its lines are
  pub order_is : {b : Bool} → b ≡ (memory_in_order capacity (λ k. get_or (lives_in lines) k false) q && lines_in_order room
      lines) → b ≡ in_order state
  unfolding in_order memory_in_order
  order_is e =
      e ∙ ap (λ x. every (leb q.count capacity ∷ ltb q.next capacity ∷ no_twice (queries_in capacity q) ∷ x
      ∷ all (λ p. hits_fit p.hits) (queries_in capacity q) ∷ []) && lines_in_order room lines)
      (all_same _ _ (λ x. fits-same x.asker) (queries_in capacity q))

  module _ (line : ℕ) where
    -- a test of a line that is asked only of the eight
    same_test : (f : Line → Bool) → (not (ltb line 8) || f (line_in lines (line % 8)))
        ≡ (not (ltb line 8) || f (line_in lines line))
    same_test f = by (ltb line 8) refl
      where
        by : (b : Bool) → ltb line 8 ≡ b → (not b || f (line_in lines (line % 8))) ≡ (not b || f (line_in lines line))
        by true e = let h : line < 8 = ltb-true line 8 e in let k : line % 8 ≡ line = omega arith in rw k
        by false e = refl

    pub early-is : (m : List ℕ) (out route : ℕ) {n : ℕ} {order live : Bool} {size : ℕ} → order ≡ in_order state
        → live ≡ (line_in lines (line % 8)).live
        → size ≡ size_of m → n ≡ first_of (early_rules order room out route line live (length m) size)
        → n ≡ early state line m out route
    unfolding early
    early-is m out route eo el es en =
        en
        ∙ rw (eo, el, es)
        (ap (λ x. first_of ((not (in_order state), 1) ∷ (unfit_areas room out route, 2) ∷ (x, 3) ∷ extent_rules (length m)
        (size_of m)))
        (same_test (λ x. not x.live)))

-- given what is read off the lines
module _ (lines : List Line) (room l : ℕ) {v : View} (ev : v ≡ view_of lines room l) where
  pub order_in_view : (order : Bool) → (order && v.order) ≡ both_in_order order room lines
  order_in_view order = ap (λ (v : View). order && v.order) ev

  -- a line opened or closed: its record as it stands, or, where the answer is 0, another
  pub changed-is : (f : Bool → Bool → ℕ) (order live : Bool) {n : ℕ} → n ≡ f (order && v.order) v.line.live
      → {r : LineChange} → r ≡ changed_by n live v.line
      → r ≡ changed_by (f (both_in_order order room lines) (line_in lines l).live) live (line_in lines l)
  changed-is f order live en er =
      er ∙ ap (λ k. changed_by k live v.line) en
      ∙ ap (λ (v : View). changed_by (f (order && v.order) v.line.live) live v.line) ev

pub line-is : (lines : List Line) (room l : ℕ) {v : View} → v ≡ view_of lines room l → v.line ≡ line_in lines l
line-is lines room l ev = ap (λ (v : View). v.line) ev

-- how the ring is surveyed: the station is in order where the ring and the lines are
pub surveyed_order : (room : ℕ) (lines : List Line) (q : Memory) {order : Bool}
    → order ≡ memory_in_order capacity (λ k. get_or (lives_in lines) k false) q
    → both_in_order order room lines ≡ in_order (state room lines q)
surveyed_order room lines q e = order_is room lines q (ap (λ b. b && lines_in_order room lines) e)

-- the number of a message by its header: what the ring knows of it, and what the ring is after it
module _ (m : List ℕ) {h : Header} (eh : h ≡ header_in m) (q : Memory) where
  pub known_is : {k : Lookup} → k ≡ lookup_of (find (queries_in capacity q) (number_from h.lo h.hi))
      → k ≡ lookup_of (find (queries_in capacity q) (number_in m))
  known_is e = e ∙ ap (λ (h : Header). lookup_of (find (queries_in capacity q) (number_from h.lo h.hi))) eh

  pub ring-after : (taken : Bool) (who : ℕ) {q' : Memory} → q' ≡ remember_if taken capacity q
      (number_from h.lo h.hi) who
      → q' ≡ remember_if taken capacity q (number_in m) who
  ring-after taken who e = e ∙ ap (λ (h : Header). remember_if taken capacity q (number_from h.lo h.hi) who) eh

  -- the same, and the query with this number has had one hit more, or none
  abbrev with_hits : List ℕ → Memory
  with_hits hits = memory_of q.lo q.hi q.asker hits q.count q.next

  raised_is : (answered : Bool) (after : ℕ) {hits : List ℕ}
      → hits ≡ cond answered (raised capacity q.next after q.hits) q.hits
      → with_hits hits ≡ raise_if answered capacity q after
  unfolding raise
  raised_is true after e = ap with_hits e
  raised_is false after e = ap with_hits e

  pub ring-counted : (taken answered : Bool) (who : ℕ) {k : Lookup}
      → k ≡ lookup_of (find (queries_in capacity q) (number_in m)) → {hits : List ℕ}
      → hits ≡ cond answered (raised capacity q.next k.after q.hits) q.hits → {q' : Memory}
      → q' ≡ remember_if taken capacity (with_hits hits) (number_from h.lo h.hi) who
      → q' ≡ remember_if taken capacity
      (raise_if answered capacity q (lookup_of (find (queries_in capacity q) (number_in m))).after) (number_in m) who
  ring-counted taken answered who {k} ek {hits} eh' e =
      e
      ∙ ap (λ (h : Header). remember_if taken capacity (with_hits hits) (number_from h.lo h.hi) who) eh
      ∙ ap (λ (r : Memory). remember_if taken capacity r (number_in m) who)
      (raised_is answered k.after eh' ∙ ap (λ (k : Lookup). raise_if answered capacity q k.after) ek)

-- areas that fit
pub areas-fit : (room out route : ℕ) → unfit_areas room out route ≡ false → (largest_message ≤ out) × (route / 8 ≡ room)
areas-fit room out route e =
    let a : other_room room route ≡ false = or_snd (ltb out largest_message) (other_room room route) e in
    let b : not (eqb (route / 8) room) ≡ false = or_snd (short_route route) (not (eqb (route / 8) room)) a in (
      ltb-false out largest_message (or_fst (ltb out largest_message) (other_room room route) e),
      eqb-true (route / 8) room (not-false (eqb (route / 8) room) b),
    )

-- a message with no first refusal came by one of the eight lines, is whole, and has areas that fit
module _ (order : Bool) (room out route line : ℕ) (live : Bool) (m : List ℕ) (h : Header) (eh : h ≡ header_in m) {n : ℕ}
    (en : n ≡ first_of (early_rules order room out route line live (length m) h.size)) (z : n ≡ 0) where
  none : NoRefusal (early_rules order room out route line live (length m) h.size)
  none = no-refusal (early_rules order room out route line live (length m) h.size) refl (sym en ∙ z)

  below : line < 8
  below = ltb-true line 8 (not-false (ltb line 8) (or_fst (not (ltb line 8)) (not live) none.1.1.0))

  pub message-fits : Fit room h m out route
  message-fits =
      let es = ap (λ (h : Header). h.size) eh in
      let areas = areas-fit room out route none.1.0 in
      record {
        message = record {
          header = eh;
          small = omega (arith, es, ltb-false 4096 h.size none.1.1.1.1.0);
          whole = omega (arith, es, ltb-false (length m) (23 + h.size) none.1.1.1.1.1.0);
        };
        output = areas.0;
        rooms = areas.1;
      }

-- ---- an arriving message

-- what a message leaves of the state, as it is handed on
abbrev pub change_of : Action → Change
change_of a = record { line = a.line; taken = a.remember; answered = a.answered }

-- what is handed on of a message meets its outcome, once the line's record is stored and its number remembered, if
-- it is to be
abbrev pub Arrives : Station → ℕ → List ℕ → Terms → List ℕ → Action → List ℕ → List ℕ → List ℕ → Type 0
Arrives before line m t route a out out' route' =
    MessageMet before line m t route a.report (state_after before (line % 8) (number_in m) (change_of a)) out out'
    route'

-- given what is read off the lines, the step is that of the definition
module _ (order : Bool) (known : Lookup) (room : ℕ) (lines : List Line) (line : ℕ) (m : List ℕ) (t : Terms)
    (route out : List ℕ) {v : View} (ev : v ≡ view_of lines room (line % 8)) {h : Header} (eh : h ≡ header_in m) {n : ℕ}
    (en : n ≡ first_of (early_rules (order && v.order) room t.out (length route) line v.line.live (length m) h.size))
  where
    first : n ≡ first_refusal order room lines line m t.out (length route)
    first =
        en
        ∙ ap (λ (v : View). first_of (early_rules (order && v.order) room t.out (length route) line v.line.live
        (length m) h.size)) ev
        ∙ ap (λ (h : Header). first_of (early_rules (both_in_order order room lines) room t.out (length route) line
        (line_in lines (line % 8)).live (length m) h.size)) eh

    pub handed-by : {a : Action} {out' route' : List ℕ}
        → Done room lines (line % 8) known m t route out n a out' route'
        → {b : Action} → b ≡ used_by a (cond (unused a.report.answer) 0 (23 + h.size))
        → Handed (arrival_step order known room lines line m t route) m b out out' route'
    unfolding arrival_step
    handed-by {a} {out'} {route'} d eb =
        let e = subst (λ n. Done room lines (line % 8) known m t route out n a out' route') first d in
        record {
          action = eb
              ∙ ap (λ (h : Header). used_by a (cond (unused a.report.answer) 0 (23 + h.size))) eh
              ∙ ap (λ (a : Action). used_by a (cond (unused a.report.answer) 0 (23 + size_of m))) e.0.action;
          output = e.0.output;
          area = e.1;
        }

module _ (room : ℕ) (lines : List Line) (q : Memory) (m : List ℕ) (t : Terms) (route out : List ℕ) where
  abbrev S : Station
  S = state room lines q

  -- what a step hands on, stored
  met_by : (l : ℕ) (x : Number) (r : Step) {a : Action} {out' route' : List ℕ} → Handed r m a out out' route'
      → Met (stored S l x r) (used_of r.answer m) a.report (state_after S l x (change_of a)) out out' route'
  met_by l x r h =
      record {
        report = ap (λ (a : Action). a.report) h.action;
        state = ap (λ (a : Action). state_after S l x (change_of a)) h.action;
        output = h.output;
        area = h.area;
      }

  module _ (line : ℕ) (order : Bool) (eo : both_in_order order room lines ≡ in_order S) where
    module _ (a : Action) (out' route' : List ℕ) where
      abbrev Goal : Outcome → Type 0
      Goal o = Met o (used_of o.answer m) a.report
          (state_after S (line % 8) (number_in m) (change_of a)) out out' route'

      module _ {n : ℕ} (en : n ≡ first_refusal order room lines line m t.out (length route))
          (d : Handed (acting n room lines (line % 8) (looked_up S (number_in m)) m t route) m a out out' route') where
        taken : eqb n 0 ≡ true → Goal (arrived usual_limit S line m t route)
        taken b =
            let f : line < 8 = below (both_in_order order room lines) room t.out (length route) line
            (line_in lines (line % 8)).live m (header_in m) refl en (eqb-true n 0 b) in
            let k : line % 8 ≡ line = omega arith in
            let e : Handed (by_type usual_limit room lines line (looked_up S (number_in m)) m t route) m a out out' route'
            = rw (b, k) at d in
            rw k (met_by line (number_in m) (by_type usual_limit room lines line (looked_up S (number_in m)) m t route) e)

        refused : eqb n 0 ≡ false → Goal (quiet n S route)
        refused b =
            let e : Handed (quiet n (line_only (line_in lines (line % 8))) route) m a
            out out' route' = rw b at d in
            let w = met_by (line % 8) (number_in m)
            (quiet n (line_only (line_in lines (line % 8))) route) e in
            record {
              report = w.report;
              state = w.state ∙ ap (λ (x : List Line). station_of room x q) (set-get_or lines (line % 8) nowhere);
              output = w.output;
              area = w.area;
            }

        met : Goal (refused_or (early S line m t.out (length route)) S route (arrived usual_limit S line m t route))
        met = subst (λ n. Goal (refused_or n S route (arrived usual_limit S line m t route)))
            (early-is room lines q line m t.out (length route) eo refl refl en) (by (eqb n 0) refl)
          where
            by : (b : Bool) → eqb n 0 ≡ b → Goal (pick_result b (arrived usual_limit S line m t route) (quiet n S route))
            by true e = taken e
            by false e = refused e

    pub message-met : (known : Lookup) → known ≡ looked_up S (number_in m) → {a : Action} {out' route' : List ℕ}
        → Handed (arrival_step order known room lines line m t route) m a out out' route'
        → Arrives S line m t route a out out' route'
    unfolding arriving arrival_step
    message-met known ek {a} {out'} {route'} h =
        met a out' route' refl
        (subst (λ (k : Lookup). Handed (acting (first_refusal order room lines line m t.out (length route))
        room lines (line % 8) k m t route) m a out out' route') ek h)

-- ---- a line opened or closed

-- who is gone already stays so
gone-stays : (xs : List ℕ) → map (left gone) xs ≡ xs
gone-stays [] = refl
gone-stays (x ∷ xs) = ap₂ ◌∷◌ (one (eqb x gone) refl) (gone-stays xs)
  where
    one : (b : Bool) → eqb x gone ≡ b → cond b gone x ≡ x
    one true e = sym (eqb-true x gone e)
    one false e = refl

module _ (room : ℕ) (lines : List Line) (q : Memory) (line : ℕ) where
  -- the line's record as it stands, or, where the answer n is 0, another
  record-put : (n : ℕ) (x : Line) (b : Bool) → eqb n 0 ≡ b → (n ≡ 0 → line < 8)
      → set lines (line % 8) (cond b x (line_in lines (line % 8))) ≡ cond b (set lines line x) lines
  record-put n x true e h = let f : line < 8 = h (eqb-true n 0 e) in let k : line % 8 ≡ line = omega arith in rw k
  record-put n x false e h = set-get_or lines (line % 8) nowhere

  first_two : (order test : Bool) {n : ℕ} → n ≡ first_of ((not order, 1) ∷ (not (ltb line 8) || test, 3) ∷ [])
      → n ≡ 0 → line < 8
  first_two order test e z =
      let p : NoRefusal ((not order, 1) ∷ (not (ltb line 8) || test, 3) ∷ [])
      = no-refusal ((not order, 1) ∷ (not (ltb line 8) || test, 3) ∷ []) refl (sym e ∙ z) in
      ltb-true line 8 (not-false (ltb line 8) (or_fst (not (ltb line 8)) test p.1.0))

  abbrev here-is : Station
  here-is = state room lines q

  -- given whether the station is in order
  module _ (order : Bool) (eo : both_in_order order room lines ≡ in_order here-is) where
    opening-done : {n : ℕ}
        → n ≡ first_of (opening_rules (both_in_order order room lines) line (line_in lines (line % 8)).live)
        → Changed (opening here-is line) n
        (station_of room (set lines (line % 8) (cond (eqb n 0) (empty_line true) (line_in lines (line % 8)))) q)
    unfolding opening
    opening-done {n} en = subst
        (λ k. Changed (refused_or k here-is [] (quiet 0 (with_line here-is line (empty_line true)) [])) n
        (station_of room (set lines (line % 8) (cond (eqb n 0) (empty_line true) (line_in lines (line % 8)))) q)) number
        (by (eqb n 0) refl)
      where
        number : n ≡ first_of (opening_rules (in_order here-is) line (line_in lines line).live)
        number = en ∙ rw eo (ap (λ x. first_of ((not (in_order here-is), 1) ∷ (x, 3) ∷ []))
            (same_test room lines q line (λ x. x.live)))

        put : (b : Bool) → eqb n 0 ≡ b
            → set lines (line % 8) (cond b (empty_line true) (line_in lines (line % 8)))
            ≡ cond b (set lines line (empty_line true)) lines
        put b e = record-put n (empty_line true) b e (first_two (in_order here-is) (line_in lines line).live number)

        by : (b : Bool) → eqb n 0 ≡ b
            → Changed (pick_result b (quiet 0 (with_line here-is line (empty_line true)) []) (quiet n here-is [])) n
            (station_of room (set lines (line % 8) (cond b (empty_line true) (line_in lines (line % 8)))) q)
        by true e =
            record {
              answered = eqb-true n 0 e;
              state = ap (λ (x : List Line). station_of room x q) (put true e);
            }
        by false e =
            record { answered = refl; state = ap (λ (x : List Line). station_of room x q) (put false e) }

    pub opening-met : {r : LineChange} → r ≡ opened_by order room lines line
        → Changed (opening here-is line) r.answer (station_of room (set lines (line % 8) r.line) q)
    opening-met e =
        subst (λ (r : LineChange). Changed (opening here-is line) r.answer
        (station_of room (set lines (line % 8) r.line) q)) (sym e) (opening-done refl)

    closing-done : {n : ℕ}
        → n ≡ first_of (closing_rules (both_in_order order room lines) line (line_in lines (line % 8)).live)
        → Changed (closing here-is line) n
        (station_of room (set lines (line % 8) (cond (eqb n 0) (empty_line false) (line_in lines (line % 8))))
        (left_all (cond (eqb n 0) (line % 8) gone) q))
    unfolding closing
    closing-done {n} en =
        subst (λ k. Changed (refused_or k here-is [] (quiet 0 (closed_state here-is line) [])) n
        (station_of room (set lines (line % 8) (cond (eqb n 0) (empty_line false) (line_in lines (line % 8))))
        (left_all (cond (eqb n 0) (line % 8) gone) q))) number
        (by (eqb n 0) refl)
      where
        number : n ≡ first_of (closing_rules (in_order here-is) line (line_in lines line).live)
        number = en ∙ rw eo (ap (λ x. first_of ((not (in_order here-is), 1) ∷ (x, 3) ∷ []))
            (same_test room lines q line (λ x. not x.live)))

        by : (b : Bool) → eqb n 0 ≡ b
            → Changed (pick_result b (quiet 0 (closed_state here-is line) []) (quiet n here-is [])) n
            (station_of room (set lines (line % 8) (cond b (empty_line false) (line_in lines (line % 8))))
            (left_all (cond b (line % 8) gone) q))
        by true e =
            let f : line < 8 = first_two (in_order here-is) (not (line_in lines line).live) number (eqb-true n 0 e) in
            let k : line % 8 ≡ line = omega arith in
            rw k (record { answered = eqb-true n 0 e; state = refl })
        by false e =
            record {
              answered = refl;
              state = ap₂
                  (λ (x : List Line) a. station_of room x (memory_of q.lo q.hi a q.hits q.count q.next))
                  (set-get_or lines (line % 8) nowhere) (gone-stays q.asker);
            }

    pub closing-met : {r : LineChange} → r ≡ closed_by order room lines line
        → Changed (closing here-is line) r.answer
        (station_of room (set lines (line % 8) r.line) (left_all (cond (eqb r.answer 0) (line % 8) gone) q))
    closing-met e =
        subst (λ (r : LineChange). Changed (closing here-is line) r.answer
        (station_of room (set lines (line % 8) r.line) (left_all (cond (eqb r.answer 0) (line % 8) gone) q)))
        (sym e) (closing-done refl)

-- ---- an own query

-- the state after an own query: its number is remembered where it is answered 0
abbrev pub asked_state : Station → List ℕ → Report → Station
asked_state before number r = with_memory before
    (remember_if (eqb r.answer 0) capacity before.memory (number_in number) here)

-- one that is not refused has room
pub own-fits : (order : Bool) (room : ℕ) (text route out : List ℕ) (zero : Bool) (known : Lookup) {n : ℕ}
    → n ≡ first_of (own_rules order room (length out) (length route) (length text) zero known) → n ≡ 0
    → (length text ≤ 4093) × (4119 ≤ length out)
own-fits order room text route out zero known e z =
    let rules = own_rules order room (length out) (length route) (length text) zero known in
    let p : NoRefusal rules = no-refusal rules refl (sym e ∙ z) in (
      ltb-false 4093 (length text) p.1.1.0,
      ltb-false (length out) largest_message
          (or_fst (ltb (length out) largest_message) (other_room room (length route)) p.1.0),
    )

-- given what is read off the lines and the text, the answer is that of the definition
pub own_first : (order : Bool) (known : Lookup) (room : ℕ) (lines : List Line) (text : List ℕ) (out route : ℕ)
    {v : View} → v ≡ view_of lines room 0 → {zero : Bool} → zero ≡ any (eqb 0) text → {n : ℕ}
    → n ≡ first_of (own_rules (order && v.order) room out route (length text) zero known)
    → n ≡ own_answer_by order known room lines text out route
own_first order known room lines text out route ev ez en =
    en
    ∙ rw ez (ap (λ (v : View). first_of (own_rules (order && v.order) room out route (length text)
    (any (eqb 0) text) known)) ev)

-- answered so, with an age that is read off the answer, and as the definition has both
pub answered_as : (order : Bool) (known : Lookup) (room : ℕ) (lines : List Line) (number text route out : List ℕ)
    {n : ℕ} → n ≡ own_answer_by order known room lines text (length out) (length route)
    → {age : Age} → age ≡ pick_age (eqb n 9) (age_after known.after) no_age
    → {r : Report} {out' : List ℕ} → Sends (own_query_sent usual_limit n room lines number text route) r out out'
    → Sends (hands_up (own_age_by order known room lines text (length out) (length route))
    (own_query_sent usual_limit (own_answer_by order known room lines text (length out) (length route)) room lines number
    text route)) (aged_report age r) out out'
answered_as order known room lines number text route out {n} e {age} eage {r} {out'} d =
    let before = own_before (both_in_order order room lines) room (length out) (length route) (length text)
    (any (eqb 0) text) in
    let aged : age ≡ age_behind before known =
    eage ∙ ap (λ k. pick_age (eqb k 9) (age_after known.after) no_age) e ∙ repeat_is known before refl in
    subst (λ b. Sends (hands_up b (own_query_sent usual_limit (own_answer_by order known room lines text (length out)
    (length route)) room lines number text route)) (aged_report age r) out out') aged
    (subst (λ k. Sends (hands_up age (own_query_sent usual_limit k room lines number text route)) (aged_report age r) out
    out') e (record { report = ap (aged_report age) d.report; output = d.output }))

module _ (room : ℕ) (lines : List Line) (q : Memory) (number text route out : List ℕ) where
  abbrev asked : Station
  asked = state room lines q

  own-done : {n : ℕ} → n ≡ own_answer asked number text (length out) (length route)
      → {age : Age} → age ≡ own_age asked number text (length out) (length route) → {r : Report} {out' : List ℕ}
      → Sends (hands_up age (own_query_sent usual_limit n room lines number text route)) r out out'
      → OwnMet asked number text route r (asked_state asked number r) out out'
  unfolding asking own_query_sent
  own-done {n} own_is {age} age-is {r} {out'} d =
      rw (← age-is)
      (subst (λ k. Met (hands_up age (refused_or k asked route (own_taken usual_limit asked number text route))) 0 r
      (asked_state asked number r) out out' route) own_is
      (by (eqb n 0) refl d))
    where
      sent : Bool → Result Bool
      sent b = sends (own_lines usual_limit room lines text route)
          (written_for (own_lines usual_limit room lines text route) (own_bytes usual_limit number text)) (quiet 0 b route)

      by : (b : Bool) → eqb n 0 ≡ b
          → Sends (hands_up age (pick_result b (sent (eqb n 0)) (quiet n (eqb n 0) route))) r out out'
          → Met (hands_up age (pick_result b (own_taken usual_limit asked number text route) (quiet n asked route))) 0 r
          (asked_state asked number r) out out' route
      by true e w =
          record {
            report = w.report;
            state = ap (asked_state asked number) w.report;
            output = w.output;
            area = refl;
          }
      by false e w =
          record {
            report = w.report;
            state = ap (asked_state asked number) w.report
                ∙ ap (λ b. with_memory asked (remember_if b capacity q (number_in number) here)) e;
            output = w.output;
            area = refl;
          }

  pub own-met : (order : Bool) → both_in_order order room lines ≡ in_order asked → (known : Lookup)
      → known ≡ looked_up asked (number_in number) → {r : Report} {out' : List ℕ}
      → Sends (hands_up (own_age_by order known room lines text (length out) (length route))
      (own_query_sent usual_limit (own_answer_by order known room lines text (length out) (length route)) room lines
      number text route)) r out out'
      → OwnMet asked number text route r (asked_state asked number r) out out'
  unfolding own_answer
  own-met order eo known ek d = own-done own_is (rw (eo, ek)) d
    where
      own_is : own_answer_by order known room lines text (length out) (length route)
          ≡ own_answer asked number text (length out) (length route)
      own_is = rw (eo, ek)

-- what is told and written of an own query
module _ (limit n room : ℕ) (lines : List Line) (l : ℕ) (v : View) (ev : v ≡ view_of lines room l)
    (number text route out : List ℕ) where
  abbrev told : Report → List ℕ → Type 0
  told r out' = Sends (own_query_sent limit n room lines number text route) r out out'

  pub own-refused : {r : Report} → (n ≡ 0 → ⊥) → r ≡ quiet_report n → told r out
  unfolding own_query_sent
  own-refused z er = rw (ne_eqb n 0 z) (record { report = er; output = refl })

  module _ (z : n ≡ 0) {q : Report} (eq : q ≡ quiet_report n) {to : List Bool}
      (et : to ≡ own_to limit (λ k. get_or v.live k false) (λ k. held_of v.tables room route k) text) where
    to_is : to ≡ own_lines limit room lines text route
    to_is = et ∙ ap (λ (v : View). own_to limit (λ k. get_or v.live k false) (λ k. held_of v.tables room route k)
        text) ev

    pub own-unsent : any (λ b. b) to ≡ false → told (sent_in q q.written to) out
    unfolding own_query_sent
    own-unsent e =
        let f : any (λ b. b) (own_lines limit room lines text route) ≡ false = sym (ap (any (λ b. b)) to_is) ∙ e in
        rw (eq-eqb n 0 z, f)
        (record { report = ap (λ (q : Report). sent_in q q.written to) eq ∙ rw (to_is, z); output = refl })

    pub own-sent : any (λ b. b) to ≡ true → {w : ℕ} {out' : List ℕ} → w ≡ length (own_bytes limit number text)
        → out' ≡ over 0 (own_bytes limit number text) out
        → told (sent_in q w to) out'
    unfolding own_query_sent
    own-sent e {w} ew eo =
        let f : any (λ b. b) (own_lines limit room lines text route) ≡ true = sym (ap (any (λ b. b)) to_is) ∙ e in
        rw (eq-eqb n 0 z, f)
        (record { report = ap (λ (q : Report). sent_in q w to) eq ∙ rw (to_is, z, ew); output = eo })

-- ---- a fresh state

pub begun-is : (n : ℕ) {room answer : ℕ} {x : Line} → room ≡ fresh_room n → answer ≡ fresh_answer n → x ≡ empty_line false
    → ◌≡◌ {A = Beginning} (record { answer = answer; room = room; lines = replicate 8 x }) (begun_over n)
begun-is n er ea ex = rw (er, ea, ex)

pub fresh-met : (n : ℕ) {r : Beginning} → r ≡ begun_over n
    → Changed (fresh n) r.answer (station_of r.room r.lines fresh_memory)
unfolding fresh
fresh-met n e =
    subst (λ (r : Beginning). Changed (fresh n) r.answer (station_of r.room r.lines fresh_memory)) (sym e)
    (record { answered = refl; state = refl })

-- an own query that fits, written
module _ (limit : ℕ) (number text out : List ℕ) (sixteen : length number ≡ 16) (short : length text ≤ 4093)
    (room : 4119 ≤ length out) where
  can_send : sendable text out ≡ true
  can_send =
      let r : 26 + length text ≤ length out = omega arith in
      rw (le-leb (length text) 4093 short, le-leb (26 + length text) (length out) r)

  own-long : length (own_bytes limit number text) ≡ 26 + length text
  unfolding message
  own-long = simp (length-append) (omega arith)

  pub own-counted : {w : ℕ} → w ≡ count_if (sendable text out) (26 + length text)
      → w ≡ length (own_bytes limit number text)
  own-counted e = e ∙ ap (λ b. count_if b (26 + length text)) can_send ∙ sym own-long

  pub own-written : {o : List ℕ} → o ≡ own_into number limit text out → o ≡ over 0 (own_bytes limit number text) out
  own-written e = e ∙ ap (λ b. written_if b (own_bytes limit number text) out) can_send
