-- A state in order stays in order, whatever the call and its answer.
-- Assumes nothing.
use Prim.Native.Nat.{ℕ, ◌+◌, ◌%◌, ◌≤◌, ◌<◌, min}
use native.Mathlib.Omega.{arith}
use mathlib.Core.Path.{◌≡◌, refl, sym, ap, ◌∙◌}
use mathlib.Core.Bool.{Bool, true, false}
use mathlib.Core.Logic.{inl, inr, ⊎_elim}
use mathlib.Core.List.{List, [], ◌∷◌}
use lib.Dec.{eqb, leb, ltb}
use lib.ListN.{length, take, length-set, length-map, length-take, length-drop, get_or-replicate}
use lib.Seq.{get_or-set_same, get_or-set_other}
use borrow.Author.Tests.{leb-true, le-leb, ltb-true, lt-ltb, ltb-false, eqb-true, eqb-false, eq-eqb}
use Rattle.laws.specs.Tests.{first_of, all}
use Rattle.laws.specs.Ring.{kept_places, onward}
use Rattle.laws.proofs.Refusals.{and_fst, and_snd, and_intro, or_snd, of_choice}
use Rattle.laws.proofs.Refusals.{no-refusal, NoRefusal, all_get_d, all_set, all_take, all_weaken, all_map}
use Rattle.wire.specs.Header.{header_in, ttl_of, hops_of, size_of, payload_of}
use Rattle.tables.specs.Tables.{table_in_order}
use Rattle.tables.proofs.OrderLaws.{keeps_order}
use Rattle.tables.proofs.BoundLaws.{all_replicate}
use Rattle.protocol.specs.declared.Line.{Line}
use Rattle.protocol.specs.declared.Pong.{Pong}
use Rattle.protocol.specs.Memory.{capacity, here, Query, number_in, Number, no_twice, hits_fit, left}
use Rattle.protocol.specs.Memory.{Memory, queries_in, place_behind, remember, raise}
use Rattle.protocol.specs.State.{Station, station_of, remembered, seen, looked_up, line_at, with_line, with_memory}
use Rattle.protocol.specs.Lines.{line_count, empty_line, nowhere, with_table, pinged_at, with_pong}
use Rattle.protocol.specs.Lines.{pong_capacity, pong_hops, stored_pongs, part_of}
use Rattle.protocol.specs.Order.{line_in_order, in_order}
use Rattle.protocol.specs.Outcomes.{Terms, Outcome, quiet}
use Rattle.protocol.specs.Queries.{usual_limit}
use Rattle.protocol.specs.Pings.{is_probe, time_kept, arrived_pong}
use Rattle.protocol.specs.Calls.{fresh_room, fresh_lines, fresh_memory, fresh, opening}
use Rattle.protocol.specs.Calls.{closed_state, closing, update_step, arriving, own_answer, own_taken, asking}
use Rattle.protocol.specs.Runs.{Call, Open, Close, Message, Ask, lent, outcome_of, step}
use Rattle.protocol.specs.Kept.{sized_line, Sized, Kept, FreshInOrder, OrderKept, OrderKeptByLists, asked, left_by}
use Rattle.protocol.specs.Kept.{hit_by}
use Rattle.protocol.proofs.Outcomes.{of_refused, opening_in, closing_in, is-closed, LetIn, asked_in}
use Rattle.protocol.proofs.ByType.{pong_in, query_in, held_after, update_done, of_types, of_message}
use Rattle.protocol.proofs.InOrder.{fits_in, asker_iff, StateFacts, LineFacts, state_facts, state-order}
use Rattle.protocol.proofs.InOrder.{line-order, facts_at}
use Rattle.protocol.proofs.Memory.{remembered-newest, remembered-left, stored-newest}
use Rattle.protocol.proofs.Memory.{seen-any, no_twice-take, no_twice-new, no_twice-map}
use Rattle.protocol.proofs.Places.{hits-after, remembered-hit}
use Rattle.protocol.proofs.Answered.{FoundFew, found-few}

abbrev asker_in : Station → Query → Bool
asker_in s q = fits_in s q.asker

abbrev few_hits : Query → Bool
few_hits q = hits_fit q.hits

-- one line's record is set: the askers still fit where an open line stays open
module _ (s : Station) (z : Sized s) (o : in_order s ≡ true) (l : ℕ) (l≤7 : l ≤ 7) (x : Line) where
  line-below : l < length s.lines
  line-below = omega (arith, z.eight)

  abbrev StaysOpen : Type 0
  StaysOpen = (line_at s l).live ≡ true → x.live ≡ true

  pub open_still : StaysOpen → (a : ℕ) → (line_at s a).live ≡ true → (line_at (with_line s l x) a).live ≡ true
  open_still g a e = go (eqb a l) refl
    where
      go : (b : Bool) → eqb a l ≡ b → (line_at (with_line s l x) a).live ≡ true
      go true y =
          let w : a ≡ l = eqb-true a l y in
          ap (λ k. (line_at (with_line s l x) k).live) w
          ∙ ap (λ (r : Line). r.live) (get_or-set_same s.lines l x nowhere line-below)
          ∙ g (ap (λ k. (line_at s k).live) (sym w) ∙ e)
      go false y = ap (λ (r : Line). r.live) (get_or-set_other s.lines l a x nowhere (eqb-false a l y)) ∙ e

  fits_after : StaysOpen → (a : ℕ) → fits_in s a ≡ true → fits_in (with_line s l x) a ≡ true
  fits_after g a e =
      (asker_iff (with_line s l x) a).1 (⊎_elim (λ h. inl (h.0, open_still g a h.1)) inr ((asker_iff s a).0 e))

  kept_line : StaysOpen → LineFacts s.room x → sized_line x ≡ true → Kept s (with_line s l x)
  kept_line g f y =
      let h : StateFacts s = state_facts s o in
      record {
        order = state-order (with_line s l x) (record {
          count = h.count;
          next = h.next;
          twice = h.twice;
          askers = all_weaken (asker_in s) (asker_in (with_line s l x)) (remembered s) (λ q. fits_after g q.asker)
              h.askers;
          hits = h.hits;
          lines = all_set (line_in_order s.room) s.lines l x h.lines (line-order s.room x f);
        });
        sized = record {
          eight = length-set s.lines l x ∙ z.eight;
          lo = z.lo;
          hi = z.hi;
          asker = z.asker;
          hits = z.hits;
          pongs = all_set sized_line s.lines l x z.pongs y;
        };
        room = refl;
      }

-- one query more is remembered
module _ (s : Station) (z : Sized s) (o : in_order s ≡ true) (n : Number) (who : ℕ) where
  abbrev newest : List Query
  newest = asked n who ∷ remembered s

  pub remembered-one : queries_in capacity (remember capacity s.memory n who) ≡ take capacity newest
  remembered-one =
      let h : StateFacts s = state_facts s o in
      remembered-newest s n who z (leb-true s.memory.count capacity h.count)
      (ltb-true s.memory.next capacity h.next)

  kept-remember : seen s n ≡ false → fits_in s who ≡ true → Kept s (with_memory s (remember capacity s.memory n who))
  unfolding remember
  kept-remember u f =
      let q : Memory = s.memory in
      let h : StateFacts s = state_facts s o in
      record {
        order = state-order (with_memory s (remember capacity q n who)) (record {
          count = le-leb (min capacity (q.count + 1)) capacity (omega arith);
          next = lt-ltb (onward capacity q.next) capacity (omega arith);
          twice = ap no_twice remembered-one
              ∙ no_twice-take capacity newest (no_twice-new n who (remembered s) (sym (seen-any s n) ∙ u) h.twice);
          askers = ap (all (asker_in s)) remembered-one
              ∙ all_take (asker_in s) capacity newest
              (and_intro (fits_in s who) (all (asker_in s) (remembered s)) f h.askers);
          hits = ap (all few_hits) remembered-one ∙ all_take few_hits capacity newest h.hits;
          lines = h.lines;
        });
        sized = record {
          eight = z.eight;
          lo = length-set q.lo (q.next % capacity) n.lo ∙ z.lo;
          hi = length-set q.hi (q.next % capacity) n.hi ∙ z.hi;
          asker = length-set q.asker (q.next % capacity) who ∙ z.asker;
          hits = length-set q.hits (q.next % capacity) 0 ∙ z.hits;
          pongs = z.pongs;
        };
        room = refl;
      }

-- a hit that is passed back or delivered: its query's count is raised
module _ (s : Station) (z : Sized s) (o : in_order s ≡ true) (n : Number) (w : FoundFew s n) where
  kept-hit : Kept s (with_memory s (raise capacity s.memory (looked_up s n).after))
  unfolding raise
  kept-hit =
      let q : Memory = s.memory in
      let h : StateFacts s = state_facts s o in
      let e = remembered-hit s n (looked_up s n).after w.who w.hits z h.twice w.found w.few in
      record {
        order = state-order (with_memory s (raise capacity q (looked_up s n).after)) (record {
          count = h.count;
          next = h.next;
          twice = ap no_twice e ∙ no_twice-map (hit_by n) (λ _. refl) (remembered s) ∙ h.twice;
          askers = ap (all (asker_in s)) e ∙ all_map (hit_by n) (asker_in s) (remembered s) ∙ h.askers;
          hits = hits-after s z (looked_up s n).after h.hits;
          lines = h.lines;
        });
        sized = record {
          eight = z.eight;
          lo = z.lo;
          hi = z.hi;
          asker = z.asker;
          hits = length-set q.hits (place_behind capacity q (looked_up s n).after) _ ∙ z.hits;
          pongs = z.pongs;
        };
        room = refl;
      }

-- an empty line
empty_facts : (room : ℕ) (live : Bool) → LineFacts room (empty_line live)
unfolding stored_pongs kept_places table_in_order
empty_facts room true = record { empty = refl; count = refl; next = refl; hops = refl; table = refl }
empty_facts room false = record { empty = refl; count = refl; next = refl; hops = refl; table = refl }

-- a line is closed: its queries are gone
module _ (s : Station) (z : Sized s) (o : in_order s ≡ true) (l : ℕ) where
  fits-left : (x : Line) (a : ℕ) → fits_in s a ≡ true → fits_in (with_line s l x) (left l a) ≡ true
  fits-left x a e = go (eqb a l) refl
    where
      go : (b : Bool) → eqb a l ≡ b → fits_in (with_line s l x) (left l a) ≡ true
      go true y = rw y
      go false y = rw (y, get_or-set_other s.lines l a x nowhere (eqb-false a l y)) e

  kept-closed : Kept s (closed_state s l)
  kept-closed =
      let h : StateFacts s = state_facts s o in
      let e = remembered-left s l z in
      let x : Line = empty_line false in
      record {
        order = state-order (closed_state s l) (record {
          count = h.count;
          next = h.next;
          twice = ap no_twice e ∙ no_twice-map (left_by l) (λ _. refl) (remembered s) ∙ h.twice;
          askers = ap (all (asker_in (closed_state s l))) e
              ∙ all_map (left_by l) (asker_in (closed_state s l)) (remembered s)
              ∙ all_weaken (asker_in s) (λ q. asker_in (closed_state s l) (left_by l q)) (remembered s)
              (λ q. fits-left _ q.asker) h.askers;
          hits = ap (all few_hits) e ∙ all_map (left_by l) few_hits (remembered s) ∙ h.hits;
          lines = all_set (line_in_order s.room) s.lines l x h.lines
              (line-order s.room x (empty_facts s.room false));
        });
        sized = record {
          eight = length-set s.lines l x ∙ z.eight;
          lo = z.lo;
          hi = z.hi;
          asker = length-map s.memory.asker (left l) ∙ z.asker;
          hits = z.hits;
          pongs = all_set sized_line s.lines l x z.pongs refl;
        };
        room = refl;
      }

-- an arriving message that was let in
module _ (s : Station) (z : Sized s) (o : in_order s ≡ true) (l : ℕ) (m route : List ℕ)
    (d : LetIn s l m (length route)) where
  abbrev x : Line
  x = line_at s l

  here-below : l < length s.lines
  here-below = let h = d.line in omega (arith, z.eight)

  was : LineFacts s.room x
  was = facts_at s l o here-below

  was-sized : sized_line x ≡ true
  was-sized = all_get_d sized_line s.lines l nowhere z.pongs here-below

  kept-update : Kept s (update_done s l m route).state
  unfolding update_step stored_pongs
  kept-update =
      kept_line s z o l d.line (with_table x (held_after s l m route).table) (λ v. v)
      (record {
        empty = rw d.live;
        count = was.count;
        next = was.next;
        hops = was.hops;
        table = keeps_order s.room x.table (part_of s.room l route) (ttl_of m) (hops_of m) (payload_of m)
            was.table;
      })
      was-sized

  pinged_facts : (clock : ℕ) → LineFacts s.room (pinged_at x clock)
  unfolding stored_pongs
  pinged_facts clock =
      record { empty = rw d.live; count = was.count; next = was.next; hops = was.hops; table = was.table }

  kept-ping : (clock : ℕ) → Kept s (with_line s l (time_kept x (is_probe (header_in m)) clock))
  kept-ping clock =
      of_choice (λ (y : Line). Kept s (with_line s l y)) (is_probe (header_in m)) x (pinged_at x clock)
      (λ _. kept_line s z o l d.line x (λ v. v) was was-sized)
      (λ _. kept_line s z o l d.line (pinged_at x clock) (λ v. v) (pinged_facts clock) was-sized)

  -- a stored pong has 14 bytes and at most 7 Hops
  pong-bytes : (clock : ℕ) → ltb (size_of m) 14 ≡ false → length (arrived_pong clock m).bytes ≡ 14
  pong-bytes clock e =
      let a : 14 ≤ size_of m = ltb-false (size_of m) 14 e in
      let w : 23 + size_of m ≤ length m = d.whole in
      simp (length-take, length-drop) (omega arith)

  abbrev low : Pong → Bool
  low p = leb p.hops pong_hops

  abbrev whole : Pong → Bool
  whole p = eqb (length p.bytes) 14

  kept-pong : (clock : ℕ) → NoRefusal (pong_in m) → Kept s (with_line s l (with_pong x (arrived_pong clock m)))
  kept-pong clock n =
      let p : Pong = arrived_pong clock m in
      let at : ℕ = x.pongnext % pong_capacity in
      let few = ltb-false pong_hops (hops_of m) (or_snd (eqb (ttl_of m) 0) (ltb pong_hops (hops_of m)) n.1.0) in
      let ten = and_fst (eqb (length x.pongs) pong_capacity) (all whole x.pongs) was-sized in
      let were = and_snd (eqb (length x.pongs) pong_capacity) (all whole x.pongs) was-sized in
      let e = stored-newest x p (eqb-true (length x.pongs) pong_capacity ten)
      (leb-true x.pongcount pong_capacity was.count) (ltb-true x.pongnext pong_capacity was.next) in
      kept_line s z o l d.line (with_pong x p) (λ v. v)
      (record {
        empty = rw d.live;
        count = le-leb (min pong_capacity (x.pongcount + 1)) pong_capacity (omega arith);
        next = lt-ltb (onward pong_capacity x.pongnext) pong_capacity (omega arith);
        hops = ap (all low) e ∙ all_take low pong_capacity (p ∷ stored_pongs x)
            (rw (le-leb (hops_of m) pong_hops few) was.hops);
        table = was.table;
      })
      (rw (length-set x.pongs at p, ten)
      (all_set whole x.pongs at p were (eq-eqb (length p.bytes) 14 (pong-bytes clock n.0))))

  kept-query : (limit : ℕ) → NoRefusal (query_in limit s m)
      → Kept s (with_memory s (remember capacity s.memory (number_in m) l))
  kept-query limit n =
      let h : l < line_count = let k = d.line in omega arith in
      kept-remember s z o (number_in m) l n.1.1.0 (rw (lt-ltb l line_count h, d.live))

-- the four calls
module _ (s : Station) (z : Sized s) (o : in_order s ≡ true) where
  abbrev KeptBy : Outcome → Type 0
  KeptBy r = Kept s r.state

  -- nothing changed
  unchanged : Kept s s
  unchanged = record { order = o; sized = z; room = refl }

  kept-opening : (l : ℕ) → Kept s (opening s l).state
  unfolding opening
  kept-opening l =
      of_refused KeptBy (first_of (opening_in s l)) s [] (quiet 0 (with_line s l (empty_line true)) [])
      (λ e. let c = is-closed s l (no-refusal (opening_in s l) refl e).1.0 in
      kept_line s z o l c.0 (empty_line true) (λ _. refl) (empty_facts s.room true) refl)
      (λ _. unchanged)

  kept-closing : (l : ℕ) → Kept s (closing s l).state
  unfolding closing
  kept-closing l =
      of_refused KeptBy (first_of (closing_in s l)) s [] (quiet 0 (closed_state s l) [])
      (λ _. kept-closed s z o l)
      (λ _. unchanged)

  kept-message : (limit l : ℕ) (m : List ℕ) (t : Terms) (route : List ℕ) → Kept s (arriving limit s l m t route).state
  kept-message limit l m t route =
      of_message KeptBy s l m route limit t (λ _ _. unchanged)
      (λ d. of_types KeptBy s l m route (λ _ _ _. unchanged) limit t
      (λ _ _. kept-ping s z o l m route d t.clock)
      (λ _. kept-pong s z o l m route d t.clock)
      (λ _. kept-update s z o l m route d)
      (λ _. kept-query s z o l m route d limit)
      (λ _ n. kept-hit s z o (number_in m) (found-few s o m n)))

  kept-own : (limit : ℕ) (number text : List ℕ) (out : ℕ) (route : List ℕ)
      → Kept s (asking limit s number text out route).state
  unfolding asking
  kept-own limit number text out route =
      of_refused KeptBy (own_answer s number text out (length route)) s route (own_taken limit s number text route)
      (λ e. kept-remember s z o (number_in number) here (asked_in s number text out (length route) e).unseen refl)
      (λ _. unchanged)

pub order-kept : OrderKept
order-kept s z o =
    record {
      opens = kept-opening s z o;
      closes = kept-closing s z o;
      message = kept-message s z o usual_limit;
      asks = kept-own s z o usual_limit;
    }

-- every list of calls
pub order-kept-by-lists : OrderKeptByLists
order-kept-by-lists w [] z o = unchanged w.state z o
order-kept-by-lists w (c ∷ cs) z o =
    let k : Kept w.state (outcome_of w c).state = one c in
    let r = order-kept-by-lists (step w c) cs k.sized k.order in
    record { order = r.order; sized = r.sized; room = r.room ∙ k.room }
  where
    one : (c : Call) → Kept w.state (outcome_of w c).state
    one (Open l) = (order-kept w.state z o).opens l
    one (Close l) = (order-kept w.state z o).closes l
    one (Message l m t a) = (order-kept w.state z o).message l m t (lent a w.area)
    one (Ask number text t a) = (order-kept w.state z o).asks number text t.out (lent a w.area)

-- a fresh state
fresh-order : (room : ℕ) → in_order (station_of room fresh_lines fresh_memory) ≡ true
unfolding queries_in kept_places no_twice
fresh-order room =
    state-order (station_of room fresh_lines fresh_memory) (record {
      count = refl;
      next = refl;
      twice = refl;
      askers = refl;
      hits = refl;
      lines = all_replicate (line_in_order room) line_count (empty_line false)
          (line-order room (empty_line false) (empty_facts room false));
    })

pub fresh_in_order : FreshInOrder
unfolding fresh
fresh_in_order n =
    record {
      order = fresh-order (fresh_room n);
      sized = record { eight = refl; lo = refl; hi = refl; asker = refl; hits = refl; pongs = refl };
      room = refl;
      closed = λ l h. ap (λ (x : Line). x.live) (get_or-replicate line_count l (empty_line false) nowhere h);
      hits = refl;
    }
