-- A message that has arrived: exactly then no early refusal applies, and its type decides.
-- Assumes nothing.
use Prim.Native.Nat.{ℕ, ◌+◌, ◌/◌, ◌≤◌, ◌<◌}
use native.Mathlib.Omega.{arith}
use mathlib.Core.Path.{◌≡◌, refl, ap, ◌∙◌}
use mathlib.Core.Bool.{Bool, true, false, not}
use mathlib.Core.Logic.{inl, inr, ⊎_elim}
use mathlib.Core.List.{List}
use lib.Dec.{eqb, leb, ltb}
use lib.ListN.{length}
use borrow.Author.Tests.{leb-true, le-leb, leb-false, lt-ltb, ltb-false, le-ltb, eqb-true, eqb-false, eq-eqb}
use borrow.Author.Tests.{not-false}
use Rattle.laws.proofs.Refusals.{and_fst, and_snd, or_fst, or_snd, no-refusal, NoRefusal, none-refused}
use Rattle.wire.specs.Header.{kind_of, size_of}
use Rattle.protocol.specs.State.{Station, line_at, looked_up}
use Rattle.protocol.specs.Memory.{number_in}
use Rattle.protocol.specs.Order.{in_order}
use Rattle.protocol.specs.Outcomes.{Terms, Outcome, quiet, stored, unused}
use Rattle.protocol.specs.Queries.{usual_limit, query_step}
use Rattle.protocol.specs.Hits.{hit_step}
use Rattle.protocol.specs.Pings.{ping_step, pong_step}
use Rattle.protocol.specs.Calls.{not_open, other_room, unfit_areas, early, by_type, arrived, arriving}
use Rattle.protocol.specs.Calls.{message_outcome}
use Rattle.protocol.specs.Arrived.{Areas, Arrived, Sent, SentIfArrived}
use Rattle.protocol.proofs.Outcomes.{of_refused, early_in, LetIn, let_in, early-unused}
use Rattle.protocol.proofs.Blind.{type-number, types_sent}

-- the test for answer 2
module _ (s : Station) (out : ℕ) (route : List ℕ) where
  abbrev under32 : Bool
  under32 = ltb (length route) 32

  abbrev same_room : Bool
  same_room = eqb (length route / 8) s.room

  abbrev pub bad_areas : Bool
  bad_areas = unfit_areas s.room out (length route)

  pub areas_of : bad_areas ≡ false → Areas s out route
  areas_of e =
      let r = or_snd (ltb out 4119) (other_room s.room (length route)) e in
      record {
        output = ltb-false out 4119 (or_fst (ltb out 4119) (other_room s.room (length route)) e);
        long = ltb-false (length route) 32 (or_fst under32 (not same_room) r);
        room = eqb-true (length route / 8) s.room (not-false same_room (or_snd under32 (not same_room) r));
      }

  pub areas-fit : Areas s out route → bad_areas ≡ false
  areas-fit a =
      let n : ℕ = length route in
      rw (le-ltb out 4119 a.output, le-ltb n 32 a.long, eq-eqb (n / 8) s.room a.room)

-- numbers that are none of 1 to 5
sent_of : (o : Outcome) → unused o.answer ≡ false → Sent o
sent_of o u = go (eqb o.answer 0) refl
  where
    go : (b : Bool) → eqb o.answer 0 ≡ b → Sent o
    go true e = inl (eqb-true o.answer 0 e)
    go false e =
        let n : o.answer ≡ 0 → ⊥ = eqb-false o.answer 0 e in
        let one : leb 1 o.answer ≡ true = le-leb 1 o.answer (omega arith) in
        inr (leb-false o.answer 5 (rw one at u))

unused-not : (o : Outcome) → unused o.answer ≡ true → Sent o → ⊥
unused-not o u t =
    let a : 1 ≤ o.answer = leb-true 1 o.answer (and_fst (leb 1 o.answer) (leb o.answer 5) u) in
    let b : o.answer ≤ 5 = leb-true o.answer 5 (and_snd (leb 1 o.answer) (leb o.answer 5) u) in
    ⊎_elim (λ z. absurd (omega arith)) (λ z. absurd (omega arith)) t

module _ (s : Station) (l : ℕ) (m : List ℕ) (t : Terms) (route : List ℕ) where
  abbrev rules : List (Bool × ℕ)
  rules = early_in s l m t.out (length route)

  abbrev pub refusal : ℕ
  refusal = early s l m t.out (length route)

  pub arrived_of : refusal ≡ 0 → Arrived s l m t.out route
  unfolding early
  arrived_of e =
      let p : NoRefusal rules = no-refusal rules refl e in
      let d : LetIn s l m (length route) = let_in s l m t.out (length route) e in
      record {
        areas = areas_of s t.out route p.1.0;
        line = d.line;
        live = d.live;
        size = d.size;
        whole = d.whole;
      }

  module _ (o : in_order s ≡ true) where
    pub none-early : Arrived s l m t.out route → refusal ≡ 0
    unfolding early
    none-early a =
        let b : l < 8 = let h = a.line in omega arith in
        let n : 23 ≤ length m = let h = a.whole in omega arith in
        let open' : not_open l (line_at s l).live ≡ false = rw (lt-ltb l 8 b, a.live) in
        let header : ltb (length m) 23 ≡ false = le-ltb (length m) 23 n in
        let size : ltb 4096 (size_of m) ≡ false = le-ltb 4096 (size_of m) a.size in
        let whole : ltb (length m) (23 + size_of m) ≡ false = le-ltb (length m) (23 + size_of m) a.whole in
        none-refused rules (rw o, (areas-fit s t.out route a.areas, (open', (header, (size, (whole, tt))))))

    pub by-type : (limit : ℕ) → Arrived s l m t.out route
        → arriving limit s l m t route ≡ arrived limit s l m t route
    unfolding arriving
    by-type limit a = rw (none-early a)

    pub sent_if_arrived : SentIfArrived s l m t.out route (message_outcome s l m t route)
    unfolding arriving
    sent_if_arrived = (
      of_refused (λ r. Sent r → Arrived s l m t.out route) refusal s route (arrived usual_limit s l m t route)
          (λ e _. arrived_of e)
          (λ ne v. absurd (unused-not (quiet refusal s route) (early-unused s l m t.out (length route) ne) v)),
      (λ a. sent_of (message_outcome s l m t route) (ap (λ (r : Outcome). unused r.answer) (by-type usual_limit a)
          ∙ ap unused (type-number s l m t route) ∙ types_sent s l m t route)),
    )

  -- by type
  module _ (limit : ℕ) where
    abbrev by_its_type : Outcome
    by_its_type = arrived limit s l m t route

    pub by-ping : kind_of m ≡ 0x00 → by_its_type ≡ stored s l (number_in m) (ping_step s.lines l t m route)
    unfolding by_type
    by-ping k = rw k

    pub by-pong : kind_of m ≡ 0x01 → by_its_type ≡ stored s l (number_in m) (pong_step (line_at s l) t.clock m route)
    unfolding by_type
    by-pong k = rw k

    pub by-query : kind_of m ≡ 0x80
        → by_its_type
        ≡ stored s l (number_in m) (query_step limit s.room s.lines l (looked_up s (number_in m)) m route)
    unfolding by_type
    by-query k = rw k

    pub by-hit : kind_of m ≡ 0x81
        → by_its_type ≡ stored s l (number_in m) (hit_step (line_at s l) (looked_up s (number_in m)) m route)
    unfolding by_type
    by-hit k = rw k
