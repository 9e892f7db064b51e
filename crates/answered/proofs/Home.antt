-- A hit that was written comes home: by demand 2, and by what its header and its payload are.
-- Assumes nothing.
use Prim.Native.Nat.{ℕ, zero, suc, ◌+◌, ◌-◌, ◌≤◌}
use native.Mathlib.Nat.{zero-add, suc-add}
use native.Mathlib.Omega.{arith}
use mathlib.Core.Path.{◌≡◌, sym, ap, ap₂, subst, ◌∙◌}
use mathlib.Core.Bool.{true}
use mathlib.Core.List.{List, [], ◌∷◌, ◌++◌}
use lib.ListN.{length, take, drop}
use lib.Seq.{take-nil, take-take}
use Rattle.laws.specs.Bytes.{little}
use Rattle.wire.specs.Header.{ttl_of, hops_of, number_of, payload_of, message}
use Rattle.protocol.specs.Memory.{Query, Number, capacity, number_in, number_from}
use Rattle.protocol.specs.State.{line_at, remembered}
use Rattle.protocol.specs.Outcomes.{Terms, Outcome}
use Rattle.protocol.specs.Arrived.{Areas, Arrived}
use Rattle.protocol.specs.Runs.{Area, Call, Message, World, lent, outcome_of, step, run, start}
use Rattle.protocol.specs.Queries.{text_in}
use Rattle.protocol.specs.Demand2.{Origin, Here, From, origin, hits_since, HitRouted, HitBy, AllRouted, Routed}
use Rattle.protocol.proofs.Demand2.{demand2}
use Rattle.answering.specs.declared.HitsWritten.{HitsWritten}
use Rattle.answering.specs.Writing.{chosen, writing, writing_out}
use Rattle.answering.specs.Words.{HitWritten}
use Rattle.answering.proofs.Written.{writes_back}
use Rattle.answered.specs.Home.{Writing, hit_of, ComesTo, ComesHome}

-- the last of a list of calls
last-routed : (limit n : ℕ) (base : List Query) (w : World) (cs : List Call) (c : Call)
    → AllRouted limit n base w (cs ++ (c ∷ [])) → Routed limit n base (run w cs) c (outcome_of (run w cs) c)
last-routed limit n base w [] c r = r.0
last-routed limit n base w (d ∷ ds) c r = last-routed limit n base (step w d) ds c r.1

-- the first sixteen bytes are the number
behind-front : (k n : ℕ) (l : List ℕ) → drop k (take (k + n) l) ≡ take n (drop k l)
behind-front zero n l = ap (λ i. take i l) (zero-add n)
behind-front (suc k) n [] = rw (suc-add k n) (sym (take-nil n))
behind-front (suc k) n (x ∷ l) = ap (λ i. drop (suc k) (take i (x ∷ l))) (suc-add k n) ∙ behind-front k n l

same_in : (m q : List ℕ) → number_of m ≡ number_of q → number_in m ≡ number_in q
same_in m q e =
    ap₂ number_from
    (ap little (sym (take-take 8 16 m (omega arith)) ∙ ap (take 8) e ∙ take-take 8 16 q (omega arith)))
    (ap little (sym (behind-front 8 8 m) ∙ ap (drop 8) e ∙ behind-front 8 8 q))

module _ (v : Writing) where
  abbrev told : HitsWritten
  told = writing v.limit v.query v.names v.sizes v.from (length v.out)

  abbrev after : List ℕ
  after = writing_out v.limit v.query v.names v.sizes v.from v.out

  -- what the bytes are that were written
  is-hit : HitWritten v.query v.from (chosen (text_in (payload_of v.query)) v.names v.sizes)
      told.results told.written v.out after
  is-hit =
      writes_back v.limit v.query v.names v.sizes v.from v.out v.typed v.numbers v.done

  module _ (w : World) (l : ℕ) (t : Terms) (a : Area) where
    arrived : Areas w.state t.out (lent a w.area) → l ≤ 7 → (line_at w.state l).live ≡ true
        → Arrived w.state l (hit_of v) t.out (lent a w.area)
    arrived areas line live =
        let h = is-hit in
        record {
          areas = areas;
          line = line;
          live = live;
          size = h.most;
          whole = omega (arith, h.size, h.long);
        }

    -- by what demand 2 says of a hit
    comes : (from : Origin) (hits : ℕ) (o : Outcome) → HitRouted from hits w (hit_of v) o
        → ComesTo v.query (hit_of v) w from hits o
    comes from hits o r =
        let h = is-hit in
        let by : HitBy from hits w (hit_of v) o = r.by h.least (omega (arith, h.ttl)) in
        record {
          asked = λ e few.
              let b : HitBy Here hits w (hit_of v) o = subst (λ (x : Origin). HitBy x hits w (hit_of v) o) e by in
              let d = b.2 few in
              record { answer = d.0; delivered = d.1; to = d.2; sent = d.3 };
          brought = λ k n e far few.
              let b : HitBy (From k n) hits w (hit_of v) o
              = subst (λ (x : Origin). HitBy x hits w (hit_of v) o) e by in
              let d = (b.1.2 few).goes (omega (arith, h.ttl)) (λ z. omega (arith, h.hops, z)) in
              record {
                opened = b.0;
                answer = d.0;
                delivered = d.1;
                to = d.2;
                sent = d.3 ∙ passed-bytes;
              };
        }
      where
        passed-bytes : message (number_of (hit_of v)) 0x81 (ttl_of (hit_of v) - 1) (hops_of (hit_of v) + 1)
            (payload_of (hit_of v))
            ≡ message (number_of v.query) 0x81 (hops_of v.query) 1 (payload_of (hit_of v))
        passed-bytes =
            let h = is-hit in
            let ttl : ttl_of (hit_of v) - 1 ≡ hops_of v.query = omega (arith, h.ttl) in
            let hops : hops_of (hit_of v) + 1 ≡ 1 = omega (arith, h.hops) in
            ap (λ n. message n 0x81 (ttl_of (hit_of v) - 1) (hops_of (hit_of v) + 1) (payload_of (hit_of v))) h.number
            ∙ ap₂ (λ x y. message (number_of v.query) 0x81 x y (payload_of (hit_of v))) ttl hops

pub comes_home : ComesHome
comes_home v s area cs z o l t a areas line live =
    let w : World = run (start s area) cs in
    let h = is-hit v in
    let same : number_in (hit_of v) ≡ number_in v.query = same_in (hit_of v) v.query h.number in
    let r = last-routed 7 capacity (remembered s) (start s area) cs (Message l (hit_of v) t a)
    (demand2 s area (cs ++ (Message l (hit_of v) t a ∷ [])) z o) in
    let routed = r.0.hit h.kind (arrived v w l t a areas line live) in
    comes v w l t a _ _ _
    (subst (λ (x : Number). HitRouted (origin capacity w.log (remembered s) x)
    (hits_since w.log (remembered s) x) w (hit_of v) (outcome_of w (Message l (hit_of v) t a))) same routed)
