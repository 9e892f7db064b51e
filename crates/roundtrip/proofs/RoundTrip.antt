-- The round trip through the station: the writer's bytes, taken by message calls, leave the new table and nothing else
-- changed.
-- Assumes nothing.
use Prim.Native.Nat.{ℕ, suc, ◌+◌, ◌*◌, ◌≤◌}
use native.Mathlib.Omega.{arith}
use native.Mathlib.Nat.{le_refl}
use mathlib.Core.Path.{◌≡◌, refl, sym, ap, ap₂, ◌∙◌, subst}
use mathlib.Core.Bool.{Bool, true, false}
use mathlib.Core.List.{List, [], ◌∷◌, ◌++◌, map}
use lib.Dec.{eqb}
use lib.ListN.{length, take, drop, length-replicate}
use lib.Seq.{take-take, take_at, length-take-le}
use borrow.Author.Tests.{eqb-true}
use Rattle.laws.specs.Parts.{over}
use Rattle.laws.proofs.Chunks.{Each}
use Rattle.laws.proofs.Overlay.{over-read, over-behind}
use Rattle.laws.proofs.Refusals.{and_fst, and_snd}
use Rattle.wire.specs.Header.{payload_of}
use Rattle.tables.specs.declared.Table.{Table}
use Rattle.tables.specs.Tables.{Held, settled, between_runs, table_in_order, held_in}
use Rattle.tables.specs.Updates.{is_patch}
use Rattle.tables.proofs.OrderLaws.{limits}
use Rattle.tablemessages.specs.Writer.{base_of, bits_for, data_of, parts_of, run_of, messages_of, joined, reset_payload}
use Rattle.tablemessages.specs.Writer.{update}
use Rattle.tablemessages.specs.Writer.{writer_answer, writer_bytes, writer_result, writer_out}
use Rattle.tablemessages.specs.RoundTrip.{after, run_payloads, payloads_of, Stands, ReadAs, settled_table, settled_as}
use Rattle.tablemessages.proofs.Whole.{Small, Whole, AllWhole, payloads-small, all_whole}
use Rattle.tablemessages.proofs.Reading.{reset_to, reset-taken}
use Rattle.tablemessages.proofs.Accepted.{good_length_lem, Accepted, accepted}
use Rattle.tablemessages.proofs.RoundTrip.{round_trip, written-bytes}
use Rattle.protocol.specs.declared.Line.{Line}
use Rattle.protocol.specs.Lines.{with_table, part_of}
use Rattle.protocol.specs.State.{Station, remembered, line_at, held_at}
use Rattle.protocol.specs.Outcomes.{Terms}
use Rattle.protocol.proofs.InOrder.{facts_at}
use Rattle.protocol.proofs.Matching.{line_set, line_other}
use Rattle.roundtrip.specs.Feeding.{Fed, fed}
use Rattle.roundtrip.specs.RoundTrip.{Listening, SettledAt, Exchanged, StationRoundTrip}
use Rattle.roundtrip.proofs.Feeding.{Full, patch-full, Sendable, line-below, inside}
use Rattle.roundtrip.proofs.InTurn.{AllFull, FedTo, feeding}

-- facts that hold of each element
module _ {A : Type 0} where
  each_both : (P Q R : A → Type 0) → ((x : A) → P x → Q x → R x) → (xs : List A) → Each P xs → Each Q xs → Each R xs
  each_both P Q R f [] p q = tt
  each_both P Q R f (x ∷ xs) p q = (f x p.0 q.0, each_both P Q R f xs p.1 q.1)

  each_of_map : {B : Type 0} (g : A → B) (P : B → Type 0) (xs : List A) → Each P (map g xs) → Each (λ x. P (g x)) xs
  each_of_map g P [] p = tt
  each_of_map g P (x ∷ xs) p = (p.0, each_of_map g P xs p.1)

-- the payloads of a run are PATCHes
abbrev Patch : List ℕ → Type 0
Patch p = is_patch p ≡ true

run-patches : (place count bits : ℕ) (ds : List (List ℕ)) → Each Patch (run_payloads place count bits ds)
unfolding run_payloads
run-patches place count bits [] = tt
run-patches place count bits (d ∷ ds) = (refl, run-patches (suc place) count bits ds)

-- PATCHes one after another keep the number of entries
patches-full : (n room : ℕ) (h : Held) (ms : List (List ℕ)) → Each (λ m. Patch (payload_of m)) ms → Full n h
    → AllFull n room h ms
patches-full n room h [] p f = tt
patches-full n room h (m ∷ ms) p f =
    let g : Full n (after room h m) = patch-full n room h _ _ (payload_of m) p.0 f in
    (g, patches-full n room (after room h m) ms p.1 g)

-- the writer's messages: each is let in, and after each the table has as many entries as the new one
module _ (number : List ℕ) (sixteen : length number ≡ 16) (old new : List ℕ) (infinity size : ℕ) where
  abbrev messages : Bool → List (List ℕ)
  messages had = messages_of number had old new infinity size

  all-sendable : (had : Bool) → size ≤ 4091 → Each Sendable (messages had)
  all-sendable had k =
      let a : AllWhole number had old new infinity size = all_whole number had old new infinity size sixteen k in
      each_both (λ m. Whole (payload_of m) m) (λ m. Small (payload_of m)) Sendable
      (λ m w s. record { whole = w; small = rw w.size s })
      (messages had)
      a.each
      (each_of_map payload_of Small (messages had) (rw a.payloads (payloads-small had old new infinity size k)))

  -- the data of a run from some entries, in parts, and a run of whole messages with these parts
  abbrev parts : List ℕ → List (List ℕ)
  parts base = parts_of size (data_of new base)

  abbrev payloads_from : List ℕ → List (List ℕ)
  payloads_from base = run_payloads 1 (length (parts base)) (bits_for new base) (parts base)

  run-full : (base : List ℕ) (room : ℕ) (h : Held) (ms : List (List ℕ)) → map payload_of ms ≡ payloads_from base
      → Full (length new) h → AllFull (length new) room h ms
  run-full base room h ms e =
      patches-full (length new) room h ms
      (each_of_map payload_of Patch ms
      (rw e (run-patches 1 (length (parts base)) (bits_for new base) (parts base))))

  full_with_old : (room : ℕ) (h : Held) → Accepted true old new infinity size → Full (length new) h
      → AllFull (length new) room h (messages true)
  unfolding messages_of payloads_of
  full_with_old room h a f =
      let w = all_whole number true old new infinity size sixteen a.data_size.1 in
      run-full old room h (messages true) w.payloads f

  full_with_none : (room : ℕ) (h : Held) → Accepted false old new infinity size → length new ≤ room
      → AllFull (length new) room h (messages false)
  unfolding messages_of payloads_of
  full_with_none room h a within =
      let w = all_whole number false old new infinity size sixteen a.data_size.1 in
      let base : List ℕ = base_of false old new infinity in
      let reset : List ℕ = update number (reset_payload (length new) infinity) in
      let good = a.fresh.length-test in
      let limit = a.fresh.limit-test in
      let most : length new ≤ 65536 = (good_length_lem (length new) good).most in
      let e : after room h reset ≡ reset_to (length new) infinity
      = (reset-taken room (length new) infinity (omega arith) h number sixteen good within limit).held in
      let f : Full (length new) (after room h reset)
      = rw e (record { entries = length-replicate (length new) infinity; table = refl }) in
      (f, run-full base room (after room h reset) (run_of number new base size) (ap (drop 1) w.payloads) f)

-- a settled table of a state in order is between runs
between-runs : (room : ℕ) (t : Table) → table_in_order room t ≡ true → t.mark ≡ settled → between_runs t ≡ true
between-runs room t e k = rw k at (limits room t e (rw k)).position

module _ (s : Station) (L : ℕ) (area : List ℕ) (w : Listening s L area) where
  stands_at : (old : List ℕ) (infinity : ℕ) → SettledAt (held_at s L area) old infinity
      → Stands (held_at s L area) old infinity
  stands_at old infinity q =
      let t : Table = (line_at s L).table in
      let r : between_runs t ≡ true
      = between-runs s.room t (facts_at s L w.order (line-below s L area w)).table q.mark in
      record {
        mark = q.mark;
        long = q.long;
        limit = q.limit;
        place = eqb-true t.nextplace 1 (and_fst (eqb t.nextplace 1) (eqb t.nextentry 0) r);
        at = eqb-true t.nextentry 0 (and_snd (eqb t.nextplace 1) (eqb t.nextentry 0) r);
        entries = q.entries;
      }

  -- what the two equations say, part by part
  module _ (new : List ℕ) (infinity messages bytes : ℕ) (f : Fed) (within : length new ≤ s.room)
      (r : FedTo s L area messages bytes (settled_as new infinity) f) where
    abbrev start : ℕ
    start = L * s.room

    abbrev new_line : Line
    new_line = with_table (line_at s L) (settled_table (length new) infinity)

    fits : start + length new ≤ length area
    fits = inside s L area w (length new) within

    held_new : held_at f.state L f.area ≡ settled_as new infinity
    held_new =
        let x : List ℕ = over start new area in
        let entries : take (length new) (part_of s.room L x) ≡ new
        = take-take (length new) s.room (drop start x) within ∙ over-read start new area (omega (arith, fits)) in
        ap₂ (λ (y : Station) (z : List ℕ). held_at y L z) r.state r.area
        ∙ ap (λ (y : Line). held_in y.table (part_of s.room L x)) (line_set s L new_line (line-below s L area w))
        ∙ (λ i. record { table = settled_table (length new) infinity; entries = entries i })

    pub exchanged : Exchanged s L area new infinity messages bytes f
    exchanged =
        record {
          silent = r.silent;
          calls = r.calls;
          used = r.used;
          state = r.state;
          area = r.area;
          held = held_new;
          others = λ k ne. ap (λ (y : Station). line_at y k) r.state ∙ line_other s L new_line k ne;
          memory = ap remembered r.state;
          before = ap (take start) r.area
              ∙ take_at (take start area) (new ++ drop (start + length new) area) start
              (length-take-le start area (omega (arith, fits)));
          behind = ap (drop (start + length new)) r.area
              ∙ over-behind start new area (start + length new) fits (le_refl (start + length new));
        }

-- all the writer's messages
module _ (number : List ℕ) (sixteen : length number ≡ 16) (old : List ℕ) (old_infinity : ℕ) (new : List ℕ)
    (infinity size : ℕ) (outLength : ℕ) where
  writer_full : (had : Bool) (room : ℕ) (h : Held) → Accepted had old new infinity size → length new ≤ room
      → (had ≡ true → Stands h old infinity)
      → AllFull (length new) room h (messages_of number had old new infinity size)
  writer_full true room h a within stands =
      let q : Stands h old infinity = stands refl in
      let same : length old ≡ length new = (a.before refl).1 in
      full_with_old number sixteen old new infinity size room h a
      (record { entries = ap length q.entries ∙ same; table = q.long ∙ same })
  writer_full false room h a within stands = full_with_none number sixteen old new infinity size room h a within

  pub writer_fed : (had : Bool) (t : ℕ → Terms) (s : Station) (L : ℕ) (area : List ℕ)
      → writer_answer number had old old_infinity new infinity size outLength ≡ 0
      → length new ≤ s.room
      → (w : Listening s L area)
      → ((i : ℕ) → 4119 ≤ (t i).out)
      → (had ≡ true → SettledAt (held_at s L area) old infinity)
      → FedTo s L area (length (messages_of number had old new infinity size))
      (length (joined (messages_of number had old new infinity size)))
      (settled_as new infinity)
      (fed t L s area (joined (messages_of number had old new infinity size)))
  writer_fed had t s L area ok within w outs q =
      let a = accepted number had old old_infinity new infinity size outLength ok in
      let ms : List (List ℕ) = messages_of number had old new infinity size in
      let h : Held = held_at s L area in
      let stands : had ≡ true → Stands h old infinity = λ e. stands_at s L area w old infinity (q e) in
      let r : ReadAs s.room h ms (settled_as new infinity)
      = round_trip number had old old_infinity new infinity size outLength s.room h sixteen ok within stands in
      subst
      (λ (last : Held). FedTo s L area (length ms) (length (joined ms)) last (fed t L s area (joined ms)))
      r.held
      (feeding L (length new) (length (joined ms)) t s area h ms w refl within
      (all-sendable number sixteen old new infinity size had a.data_size.1)
      (writer_full had s.room h a within stands)
      r.answers
      (le_refl (length (joined ms)))
      outs)

pub station-round_trip : StationRoundTrip
unfolding writer_result writer_bytes
station-round_trip number had old old_infinity new infinity size out t s L area sixteen ok within w outs q =
    let ms : List (List ℕ) = messages_of number had old new infinity size in
    let n : ℕ = (writer_result number had old old_infinity new infinity size out).written in
    let long : n ≡ length (joined ms) = rw ok in
    let e : take n (writer_out number had old old_infinity new infinity size out) ≡ joined ms
    = written-bytes number had old old_infinity new infinity size out ok in
    let f : FedTo s L area (length ms) (length (joined ms)) (settled_as new infinity) (fed t L s area (joined ms))
    = writer_fed number sixteen old old_infinity new infinity size (length out) had t s L area ok within w outs q in
    exchanged s L area w new infinity (length ms) n
    (fed t L s area (take n (writer_out number had old old_infinity new infinity size out)))
    within
    (subst (λ (bytes : List ℕ). FedTo s L area (length ms) n (settled_as new infinity) (fed t L s area bytes)) (sym e)
    (subst (λ (k : ℕ). FedTo s L area (length ms) k (settled_as new infinity) (fed t L s area (joined ms))) (sym long)
    f))
