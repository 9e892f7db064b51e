-- One message call on an update that is at the front of some bytes, and what it leaves of the line.
-- Assumes nothing.
use Prim.Native.Nat.{ℕ, suc, ◌+◌, ◌*◌, ◌≤◌, ◌<◌}
use native.Mathlib.Omega.{arith}
use mathlib.Core.Path.{◌≡◌, refl, sym, ap, ◌∙◌, subst}
use mathlib.Core.Bool.{true}
use mathlib.Core.List.{List, [], ◌∷◌, ◌++◌}
use lib.ListN.{length, take, drop, length-append}
use lib.Seq.{take-take, drop-append_seam}
use Rattle.laws.specs.Parts.{over}
use Rattle.laws.proofs.Over.{over-length}
use Rattle.laws.proofs.Overlay.{over-read}
use Rattle.laws.proofs.Refusals.{clash}
use Rattle.wire.specs.Header.{size_of, payload_of}
use Rattle.tables.specs.Tables.{Held, held_in}
use Rattle.tables.specs.Updates.{is_patch, updated, patch_by, broken_by}
use Rattle.tables.proofs.KeepLaws.{moved_length, patched-length}
use Rattle.tablemessages.specs.RoundTrip.{answer_to, after}
use Rattle.tablemessages.proofs.Whole.{Whole}
use Rattle.protocol.specs.declared.Line.{Line}
use Rattle.protocol.specs.declared.Report.{Report}
use Rattle.protocol.specs.Lines.{with_table, part_of}
use Rattle.protocol.specs.State.{Station, line_at, held_at}
use Rattle.protocol.specs.Outcomes.{Terms, terms_of, Outcome, used_of}
use Rattle.protocol.specs.Calls.{update_step, message_outcome, message_report}
use Rattle.protocol.specs.Kept.{Kept}
use Rattle.protocol.specs.Arrived.{Arrived}
use Rattle.protocol.proofs.Updates.{by-update}
use Rattle.protocol.proofs.Kept.{order-kept}
use Rattle.protocol.proofs.Matching.{line_set}
use Rattle.protocol.proofs.Blind.{taken-before}
use Rattle.protocol.proofs.ByType.{update_done}
use Rattle.protocol.proofs.Opened.{quiet-silent}
use Rattle.protocol.proofs.TableFrames.{part-inside, as_update}
use Rattle.roundtrip.specs.Feeding.{Fed, then_fed, call_then, fed_by, Taken}
use Rattle.roundtrip.specs.RoundTrip.{Listening}

-- a table of n entries, with n of them
pub record Full (n : ℕ) (h : Held) : Type 0 where
  pub entries : length h.entries ≡ n
  pub table : h.table.length ≡ n

-- a PATCH keeps their number, whatever it is answered
pub patch-full : (n room : ℕ) (h : Held) (ttl hops : ℕ) (p : List ℕ) → is_patch p ≡ true → Full n h
    → Full n (updated room h ttl hops p)
unfolding patch_by broken_by
patch-full n room h ttl hops p v f =
    by-update (λ _ (g : Held). Full n g) room h ttl hops p
    (λ _. record { entries = patched-length h p ∙ f.entries; table = moved_length h.table p ∙ f.table })
    (λ r. absurd (clash v r.variant))
    (λ _ _. record { entries = f.entries; table = f.table })

-- a call is made where there is a byte
fed-some : (k : ℕ) (t : ℕ → Terms) (l : ℕ) (s : Station) (area bytes : List ℕ) → 1 ≤ length bytes
    → fed_by (suc k) t l s area bytes
    ≡ call_then (message_outcome s l bytes (t 0) area) (message_report s l bytes (t 0) area).used
    (fed_by k (λ i. t (suc i)) l)
    bytes
unfolding fed_by
fed-some k t l s area [] h = absurd (omega arith)
fed-some k t l s area (b ∷ bs) h = refl

-- an update that a call lets in
pub record Sendable (m : List ℕ) : Type 0 where
  pub whole : Whole (payload_of m) m
  pub small : size_of m ≤ 4096

module _ (s : Station) (L : ℕ) (area : List ℕ) (w : Listening s L area) where
  pub line-below : L < length s.lines
  line-below = let a : L < 8 = w.line in omega (arith, w.sized.eight)

  -- the line's part is inside the route area
  pub inside : (n : ℕ) → n ≤ s.room → L * s.room + n ≤ length area
  inside n h = let a : L < 8 = w.line in part-inside L s.room n (length area) (omega arith) h w.room

  module _ (m : List ℕ) (g : Sendable m) where
    header : 23 + size_of m ≤ length m
    header = let e : length m ≡ 23 + size_of m = g.whole.long in omega arith

    abbrev left : Outcome
    left = update_done s L m area

    alone : (t : Terms) → 4119 ≤ t.out → message_outcome s L m t area ≡ left
    alone t h = as_update s w.sized w.order L m t area arrived g.whole.kind
      where
        arrived : Arrived s L m t.out area
        arrived =
            record {
              areas = record { output = h; long = w.large; room = w.room };
              line = let a : L < 8 = w.line in omega arith;
              live = w.live;
              size = g.small;
              whole = header;
            }

    -- with other bytes behind it
    pub as_left : (x : List ℕ) (t : Terms) → 4119 ≤ t.out → message_outcome s L (m ++ x) t area ≡ left
    as_left x t h = (taken-before m x header).outcome s L t area ∙ alone t h

    abbrev now' : Held
    now' = after s.room (held_at s L area) m

    line_then : line_at left.state L ≡ with_table (line_at s L) now'.table
    unfolding update_step
    line_then = line_set s L (with_table (line_at s L) now'.table) line-below

    module _ (n : ℕ) (within : n ≤ s.room) (full : Full n now') where
      pub held_then : held_at left.state L left.route ≡ now'
      unfolding update_step
      held_then =
          let x : List ℕ = over (L * s.room) now'.entries area in
          let same : now'.table.length ≡ length now'.entries = full.table ∙ sym full.entries in
          let g : take now'.table.length (part_of s.room L x) ≡ now'.entries
          = take-take now'.table.length s.room (drop (L * s.room) x) (omega (arith, full.table))
          ∙ ap (λ k. take k (drop (L * s.room) x)) same
          ∙ over-read (L * s.room) now'.entries area (omega (arith, inside n within)) in
          ap (λ (y : Line). held_in y.table (part_of s.room L x)) line_then
          ∙ (λ i. record { table = now'.table; entries = g i })

      -- the station listens on
      pub listens_on : Terms → Listening left.state L left.route
      unfolding update_step
      listens_on t =
          let t' : Terms = terms_of t.clock t.own 4119 in
          let k : Kept s left.state
          = subst (λ (o : Outcome). Kept s o.state) (alone t' (omega arith))
          ((order-kept s w.sized w.order).message L m t' area) in
          let long : length left.route ≡ length area
          = over-length (L * s.room) now'.entries area (rw full.entries (inside n within)) in
          record {
            sized = k.sized;
            order = k.order;
            line = w.line;
            live = ap (λ (y : Line). y.live) line_then ∙ w.live;
            large = rw long w.large;
            room = rw long w.room;
          }

    -- answered 0: nothing is sent, and the message's bytes are used
    module _ (taken : answer_to s.room (held_at s L area) m ≡ 0) where
      pub left-taken : Taken left
      unfolding update_step
      left-taken = (taken, quiet-silent _ _ _ _)

      used-whole : (x : List ℕ) (t : Terms) → 4119 ≤ t.out → (message_report s L (m ++ x) t area).used ≡ length m
      unfolding update_step
      used-whole x t h =
          ap (λ (r : Report). r.used) ((taken-before m x header).report s L t area)
          ∙ ap (λ a. used_of a m) (ap (λ (o : Outcome). o.answer) (alone t h) ∙ taken)
          ∙ sym g.whole.long

      -- the first of some calls, and the others
      pub fed-next : (k : ℕ) (t : ℕ → Terms) (x : List ℕ) → 4119 ≤ (t 0).out
          → fed_by (suc k) t L s area (m ++ x)
          ≡ then_fed left (length m) (fed_by k (λ i. t (suc i)) L left.state left.route x)
      fed-next k t x h =
          let some : 1 ≤ length (m ++ x) = rw (length-append m x) (omega (arith, header)) in
          let others : List ℕ → Fed = fed_by k (λ i. t (suc i)) L left.state left.route in
          fed-some k t L s area (m ++ x) some
          ∙ rw (used-whole x (t 0) h, as_left x (t 0) h)
          (ap (λ (z : List ℕ). then_fed left (length m) (others z)) (drop-append_seam m x))
