-- What an update leaves alone: all of the state but its line's table, all of the route area but that table's entries.
-- Assumes nothing.
use Prim.Native.Nat.{ℕ, suc, ◌+◌, ◌*◌, ◌/◌, ◌≤◌, ◌<◌}
use native.Mathlib.Omega.{arith}
use native.Mathlib.Nat.{mul-le-mul_right}
use mathlib.Core.Path.{◌≡◌, refl, sym, ap, ◌∙◌}
use mathlib.Core.Bool.{Bool, true, false}
use mathlib.Core.List.{List}
use lib.Dec.{eqb}
use lib.ListN.{length, length-take, length-drop, length-replicate}
use borrow.Author.Tests.{leb-true, eqb-true, eqb-false}
use Rattle.laws.specs.Parts.{over}
use Rattle.laws.proofs.Over.{over-length}
use Rattle.laws.proofs.Overlay.{over-ahead, over-behind}
use Rattle.wire.specs.Header.{kind_of, ttl_of, hops_of, payload_of, route_update, query_type}
use Rattle.tables.specs.declared.Table.{Table}
use Rattle.tables.specs.Tables.{Held, marked, broken, ready}
use Rattle.tables.specs.Updates.{length_in, infinity_in, reset_by, patch_by, broken_by}
use Rattle.tables.proofs.KeepLaws.{moved_length, patched-length}
use Rattle.tables.proofs.OrderLaws.{limits}
use Rattle.protocol.specs.declared.Line.{Line}
use Rattle.protocol.specs.State.{Station, line_at, with_line, held_at}
use Rattle.protocol.specs.Lines.{with_table, stored_pongs}
use Rattle.protocol.specs.Order.{in_order}
use Rattle.protocol.specs.Outcomes.{Terms, Outcome}
use Rattle.protocol.specs.Queries.{usual_limit}
use Rattle.protocol.specs.Calls.{update_step, by_type, own_answer, asking, message_outcome, own_outcome}
use Rattle.protocol.specs.Kept.{Sized, BrokenInWords}
use Rattle.protocol.specs.Arrived.{Arrived}
use Rattle.protocol.specs.Frames.{NotSearched, TableOnly, MarkedBroken, PartOnly}
use Rattle.protocol.proofs.Outcomes.{of_refused}
use Rattle.protocol.proofs.ByType.{update_number, held_after, update_done, of_types, of_message}
use Rattle.protocol.proofs.InOrder.{facts_at}
use Rattle.protocol.proofs.Updates.{by-update}
use Rattle.protocol.proofs.Matching.{line_set}
use Rattle.protocol.proofs.Opened.{beside-set}
use Rattle.protocol.proofs.Arrived.{by-type}
use Rattle.protocol.proofs.Refused.{refusal-frame}

-- one line's table is set
module _ (s : Station) (z : Sized s) (l : ℕ) (l≤7 : l ≤ 7) where
  below : l < length s.lines
  below = omega (arith, z.eight)

  module _ (t : Table) where
    abbrev set_line : Line
    set_line = with_table (line_at s l) t

    pub table_at : line_at (with_line s l set_line) l ≡ set_line
    table_at = line_set s l set_line below

    pub table-only : TableOnly l s (with_line s l set_line)
    unfolding stored_pongs
    table-only =
        record {
          live = ap (λ (y : Line). y.live) table_at;
          pinged = ap (λ (y : Line). y.pinged) table_at;
          time = ap (λ (y : Line). y.pingtime) table_at;
          pongs = ap stored_pongs table_at;
          beside = beside-set s l set_line;
          memory = refl;
        }

  pub marked-broken : MarkedBroken l s (with_line s l (with_table (line_at s l) (marked broken (line_at s l).table)))
  marked-broken =
      let q = table_at (marked broken (line_at s l).table) in
      record {
        table_only = table-only (marked broken (line_at s l).table);
        mark = ap (λ (y : Line). y.table.mark) q;
        long = ap (λ (y : Line). y.table.length) q;
        infinity = ap (λ (y : Line). y.table.infinity) q;
        nextplace = ap (λ (y : Line). y.table.nextplace) q;
        runsize = ap (λ (y : Line). y.table.runsize) q;
        runbits = ap (λ (y : Line). y.table.runbits) q;
        nextentry = ap (λ (y : Line). y.table.nextentry) q;
      }

pub broken_in_words : BrokenInWords
broken_in_words s l z h = marked-broken s z l h

-- entries written at the front of one of eight parts
pub part-inside : (l room n area : ℕ) → l ≤ 7 → n ≤ room → area / 8 ≡ room → l * room + n ≤ area
part-inside l room n area h k e =
    let p : suc l * room ≤ 8 * room = mul-le-mul_right room (omega arith) in
    omega arith

part-only : (room l : ℕ) (bs route : List ℕ) → l ≤ 7 → length bs ≤ room → length route / 8 ≡ room
    → PartOnly room l (length bs) route (over (l * room) bs route)
part-only room l bs route h k e =
    let p : l * room + length bs ≤ length route = part-inside l room (length bs) (length route) h k e in
    record {
      before = over-ahead (l * room) bs route 0 (l * room) (omega arith) (omega arith);
      behind = over-behind (l * room) bs route (l * room + length bs) p (omega arith);
      long = over-length (l * room) bs route p;
    }

-- an update that has arrived
module _ (s : Station) (z : Sized s) (o : in_order s ≡ true) (l : ℕ) (m : List ℕ) (t : Terms) (route : List ℕ)
    (a : Arrived s l m t.out route) (k : kind_of m ≡ 0x30) where
  abbrev before : Held
  before = held_at s l route

  abbrev after : Held
  after = held_after s l m route

  abbrev outcome : Outcome
  outcome = message_outcome s l m t route

  pub as_update : outcome ≡ update_done s l m route
  unfolding by_type
  as_update = by-type s l m t route o usual_limit a ∙ rw k

  pub update-only : TableOnly l s outcome.state
  unfolding update_step
  update-only = rw as_update (table-only s z l a.line after.table)

  pub update-broken : (outcome.answer ≡ 0 → ⊥) → MarkedBroken l s outcome.state
  unfolding update_step broken_by
  update-broken =
      rw as_update
      (by-update (λ n (h : Held). (n ≡ 0 → ⊥) → MarkedBroken l s (with_line s l (with_table (line_at s l) h.table)))
      s.room before (ttl_of m) (hops_of m) (payload_of m)
      (λ _ ne. absurd (ne refl))
      (λ _ ne. absurd (ne refl))
      (λ _ _ _. marked-broken s z l a.line))

  -- an accepted one leaves as many entries as its table is long, within the room
  abbrev Full : Held → Type 0
  Full h = (length h.entries ≡ h.table.length) × (h.table.length ≤ s.room)

  was-full : ready before.table.mark ≡ true → Full before
  was-full r =
      let e = (facts_at s l o (below s z l a.line)).table in
      let fits : before.table.length ≤ s.room
      = leb-true before.table.length s.room (limits s.room before.table e r).fits in
      let inside : l * s.room + s.room ≤ length route
      = part-inside l s.room s.room (length route) a.line (omega arith) a.areas.room in
      (simp (length-take, length-drop) (omega arith), fits)

  abbrev p : List ℕ
  p = payload_of m

  after-full : update_number s l m route ≡ 0 → Full after
  unfolding reset_by patch_by
  after-full =
      by-update (λ n (h : Held). n ≡ 0 → Full h) s.room before (ttl_of m) (hops_of m) p
      (λ q _. let f = was-full q.turn.0 in
      let same = moved_length before.table p in
      (patched-length before p ∙ f.0 ∙ sym same, rw same f.1))
      (λ q _. (length-replicate (length_in p) (infinity_in p), leb-true (length_in p) s.room q.tests.1.1.1.0))
      (λ n ne e. absurd (ne e))

  pub update-part : outcome.answer ≡ 0
      → PartOnly s.room l (line_at outcome.state l).table.length route outcome.route
  unfolding update_step
  update-part e =
      let f = after-full (ap (λ (r : Outcome). r.answer) (sym as_update) ∙ e) in
      let n : (line_at (update_done s l m route).state l).table.length ≡ length after.entries
      = ap (λ (y : Line). y.table.length) (table_at s z l a.line after.table) ∙ sym f.0 in
      let within : length after.entries ≤ s.room = omega (arith, f.0, f.1) in
      rw as_update (rw n (part-only s.room l after.entries route a.line within a.areas.room))

-- any other message, and an own query, leave the route area
abbrev SameArea : List ℕ → Outcome → Type 0
SameArea route r = r.route ≡ route

module _ (s : Station) (l : ℕ) (m : List ℕ) (t : Terms) (route : List ℕ) where
  abbrev told : Outcome
  told = message_outcome s l m t route

  pub message-area : ((kind_of m ≡ 0x30) × (told.answer ≡ 0) → ⊥) → SameArea route told
  message-area ne = go (eqb told.answer 0) refl
    where
      go : (b : Bool) → eqb told.answer 0 ≡ b → SameArea route told
      go true e =
          of_message (SameArea route) s l m route usual_limit t (λ _ _. refl)
          (λ _. of_types (SameArea route) s l m route (λ _ _ _. refl) usual_limit t
          (λ _ _. refl)
          (λ _ _. refl)
          (λ k. absurd (ne (eqb-true (kind_of m) route_update k, eqb-true told.answer 0 e)))
          (λ _ _. refl)
          (λ _ _. refl))
      go false e =
          ap (λ (r : Outcome). r.route) ((refusal-frame.calls s).message l m t route (eqb-false told.answer 0 e))

  -- and no ping is searched for
  pub ping-search : kind_of m ≡ 0x00 → NotSearched told
  unfolding update_step
  ping-search k =
      of_message NotSearched s l m route usual_limit t (λ _ _. (refl, refl, refl))
      (λ _. of_types NotSearched s l m route (λ _ _ _. (refl, refl, refl)) usual_limit t
      (λ _ _. (refl, refl, refl))
      (λ _ _. (refl, refl, refl))
      (λ _. (refl, refl, refl))
      (λ q _. let e : kind_of m ≡ 0x80 = eqb-true (kind_of m) query_type q in absurd (omega arith))
      (λ _ _. (refl, refl, refl)))

pub own-area : (s : Station) (number text : List ℕ) (out : ℕ) (route : List ℕ)
    → (own_outcome s number text out route).route ≡ route
unfolding asking
own-area s number text out route =
    of_refused (SameArea route) (own_answer s number text out (length route)) s route _ (λ _. refl) (λ _. refl)
