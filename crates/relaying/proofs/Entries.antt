-- The entries that the call writes, in words: which lines have a say, and what their tables tell of a place.
use Prim.Native.Nat.{ℕ, zero, suc, ◌+◌, ◌*◌, ◌/◌, ◌^◌, ◌≤◌, ◌<◌}
use mathlib.Core.Path.{◌≡◌, refl, sym, ap, ◌∙◌}
use mathlib.Core.Bool.{Bool, true, false, cond}
use mathlib.Core.Logic.Iff
use mathlib.Core.Logic.{◌↔◌, inl, inr, ⊎_elim}
use mathlib.Core.List.{List, [], ◌∷◌}
use mathlib.Core.List.Memᴰ
use mathlib.Core.List.{Memᴰ}
use native.Mathlib.Nat.{pow-le-pow_right, two-pow-succ}
use native.Mathlib.Decide.{dec_le}
use native.Mathlib.Omega.{arith}
use lib.Dec.{eqb}
use lib.ListN.{length, get_or, take, drop, length-take, length-drop}
use lib.Pow.{pow_pos}
use lib.Seq.{length-take-le, get_or-take, get_or-drop}
use borrow.Author.Tests.{eqb-true, eqb-false}
use Rattle.laws.specs.Numbers.{counting}
use Rattle.laws.specs.Ring.{kept_places}
use Rattle.laws.specs.Parts.{over}
use Rattle.laws.proofs.Refusals.{clash, of_choice, get_d_any}
use Rattle.laws.proofs.Words.{and_iff, eqb_iff, other_iff, refuted}
use Rattle.tables.specs.Tables.{Held, settled, table_in_order}
use Rattle.namearea.specs.Area.{names_in}
use Rattle.nametable.specs.Words.{FallsOn, Sound}
use Rattle.tablemerging.specs.Merging.{picked_tables, made_entries}
use Rattle.tablemerging.specs.Words.{Counts, MadeEntry, Powers}
use Rattle.tablemerging.proofs.Lengths.{common-below}
use Rattle.tablemerging.proofs.MergeLaws.{picked_same}
use Rattle.tablemerging.proofs.Words.{made-exactly}
use Rattle.protocol.specs.declared.Line.{Line}
use Rattle.protocol.specs.Lines.{line_in, nowhere, is_other, stored_pongs}
use Rattle.protocol.specs.State.{Station, line_at, held_at}
use Rattle.protocol.specs.Order.{line_in_order, in_order}
use Rattle.protocol.specs.Queries.{infinity_written}
use Rattle.protocol.specs.InOrderWords.{LimitWords}
use Rattle.protocol.proofs.InOrder.{state_facts, line_facts}
use Rattle.protocol.proofs.InOrderWords.{table-words}
use Rattle.protocol.proofs.TableFrames.{part-inside}
use Rattle.relaying.specs.Calls.{has_say, other_tables, entries_for, table_for, table_out_for}
use Rattle.relaying.specs.Words.{MayCarry, Standing, Heard, EntryTold, EntriesExactly, SameOthers}
use Rattle.relaying.specs.Words.{OthersOnly}
use Rattle.relaying.proofs.Answers.{make-exactly, make-leaves, written, front}

-- ---- the lines that have a say

pub say_iff : (lines : List Line) (l k : ℕ)
    → (has_say lines l k ≡ true) ↔ ((is_other l k ≡ true) × ((line_in lines k).table.mark ≡ settled))
say_iff lines l k =
    and_iff (is_other l k) (eqb (line_in lines k).table.mark settled) Iff.rfl (eqb_iff _ settled)

-- one of the tables is that of a line below `end` that has
record Said (s : Station) (l : ℕ) (route : List ℕ) (end : ℕ) (h : Held) : Type 0 where
  line : ℕ
  below : line < end
  other : is_other l line ≡ true
  mark : (line_at s line).table.mark ≡ settled
  is : h ≡ held_at s line route

module _ (s : Station) (l : ℕ) (route : List ℕ) where
  abbrev tables_from : ℕ → ℕ → List Held
  tables_from n from = picked_tables (has_say s.lines l) (λ k. held_at s k route) (counting n from)

  of_line : (n from : ℕ) {h : Held} → Memᴰ h (tables_from n from) → Said s l route (from + n) h
  unfolding picked_tables
  of_line zero from m = absurd (Memᴰ.not-nil m)
  of_line (suc n) from {h} m =
      ⊎_elim
      (of_choice (λ hs. Memᴰ h hs → Said s l route (from + suc n) h) (has_say s.lines l from) _ []
      (λ q t. let w = (say_iff s.lines l from).0 q in
      record { line = from; below = omega arith; other = w.0; mark = w.1; is = Memᴰ.eq_of_singleton t })
      (λ q t. absurd (Memᴰ.not-nil t)))
      (λ t. let r = of_line n (suc from) t in
      let b = r.below in
      record { line = r.line; below = omega arith; other = r.other; mark = r.mark; is = r.is })
      (Memᴰ.append_cases (cond (has_say s.lines l from) (held_at s from route ∷ []) []) m)

  pub has-line : (n from k : ℕ) → from ≤ k → k < from + n → has_say s.lines l k ≡ true
      → Memᴰ (held_at s k route) (tables_from n from)
  unfolding picked_tables
  has-line zero from k low high e = absurd (omega arith)
  has-line (suc n) from k low high e = by (eqb from k) refl (λ b c. has-line n (suc from) k b c e)
    where
      by : (t : Bool) → eqb from k ≡ t
          → (suc from ≤ k → k < suc from + n → Memᴰ (held_at s k route) (tables_from n (suc from)))
          → Memᴰ (held_at s k route) (tables_from (suc n) from)
      by true q more = rw (eqb-true from k q, e) (Memᴰ.head refl)
      by false q more =
          let other = eqb-false from k q in
          Memᴰ.append_right (cond (has_say s.lines l from) (held_at s from route ∷ []) [])
          (more (omega arith) (omega arith))

-- ---- what their tables tell

same_power : (c bits : ℕ) → 2 ^ c ≡ 2 ^ bits → bits ≤ c
same_power c bits e = by (dec_le bits c)
  where
    by : Dec (bits ≤ c) → bits ≤ c
    by (yes l) = l
    by (no l) =
        let more : c < bits = omega arith in
        let p : 2 ^ suc c ≤ 2 ^ bits = pow-le-pow_right (omega arith) more in
        absurd (omega (arith, two-pow-succ c, pow_pos c))

module _ (s : Station) (l : ℕ) (route : List ℕ) (o : in_order s ≡ true) (fits : length route / 8 ≡ s.room) where
  abbrev tables : List Held
  tables = other_tables s.room s.lines l route

  -- a line with a settled table
  module _ (k : ℕ) (b : k < 8) (m : (line_at s k).table.mark ≡ settled) where
    abbrev size : ℕ
    size = (line_at s k).table.length

    pub words : LimitWords s.room (line_at s k).table
    unfolding line_in_order stored_pongs kept_places table_in_order
    words =
        let x = line_facts s.room (line_at s k)
        (get_d_any (line_in_order s.room) s.lines k nowhere (state_facts s o).lines refl) in
        (table-words s.room (line_at s k).table x.table).limits (omega arith) (omega arith)

    -- all its entries are there
    pub long : length (held_at s k route).entries ≡ size
    long =
        let w = words.within in
        let p = part-inside k s.room s.room (length route) (omega arith) (omega arith) fits in
        length-take-le size (take s.room (drop (k * s.room) route)) (simp (length-take, length-drop) (omega arith))

    entry_at : (place : ℕ) → place < size
        → get_or (held_at s k route).entries place 0 ≡ get_or route (k * s.room + place) 0
    entry_at place h =
        let w = words.within in
        get_or-take size (take s.room (drop (k * s.room) route)) place 0 h
        ∙ get_or-take s.room (drop (k * s.room) route) place 0 (omega arith)
        ∙ get_or-drop (k * s.room) route place 0

  powers : Powers tables
  powers h m =
      let r = of_line s l route 8 0 m in
      let w = words r.line r.below r.mark in
      let most = w.most in
      let size = long r.line r.below r.mark in
      (w.power, omega arith, ap (λ (h : Held). length h.entries) r.is ∙ size ∙ w.long)

  heard : {b i e : ℕ} → Counts b i tables e → Heard s l route b i e
  heard c =
      let r = of_line s l route 8 0 c.one in
      let k = r.line in
      let low = r.below in
      let size : (line_at s k).table.length ≡ 2 ^ c.bits =
      sym (long k low r.mark) ∙ ap (λ (h : Held). length h.entries) (sym r.is) ∙ c.long in
      let inside : c.place < (line_at s k).table.length = rw size (common-below c.bits c.common c.most) in
      record {
        line = k;
        below = omega arith;
        other = (other_iff k l).0 r.other;
        mark = r.mark;
        bits = c.bits;
        long = size;
        place = c.place;
        common = c.common;
        byte =
            sym (entry_at k low r.mark c.place inside)
            ∙ ap (λ (h : Held). get_or h.entries c.place 0) (sym r.is)
            ∙ c.entry;
        reaches = λ z. c.reaches (z ∙ ap (λ (h : Held). h.table.infinity) (sym r.is));
      }

  counts : {b i e : ℕ} → Heard s l route b i e → Counts b i tables e
  counts h =
      let k = h.line in
      let low : k < 8 = omega (arith, h.below) in
      let w = words k low h.mark in
      let most : h.bits ≤ 32 = omega (arith, same_power w.power h.bits (sym w.long ∙ h.long), w.most) in
      let inside : h.place < (line_at s k).table.length = rw h.long (common-below h.bits h.common most) in
      record {
        table = held_at s k route;
        one = has-line s l route 8 0 k (omega arith) low
            ((say_iff s.lines l k).1 ((other_iff k l).1 h.other, h.mark));
        bits = h.bits;
        most = most;
        long = long k low h.mark ∙ h.long;
        place = h.place;
        common = h.common;
        entry = entry_at k low h.mark h.place inside ∙ h.byte;
        reaches = h.reaches;
      }

  told : {falls : Type 0} {b i infinity entry : ℕ} → MadeEntry falls b i tables infinity entry
      → EntryTold falls s l route b i infinity entry
  told m =
      record {
        own = m.own;
        none = λ f h. m.none f (λ e c. h e (heard c));
        relayed = λ f e h. m.relayed f e (counts h.0, λ d c. h.1 d (heard c));
        known = m.known;
        either =
            ⊎_elim (λ n. inl (λ e h. n e (counts h)))
            (λ v. inr (v.0, (heard v.1.0, λ d h. v.1.1 d (counts h))))
            m.either;
      }

pub entries-exactly : EntriesExactly
entries-exactly limit s l names n out route e =
    record { bits = bits; most = most; power = v.1.1.0.3; entry = entry }
  where
    v : Standing s l route × (Sound names × (MayCarry n × (n ≤ length out)))
    v = (make-exactly limit s l names n (length out) route).done.0 e

    bits : ℕ
    bits = v.1.1.0.0

    most : bits ≤ 16
    most = v.1.1.0.2

    entry : (i : ℕ) → i < n
        → EntryTold (FallsOn bits (names_in names) i) s l route bits i
        (table_for limit s l names n (length out) (length route)).infinity
        (get_or (table_out_for limit s l names n out route) i 0)
    entry i h =
        let order = v.0.order in
        let room = v.0.fits.1 in
        let few : bits ≤ 32 = let m = most in omega arith in
        let here : get_or (entries_for limit s.room s.lines l names n route) i 0
        ≡ get_or (table_out_for limit s l names n out route) i 0 =
        ap (λ x. get_or x i 0) (sym (front limit s l names n out route e))
        ∙ get_or-take n (table_out_for limit s l names n out route) i 0 h in
        rw ((make-leaves limit s l names n out route).handed e)
        (told s l route order room
        (rw here at (made-exactly n bits v.1.1.0.3 few (infinity_written limit) (names_in names)
        (other_tables s.room s.lines l route) (powers s l route order room) i h)))

-- ---- what plays no part

module _ (l : ℕ) (s s' : Station) (route route' : List ℕ) (x : SameOthers l s route s' route') where
  abbrev told_by : Station → List ℕ → ℕ → List Held
  told_by s route k = cond (has_say s.lines l k) (held_at s k route ∷ []) []

  same_line : (k : ℕ) → k ≤ 7 → told_by s route k ≡ told_by s' route' k
  same_line k h = by (has_say s.lines l k) refl
    where
      by : (t : Bool) → has_say s.lines l k ≡ t → told_by s route k ≡ told_by s' route' k
      by true q =
          let w = (say_iff s.lines l k).0 q in
          rw (q, (say_iff s'.lines l k).1 (w.0, (x.marks k h w.0).0 w.1), x.tables k h w.0 w.1)
      by false q =
          let never : has_say s'.lines l k ≡ true → ⊥ =
          λ p. let w = (say_iff s'.lines l k).0 p in
          clash ((say_iff s.lines l k).1 (w.0, (x.marks k h w.0).1 w.1)) q in
          rw (q, refuted (has_say s'.lines l k) never)

pub others-only : OthersOnly
others-only limit l s route s' route' names n out x e e' =
    written limit s l names n out route e
    ∙ ap (λ hs. over 0 (made_entries (infinity_written limit) n (names_in names) hs) out)
    (picked_same (has_say s.lines l) (has_say s'.lines l) (λ k. held_at s k route) (λ k. held_at s' k route') 8 0
    (λ k low high. same_line l s s' route route' x k (omega arith)))
    ∙ sym (written limit s' l names n out route' e')
