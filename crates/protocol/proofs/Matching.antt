-- The invariant of demand 3: what stands of a line in state and route area is what is expected of it. A call that
-- leaves the line and its part alone keeps it.
-- Assumes nothing.
use Prim.Native.Nat.{ℕ, ◌<◌}
use mathlib.Core.Path.{◌≡◌, refl, sym, ap, ap₂, ◌∙◌}
use mathlib.Core.Bool.{Bool, true, false}
use mathlib.Core.List.{List}
use lib.Dec.{eqb}
use lib.ListN.{length, get_or, set, length-set}
use lib.Seq.{get_or-set_same, get_or-set_other}
use borrow.Author.Tests.{eqb-true, eqb-false}
use Rattle.tables.specs.declared.Table.{Table}
use Rattle.tables.specs.Tables.{none, held_in}
use Rattle.protocol.specs.declared.Line.{Line}
use Rattle.protocol.specs.Memory.{Memory}
use Rattle.protocol.specs.State.{Station, line_at, with_line, with_memory, held_at}
use Rattle.protocol.specs.Lines.{nowhere, part_of}
use Rattle.protocol.specs.Expected.{Expected}
use Rattle.protocol.proofs.Updates.{Sound}
use Rattle.protocol.proofs.Account.{no_held}

pub record Matches (L room : ℕ) (e : Expected) (s : Station) (area : List ℕ) : Type 0 where
  pub same_room : s.room ≡ room
  pub eight : length s.lines ≡ 8
  pub live : e.live ≡ (line_at s L).live
  pub while_open : (line_at s L).live ≡ true → e.held ≡ held_at s L area
  pub while_closed : (line_at s L).live ≡ false → (e.held ≡ no_held) × ((line_at s L).table.mark ≡ none)
  pub sound : Sound room e.held

-- line L and its part of the route area are left alone
pub record LeftAlone (L : ℕ) (s : Station) (area : List ℕ) (s' : Station) (area' : List ℕ) : Type 0 where
  pub room : s'.room ≡ s.room
  pub count : length s'.lines ≡ length s.lines
  pub live : (line_at s' L).live ≡ (line_at s L).live
  pub table : (line_at s' L).table ≡ (line_at s L).table
  pub part : part_of s'.room L area' ≡ part_of s.room L area

pub left_alone : {L room : ℕ} {e : Expected} {s s' : Station} {area area' : List ℕ}
    → Matches L room e s area → LeftAlone L s area s' area' → Matches L room e s' area'
left_alone q u =
    record {
      same_room = u.room ∙ q.same_room;
      eight = u.count ∙ q.eight;
      live = q.live ∙ sym u.live;
      while_open = λ o. q.while_open (sym u.live ∙ o) ∙ sym (ap₂ held_in u.table u.part);
      while_closed = λ o.
          let p = q.while_closed (sym u.live ∙ o) in (p.0, ap (λ (t : Table). t.mark) u.table ∙ p.1);
      sound = q.sound;
    }

pub untouched : (L : ℕ) (s : Station) (area : List ℕ) (q : Memory) → LeftAlone L s area (with_memory s q) area
untouched L s area q = record { room = refl; count = refl; live = refl; table = refl; part = refl }

-- one line's record is set
module _ (s : Station) (l : ℕ) (x : Line) where
  pub line_set : l < length s.lines → line_at (with_line s l x) l ≡ x
  line_set h = get_or-set_same s.lines l x nowhere h

  pub line_other : (L : ℕ) → (L ≡ l → ⊥) → line_at (with_line s l x) L ≡ line_at s L
  line_other L ne = get_or-set_other s.lines l L x nowhere ne

-- lines with one record set and another room-keeping change: another line is left alone, and so is a line whose `live`
-- and table stay
module _ (L : ℕ) (s s' : Station) (area : List ℕ) (l : ℕ) (x : Line) (r : s'.room ≡ s.room)
    (e : s'.lines ≡ set s.lines l x) where
  pub other-line : (area' : List ℕ) → part_of s.room L area' ≡ part_of s.room L area → (L ≡ l → ⊥)
      → LeftAlone L s area s' area'
  other-line area' p ne =
      let a : line_at s' L ≡ line_at s L = ap (λ ls. get_or ls L nowhere) e ∙ line_other s l x L ne in
      record {
        room = r;
        count = ap length e ∙ length-set s.lines l x;
        live = ap (λ (y : Line). y.live) a;
        table = ap (λ (y : Line). y.table) a;
        part = ap (λ n. part_of n L area') r ∙ p;
      }

  pub same_line : L < length s.lines → x.live ≡ (line_at s l).live → x.table ≡ (line_at s l).table
      → LeftAlone L s area s' area
  same_line h v t = go (eqb L l) refl
    where
      go : (b : Bool) → eqb L l ≡ b → LeftAlone L s area s' area
      go false z = other-line area refl (eqb-false L l z)
      go true z =
          let y : L ≡ l = eqb-true L l z in
          let a : line_at s' L ≡ x = ap₂ (λ (ls : List Line) k. get_or ls k nowhere) e y ∙ line_set s l x (rw y at h) in
          record {
            room = r;
            count = ap length e ∙ length-set s.lines l x;
            live = ap (λ (y : Line). y.live) a ∙ v ∙ ap (λ k. (line_at s k).live) (sym y);
            table = ap (λ (y : Line). y.table) a ∙ t ∙ ap (λ k. (line_at s k).table) (sym y);
            part = ap (λ n. part_of n L area) r;
          }
