-- Bytes behind a group are not read, and a value is never longer than 4,096 bytes.
use mathlib.Core.Path.{◌≡◌, refl, sym, ap, ap₂, ◌∙◌}
use mathlib.Core.Bool.{Bool, true, false, not, ◌&&◌, ◌||◌}
use mathlib.Core.List.{List, [], ◌∷◌, ◌++◌}
use Prim.Native.Nat.{ℕ, ◌+◌, ◌-◌, ◌≤◌, ◌<◌, min}
use native.Mathlib.Omega.{arith}
use native.Mathlib.Decide.{dec_lt}
use lib.Dec.{eqb, leb, ltb}
use lib.ListN.{length, get_or, take, drop, length-append, length-take, length-drop}
use lib.Seq.{get_or-take, take-take, take-append-le}
use borrow.Author.Tests.{ne_eqb, eqb-false, le-ltb, leb-true}
use Rattle.laws.specs.Tests.{first_of}
use Rattle.groups.specs.Lines.{pair_at, ends_at, group_length, lines_of, line_length, first_line, other_lines}
use Rattle.groups.specs.Start.{start_of}
use Rattle.fields.specs.Fields.{lines_ok, value_for, is_absent}
use Rattle.handshake.specs.Group.{lines_in, fields_in, is_start, understood, group_number, read_number, group_from}
use Rattle.handshake.specs.Group.{read_group, value_in, asked_from, asked_number}
use Rattle.handshake.specs.Claims.{SameAnswers, NotReadBehind, GroupAlone, RoomEnough}
use Rattle.groups.proofs.LineLaws.{lines-others}
use Rattle.fields.proofs.FieldLaws.{value-short}
use Rattle.groups.proofs.Ends.{found_some, found-is}
use Rattle.handshake.proofs.Order.{not-two}

-- the group's length is in the bytes and at most 4,096
pub length_in : (m : List ℕ) → 0 < group_length m → (2 ≤ group_length m) × (group_length m ≤ length m)
    × (group_length m ≤ 4096)
unfolding group_length
length_in m h =
    let f = found_some (ends_at m) (min (length m) 4096 - 1) 2 (group_length m) h refl in
    (f.from, omega (arith, f.below), omega (arith, f.below))

-- two lists with the same first n bytes
module _ (a b : List ℕ) (n : ℕ) (same : take n a ≡ take n b) where
  byte-same : (i : ℕ) → i < n → get_or a i 0 ≡ get_or b i 0
  byte-same i h = sym (get_or-take n a i 0 h) ∙ ap (λ x. get_or x i 0) same ∙ get_or-take n b i 0 h

  pair_same : (i : ℕ) → i + 1 < n → pair_at a i ≡ pair_at b i
  pair_same i h = ap₂ (λ x y. eqb x 13 && eqb y 10) (byte-same i (omega arith)) (byte-same (i + 1) h)

  -- end alike up to there
  ends_same : (j : ℕ) → 2 ≤ j → j ≤ n → ends_at a j ≡ ends_at b j
  unfolding ends_at
  ends_same j p q = rw (pair_same (j - 2) (omega arith)) (ap (λ t. pair_at b (j - 2) && (eqb j 2 || t))
      (guarded (leb 4 j) refl))
    where
      guarded : (t : Bool) → leb 4 j ≡ t → (t && pair_at a (j - 4)) ≡ (t && pair_at b (j - 4))
      guarded false e = refl
      guarded true e = pair_same (j - 4) (omega (arith, leb-true 4 j e))

  part_same : (k : ℕ) → k ≤ n → take k a ≡ take k b
  part_same k h = sym (take-take k n a h) ∙ ap (take k) same ∙ take-take k n b h

-- m begins with a group, and b with the same bytes
pub record SameGroup (m b : List ℕ) : Type 0 where
  pub whole : 0 < group_length m
  pub same : take (group_length m) m ≡ take (group_length m) b
  pub long : group_length m ≤ length b

-- whatever stands behind it
pub same-behind : (m x : List ℕ) → 0 < group_length m → SameGroup m (m ++ x)
same-behind m x h =
    let i = length_in m h in
    record {
      whole = h;
      same = sym (take-append-le (group_length m) m x i.1);
      long = simp length-append (omega (arith, i.1));
    }

-- the group alone
pub same-alone : (m : List ℕ) → 0 < group_length m → SameGroup m (take (group_length m) m)
same-alone m h =
    let i = length_in m h in
    record {
      whole = h;
      same = sym (take-take (group_length m) (group_length m) m (omega arith));
      long = simp length-take (omega (arith, i.1));
    }

-- then b has that group
module _ (m b : List ℕ) (g : SameGroup m b) where
  pub length-same : group_length b ≡ group_length m
  unfolding group_length
  length-same =
      let f = found_some (ends_at m) (min (length m) 4096 - 1) 2 (group_length m) g.whole refl in
      found-is (ends_at b) (min (length b) 4096 - 1) 2 (group_length m) (record {
        from = f.from;
        below = omega (arith, f.below, f.from);
        passes = sym (ends_same m b (group_length m) g.same (group_length m) f.from (omega arith)) ∙ f.passes;
        first = λ j p q t. f.first j p q (ends_same m b (group_length m) g.same j p (omega arith) ∙ t);
      })

  lines_same : lines_in b (group_length m) ≡ lines_in m (group_length m)
  lines_same = ap lines_of (sym (part_same m b (group_length m) g.same (group_length m - 2) (omega arith)))

  pub understood-same : understood b (group_length m) ≡ understood m (group_length m)
  unfolding understood
  understood-same = ap (λ ls. is_start (first_line ls) (start_of (first_line ls)).kind && lines_ok false (other_lines ls))
      lines_same

  -- where a group is whole, how much stands behind it does not count
  number_size : (x y : ℕ) (ok : Bool) → group_number (group_length m) x ok ≡ group_number (group_length m) y ok
  unfolding group_number
  number_size x y ok = rw (ne_eqb (group_length m) 0 (λ e. omega arith))

  pub refusal-same : read_number b ≡ read_number m
  refusal-same = rw (length-same, understood-same) (number_size (length b) (length m) (understood m (group_length m)))

  read_same : read_group b ≡ read_group m
  read_same = rw (refusal-same, length-same)
      (ap (λ ls. group_from (read_number m) (group_length m) (start_of (first_line ls))) lines_same)

  pub value_same : (name : List ℕ) → value_in b name ≡ value_in m name
  value_same name = rw length-same (ap (λ ls. value_for name (other_lines ls)) lines_same)

  number_same : (name : List ℕ) (room : ℕ) → asked_number b name room ≡ asked_number m name room
  number_same name room =
      rw (refusal-same, value_same name, length-same)
      (ap (λ ls. asked_from (read_number m) (is_absent name (other_lines ls)) (length (value_in m name)) room) lines_same)

  pub answers-same : SameAnswers b m
  answers-same = (
    read_same,
    λ name room. rw (number_same name room, value_same name, length-same),
    λ name out. rw (number_same name (length out), value_same name),
  )

pub not-read-behind : NotReadBehind
not-read-behind m x h = answers-same m (m ++ x) (same-behind m x h)

pub group-alone : GroupAlone
group-alone m h = answers-same m (take (group_length m) m) (same-alone m h)

-- ---- the longest value

length_most : (m : List ℕ) → group_length m ≤ 4096
length_most m = most (dec_lt 0 (group_length m))
  where
    most : Dec (0 < group_length m) → group_length m ≤ 4096
    most (yes h) = (length_in m h).2
    most (no h) = omega arith

pub value-most : (m name : List ℕ) → length (value_in m name) ≤ 4096
value-most m name =
    let s = take (group_length m - 2) m in
    let k = line_length s + 2 in
    omega (
      arith,
      ap (λ ls. length (value_for name ls)) (lines-others s),
      value-short name (drop k s),
      length-drop k s,
      length-take (group_length m - 2) m,
      length_most m,
    )

pub room-enough : RoomEnough
unfolding asked_from
room-enough m name room h =
    let v = value-most m name in
    let n = group_length m in
    let r = read_number m in
    let f : ltb room (length (value_in m name)) ≡ false = le-ltb room (length (value_in m name)) (omega arith) in (
      omega arith,
      λ e. go r (eqb r 0) (is_absent name (fields_in m n)) (not-two n (length m) (understood m n)) (rw f at e),
    )
  where
    go : (r : ℕ) (t absent : Bool) → eqb r 2 ≡ false → first_of ((not t, r) ∷ (absent, 10) ∷ (false, 2) ∷ []) ≡ 2 → ⊥
    go r false absent k e = eqb-false r 2 k e
    go r true true k e = omega arith
    go r true false k e = omega arith
