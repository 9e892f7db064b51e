-- A number's digits, found from the last to the first, and what a caller reads of them.
use Prim.Native.Nat.{ℕ, ◌+◌, ◌-◌, ◌/◌, ◌%◌, ◌≤◌, ◌<◌}
use mathlib.Core.Path.{◌≡◌, refl, sym, ap, ◌∙◌}
use mathlib.Core.List.{List, [], ◌∷◌}
use native.Mathlib.Omega.{arith}
use native.Mathlib.Decide.{dec_le}
use lib.ListN.{length, take, set, replicate, length-set}
use Rattle.laws.specs.Parts.{over}
use Rattle.laws.proofs.Decimal.{over-byte, over_last}
use Rattle.laws.proofs.Over.{over-front, over-length}
use Rattle.digits.specs.declared.Digits.{Digits}
use Rattle.digits.specs.Decimal.{decimal, digits_for}
use Rattle.digits.proofs.Sizes.{decimal-one, decimal-more, size-one, size-more}

-- the digits of m are still to be written over `before`, and the last of them is before place i
pub record Spelling (before : List ℕ) (n : ℕ) (area : List ℕ) (m i : ℕ) : Type 0 where
  pub small : m < 100000
  pub place : i ≡ length (decimal m)
  pub size : length area ≡ length before
  pub room : i ≤ length area
  pub left : over 0 (decimal m) area ≡ over 0 (decimal n) before

pub spelling_start : (area : List ℕ) (n i : ℕ) → n < 100000 → i ≡ length (decimal n) → i ≤ length area
    → Spelling area n area n i
spelling_start area n i b e h = record { small = b; place = e; size = refl; room = h; left = refl }

module _ {before : List ℕ} {n : ℕ} {area : List ℕ} {m i : ℕ} (s : Spelling before n area m i) where
  pub spelling_back : 10 ≤ m → 1 ≤ i
  spelling_back h = omega (arith, size-more m h s.small, s.place)

  pub spelling_on : 10 ≤ m → Spelling before n (set area (i - 1) (48 + m % 10)) (m / 10) (i - 1)
  spelling_on h =
      let k = size-more m h s.small in
      let e : i - 1 ≡ 0 + length (decimal (m / 10)) = omega (arith, s.place) in
      record {
        small = omega (arith, s.small);
        place = omega (arith, s.place);
        size = simp length-set s.size;
        room = simp length-set (omega (arith, s.room));
        left =
            ap (λ j. over 0 (decimal (m / 10)) (set area j (48 + m % 10))) e
            ∙ over_last 0 (decimal (m / 10)) (48 + m % 10) area (omega (arith, s.room, s.place))
            ∙ ap (λ x. over 0 x area) (sym (decimal-more m h s.small))
            ∙ s.left;
      }

  pub spelling_room : 0 < length area
  spelling_room = omega (arith, s.room, s.place, decimal-some m s.small)
    where
      decimal-some : (m : ℕ) → m < 100000 → 1 ≤ length (decimal m)
      decimal-some m h = go (dec_le 10 m)
        where
          go : Dec (10 ≤ m) → 1 ≤ length (decimal m)
          go (yes k) = omega (arith, size-more m k h)
          go (no k) = omega (arith, size-one m (omega arith))

  pub spelling_end : m < 10 → set area 0 (48 + m % 10) ≡ over 0 (decimal n) before
  spelling_end h =
      let d : m % 10 ≡ m = omega arith in
      over-byte 0 (48 + m % 10) area spelling_room
      ∙ ap (λ x. over 0 x area) (ap (λ x. (48 + x) ∷ []) d ∙ sym (decimal-one m h))
      ∙ s.left

-- what a caller reads of a number's digits
module _ (n : ℕ) {d : Digits} (e : d ≡ digits_for n) where
  pub spelled : take d.size d.bytes ≡ decimal n
  spelled = ap (λ (x : Digits). take x.size x.bytes) e ∙ over-front (decimal n) (replicate 5 0)

  pub spelled-size : length (take d.size d.bytes) ≡ d.size
  spelled-size = ap length spelled ∙ sym (ap (λ (x : Digits). x.size) e)

  pub spelled-room : d.size ≤ 5 → length d.bytes ≡ 5
  spelled-room h =
      ap (λ (x : Digits). length x.bytes) e
      ∙ over-length 0 (decimal n) (replicate 5 0) (omega (arith, ap (λ (x : Digits). x.size) e))
