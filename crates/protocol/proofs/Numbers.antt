-- The two halves of a number tell its 16 bytes.
-- Assumes nothing.
use Prim.Native.Nat.{ℕ, ◌+◌, ◌*◌, ◌≤◌, ◌<◌}
use native.Mathlib.Omega.{arith}
use mathlib.Core.Path.{◌≡◌, refl, sym, ap, ap₂, ◌∙◌}
use mathlib.Core.Bool.{Bool, true}
use mathlib.Core.List.{List, [], ◌∷◌, ◌++◌}
use lib.Dec.{ltb}
use lib.ListN.{length, take, drop, length-take, length-drop}
use lib.Seq.{take-add, take-take, drop_at}
use borrow.Author.Tests.{ltb-true, eq-eqb}
use Rattle.laws.specs.Tests.{all}
use Rattle.laws.specs.Bytes.{little}
use Rattle.laws.proofs.Refusals.{and_fst, and_snd, all_take}
use Rattle.wire.specs.Header.{number_of}
use Rattle.tables.proofs.BoundLaws.{all_drop}
use Rattle.protocol.specs.Memory.{Number, number_in}
use Rattle.protocol.specs.Demand2.{SameBytes}
use Rattle.protocol.proofs.Memory.{same_number_lem}

-- as many bytes that are one number are the same bytes
abbrev is_byte : ℕ → Bool
is_byte x = ltb x 256

little-tells : (a b : List ℕ) → all is_byte a ≡ true → all is_byte b ≡ true → length a ≡ length b → little a ≡ little b
    → a ≡ b
little-tells [] [] p q n e = refl
little-tells [] (y ∷ ys) p q n e = absurd (omega arith)
little-tells (x ∷ xs) [] p q n e = absurd (omega arith)
little-tells (x ∷ xs) (y ∷ ys) p q n e =
    let u : x < 256 = ltb-true x 256 (and_fst (is_byte x) (all is_byte xs) p) in
    let v : y < 256 = ltb-true y 256 (and_fst (is_byte y) (all is_byte ys) q) in
    let f : x + 256 * little xs ≡ y + 256 * little ys = e in
    let h : x ≡ y = omega arith in
    let t : little xs ≡ little ys = omega arith in
    ap₂ ◌∷◌ h
    (little-tells xs ys (and_snd (is_byte x) (all is_byte xs) p) (and_snd (is_byte y) (all is_byte ys) q) (omega arith) t)

-- the 16 bytes are the halves' 8 and 8, and each half tells its bytes
abbrev half : ℕ → List ℕ → List ℕ
half d a = take 8 (drop d a)

module _ (a b : List ℕ) (p : all is_byte a ≡ true) (q : all is_byte b ≡ true)
    (h : 16 ≤ length a) (k : 16 ≤ length b) where
  half-tells : (d : ℕ) → d ≤ 8 → little (half d a) ≡ little (half d b) → half d a ≡ half d b
  half-tells d l e =
      little-tells (half d a) (half d b)
      (all_take is_byte 8 (drop d a) (all_drop is_byte d a p)) (all_take is_byte 8 (drop d b) (all_drop is_byte d b q))
      (simp (length-take, length-drop) (omega arith)) e

second-half : (a : List ℕ) → 16 ≤ length a → half 8 a ≡ drop 8 (number_of a)
second-half a h = sym (ap (drop 8) (take-add 8 8 a) ∙ drop_at (half 0 a) (half 8 a) 8 (simp length-take (omega arith)))

pub same_bytes : SameBytes
same_bytes a b p q h k = (
  (λ e. let n : number_in a ≡ number_in b = same_number_lem (number_in a) (number_in b) e in
      let lo = half-tells a b p q h k 0 (omega arith) (ap (λ (x : Number). x.lo) n) in
      let hi = half-tells a b p q h k 8 (omega arith) (ap (λ (x : Number). x.hi) n) in
      take-add 8 8 a ∙ ap₂ ◌++◌ lo hi ∙ sym (take-add 8 8 b)),
  (λ e. let lo : half 0 a ≡ half 0 b
      = sym (take-take 8 16 a (omega arith)) ∙ ap (take 8) e ∙ take-take 8 16 b (omega arith) in
      let hi : half 8 a ≡ half 8 b = second-half a h ∙ ap (drop 8) e ∙ sym (second-half b k) in
      rw (
        eq-eqb (number_in a).lo (number_in b).lo (ap little lo),
        eq-eqb (number_in a).hi (number_in b).hi (ap little hi),
      )),
)
