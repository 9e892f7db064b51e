-- Stores in what was written at the front of a list, numbers read as bytes again, parts that may be short, parts of one
-- area, and tests of elements.
use Prim.Native.Nat.{ℕ, zero, suc, ◌+◌, ◌-◌, ◌*◌, ◌/◌, ◌%◌, ◌≤◌, ◌<◌, min}
use mathlib.Core.Path.{◌≡◌, refl, sym, ap, ap₂, ◌∙◌}
use mathlib.Core.Bool.{Bool, true, false, not, ◌&&◌, ◌||◌}
use mathlib.Core.List.{List, [], ◌∷◌, ◌++◌, append-nil}
use native.Mathlib.Decide.{dec_le}
use native.Mathlib.Nat.{suc-mul}
use native.Mathlib.Numerals.{add-one}
use native.Mathlib.Omega.{arith}
use lib.ListN.{length, get_or, take, drop, set, length-set, drop_of_length-le}
use lib.Seq.{set-append_left, set_at, take-suc, drop-cons, drop-drop, append_snoc, take_all, length-take-le}
use Rattle.laws.specs.Tests.{any}
use Rattle.laws.specs.Bytes.{little, little_bytes}
use Rattle.laws.specs.Parts.{over}
use Rattle.laws.proofs.Parts.{part_tail}

-- a store inside of what was written
pub store_inside : (l area : List ℕ) (i v : ℕ) → i < length l → set (over 0 l area) i v ≡ over 0 (set l i v) area
store_inside l area i v h =
    set-append_left l (drop (0 + length l) area) i v h
    ∙ ap (λ k. set l i v ++ drop (0 + k) area) (sym (length-set l i v))

-- the first k bytes are those of the number that they are
pub bytes_back : (k : ℕ) (d : List ℕ) → k ≤ length d → ((i : ℕ) → get_or d i 0 < 256) → little_bytes k (little (take k d))
    ≡ take k d
bytes_back zero d h w = refl
bytes_back (suc k) [] h w = absurd (omega arith)
bytes_back (suc k) (b ∷ d) h w =
    let n = little (take k d) in
    let below : b < 256 = w 0 in
    let last : (b + 256 * n) % 256 ≡ b = omega arith in
    let rest : (b + 256 * n) / 256 ≡ n = omega arith in
    ap₂ ◌∷◌ last (ap (little_bytes k) rest ∙ bytes_back k d (omega arith) (λ i. w (suc i)))

module _ {A : Type 0} where
  -- a part cut where the list ends is the part
  pub take_within : (n : ℕ) (l : List A) → take (min n (length l)) l ≡ take n l
  take_within n l = by (dec_le n (length l))
    where
      by : Dec (n ≤ length l) → take (min n (length l)) l ≡ take n l
      by (yes h) = let e : min n (length l) ≡ n = omega arith in ap (λ k. take k l) e
      by (no h) = take_all (min n (length l)) l (omega arith) ∙ sym (take_all n l (omega arith))

  pub drop-within : (n : ℕ) (l : List A) → drop (min n (length l)) l ≡ drop n l
  drop-within n l = by (dec_le n (length l))
    where
      by : Dec (n ≤ length l) → drop (min n (length l)) l ≡ drop n l
      by (yes h) = let e : min n (length l) ≡ n = omega arith in ap (λ k. drop k l) e
      by (no h) =
          let past : length l ≤ min n (length l) = omega arith in
          let over : length l ≤ n = omega arith in
          drop_of_length-le l past ∙ sym (drop_of_length-le l over)

  -- one element of xs more stands in front of what is left of ys
  pub element_next : (xs ys : List A) (i : ℕ) (d : A) → i < length xs → i < length ys
      → set (take i xs ++ drop i ys) i (get_or xs i d) ≡ take (i + 1) xs ++ drop (i + 1) ys
  element_next xs ys i d h k =
      ap (λ l. set (take i xs ++ l) i (get_or xs i d)) (drop-cons ys i d k)
      ∙ set_at (take i xs) (get_or ys i d) (drop (suc i) ys) (get_or xs i d) i (length-take-le i xs (omega arith))
      ∙ sym (append_snoc (take i xs) (get_or xs i d) (drop (suc i) ys))
      ∙ ap₂ (λ l n. l ++ drop n ys) (sym (take-suc xs i d h) ∙ ap (λ n. take n xs) (sym (add-one i))) (sym (add-one i))

  pub element_last : (xs ys : List A) (i : ℕ) → length xs ≤ i → length ys ≤ i → take i xs ++ drop i ys ≡ xs
  element_last xs ys i h k = ap₂ ◌++◌ (take_all i xs h) (drop_of_length-le ys k) ∙ append-nil xs

  -- a test of some element, from element i on
  pub any-from : (f : A → Bool) (l : List A) (i : ℕ) (d : A) → i < length l → any f (drop i l) ≡ f (get_or l i d)
      || any f (drop (i + 1) l)
  any-from f l i d h = ap (any f) (drop-cons l i d h) ∙ ap (λ n. f (get_or l i d) || any f (drop n l)) (sym (add-one i))

  pub and_any : (b : Bool) (f : A → Bool) (l : List A) → (b && any f l) ≡ any (λ x. b && f x) l
  and_any true f l = refl
  and_any false f [] = refl
  and_any false f (x ∷ l) = and_any false f l

-- the parts of an area, so many bytes each, the last of which may be short or missing: part k at the front of what is
-- left of the area, and what is left behind it
module _ (room : ℕ) (area : List ℕ) (k n : ℕ) (rest : List ℕ) (er : rest ≡ drop (k * room) area)
    (en : n ≡ min room (length rest)) where
  pub part-front : take n rest ≡ take room (drop (k * room) area)
  part-front = rw en (take_within room rest ∙ ap (take room) er)

  pub part-next : take (length rest - n) (drop n rest) ≡ drop ((k + 1) * room) area
  part-next =
      part_tail n rest
      ∙ rw en (drop-within room rest)
      ∙ ap (drop room) er
      ∙ drop-drop room (k * room) area
      ∙ ap (λ m. drop m area) (sym (ap (λ j. j * room) (add-one k) ∙ suc-mul k room))

-- neither of two
pub and_neither : (a b c : Bool) → (a && not (b || c)) ≡ ((a && not b) && not c)
and_neither true true c = refl
and_neither true false c = refl
and_neither false b c = refl
