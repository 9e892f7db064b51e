-- A list written over a part of another: what is written stands there, and nothing else changes.
-- Assumes nothing.
use Prim.Native.Nat.{ℕ, zero, suc, ◌+◌, ◌-◌, ◌*◌, ◌/◌, ◌≤◌, ◌<◌}
use native.Mathlib.Omega.{arith}
use native.Mathlib.Nat.{mul-le-mul_right}
use mathlib.Core.Path.{◌≡◌, refl, sym, ap, ap₂, ◌∙◌}
use mathlib.Core.Bool.{Bool, true, false}
use mathlib.Core.Logic.{◌⊎◌, inl, inr, ⊎_elim}
use mathlib.Core.List.{List, [], ◌∷◌, ◌++◌, append_assoc}
use lib.Dec.{ltb}
use lib.ListN.{length, take, drop, length-append, length-take, length-drop, take-append-drop}
use lib.Seq.{take-append_seam, take-append-le, drop-append-le, drop-append-add, drop_at, length-take-le, drop-drop}
use lib.Seq.{take_all, take-take, take_at}
use borrow.Author.Tests.{ltb-true, ltb-false}
use Rattle.laws.specs.Parts.{over}

-- what is written can be read back
pub over-read : (from : ℕ) (bs area : List ℕ) → from ≤ length area → take (length bs) (drop from (over from bs area))
    ≡ bs
over-read from bs area h =
    ap (take (length bs)) (drop_at (take from area) (bs ++ drop (from + length bs) area) from
    (length-take-le from area h))
    ∙ take-append_seam bs (drop (from + length bs) area)

-- a piece that ends before
pub over-ahead : (from : ℕ) (bs area : List ℕ) (b n : ℕ) → from ≤ length area → b + n ≤ from
    → take n (drop b (over from bs area)) ≡ take n (drop b area)
over-ahead from bs area b n h k =
    inside (bs ++ drop (from + length bs) area) ∙ sym (inside (drop from area)) ∙ ap (λ l. take n (drop b l))
    (take-append-drop from area)
  where
    long : length (take from area) ≡ from
    long = length-take-le from area h

    inside : (rest : List ℕ) → take n (drop b (take from area ++ rest)) ≡ take n (drop b (take from area))
    inside rest =
        let p : b ≤ length (take from area) = omega (arith, long) in
        let q : n ≤ length (drop b (take from area)) = simp length-drop (omega (arith, long)) in
        ap (take n) (drop-append-le b (take from area) rest p) ∙ take-append-le n (drop b (take from area)) rest q

-- all that lies behind
pub over-behind : (from : ℕ) (bs area : List ℕ) (b : ℕ) → from + length bs ≤ length area → from + length bs ≤ b
    → drop b (over from bs area) ≡ drop b area
over-behind from bs area b h k =
    let long : length (take from area ++ bs) ≡ from + length bs = simp (length-append, length-take) (omega arith) in
    let e : length (take from area ++ bs) + (b - (from + length bs)) ≡ b = omega (arith, long) in
    let f : from + length bs + (b - (from + length bs)) ≡ b = omega arith in
    ap (drop b) (sym (append_assoc (take from area) bs (drop (from + length bs) area)))
    ∙ ap (λ x. drop x ((take from area ++ bs) ++ drop (from + length bs) area)) (sym e)
    ∙ drop-append-add (take from area ++ bs) (drop (from + length bs) area) (b - (from + length bs))
    ∙ drop-drop (b - (from + length bs)) (from + length bs) area
    ∙ ap (λ x. drop x area) f

-- writing what stands there changes nothing
pub over-same : (from n : ℕ) (area : List ℕ) → over from (take n (drop from area)) area ≡ area
over-same from n area =
    ap (λ x. take from area ++ (take n (drop from area) ++ x))
    (sym (drop-drop (length (take n (drop from area))) from area))
    ∙ ap (λ x. take from area ++ x) (back (drop from area))
    ∙ take-append-drop from area
  where
    back : (xs : List ℕ) → take n xs ++ drop (length (take n xs)) xs ≡ xs
    back xs = go n xs
      where
        go : (k : ℕ) (ys : List ℕ) → take k ys ++ drop (length (take k ys)) ys ≡ ys
        go zero ys = refl
        go (suc k) [] = refl
        go (suc k) (y ∷ ys) = ap (◌∷◌ y) (go k ys)

-- so does writing what stands at the front of a part
pub over-same-front : (from n room : ℕ) (area : List ℕ) → over from (take n (take room (drop from area))) area ≡ area
over-same-front from n room area = go (ltb room n) refl
  where
    go : (b : Bool) → ltb room n ≡ b → over from (take n (take room (drop from area))) area ≡ area
    go true e =
        let k : room < n = ltb-true room n e in
        let long : length (take room (drop from area)) ≤ n = simp length-take (omega arith) in
        ap (λ x. over from x area) (take_all n (take room (drop from area)) long) ∙ over-same from room area
    go false e = ap (λ x. over from x area) (take-take n room (drop from area) (ltb-false room n e))
        ∙ over-same from n area

-- parts of `room` places, one after another
part-ends : (a b room : ℕ) → a < b → a * room + room ≤ b * room
part-ends a b room h = let p : suc a * room ≤ b * room = mul-le-mul_right room h in omega arith

-- what is written at the front of one of eight parts leaves the others
pub over-apart : (L l room : ℕ) (bs area : List ℕ) → (L ≡ l → ⊥) → length bs ≤ room → l ≤ 7 → length area / 8 ≡ room
    → take room (drop (L * room) (over (l * room) bs area)) ≡ take room (drop (L * room) area)
over-apart L l room bs area ne hb hl ha =
    let inside : l * room + room ≤ 8 * room = part-ends l 8 room (omega arith) in
    ⊎_elim
    (λ k. let before : L * room + room ≤ l * room = part-ends L l room k in over-ahead (l * room) bs area (L * room)
    room (omega arith) before)
    (λ k. let after : l * room + room ≤ L * room = part-ends l L room k in
    ap (take room) (over-behind (l * room) bs area (L * room) (omega arith) (omega arith)))
    (sides (ltb L l) refl)
  where
    sides : (b : Bool) → ltb L l ≡ b → (L < l) ⊎ (l < L)
    sides true e = inl (ltb-true L l e)
    sides false e = let k : l ≤ L = ltb-false L l e in inr (omega arith)

-- two lists written next to one another, the second before the first or after it
module _ (from : ℕ) (xs ys area : List ℕ) (h : from + length xs ≤ length area) where
  abbrev next : ℕ
  next = from + length xs

  abbrev rest : List ℕ
  rest = drop (next + length ys) area

  joined : take from area ++ (xs ++ (ys ++ rest)) ≡ over from (xs ++ ys) area
  joined =
      let k : next + length ys ≡ from + length (xs ++ ys) = omega (arith, length-append xs ys) in
      ap (λ l. take from area ++ l)
      (sym (append_assoc xs ys rest) ∙ ap (λ m. (xs ++ ys) ++ drop m area) k)

  pub over-before : over from xs (over (from + length xs) ys area) ≡ over from (xs ++ ys) area
  over-before =
      let long : length (take next area) ≡ next = length-take-le next area h in
      ap₂ (λ p r. p ++ (xs ++ r))
      (take-append-le from (take next area) (ys ++ rest) (omega (arith, long))
      ∙ take-take from next area (omega arith))
      (drop_at (take next area) (ys ++ rest) next long)
      ∙ joined

  pub over-after : over (from + length xs) ys (over from xs area) ≡ over from (xs ++ ys) area
  over-after =
      let long : length (take from area ++ xs) ≡ next =
      length-append (take from area) xs ∙ ap (λ m. m + length xs) (length-take-le from area (omega arith)) in
      ap₂ (λ p r. p ++ (ys ++ r))
      (ap (take next) (sym (append_assoc (take from area) xs (drop next area)))
      ∙ take_at (take from area ++ xs) (drop next area) next long)
      (over-behind from xs area (next + length ys) h (omega arith))
      ∙ append_assoc (take from area) xs (ys ++ rest)
      ∙ joined
