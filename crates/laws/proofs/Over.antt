-- Laws of a list written over another, and of a part that is lent and comes back.
use Prim.Native.Nat.{ℕ, zero, suc, ◌+◌, ◌-◌, ◌≤◌, ◌<◌}
use mathlib.Core.Path.{◌≡◌, refl, sym, ap, ap₂, ◌∙◌}
use mathlib.Core.List.{List, [], ◌∷◌, ◌++◌, append_assoc, append-nil}
use native.Mathlib.Nat.{zero-add, sub-zero, zero-sub, suc-sub-suc}
use native.Mathlib.Omega.{arith}
use lib.ListN.{length, take, drop, replicate, length-append, length-take, length-drop, length-replicate}
use lib.ListN.{drop_of_length-le}
use lib.Seq.{take-nil, drop-nil, take-take, drop-drop, take-append_seam, drop-append_seam, take_all, take-length}
use borrow.Rule.Slice.PartMut.{put_mid}
use Rattle.laws.specs.Parts.{over, copied}
use Rattle.laws.proofs.Parts.{part_tail}

-- `&l[k..end]` where end is as far as the first n go
pub rest-front : (l : List ℕ) (k n : ℕ) → take (length (take n l) - k) (drop k l) ≡ drop k (take n l)
rest-front [] k n = simp (take-nil, drop-nil)
rest-front (x ∷ l) k zero = simp (zero-sub, drop-nil)
rest-front (x ∷ l) zero (suc n) = rw sub-zero (ap (λ m. x ∷ m) (rw sub-zero at (rest-front l zero n)))
rest-front (x ∷ l) (suc k) (suc n) = rw suc-sub-suc (rest-front l k n)

-- the front of a list written over it changes nothing
pub over-own : (n : ℕ) (l : List ℕ) → over 0 (take n l) l ≡ l
over-own n l = rw zero-add (own n l)
  where
    own : (n : ℕ) (l : List ℕ) → take n l ++ drop (length (take n l)) l ≡ l
    own zero l = refl
    own (suc n) [] = refl
    own (suc n) (x ∷ l) = ap (λ m. x ∷ m) (own n l)

-- what was written is then at the front
pub over-front : (bs l : List ℕ) → take (length bs) (over 0 bs l) ≡ bs
over-front bs l = take-append_seam bs (drop (0 + length bs) l)

-- the same where the list may be shorter than n, and so what was written
pub over-front_of : (n : ℕ) (bs l : List ℕ) → length bs ≡ length (take n l) → take n (over 0 bs l) ≡ bs
over-front_of n bs l h = rw zero-add (front n bs l h)
  where
    front : (n : ℕ) (bs l : List ℕ) → length bs ≡ length (take n l) → take n (bs ++ drop (length bs) l) ≡ bs
    front zero [] l h = refl
    front zero (b ∷ bs) l h = absurd (omega arith)
    front (suc n) [] [] h = refl
    front (suc n) [] (x ∷ l) h = absurd (omega arith)
    front (suc n) (b ∷ bs) [] h = absurd (omega arith)
    front (suc n) (b ∷ bs) (x ∷ l) h = let g : length bs ≡ length (take n l) = omega arith in
        ap (λ m. b ∷ m) (front n bs l g)

-- the length stays where what is written is no longer than the list
pub over-length : (from : ℕ) (bs l : List ℕ) → from + length bs ≤ length l → length (over from bs l) ≡ length l
over-length from bs l h = simp (length-append, length-take, length-drop) (omega arith)

-- what is behind it stays
pub over-behind : (bs l : List ℕ) → drop (length bs) (over 0 bs l) ≡ drop (length bs) l
over-behind bs l = drop-append_seam bs (drop (0 + length bs) l) ∙ rw zero-add refl

-- the first n become v
pub over-fill : (n v : ℕ) (l : List ℕ) → replicate n v ++ drop n l ≡ over 0 (replicate n v) l
over-fill n v l = simp (length-replicate, zero-add)

-- `&mut l[k..end]`, end being as far as the first n go, was lent and came back as ys
pub over-lent : (k n : ℕ) (l ys : List ℕ) → k ≤ length (take n l) → length ys ≡ length (take n l) - k
    → put_mid k (length (take n l) - k) l ys ≡ over 0 (take k (take n l) ++ ys) l
over-lent k n l ys h e =
    let m : k ≤ n = omega (arith, length-take n l) in
    let w : k + (length (take n l) - k) ≡ 0 + length (take k l ++ ys) =
    simp (length-append, length-take) (rw e (simp length-take (omega (arith, length-take n l)))) in
    ap (λ z. take k l ++ (ys ++ z)) (drop-drop (length (take n l) - k) k l ∙ ap (λ j. drop j l) w)
    ∙ sym (append_assoc (take k l) ys (drop (0 + length (take k l ++ ys)) l))
    ∙ ap (λ z. over 0 (z ++ ys) l) (sym (take-take k n l m))

-- `bytes::copy(part, &mut l[at..])`
pub over-copied : (at : ℕ) (part l ys : List ℕ) → ys ≡ take (length part) part ++ drop (length part)
    (take (length l - at) (drop at l))
    → put_mid at (length l - at) l ys ≡ over at part l
over-copied at part l ys e =
    let none : drop (length l - at) (drop at l) ≡ [] = drop_of_length-le (drop at l) {i = length l - at}
    (simp length-drop (omega arith)) in
    let behind : drop (length part) (take (length l - at) (drop at l)) ≡ drop (at + length part) l =
    ap (drop (length part)) (part_tail at l) ∙ drop-drop (length part) at l in
    ap (λ z. take at l ++ (ys ++ z)) none
    ∙ ap (λ z. take at l ++ z) (append-nil ys ∙ e ∙ ap₂ (λ x y. x ++ y) (take_all (length part) part (omega arith))
    behind)

-- `&l[k..]` is shorter than l, where k is not 0
pub tail_shorter : (k : ℕ) (l : List ℕ) → 0 < k → k ≤ length l → length (take (length l - k) (drop k l)) < length l
tail_shorter k l h e = simp (length-take, length-drop) (omega arith)

-- as the kit's `bytes::copy` leaves a list
pub over-copy : (bs l : List ℕ) → take (length bs) bs ++ drop (length bs) l ≡ over 0 bs l
over-copy bs l = simp (take-length, zero-add)

-- bytes that fit are copied whole
pub copied-whole : (bs part : List ℕ) → length bs ≤ length part → copied bs part ≡ over 0 bs part
unfolding copied
copied-whole bs part h = ap (λ l. over 0 l part) (take_all (length part) bs h)

-- a part that is no longer than the bytes is filled by them
pub copied-full : (bs part : List ℕ) → length part ≤ length bs → copied bs part ≡ take (length part) bs
unfolding copied
copied-full bs part h =
    let n : length (take (length part) bs) ≡ length part = simp length-take (omega arith) in
    ap (λ l. take (length part) bs ++ l) (drop_of_length-le part {i = 0 + length (take (length part) bs)} (omega arith))
    ∙ append-nil (take (length part) bs)

pub copied-length : (bs part : List ℕ) → length (copied bs part) ≡ length part
unfolding copied
copied-length bs part = over-length 0 (take (length part) bs) part (simp length-take (omega arith))
