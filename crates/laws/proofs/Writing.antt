-- Bytes written over the front of an area, one part after another, and tests that a loop makes at each element of a
-- list.
use Prim.Native.Nat.{ℕ, suc, ◌+◌, ◌*◌, ◌≤◌, ◌<◌, min}
use mathlib.Core.Path.{◌≡◌, refl, sym, ap, ap₂, ◌∙◌}
use mathlib.Core.Bool.{Bool, true, false, ◌&&◌, ◌||◌}
use mathlib.Core.List.{List, [], ◌∷◌, ◌++◌, append_assoc}
use native.Mathlib.Nat.{zero-add, min-eq_left}
use native.Mathlib.Numerals.{add-one}
use native.Mathlib.Omega.{arith}
use native.Mathlib.Decide.{dec_le}
use lib.ListN.{length, get_or, take, drop, set, length-append, length-take, length-drop, take-append-drop}
use lib.ListN.{drop_of_length-le}
use lib.Seq.{sets, sets-eq, set_at, drop-cons, take-suc, append_snoc, drop-drop, drop-append-le, take_at, take_all}
use lib.Seq.{take-add, take-append_seam}
use lib.Seq.{drop-append_seam, drop-append-add, length-take-le}
use borrow.Rule.Slice.PartMut.{put_mid}
use Rattle.laws.specs.Tests.{any, all}
use Rattle.laws.specs.Bytes.{little, little_bytes}
use Rattle.laws.specs.Parts.{over, copied}
use Rattle.laws.proofs.Over.{over-length, copied-whole}
use Rattle.laws.proofs.Passing.{any-from}

-- ys written next to xs
pub written_next : (n : ℕ) (xs ys area : List ℕ) → length xs ≡ n → over n ys (over 0 xs area) ≡ over 0 (xs ++ ys) area
written_next n xs ys area e =
    let k : 0 + length xs + length ys ≡ 0 + length (xs ++ ys) = omega (arith, length-append xs ys) in
    ap₂ (λ p q. p ++ (ys ++ q)) (take_at xs (drop (0 + length xs) area) n e)
    (ap (λ k. drop (k + length ys) (xs ++ drop (0 + length xs) area)) (sym e)
    ∙ drop-append-add xs (drop (0 + length xs) area) (length ys)
    ∙ drop-drop (length ys) (0 + length xs) area
    ∙ ap (λ k. drop k area) k)
    ∙ sym (append_assoc xs ys (drop (0 + length (xs ++ ys)) area))

-- the same by stores, one after another
pub stored_next : (n : ℕ) (xs ys area mid : List ℕ) → length xs ≡ n → n + length ys ≤ length area → mid ≡ over 0 xs area
    → sets mid n ys ≡ over 0 (xs ++ ys) area
stored_next n xs ys area mid e h m =
    ap (λ l. sets l n ys) m
    ∙ sets-eq ys (over 0 xs area) n (rw (over-length 0 xs area (omega arith)) h)
    ∙ append_assoc (take n (over 0 xs area)) ys (drop (n + length ys) (over 0 xs area))
    ∙ written_next n xs ys area e

-- one byte of l more
pub byte_next : (l area : List ℕ) (i : ℕ) → i < length l → i < length area
    → set (over 0 (take i l) area) i (get_or l i 0) ≡ over 0 (take (i + 1) l) area
byte_next l area i h k =
    let e : length (take i l) ≡ i = length-take-le i l (omega arith) in
    let f : length (take (i + 1) l) ≡ i + 1 = length-take-le (i + 1) l (omega arith) in
    ap (λ x. set (take i l ++ x) i (get_or l i 0)) (ap (λ n. drop n area) (zero-add (length (take i l)) ∙ e)
    ∙ drop-cons area i 0 k)
    ∙ set_at (take i l) (get_or area i 0) (drop (suc i) area) (get_or l i 0) i e
    ∙ sym (append_snoc (take i l) (get_or l i 0) (drop (suc i) area))
    ∙ ap (λ x. x ++ drop (suc i) area) (sym (take-suc l i 0 h) ∙ ap (λ n. take n l) (sym (add-one i)))
    ∙ ap (λ n. take (i + 1) l ++ drop n area) (sym (zero-add _ ∙ f ∙ add-one i))

-- a part from `from` of k bytes, lent and written at its own front
pub lent-part : (from k : ℕ) (bs area left : List ℕ) → length bs ≤ k → from + k ≤ length area
    → left ≡ over 0 bs (take k (drop from area)) → put_mid from k area left ≡ over from bs area
lent-part from k bs area left h g e =
    let n : length bs ≤ length (take k (drop from area)) = simp (length-take, length-drop) (omega arith) in
    ap (λ x. take from area ++ (x ++ drop k (drop from area))) e
    ∙ ap (λ x. take from area ++ x)
    (append_assoc bs (drop (0 + length bs) (take k (drop from area))) (drop k (drop from area))
    ∙ ap (λ x. bs ++ x)
    (ap (λ x. drop x (take k (drop from area)) ++ drop k (drop from area)) (zero-add (length bs))
    ∙ sym (drop-append-le (length bs) (take k (drop from area)) (drop k (drop from area)) n)
    ∙ ap (drop (length bs)) (take-append-drop k (drop from area))
    ∙ drop-drop (length bs) from area))

-- the same where the bytes were copied there
pub copied-part : (from k : ℕ) (bs area left : List ℕ) → length bs ≤ k → from + k ≤ length area
    → left ≡ copied bs (take k (drop from area)) → put_mid from k area left ≡ over from bs area
copied-part from k bs area left h g e =
    lent-part from k bs area left h g
    (e ∙ copied-whole bs (take k (drop from area)) (simp (length-take, length-drop) (omega arith)))

-- no more than there is
module _ (k n : ℕ) (l : List ℕ) (e : n ≡ min k (length l)) where
  pub take_min : take n l ≡ take k l
  take_min = go (dec_le k (length l))
    where
      go : Dec (k ≤ length l) → take n l ≡ take k l
      go (yes h) = ap (λ x. take x l) (e ∙ min-eq_left h)
      go (no h) = take_all n l (omega arith) ∙ sym (take_all k l (omega arith))

  pub drop_min : drop n l ≡ drop k l
  drop_min = go (dec_le k (length l))
    where
      go : Dec (k ≤ length l) → drop n l ≡ drop k l
      go (yes h) = ap (λ x. drop x l) (e ∙ min-eq_left h)
      go (no h) = drop_of_length-le l {i = n} (omega arith) ∙ sym (drop_of_length-le l {i = k} (omega arith))

-- what comes at a place of a list: what stands up to its end, and behind it
module _ (at : ℕ) (l m rest : List ℕ) (e : drop at l ≡ m ++ rest) where
  pub take-through : take (at + length m) l ≡ take at l ++ m
  take-through = take-add at (length m) l ∙ ap (λ x. take at l ++ x) (ap (take (length m)) e ∙ take-append_seam m rest)

  pub drop-through : drop (at + length m) l ≡ rest
  drop-through = sym (drop-drop (length m) at l) ∙ ap (drop (length m)) e ∙ drop-append_seam m rest

-- a test of every element, or of some, from element i on: the element decides, or the test goes on, or there is none
-- left
module _ (f : ℕ → Bool) (l : List ℕ) (i : ℕ) where
  all-next : i < length l → all f (drop i l) ≡ f (get_or l i 0) && all f (drop (i + 1) l)
  all-next h = ap (all f) (drop-cons l i 0 h) ∙ ap (λ n. f (get_or l i 0) && all f (drop n l)) (sym (add-one i))

  pub all-stop : i < length l → f (get_or l i 0) ≡ false → all f (drop i l) ≡ false
  all-stop h e = all-next h ∙ ap (λ b. b && all f (drop (i + 1) l)) e

  pub all-on : i < length l → f (get_or l i 0) ≡ true → all f (drop i l) ≡ all f (drop (i + 1) l)
  all-on h e = all-next h ∙ ap (λ b. b && all f (drop (i + 1) l)) e

  pub all_end : length l ≤ i → all f (drop i l) ≡ true
  all_end h = ap (all f) (drop_of_length-le l h)

  pub any-stop : i < length l → f (get_or l i 0) ≡ true → any f (drop i l) ≡ true
  any-stop h e = any-from f l i 0 h ∙ ap (λ b. b || any f (drop (i + 1) l)) e

  pub any-on : i < length l → f (get_or l i 0) ≡ false → any f (drop i l) ≡ any f (drop (i + 1) l)
  any-on h e = any-from f l i 0 h ∙ ap (λ b. b || any f (drop (i + 1) l)) e

  pub any-end : length l ≤ i → any f (drop i l) ≡ false
  any-end h = ap (any f) (drop_of_length-le l h)

-- the first four bytes as a number; a byte that is not there counts 0
pub little-four : (b : List ℕ) → little (take 4 b)
    ≡ get_or b 0 0 + 256 * (get_or b 1 0 + 256 * (get_or b 2 0 + 256 * get_or b 3 0))
little-four [] = refl
little-four (a ∷ []) = refl
little-four (a ∷ b ∷ []) = refl
little-four (a ∷ b ∷ c ∷ []) = refl
little-four (a ∷ b ∷ c ∷ d ∷ e) = ap (λ x. a + 256 * (b + 256 * (c + 256 * x))) (omega arith)

-- a number below 2 ^ 32 read from its four bytes
pub little_of_bytes : (n : ℕ) → n < 4294967296 → little (little_bytes 4 n) ≡ n
little_of_bytes n h = omega arith
