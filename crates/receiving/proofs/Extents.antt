-- What bytes are of a message, exactly; and how that goes on as more bytes come.
-- Assumes nothing.
use Prim.Native.Nat.{ℕ, ◌+◌, ◌-◌, ◌≤◌, ◌<◌}
use native.Mathlib.Decide.{dec_le}
use native.Mathlib.Omega.{arith}
use mathlib.Core.Path.{◌≡◌, sym, ap, ◌∙◌}
use mathlib.Core.Logic.{◌↔◌, inl, inr, ⊎_elim}
use mathlib.Core.List.{List, ◌++◌}
use lib.ListN.{length, take, drop, length-append, length-drop, take-append-drop}
use lib.Seq.{take-append-le, drop-append-le, take-append-add, length-take-le}
use borrow.Author.Tests.{le-ltb, lt-ltb}
use Rattle.wire.specs.Header.{size_of}
use Rattle.receiving.specs.Feeding.{extent_of, size_at_front, front_of}
use Rattle.receiving.specs.Calls.{Unfinished, TooLarge, WholeAt}

-- one of the three
pub data IsExtent (b : List ℕ) : Type 0 where
  Four : extent_of b ≡ 4 → IsExtent b
  Five : extent_of b ≡ 5 → IsExtent b
  Zero : extent_of b ≡ 0 → IsExtent b

-- and with what that says of the bytes
pub data Extent (b : List ℕ) : Type 0 where
  Short : extent_of b ≡ 4 → Unfinished b → Extent b
  Large : extent_of b ≡ 5 → TooLarge b → Extent b
  Full : extent_of b ≡ 0 → WholeAt b → Extent b

-- the three tests in order
module _ (b : List ℕ) where
  abbrev n : ℕ
  n = length b

  abbrev k : ℕ
  k = size_of b

  pub extent : Extent b
  unfolding extent_of
  extent = by (dec_le 23 n) (dec_le k 4096) (dec_le (23 + k) n)
    where
      by : Dec (23 ≤ n) → Dec (k ≤ 4096) → Dec (23 + k ≤ n) → Extent b
      by (no h) x y = let u : n < 23 = omega arith in Short (rw (lt-ltb n 23 u)) (inl u)
      by (yes h) (no g) y =
          let u : 4096 < k = omega arith in Large (rw (le-ltb n 23 h, lt-ltb 4096 k u)) (h, u)
      by (yes h) (yes g) (no c) =
          let u : n < 23 + k = omega arith in
          Short (rw (le-ltb n 23 h, le-ltb 4096 k g, lt-ltb n (23 + k) u)) (inr (g, u))
      by (yes h) (yes g) (yes c) = Full (rw (le-ltb n 23 h, le-ltb 4096 k g, le-ltb n (23 + k) c)) (g, c)

  -- no two of the three
  not-large : Unfinished b → TooLarge b → ⊥
  not-large u v = ⊎_elim (λ x. omega (arith, v.0)) (λ x. omega (arith, x.0, v.1)) u

  not_full : Unfinished b → WholeAt b → ⊥
  not_full u v = ⊎_elim (λ x. omega (arith, v.1)) (λ x. omega (arith, x.1, v.1)) u

  pub extent-cases : IsExtent b
  extent-cases = by extent
    where
      by : Extent b → IsExtent b
      by (Short e u) = Four e
      by (Large e u) = Five e
      by (Full e u) = Zero e

  -- each number, exactly
  record Exactly : Type 0 where
    four : (extent_of b ≡ 4) ↔ Unfinished b
    five : (extent_of b ≡ 5) ↔ TooLarge b
    zero : (extent_of b ≡ 0) ↔ WholeAt b

  exactly : Extent b → Exactly
  exactly (Short x u) =
      record {
        four = ((λ _. u), (λ _. x));
        five = ((λ z. absurd (omega arith)), (λ v. absurd (not-large u v)));
        zero = ((λ z. absurd (omega arith)), (λ v. absurd (not_full u v)));
      }
  exactly (Large x u) =
      record {
        four = ((λ z. absurd (omega arith)), (λ v. absurd (not-large v u)));
        five = ((λ _. u), (λ _. x));
        zero = ((λ z. absurd (omega arith)), (λ v. absurd (omega (arith, u.1, v.0))));
      }
  exactly (Full x u) =
      record {
        four = ((λ z. absurd (omega arith)), (λ v. absurd (not_full v u)));
        five = ((λ z. absurd (omega arith)), (λ v. absurd (omega (arith, u.0, v.1))));
        zero = ((λ _. u), (λ _. x));
      }

  pub four_is : extent_of b ≡ 4 → Unfinished b
  four_is = (exactly extent).four.0

  pub is-four : Unfinished b → extent_of b ≡ 4
  is-four = (exactly extent).four.1

  pub five-is : extent_of b ≡ 5 → TooLarge b
  five-is = (exactly extent).five.0

  pub is-five : TooLarge b → extent_of b ≡ 5
  is-five = (exactly extent).five.1

  pub zero_is : extent_of b ≡ 0 → WholeAt b
  zero_is = (exactly extent).zero.0

  pub is_zero : WholeAt b → extent_of b ≡ 0
  is_zero = (exactly extent).zero.1

  -- bytes that start a message are fewer than 4,119
  pub starts-short : extent_of b ≡ 4 → length b ≤ 4118
  starts-short e = ⊎_elim (λ x. omega arith) (λ x. omega (arith, x.0, x.1)) (four_is e)

  -- the message at the front of bytes that have one
  large-front : extent_of b ≡ 5 → size_at_front b ≡ 23
  large-front e = rw e

  full-front : extent_of b ≡ 0 → size_at_front b ≡ 23 + size_of b
  full-front e = rw e

  pub front-least : 23 ≤ size_at_front b
  front-least = by extent
    where
      by : Extent b → 23 ≤ size_at_front b
      by (Short x u) = rw x (omega arith)
      by (Large x u) = rw x (omega arith)
      by (Full x u) = rw x (omega arith)

  module _ (ends : extent_of b ≡ 4 → ⊥) where
    pub front-there : size_at_front b ≤ length b
    front-there = by extent
      where
        by : Extent b → size_at_front b ≤ length b
        by (Short x u) = absurd (ends x)
        by (Large x u) = rw x u.0
        by (Full x u) = rw x u.1

    pub front_long : length (front_of b) ≡ size_at_front b
    front_long = length-take-le (size_at_front b) b front-there

    pub front-most : size_at_front b ≤ 4119
    front-most = by extent
      where
        by : Extent b → size_at_front b ≤ 4119
        by (Short x u) = absurd (ends x)
        by (Large x u) = rw x (omega arith)
        by (Full x u) = rw x (omega (arith, u.0))

-- the header of bytes is that of more bytes, once it is there
pub size-more : (b more : List ℕ) → 23 ≤ length b → size_of (b ++ more) ≡ size_of b
size-more b more h =
    let four : 4 ≤ length (drop 19 b) = rw (length-drop 19 b) (omega arith) in
    rw (drop-append-le 19 b more (omega arith), take-append-le 4 (drop 19 b) more four)

-- the front of bytes has their header
size-front : (b : List ℕ) (n : ℕ) → 23 ≤ n → n ≤ length b → size_of (take n b) ≡ size_of b
size-front b n h w =
    let long : length (take n b) ≡ n = length-take-le n b w in
    sym (size-more (take n b) (drop n b) (rw long h)) ∙ ap size_of (take-append-drop n b)

module _ (b more : List ℕ) where
  pub five-more : extent_of b ≡ 5 → extent_of (b ++ more) ≡ 5
  five-more e =
      let u : TooLarge b = five-is b e in
      is-five (b ++ more) (rw (length-append b more) (omega (arith, u.0)), rw (size-more b more u.0) u.1)

  pub zero_more : extent_of b ≡ 0 → extent_of (b ++ more) ≡ 0
  zero_more e =
      let u : WholeAt b = zero_is b e in
      let same : size_of (b ++ more) ≡ size_of b = size-more b more (omega (arith, u.1)) in
      is_zero (b ++ more) (rw same u.0, rw (same, length-append b more) (omega (arith, u.1)))

  pub starts-before : extent_of (b ++ more) ≡ 4 → extent_of b ≡ 4
  starts-before e = by (extent-cases b)
    where
      by : IsExtent b → extent_of b ≡ 4
      by (Four x) = x
      by (Five x) = let y = five-more x in absurd (omega arith)
      by (Zero x) = let y = zero_more x in absurd (omega arith)

  module _ (ends : extent_of b ≡ 4 → ⊥) where
    pub size-at-front-more : size_at_front (b ++ more) ≡ size_at_front b
    size-at-front-more = by (extent b)
      where
        by : Extent b → size_at_front (b ++ more) ≡ size_at_front b
        by (Short x u) = absurd (ends x)
        by (Large x u) = large-front (b ++ more) (five-more x) ∙ sym (large-front b x)
        by (Full x u) =
            full-front (b ++ more) (zero_more x) ∙ ap (λ n. 23 + n) (size-more b more (omega (arith, u.1)))
            ∙ sym (full-front b x)

    pub front-more : front_of (b ++ more) ≡ front_of b
    front-more =
        ap (λ n. take n (b ++ more)) size-at-front-more
        ∙ take-append-le (size_at_front b) b more (front-there b ends)

pub front-extent : (b : List ℕ) → (extent_of b ≡ 4 → ⊥) → extent_of (front_of b) ≡ extent_of b
front-extent b ends = by (extent b)
  where
    long : length (front_of b) ≡ size_at_front b
    long = front_long b ends

    same : size_of (front_of b) ≡ size_of b
    same = size-front b (size_at_front b) (front-least b) (front-there b ends)

    by : Extent b → extent_of (front_of b) ≡ extent_of b
    by (Short x u) = absurd (ends x)
    by (Large x u) =
        is-five (front_of b) (rw long (front-least b), rw same u.1) ∙ sym x
    by (Full x u) =
        is_zero (front_of b) (rw same u.0, rw (long, same) (omega (arith, full-front b x))) ∙ sym x

-- bytes that start one, and more that end it: it is longer than the first, and is they and what it takes of the others
module _ (p bytes : List ℕ) (begins : extent_of p ≡ 4) (ends : extent_of (p ++ bytes) ≡ 4 → ⊥) where
  pub front-past : length p < size_at_front (p ++ bytes)
  front-past = by (dec_le 23 (length p)) (four_is p begins) (extent (p ++ bytes))
    where
      by : Dec (23 ≤ length p) → Unfinished p → Extent (p ++ bytes) → length p < size_at_front (p ++ bytes)
      by (no h) u y = omega (arith, front-least (p ++ bytes))
      by (yes h) (inl u) y = absurd (omega arith)
      by (yes h) (inr u) (Short x v) = absurd (ends x)
      by (yes h) (inr u) (Large x v) = absurd (omega (arith, size-more p bytes h, u.0, v.1))
      by (yes h) (inr u) (Full x v) = omega (arith, full-front (p ++ bytes) x, size-more p bytes h, u.1)

  pub front-splits : front_of (p ++ bytes) ≡ p ++ take (size_at_front (p ++ bytes) - length p) bytes
  front-splits =
      let n : ℕ = size_at_front (p ++ bytes) in
      let parts : n ≡ length p + (n - length p) = omega (arith, front-past) in
      ap (λ k. take k (p ++ bytes)) parts ∙ take-append-add p bytes (n - length p)
