-- The pairs of an area, one by one: those left from pair i on, and the pair at a place.
use Prim.Native.Nat.{ℕ, zero, suc, ◌+◌, ◌-◌, ◌*◌, ◌≤◌, ◌<◌}
use mathlib.Core.Path.{◌≡◌, refl, sym, ap, ap₂, ◌∙◌}
use mathlib.Core.Bool.{Bool, true, false, not, ◌&&◌, ◌||◌}
use mathlib.Core.List.{List, [], ◌∷◌}
use native.Mathlib.Omega.{arith}
use native.Mathlib.Nat.{sub-zero}
use lib.Dec.{eqb}
use lib.ListN.{length, get_or, take, drop, drop_of_length-le}
use lib.Seq.{drop-drop, take-take}
use borrow.Author.Tests.{ne_eqb, lt-leb, le-leb, lt-ltb, le-ltb}
use Rattle.laws.specs.Bytes.{little}
use Rattle.laws.specs.Tests.{any}
use Rattle.laws.proofs.Passing.{any-from}
use Rattle.namearea.specs.declared.Span.{Span}
use Rattle.namearea.specs.Area.{most_names, text_from, span_in, span_at, pair_in, spans_from, spans_of, end_of}
use Rattle.namearea.specs.Good.{rising_from}

-- the pairs from i on, of the first `count`
abbrev pub left : ℕ → List ℕ → ℕ → List Span
left count a i = spans_from (count - i) (drop (4 + 8 * i) a)

pub left-all : (count : ℕ) (a : List ℕ) → left count a 0 ≡ spans_of count a
left-all count a = ap (λ n. spans_from n (drop 4 a)) (sub-zero count)

pub left-next : (count : ℕ) (a : List ℕ) (i : ℕ) → i < count → left count a i ≡ span_at a i ∷ left count a (i + 1)
unfolding spans_from
left-next count a i h =
    let e : count - i ≡ suc (count - (i + 1)) = omega arith in
    let d : 4 + 8 * i + 8 ≡ 4 + 8 * (i + 1) = omega arith in
    ap (λ n. spans_from n (drop (4 + 8 * i) a)) e
    ∙ ap (λ l. span_at a i ∷ spans_from (count - (i + 1)) l) (drop-drop 8 (4 + 8 * i) a ∙ ap (λ n. drop n a) d)

pub left_end : (count : ℕ) (a : List ℕ) (i : ℕ) → count ≤ i → left count a i ≡ []
unfolding spans_from
left_end count a i h =
    let e : count - i ≡ 0 = omega arith in
    ap (λ n. spans_from n (drop (4 + 8 * i) a)) e

pub spans-length : (n : ℕ) (d : List ℕ) → length (spans_from n d) ≡ n
unfolding spans_from
spans-length zero d = refl
spans-length (suc n) d = ap suc (spans-length n (drop 8 d))

-- the pair at a place
from_at : (n : ℕ) (d : List ℕ) (i : ℕ) (s : Span) → i < n → get_or (spans_from n d) i s ≡ span_in (drop (8 * i) d)
unfolding spans_from
from_at zero d i s h = absurd (omega arith)
from_at (suc n) d zero s h = refl
from_at (suc n) d (suc i) s h =
    let e : 8 + 8 * i ≡ 8 * suc i = omega arith in
    from_at n (drop 8 d) i s (omega arith) ∙ ap span_in (drop-drop (8 * i) 8 d ∙ ap (λ k. drop k d) e)

pub span_here : (n : ℕ) (a : List ℕ) (i : ℕ) (s : Span) → i < n → get_or (spans_of n a) i s ≡ span_at a i
span_here n a i s h = from_at n (drop 4 a) i s h ∙ ap span_in (drop-drop (8 * i) 4 a)

-- no pair, as the code makes it
pub blank : (s : Span) → (s.offset ≡ 0) × (s.size ≡ 0) → s ≡ record { offset = 0; size = 0 }
blank s e = ap₂ (λ x y. record { offset = x; size = y }) e.0 e.1

-- a pair of which there is no byte
pub none-past : (d : List ℕ) (n : ℕ) → length d ≤ n → span_in (drop n d) ≡ record { offset = 0; size = 0 }
unfolding span_in
none-past d n h = ap span_in (drop_of_length-le d h)

-- a pair is read of eight bytes
behind-four : (d : List ℕ) → take 4 (drop 4 d) ≡ drop 4 (take 8 d)
behind-four [] = refl
behind-four (x0 ∷ []) = refl
behind-four (x0 ∷ x1 ∷ []) = refl
behind-four (x0 ∷ x1 ∷ x2 ∷ []) = refl
behind-four (x0 ∷ x1 ∷ x2 ∷ x3 ∷ d) = refl

pub span_same : (d e : List ℕ) → take 8 d ≡ take 8 e → span_in d ≡ span_in e
unfolding span_in
span_same d e h =
    let first : take 4 d ≡ take 4 e =
    sym (take-take 4 8 d (omega arith)) ∙ ap (take 4) h ∙ take-take 4 8 e (omega arith) in
    let second : take 4 (drop 4 d) ≡ take 4 (drop 4 e) = behind-four d ∙ ap (drop 4) h ∙ sym (behind-four e) in
    ap₂ (λ x y. record { offset = little x; size = little y }) first second

pub span_part : (d : List ℕ) (n : ℕ) → span_in (take (n + 8 - n) (drop n d)) ≡ span_in (drop n d)
span_part d n =
    let e : n + 8 - n ≡ 8 = omega arith in
    ap (λ k. span_in (take k (drop n d))) e
    ∙ span_same (take 8 (drop n d)) (drop n d) (take-take 8 8 (drop n d) (omega arith))

-- a pair of an area that has room for the pairs
module _ (a : List ℕ) (i : ℕ) where
  pub pair-there : text_from ≤ length a → i < most_names → pair_in a i ≡ span_at a i
  unfolding pair_in
  pair-there h g = rw (le-leb text_from (length a) h, lt-ltb i most_names g)

  pub pair-short : length a < text_from → record { offset = 0; size = 0 } ≡ pair_in a i
  unfolding pair_in
  pair-short h = rw (lt-leb text_from (length a) h)

  pub pair-past : text_from ≤ length a → most_names ≤ i → record { offset = 0; size = 0 } ≡ pair_in a i
  unfolding pair_in
  pair-past h g = rw (le-leb text_from (length a) h, le-ltb i most_names g)

-- a byte more, of which `good` says that it is not zero
flip : (b : Bool) (n : ℕ) (rest : Bool) → (b && not (eqb 0 n || rest)) ≡ ((b && not (eqb n 0)) && not rest)
flip false n rest = refl
flip true zero rest = refl
flip true (suc n) rest = let h : suc n ≡ 0 → ⊥ = λ e. omega arith in
    let g : 0 ≡ suc n → ⊥ = λ e. omega arith in rw (ne_eqb 0 (suc n) g, ne_eqb (suc n) 0 h)

pub zero_more : (l : List ℕ) (i : ℕ) (good : Bool) → i < length l
    → (good && not (any (eqb 0) (drop i l)))
    ≡ ((good && not (eqb (get_or l i 0) 0)) && not (any (eqb 0) (drop (i + 1) l)))
zero_more l i good h =
    ap (λ b. good && not b) (any-from (eqb 0) l i 0 h) ∙ flip good (get_or l i 0) (any (eqb 0) (drop (i + 1) l))

-- whether the pairs left rise: the next decides, or the rest does
module _ (count : ℕ) (a : List ℕ) (i low : ℕ) (h : i < count) where
  pub rising-stop : (span_at a i).offset < low → rising_from low (left count a i) ≡ false
  unfolding rising_from
  rising-stop g = ap (rising_from low) (left-next count a i h) ∙ rw (lt-leb low (span_at a i).offset g)

  pub rising-on : low ≤ (span_at a i).offset
      → rising_from low (left count a i) ≡ rising_from (end_of (span_at a i)) (left count a (i + 1))
  unfolding rising_from
  rising-on g = ap (rising_from low) (left-next count a i h) ∙ rw (le-leb low (span_at a i).offset g)

pub rising-end : (count : ℕ) (a : List ℕ) (i low : ℕ) → count ≤ i → rising_from low (left count a i) ≡ true
unfolding rising_from
rising-end count a i low h = ap (rising_from low) (left_end count a i h)
