-- Facts on the numbers of a PATCH, each once for both widths: how many there are and in which range, that packing and
-- reading are inverse, that the messages of a run add what their numbers joined would add, and exactly when sums leave
-- 1..Infinity.
-- Assumes nothing.
use Prim.Native.Nat.{ℕ, zero, suc, ◌+◌, ◌-◌, ◌*◌, ◌/◌, ◌%◌, ◌^◌, ◌≤◌, ◌<◌}
use mathlib.Core.Path.{◌≡◌, refl, sym, ap, ◌∙◌}
use mathlib.Core.Bool.{Bool, true, false, cond, ◌&&◌, false≢true, and_assoc}
use mathlib.Core.List.{List, [], ◌∷◌, ◌++◌, append_assoc}
use mathlib.Core.Logic.{◌⊎◌, inl, inr, ◌↔◌}
use native.Mathlib.Omega.{arith}
use lib.Dec.{eqb, leb, ltb}
use lib.Arith.{digits_div, digits_mod}
use borrow.Author.Tests.{ltb-true, ltb-false, leb-true, lt-ltb, le-ltb, le-leb}
use lib.ListN.{length, get_or, take, drop, length-append, length-take, length-drop, take-append-drop}
use lib.Seq.{length-take-le, drop-drop}
use Rattle.laws.proofs.Chunks.{Each, and_both, and_first, and_second, take_past, drop_past}
use Rattle.tables.specs.Tables.{Held}
use Rattle.tables.specs.Updates.{bits_in, numbers_in, in_range, patch_by}
use Rattle.tables.specs.Patch.{numbers, number_count, packed, half, gain, loss, sum_of, fits, added, all_fit}

-- the two widths of a number
pub data Width : ℕ → Type 0 where
  four : Width 4
  eight : Width 8

pub width : (bits : ℕ) → (bits ≡ 4) ⊎ (bits ≡ 8) → Width bits
width bits (inl e) = rw e four
width bits (inr e) = rw e eight

abbrev pub Below : ℕ → List ℕ → Type 0
Below n ns = Each (λ v. v < n) ns

-- how many
pub numbers-length : (bits : ℕ) (bytes : List ℕ) → length (numbers bits bytes) ≡ number_count bits (length bytes)
unfolding numbers
numbers-length bits [] = by (eqb bits 4)
  where
    by : (t : Bool) → 0 ≡ 0 * cond t 2 1
    by true = refl
    by false = refl
numbers-length bits (b ∷ bs) = by (eqb bits 4) (numbers-length bits bs)
  where
    by : (t : Bool)
        → length (numbers bits bs) ≡ length bs * cond t 2 1
        → length (cond t (b / 16 ∷ b % 16 ∷ numbers bits bs) (b ∷ numbers bits bs)) ≡ suc (length bs) * cond t 2 1
    by true h = omega arith
    by false h = omega arith

-- the high half of a byte first
pub first-bits-first : (b : ℕ) (d : List ℕ) → numbers 4 (b ∷ d) ≡ b / 16 ∷ b % 16 ∷ numbers 4 d
unfolding numbers
first-bits-first b d = refl

pub whole-byte : (b : ℕ) (d : List ℕ) → numbers 8 (b ∷ d) ≡ b ∷ numbers 8 d
unfolding numbers
whole-byte b d = refl

-- the range of the numbers of bytes: 0..2 ^ bits - 1 as written ..
pub below-bits : {bits : ℕ} → Width bits → (d : List ℕ) → Below 256 d → Below (2 ^ bits) (numbers bits d)
unfolding numbers
below-bits four [] h = tt
below-bits four (b ∷ d) h =
    let e : b < 256 = h.0 in
    (omega arith, (omega arith, below-bits four d h.1))
below-bits eight [] h = tt
below-bits eight (b ∷ d) h = (h.0, below-bits eight d h.1)

-- .. and -half..half - 1 as two's complement: it adds at most half - 1 or takes away at most half, and never both
pub record InRange (bits v : ℕ) : Type 0 where
  pub gained : gain bits v < half bits
  pub lost : loss bits v ≤ half bits
  pub one : (gain bits v ≡ 0) ⊎ (loss bits v ≡ 0)

-- what a number below half and one from half on adds and takes away
pub small-number : (bits v : ℕ) → v < half bits → (gain bits v ≡ v) × (loss bits v ≡ 0)
small-number bits v h = let e : ltb v (half bits) ≡ true = lt-ltb v (half bits) h in (rw e, rw e)

pub large-number : (bits v : ℕ) → half bits ≤ v → (gain bits v ≡ 0) × (loss bits v ≡ 2 ^ bits - v)
large-number bits v h = let e : ltb v (half bits) ≡ false = le-ltb v (half bits) h in (rw e, rw e)

-- twice the half
pub twice_half : {bits : ℕ} → Width bits → (2 ^ bits ≡ half bits * 2) × (0 < half bits)
twice_half four = (refl, omega arith)
twice_half eight = (refl, omega arith)

pub in_range_lem : {bits : ℕ} → Width bits → (v : ℕ) → v < 2 ^ bits → InRange bits v
in_range_lem {bits} w v h = go (ltb v (half bits)) refl (twice_half w)
  where
    go : (t : Bool) → ltb v (half bits) ≡ t → (2 ^ bits ≡ half bits * 2) × (0 < half bits) → InRange bits v
    go true q two =
        let low : v < half bits = ltb-true v (half bits) q in
        let g : gain bits v ≡ v = (small-number bits v low).0 in
        let l : loss bits v ≡ 0 = (small-number bits v low).1 in
        record { gained = rw g low; lost = rw l (omega arith); one = inr l }
    go false q two =
        let high : half bits ≤ v = ltb-false v (half bits) q in
        let g : gain bits v ≡ 0 = (large-number bits v high).0 in
        let l : loss bits v ≡ 2 ^ bits - v = (large-number bits v high).1 in
        record { gained = rw g two.1; lost = rw l (omega arith); one = inl g }

-- packing and reading are inverse: numbers in range that fill n bytes ..
pub read-packed : {bits : ℕ} → Width bits → (ns : List ℕ) (n : ℕ) → Below (2 ^ bits) ns → length ns ≡ number_count bits n
    → numbers bits (packed bits ns) ≡ ns
unfolding numbers packed
read-packed four [] n h e = refl
read-packed four (u ∷ []) n h e = let odd : 1 ≡ n * 2 = e in absurd (omega arith)
read-packed four (u ∷ v ∷ ns) zero h e = let none : suc (suc (length ns)) ≡ 0 * 2 = e in absurd (omega arith)
read-packed four (u ∷ v ∷ ns) (suc n) h e =
    let long : suc (suc (length ns)) ≡ suc n * 2 = e in
    let low : v < 16 = h.1.0 in
    rw (digits_div u low, digits_mod u low, read-packed four ns n h.1.1 (omega arith))
read-packed eight [] n h e = refl
read-packed eight (u ∷ []) n h e = refl
read-packed eight (u ∷ v ∷ ns) n h e =
    ap (λ (r : List ℕ). u ∷ r) (read-packed eight (v ∷ ns) (suc (length ns)) h.1 (omega arith))

-- .. and bytes
pub packed-read : {bits : ℕ} → Width bits → (d : List ℕ) → Below 256 d → packed bits (numbers bits d) ≡ d
unfolding numbers packed
packed-read four [] h = refl
packed-read four (b ∷ d) h =
    let e : b / 16 * 16 + b % 16 ≡ b = omega arith in
    rw (e, packed-read four d h.1)
packed-read eight [] h = refl
packed-read eight (b ∷ []) h = refl
packed-read eight (b ∷ c ∷ d) h = ap (λ (r : List ℕ). b ∷ r) (packed-read eight (c ∷ d) h.1)

-- numbers in range are packed to bytes
pub packed-bytes : {bits : ℕ} → Width bits → (ns : List ℕ) → Below (2 ^ bits) ns → Below 256 (packed bits ns)
unfolding packed
packed-bytes four [] h = tt
packed-bytes four (u ∷ []) h = tt
packed-bytes four (u ∷ v ∷ ns) h =
    let high : u < 16 = h.0 in
    let low : v < 16 = h.1.0 in
    (omega arith, packed-bytes four ns h.1.1)
packed-bytes eight [] h = tt
packed-bytes eight (u ∷ []) h = h
packed-bytes eight (u ∷ v ∷ ns) h = (h.0, packed-bytes eight (v ∷ ns) h.1)

-- the numbers of joined data are the numbers of each, joined
pub numbers_append : {bits : ℕ} → Width bits → (d e : List ℕ) → numbers bits (d ++ e) ≡ numbers bits d ++ numbers bits e
unfolding numbers
numbers_append four [] e = refl
numbers_append four (b ∷ d) e = rw (numbers_append four d e)
numbers_append eight [] e = refl
numbers_append eight (b ∷ d) e = rw (numbers_append eight d e)

-- adding keeps the length ..
pub added-length : (bits : ℕ) (vs es : List ℕ) → length (added bits vs es) ≡ length es
unfolding added
added-length bits [] es = refl
added-length bits (v ∷ vs) [] = refl
added-length bits (v ∷ vs) (e ∷ es) = ap suc (added-length bits vs es)

-- .. is the sum at each entry that has a number, and leaves the others
pub added-at : (bits : ℕ) (vs es : List ℕ) (i : ℕ) → i < length vs → length vs ≤ length es
    → get_or (added bits vs es) i 0 ≡ sum_of bits (get_or vs i 0) (get_or es i 0)
unfolding added
added-at bits [] es i h k = absurd (omega arith)
added-at bits (v ∷ vs) [] i h k = absurd (omega arith)
added-at bits (v ∷ vs) (e ∷ es) zero h k = refl
added-at bits (v ∷ vs) (e ∷ es) (suc i) h k = added-at bits vs es i (omega arith) (omega arith)

pub added-rest : (bits : ℕ) (vs es : List ℕ) → drop (length vs) (added bits vs es) ≡ drop (length vs) es
unfolding added
added-rest bits [] es = refl
added-rest bits (v ∷ vs) [] = refl
added-rest bits (v ∷ vs) (e ∷ es) = added-rest bits vs es

-- numbers joined: the second part goes to the entries past the first
pub added_append : (bits : ℕ) (vs ws es : List ℕ)
    → added bits (vs ++ ws) es ≡ take (length vs) (added bits vs es) ++ added bits ws (drop (length vs) es)
unfolding added
added_append bits [] ws es = refl
added_append bits (v ∷ vs) [] [] = refl
added_append bits (v ∷ vs) (w ∷ ws) [] = refl
added_append bits (v ∷ vs) ws (e ∷ es) = ap (λ (r : List ℕ). sum_of bits v e ∷ r) (added_append bits vs ws es)

pub all_fit_append : (bits infinity : ℕ) (vs ws es : List ℕ)
    → all_fit bits infinity (vs ++ ws) es ≡ (all_fit bits infinity vs es && all_fit bits infinity ws (drop (length vs) es))
unfolding all_fit
all_fit_append bits infinity [] ws es = refl
all_fit_append bits infinity (v ∷ vs) ws [] = refl
all_fit_append bits infinity (v ∷ vs) ws (e ∷ es) =
    rw (all_fit_append bits infinity vs ws es)
    (sym (and_assoc (fits bits infinity v e) (all_fit bits infinity vs es)
    (all_fit bits infinity ws (drop (length vs) es))))

-- the messages of a run in turn, each at the entry where the one before ended ..
abbrev pub added_at : ℕ → ℕ → List ℕ → List ℕ → List ℕ
added_at bits at vs es = take at es ++ added bits vs (drop at es)

abbrev pub fit_at : ℕ → ℕ → ℕ → List ℕ → List ℕ → Bool
fit_at bits infinity at vs es = all_fit bits infinity vs (drop at es)

-- .. as an accepted PATCH adds them and as they are tested
pub patched : (h : Held) (p : List ℕ) → (patch_by h p).entries ≡ added_at (bits_in p) h.table.nextentry
    (numbers_in p) h.entries
unfolding patch_by
patched h p = refl

pub tested : (h : Held) (p : List ℕ) → in_range h p ≡ fit_at (bits_in p) h.table.infinity h.table.nextentry
    (numbers_in p) h.entries
unfolding in_range
tested h p = refl

unfoldable pub added_run : ℕ → ℕ → List (List ℕ) → List ℕ → List ℕ
added_run bits at [] es = es
added_run bits at (vs ∷ vss) es = added_run bits (at + length vs) vss (added_at bits at vs es)

unfoldable pub fit_run : ℕ → ℕ → ℕ → List (List ℕ) → List ℕ → Bool
fit_run bits infinity at [] es = true
fit_run bits infinity at (vs ∷ vss) es =
    fit_at bits infinity at vs es && fit_run bits infinity (at + length vs) vss (added_at bits at vs es)

unfoldable pub together : List (List ℕ) → List ℕ
together [] = []
together (vs ∷ vss) = vs ++ together vss

module _ (bits at : ℕ) (vs es : List ℕ) (within : at + length vs ≤ length es) where
  pub added_at-length : length (added_at bits at vs es) ≡ length es
  added_at-length = simp (length-append, length-take, added-length, length-drop) (omega arith)

  front : length (take at es) ≡ at
  front = length-take-le at es (omega arith)

  pub added_at-rest : drop (at + length vs) (added_at bits at vs es) ≡ drop (at + length vs) es
  added_at-rest =
      drop_past (take at es) (added bits vs (drop at es)) at front (length vs)
      ∙ added-rest bits vs (drop at es)
      ∙ drop-drop (length vs) at es

  added_at-front : take (at + length vs) (added_at bits at vs es) ≡ take at es ++ take (length vs)
      (added bits vs (drop at es))
  added_at-front = take_past (take at es) (added bits vs (drop at es)) at front (length vs)

  -- two messages in turn are one with the numbers of both
  pub added_twice : (ws : List ℕ) → added_at bits (at + length vs) ws (added_at bits at vs es)
      ≡ added_at bits at (vs ++ ws) es
  added_twice ws =
      rw
      (added_at-front, added_at-rest, ← drop-drop (length vs) at es, added_append bits vs ws (drop at es))
      (append_assoc (take at es) (take (length vs) (added bits vs (drop at es)))
      (added bits ws (drop (length vs) (drop at es))))

  pub fit-twice : (infinity : ℕ) (ws : List ℕ)
      → (fit_at bits infinity at vs es && fit_at bits infinity (at + length vs) ws (added_at bits at vs es))
      ≡ fit_at bits infinity at (vs ++ ws) es
  fit-twice infinity ws = rw (added_at-rest, ← drop-drop (length vs) at es)
      (sym (all_fit_append bits infinity vs ws (drop at es)))

-- .. add what their numbers add when they come at once
module _ (bits : ℕ) where
  pub run-at-once : (at : ℕ) (vss : List (List ℕ)) (es : List ℕ) → at + length (together vss) ≤ length es
      → added_run bits at vss es ≡ added_at bits at (together vss) es
  unfolding added_run together added
  run-at-once at [] es h = sym (take-append-drop at es)
  run-at-once at (vs ∷ vss) es h =
      let long : at + (length vs + length (together vss)) ≤ length es = rw (length-append vs (together vss)) at h in
      let here : at + length vs ≤ length es = omega arith in
      let on : at + length vs + length (together vss) ≤ length (added_at bits at vs es) =
      rw (added_at-length bits at vs es here) (omega arith) in
      run-at-once (at + length vs) vss (added_at bits at vs es) on ∙ added_twice bits at vs es here (together vss)

  pub fit-at-once : (infinity at : ℕ) (vss : List (List ℕ)) (es : List ℕ) → at + length (together vss) ≤ length es
      → fit_run bits infinity at vss es ≡ fit_at bits infinity at (together vss) es
  unfolding fit_run together all_fit
  fit-at-once infinity at [] es h = refl
  fit-at-once infinity at (vs ∷ vss) es h =
      let long : at + (length vs + length (together vss)) ≤ length es = rw (length-append vs (together vss)) at h in
      let here : at + length vs ≤ length es = omega arith in
      let on : at + length vs + length (together vss) ≤ length (added_at bits at vs es) =
      rw (added_at-length bits at vs es here) (omega arith) in
      rw (fit-at-once infinity (at + length vs) vss (added_at bits at vs es) on)
      (fit-twice bits at vs es here infinity (together vss))

-- the sum of a number and an entry is in 1..Infinity
pub record SumWithin (bits infinity v e : ℕ) : Type 0 where
  pub low : loss bits v < e + gain bits v
  pub high : e + gain bits v ≤ infinity + loss bits v

pub fits-exactly : (bits infinity v e : ℕ) → (fits bits infinity v e ≡ true) ↔ SumWithin bits infinity v e
fits-exactly bits infinity v e = (from, to)
  where
    from : fits bits infinity v e ≡ true → SumWithin bits infinity v e
    from h =
        record {
          low = ltb-true (loss bits v) (e + gain bits v) (and_first (ltb (loss bits v) (e + gain bits v))
              (leb (e + gain bits v) (infinity + loss bits v)) h);
          high =
              leb-true (e + gain bits v) (infinity + loss bits v)
              (and_second (ltb (loss bits v) (e + gain bits v)) (leb (e + gain bits v) (infinity + loss bits v)) h);
        }

    to : SumWithin bits infinity v e → fits bits infinity v e ≡ true
    to h = and_both (lt-ltb (loss bits v) (e + gain bits v) h.low)
        (le-leb (e + gain bits v) (infinity + loss bits v) h.high)

-- such a sum, as a number
pub sum_in : (bits infinity v e : ℕ) → SumWithin bits infinity v e → (1 ≤ sum_of bits v e) × (sum_of bits v e ≤ infinity)
sum_in bits infinity v e h =
    let low : loss bits v < e + gain bits v = h.low in
    let high : e + gain bits v ≤ infinity + loss bits v = h.high in
    (omega arith, omega arith)

-- 16 (RULES 12.11), exactly: it is not answered where there is an entry for each number and each sum is in 1..Infinity
pub record EachWithin (bits infinity : ℕ) (vs es : List ℕ) : Type 0 where
  pub long : length vs ≤ length es
  pub sums : (i : ℕ) → i < length vs → SumWithin bits infinity (get_or vs i 0) (get_or es i 0)

module _ (bits infinity : ℕ) where
  each_within : (vs es : List ℕ) → all_fit bits infinity vs es ≡ true → EachWithin bits infinity vs es
  unfolding all_fit
  each_within [] es h = record { long = omega arith; sums = λ i k. absurd (omega arith) }
  each_within (v ∷ vs) [] h = absurd (false≢true h)
  each_within (v ∷ vs) (e ∷ es) h =
      go (each_within vs es (and_second (fits bits infinity v e) (all_fit bits infinity vs es) h))
    where
      here : SumWithin bits infinity v e
      here = (fits-exactly bits infinity v e).0 (and_first (fits bits infinity v e) (all_fit bits infinity vs es) h)

      sums : EachWithin bits infinity vs es → (i : ℕ) → i < suc (length vs) → SumWithin bits infinity
          (get_or (v ∷ vs) i 0) (get_or (e ∷ es) i 0)
      sums on zero k = here
      sums on (suc i) k = on.sums i (omega arith)

      go : EachWithin bits infinity vs es → EachWithin bits infinity (v ∷ vs) (e ∷ es)
      go on = let l : length vs ≤ length es = on.long in record { long = omega arith; sums = sums on }

  all-fit : (vs es : List ℕ) → EachWithin bits infinity vs es → all_fit bits infinity vs es ≡ true
  unfolding all_fit
  all-fit [] es h = refl
  all-fit (v ∷ vs) [] h = let l : suc (length vs) ≤ 0 = h.long in absurd (omega arith)
  all-fit (v ∷ vs) (e ∷ es) h =
      let l : suc (length vs) ≤ suc (length es) = h.long in
      and_both
      ((fits-exactly bits infinity v e).1 (h.sums 0 (omega arith)))
      (all-fit vs es (record { long = omega arith; sums = λ i k. h.sums (suc i) (omega arith) }))

  pub fit-exactly : (vs es : List ℕ) → (all_fit bits infinity vs es ≡ true) ↔ EachWithin bits infinity vs es
  fit-exactly vs es = (each_within vs es, all-fit vs es)

  -- entries stay in 1..Infinity
  pub added_in : (vs es : List ℕ) → all_fit bits infinity vs es ≡ true → Each (λ e. (1 ≤ e) × (e ≤ infinity)) es
      → Each (λ e. (1 ≤ e) × (e ≤ infinity)) (added bits vs es)
  unfolding all_fit added
  added_in [] es h k = k
  added_in (v ∷ vs) [] h k = tt
  added_in (v ∷ vs) (e ∷ es) h k = (
    sum_in bits infinity v e
        ((fits-exactly bits infinity v e).0 (and_first (fits bits infinity v e) (all_fit bits infinity vs es) h)),
    added_in vs es (and_second (fits bits infinity v e) (all_fit bits infinity vs es) h) k.1,
  )
