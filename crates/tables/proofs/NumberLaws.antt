-- Laws of the numbers of a PATCH, over the bits of a number.
use Prim.Native.Nat.{ℕ, suc, ◌+◌, ◌%◌, ◌≤◌, ◌<◌}
use mathlib.Core.Path.{◌≡◌, refl, sym, ap, ◌∙◌}
use mathlib.Core.Logic.{⊎_elim}
use mathlib.Core.Bool.{Bool, true, false, ◌&&◌, false≢true, and_assoc, and-true}
use mathlib.Core.List.{List, [], ◌∷◌, ◌++◌}
use native.Mathlib.Omega.{arith}
use native.Mathlib.Numerals.{add-one}
use lib.Dec.{eqb, leb, ltb}
use lib.ListN.{length, get_or, take, drop, set, length-set, take-append-drop, drop_of_length-le, length-drop}
use lib.Seq.{length-take-le, drop-drop, drop-cons, take-suc-set, drop-set-lt, append_snoc}
use borrow.Author.Tests.{eqb-true, ne_eqb, lt-ltb, le-leb, ltb-true, ltb-false, leb-true}
use Rattle.tables.specs.Patch.{good_bits, numbers, gain, loss, fits, sum_of, all_fit, added}
use Rattle.laws.proofs.Chunks.{and_both}
use Rattle.tables.proofs.TestLaws.{either, both_true, same_test}
use Rattle.tables.proofs.PatchFacts.{SumWithin, fits-exactly, small-number, large-number, added_at}
use Rattle.tables.proofs.PatchFacts.{added_at-length, added_twice, fit-twice, all_fit_append}

-- a width that is not 4 is 8
pub eight : (bits : ℕ) → good_bits bits ≡ true → (bits ≡ 4 → ⊥) → bits ≡ 8
eight bits g n =
    ⊎_elim (λ e. absurd (n (eqb-true bits 4 e))) (λ e. eqb-true bits 8 e) (either (eqb bits 4) (eqb bits 8) g)

-- data that is not of 4 bits is its own numbers
pub numbers-whole : (bits : ℕ) (bytes : List ℕ) → (bits ≡ 4 → ⊥) → numbers bits bytes ≡ bytes
unfolding numbers
numbers-whole bits [] n = refl
numbers-whole bits (b ∷ bs) n = rw (ne_eqb bits 4 n) (ap (λ l. b ∷ l) (numbers-whole bits bs n))

-- the test of all numbers from place j on: the one at j, then those from j + 1 on
pub fit-more : (bits infinity j : ℕ) (vs es : List ℕ) → j < length vs → j < length es
    → all_fit bits infinity (drop j vs) (drop j es)
    ≡ (fits bits infinity (get_or vs j 0) (get_or es j 0) && all_fit bits infinity (drop (j + 1) vs) (drop (j + 1) es))
unfolding all_fit
fit-more bits infinity j vs es h k = rw (drop-cons vs j 0 h, drop-cons es j 0 k) (simp add-one)

-- entries are at least as many as numbers that all fit
pub fit-long : (bits infinity : ℕ) (vs es : List ℕ) → all_fit bits infinity vs es ≡ true → length vs ≤ length es
unfolding all_fit
fit-long bits infinity [] es h = omega arith
fit-long bits infinity (v ∷ vs) [] h = absurd (false≢true h)
fit-long bits infinity (v ∷ vs) (e ∷ es) h =
    let k : length vs ≤ length es = fit-long bits infinity vs es
    (both_true (fits bits infinity v e) (all_fit bits infinity vs es) h).1 in
    omega arith

-- the entries once the number at j is added: those from j + 1 on are left to do
pub added_more : (bits j : ℕ) (vs es : List ℕ) → j < length vs → j < length es
    → take j es ++ added bits (drop j vs) (drop j es)
    ≡ take (j + 1) (set es j (sum_of bits (get_or vs j 0) (get_or es j 0)))
    ++ added bits (drop (j + 1) vs) (drop (j + 1) (set es j (sum_of bits (get_or vs j 0) (get_or es j 0))))
unfolding added
added_more bits j vs es h k =
    let s = sum_of bits (get_or vs j 0) (get_or es j 0) in
    rw (drop-cons vs j 0 h, drop-cons es j 0 k)
    (simp add-one
    (rw (take-suc-set es j s k, drop-set-lt (suc j) es j s (omega arith))
    (sym (append_snoc (take j es) s (added bits (drop (suc j) vs) (drop (suc j) es))))))

-- what is known while numbers are added one by one, when those before place j are: what is left to do gives the whole
pub record Adding (bits : ℕ) (vs old es : List ℕ) (j : ℕ) : Type 0 where
  pub within : j ≤ length vs
  pub long : length vs ≤ length es
  pub same : length es ≡ length old
  pub fit : all_fit bits 255 (drop j vs) (drop j es) ≡ true
  pub left : take j es ++ added bits (drop j vs) (drop j es) ≡ added bits vs old

pub adding_first : (bits : ℕ) (vs es : List ℕ) → all_fit bits 255 vs es ≡ true → Adding bits vs es es 0
adding_first bits vs es h =
    record { within = omega arith; long = fit-long bits 255 vs es h; same = refl; fit = h; left = refl }

module _ (bits j : ℕ) (vs old es : List ℕ) (a : Adding bits vs old es j) where
  pub adding_fits : j < length vs → fits bits 255 (get_or vs j 0) (get_or es j 0) ≡ true
  adding_fits h =
      (both_true
      (fits bits 255 (get_or vs j 0) (get_or es j 0))
      (all_fit bits 255 (drop (j + 1) vs) (drop (j + 1) es))
      (sym (fit-more bits 255 j vs es h (omega arith)) ∙ a.fit)
      ).0

  pub adding_more : (s : ℕ) → j < length vs → s ≡ sum_of bits (get_or vs j 0) (get_or es j 0) → Adding bits vs old
      (set es j s) (j + 1)
  adding_more s h e =
      record {
        within = omega arith;
        long = simp length-set a.long;
        same = simp length-set a.same;
        fit =
            rw (drop-set-lt (j + 1) es j s (omega arith))
            (both_true
            (fits bits 255 (get_or vs j 0) (get_or es j 0))
            (all_fit bits 255 (drop (j + 1) vs) (drop (j + 1) es))
            (sym (fit-more bits 255 j vs es h (omega arith)) ∙ a.fit)
            ).1;
        left = rw e (sym (added_more bits j vs es h (omega arith)) ∙ a.left);
      }

  pub adding_end : length vs ≤ j → es ≡ added bits vs old
  unfolding added
  adding_end h =
      sym (take-append-drop j es)
      ∙ ap (λ l. take j es ++ added bits l (drop j es)) (sym (drop_of_length-le vs h))
      ∙ a.left

-- an entry and an 8-bit number whose sum modulo 256 is s: the number fits where s is in range and, by the test t, the
-- sum did not go round
module _ (infinity v e s : ℕ) (small : infinity < 256) (entry : e < 256) (byte : v < 256)
    (sum : s ≡ (e + v) % 256) where
  fits_straight : (t : Bool) → (t ≡ true → s + loss 8 v ≡ e + gain 8 v) → (SumWithin 8 infinity v e → t ≡ true)
      → ((leb 1 s && leb s infinity) && t) ≡ fits 8 infinity v e
  fits_straight t straight back =
      same_test ((leb 1 s && leb s infinity) && t) (fits 8 infinity v e)
      (λ h.
      let p = both_true (leb 1 s && leb s infinity) t h in
      let q = both_true (leb 1 s) (leb s infinity) p.0 in
      (fits-exactly 8 infinity v e).1 (record {
        low = omega (arith, leb-true 1 s q.0, straight p.1);
        high = omega (arith, leb-true s infinity q.1, straight p.1);
      }))
      (λ h.
      let f = (fits-exactly 8 infinity v e).0 h in
      let r = straight (back f) in
      and_both (and_both (le-leb 1 s (omega arith)) (le-leb s infinity (omega arith))) (back f))

  pub fits_adding : v < 128 → ((leb 1 s && leb s infinity) && leb e s) ≡ fits 8 infinity v e
  fits_adding low =
      let g = small-number 8 v low in
      fits_straight (leb e s) (λ h. omega (arith, leb-true e s h)) (λ f. le-leb e s (omega arith))

  pub fits-taking : 128 ≤ v → ((leb 1 s && leb s infinity) && ltb s e) ≡ fits 8 infinity v e
  fits-taking high =
      let g = large-number 8 v high in
      fits_straight (ltb s e) (λ h. omega (arith, ltb-true s e h)) (λ f. lt-ltb s e (omega arith))

-- .. and is then the entry with the number added
pub sum_wraps : (infinity v e : ℕ) → infinity < 256 → v < 256 → fits 8 infinity v e ≡ true → (e + v) % 256 ≡ sum_of 8 v e
sum_wraps infinity v e small byte h = by (ltb v 128) refl
  where
    f : SumWithin 8 infinity v e
    f = (fits-exactly 8 infinity v e).0 h

    by : (t : Bool) → ltb v 128 ≡ t → (e + v) % 256 ≡ sum_of 8 v e
    by true q = let g = small-number 8 v (ltb-true v 128 q) in omega (arith, f.low, f.high)
    by false q = let g = large-number 8 v (ltb-false v 128 q) in omega (arith, f.low, f.high)

-- the test of all numbers from place j on: the next k, then those behind them
pub fit_cut : (bits infinity j k : ℕ) (vs es : List ℕ) → j + k ≤ length vs
    → all_fit bits infinity (drop j vs) (drop j es)
    ≡ (all_fit bits infinity (take k (drop j vs)) (drop j es) && all_fit bits infinity
    (drop (j + k) vs) (drop (j + k) es))
fit_cut bits infinity j k vs es h =
    let ws = take k (drop j vs) in
    let size : length ws ≡ k = length-take-le k (drop j vs) (simp length-drop (omega arith)) in
    ap (λ l. all_fit bits infinity l (drop j es)) (sym (take-append-drop k (drop j vs)))
    ∙ all_fit_append bits infinity ws (drop k (drop j vs)) (drop j es)
    ∙ rw (size, drop-drop k j vs, drop-drop k j es)

pub testing_on : (bits infinity j k : ℕ) (vs es : List ℕ) (good fit : Bool) → j + k ≤ length vs
    → fit ≡ all_fit bits infinity (take k (drop j vs)) (drop j es)
    → (good && all_fit bits infinity (drop j vs) (drop j es))
    ≡ ((good && fit) && all_fit bits infinity (drop (j + k) vs) (drop (j + k) es))
testing_on bits infinity j k vs es good fit h e =
    ap (λ t. good && t) (fit_cut bits infinity j k vs es h)
    ∙ sym (and_assoc good (all_fit bits infinity (take k (drop j vs)) (drop j es))
    (all_fit bits infinity (drop (j + k) vs) (drop (j + k) es)))
    ∙ rw e refl

-- k numbers from place j on added at once
pub adding_on : (bits j k : ℕ) (vs old es : List ℕ) → Adding bits vs old es j → j + k ≤ length vs
    → Adding bits vs old (added_at bits j (take k (drop j vs)) es) (j + k)
adding_on bits j k vs old es a h =
    let ws = take k (drop j vs) in
    let size : length ws ≡ k = length-take-le k (drop j vs) (simp length-drop (omega arith)) in
    let within : j + length ws ≤ length es = rw size (omega (arith, a.long)) in
    let rest : ws ++ drop (j + k) vs ≡ drop j vs = rw (← drop-drop k j vs) (take-append-drop k (drop j vs)) in
    let long : length (added_at bits j ws es) ≡ length es = added_at-length bits j ws es within in
    record {
      within = h;
      long = rw long a.long;
      same = long ∙ a.same;
      fit =
          rw size at
          (both_true
          (all_fit bits 255 ws (drop j es))
          (all_fit bits 255 (drop (j + k) vs) (drop (j + length ws) (added_at bits j ws es)))
          (fit-twice bits j ws es within 255 (drop (j + k) vs) ∙ ap (λ l. all_fit bits 255 l (drop j es)) rest ∙ a.fit)
          ).1;
      left =
          rw size at
          (added_twice bits j ws es within (drop (j + k) vs) ∙ ap (λ l. take j es ++ added bits l (drop j es)) rest
          ∙ a.left);
    }

-- a test of all numbers with those before place j tested, once the one at j is tested too
pub testing_more : (bits infinity j : ℕ) (vs es : List ℕ) (good fit : Bool) → j < length vs → j < length es
    → fit ≡ fits bits infinity (get_or vs j 0) (get_or es j 0)
    → (good && all_fit bits infinity (drop j vs) (drop j es))
    ≡ ((good && fit) && all_fit bits infinity (drop (j + 1) vs) (drop (j + 1) es))
testing_more bits infinity j vs es good fit h k e =
    ap (λ t. good && t) (fit-more bits infinity j vs es h k)
    ∙ sym (and_assoc good (fits bits infinity (get_or vs j 0) (get_or es j 0))
    (all_fit bits infinity (drop (j + 1) vs) (drop (j + 1) es)))
    ∙ rw e refl

pub testing_end : (bits infinity j : ℕ) (vs es : List ℕ) (good : Bool)
    → length vs ≤ j → (good && all_fit bits infinity (drop j vs) (drop j es)) ≡ good
unfolding all_fit
testing_end bits infinity j vs es good h = rw (drop_of_length-le vs h) (and-true good)

-- numbers that fit below an Infinity fit below a larger one
pub fit_wider : (bits low high : ℕ) (vs es : List ℕ) → low ≤ high → all_fit bits low vs es ≡ true
    → all_fit bits high vs es ≡ true
unfolding all_fit
fit_wider bits low high [] es h a = refl
fit_wider bits low high (v ∷ vs) [] h a = a
fit_wider bits low high (v ∷ vs) (e ∷ es) h a =
    let t = both_true (fits bits low v e) (all_fit bits low vs es) a in
    let f = (fits-exactly bits low v e).0 t.0 in
    rw (
      lt-ltb (loss bits v) (e + gain bits v) f.low,
      le-leb (e + gain bits v) (high + loss bits v) (omega arith),
    )
    (fit_wider bits low high vs es h t.1)
