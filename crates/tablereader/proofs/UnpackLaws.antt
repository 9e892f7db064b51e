-- Laws of 4-bit data: its numbers as 8-bit ones, and a part of it. Assumes nothing.
use Prim.Native.Nat.{ℕ, zero, suc, ◌+◌, ◌-◌, ◌*◌, ◌/◌, ◌%◌, ◌≤◌, ◌<◌}
use mathlib.Core.Path.{◌≡◌, refl, sym, ap, ◌∙◌}
use mathlib.Core.Bool.{Bool, true, false, cond, ◌&&◌}
use mathlib.Core.List.{List, [], ◌∷◌, ◌++◌, map, map-append, append_assoc, append-nil}
use native.Mathlib.Omega.{arith}
use native.Mathlib.Numerals.{add-one}
use lib.Dec.{ltb}
use lib.ListN.{length, get_or, take, drop, set, length-set, length-drop, drop_of_length-le}
use lib.Seq.{take-nil, drop-nil, take-length, take-suc, take-suc-set}
use borrow.Author.Tests.{lt-ltb, le-ltb, ltb-true}
use Rattle.tables.specs.Patch.{numbers, gain, loss, fits, sum_of, all_fit, added}
use Rattle.tablereader.specs.Unpacking.{widened, unpacked}
use borrow.Rule.Slice.PartMut.{put_mid}
use Rattle.laws.proofs.Parts.{part_tail}
use Rattle.tables.proofs.TestLaws.{both_true}
use Rattle.tables.proofs.PatchFacts.{four, numbers-length, numbers_append}
use Rattle.tables.proofs.NumberLaws.{Adding, adding_on, fit_cut, testing_on}

-- a 4-bit number and its 8-bit form add the same and take the same away ..
gain-widened : (v : ℕ) → gain 8 (widened v) ≡ gain 4 v
gain-widened v = by (ltb v 8) refl
  where
    by : (t : Bool) → ltb v 8 ≡ t → gain 8 (cond t v (v + 240)) ≡ cond t v 0
    by true q = let h : v < 8 = ltb-true v 8 q in rw (lt-ltb v 128 (omega arith))
    by false q = rw (le-ltb (v + 240) 128 (omega arith))

loss-widened : (v : ℕ) → loss 8 (widened v) ≡ loss 4 v
loss-widened v = by (ltb v 8) refl
  where
    by : (t : Bool) → ltb v 8 ≡ t → loss 8 (cond t v (v + 240)) ≡ cond t 0 (16 - v)
    by true q = let h : v < 8 = ltb-true v 8 q in rw (lt-ltb v 128 (omega arith))
    by false q = rw (le-ltb (v + 240) 128 (omega arith)) (omega arith)

fits-widened : (infinity v e : ℕ) → fits 8 infinity (widened v) e ≡ fits 4 infinity v e
fits-widened infinity v e = cc (gain-widened v, loss-widened v)

sum-widened : (v e : ℕ) → sum_of 8 (widened v) e ≡ sum_of 4 v e
sum-widened v e = cc (gain-widened v, loss-widened v)

-- .. so that lists of them are tried and added alike
pub fit-widened : (infinity : ℕ) (vs es : List ℕ) → all_fit 8 infinity (map widened vs) es ≡ all_fit 4 infinity vs es
unfolding all_fit
fit-widened infinity [] es = refl
fit-widened infinity (v ∷ vs) [] = refl
fit-widened infinity (v ∷ vs) (e ∷ es) = cc (fits-widened infinity v e, fit-widened infinity vs es)

pub added-widened : (vs es : List ℕ) → added 8 (map widened vs) es ≡ added 4 vs es
unfolding added
added-widened [] es = refl
added-widened (v ∷ vs) [] = refl
added-widened (v ∷ vs) (e ∷ es) = cc (sum-widened v e, added-widened vs es)

-- 4-bit data cut behind k bytes has its numbers cut behind twice as many
pub numbers-cut : (k : ℕ) (bytes : List ℕ)
    → (numbers 4 (take k bytes) ≡ take (k * 2) (numbers 4 bytes))
    × (numbers 4 (drop k bytes) ≡ drop (k * 2) (numbers 4 bytes))
unfolding numbers
numbers-cut zero bytes = (refl, refl)
numbers-cut (suc k) [] = (sym (take-nil (suc k * 2)), sym (drop-nil (suc k * 2)))
numbers-cut (suc k) (b ∷ bytes) =
    let e : suc k * 2 ≡ suc (suc (k * 2)) = omega arith in
    let rest = numbers-cut k bytes in
    (rw e (ap (λ l. b / 16 ∷ b % 16 ∷ l) rest.0), rw e rest.1)

-- what is known while bytes are unpacked one by one, when those before byte i are
pub record Unpacking (bytes old ns : List ℕ) (i : ℕ) : Type 0 where
  pub within : i ≤ length bytes
  pub same : length ns ≡ length old
  pub front : take (i * 2) ns ≡ unpacked (take i bytes)

pub unpacking_first : (bytes old : List ℕ) → Unpacking bytes old old 0
unfolding numbers
unpacking_first bytes old = record { within = omega arith; same = refl; front = refl }

module _ (bytes old ns : List ℕ) (i : ℕ) (u : Unpacking bytes old ns i) where
  pub unpacking_more : (high low : ℕ) → i < length bytes → length bytes * 2 ≤ length old
      → high ≡ widened (get_or bytes i 0 / 16)
      → low ≡ widened (get_or bytes i 0 % 16) → Unpacking bytes old (set (set ns (i * 2) high) (i * 2 + 1) low) (i + 1)
  unfolding numbers
  unpacking_more high low h room p q =
      let b = get_or bytes i 0 in
      let two : (i + 1) * 2 ≡ suc (suc (i * 2)) = omega arith in
      let next : i * 2 + 1 ≡ suc (i * 2) = omega arith in
      let long : suc (i * 2) < length ns = omega (arith, u.same) in
      record {
        within = omega arith;
        same = simp length-set u.same;
        front =
            rw (two, next, add-one i)
            (take-suc-set (set ns (i * 2) high) (suc (i * 2)) low (simp length-set long)
            ∙ ap (λ l. l ++ (low ∷ [])) (take-suc-set ns (i * 2) high (omega arith))
            ∙ append_assoc (take (i * 2) ns) (high ∷ []) (low ∷ [])
            ∙ rw (u.front, p, q) (sym (map-append widened (numbers 4 (take i bytes)) (b / 16 ∷ b % 16 ∷ [])))
            ∙ ap (map widened) (sym (numbers_append four (take i bytes) (b ∷ [])))
            ∙ ap unpacked (sym (take-suc bytes i 0 h)));
      }

  pub unpacking_end : length bytes ≤ i → take (length bytes * 2) ns ≡ unpacked bytes
  unpacking_end h =
      let e : i ≡ length bytes = omega (arith, u.within) in
      rw e at u.front ∙ ap unpacked (take-length bytes)

-- a block of data, from byte `at` to `end`, is tried and added: the numbers of the data before `end` are then
module _ (at end : ℕ) (bytes es : List ℕ) (rising : at ≤ end) (within : end ≤ length bytes) where
  abbrev vs : List ℕ
  vs = numbers 4 bytes

  block : numbers 4 (take (end - at) (drop at bytes)) ≡ take ((end - at) * 2) (drop (at * 2) vs)
  block = (numbers-cut (end - at) (drop at bytes)).0 ∙ ap (take ((end - at) * 2)) (numbers-cut at bytes).1

  ends : at * 2 + (end - at) * 2 ≡ end * 2
  ends = omega arith

  inside : at * 2 + (end - at) * 2 ≤ length vs
  inside = omega (arith, numbers-length 4 bytes)

  pub block-tested : (infinity : ℕ) (good fit : Bool)
      → fit ≡ all_fit 4 infinity (numbers 4 (take (end - at) (drop at bytes)))
      (take (length es - at * 2) (drop (at * 2) es))
      → (good && all_fit 4 infinity (drop (at * 2) vs) (drop (at * 2) es))
      ≡ ((good && fit) && all_fit 4 infinity (drop (end * 2) vs) (drop (end * 2) es))
  block-tested infinity good fit e =
      rw ends at
      (testing_on 4 infinity (at * 2) ((end - at) * 2) vs es good fit inside
      (e ∙ rw (block, part_tail (at * 2) es)))

  module _ (old : List ℕ) (a : Adding 4 vs old es (at * 2)) where
    pub block-fits : all_fit 4 255 (numbers 4 (take (end - at) (drop at bytes)))
        (take (length es - at * 2) (drop (at * 2) es)) ≡ true
    block-fits =
        rw (block, part_tail (at * 2) es)
        (both_true
        (all_fit 4 255 (take ((end - at) * 2) (drop (at * 2) vs)) (drop (at * 2) es))
        (all_fit 4 255 (drop (at * 2 + (end - at) * 2) vs) (drop (at * 2 + (end - at) * 2) es))
        (sym (fit_cut 4 255 (at * 2) ((end - at) * 2) vs es inside) ∙ a.fit)
        ).0

    pub block-added : (ys : List ℕ) → ys ≡ added 4 (numbers 4 (take (end - at) (drop at bytes)))
        (take (length es - at * 2) (drop (at * 2) es))
        → Adding 4 vs old (put_mid (at * 2) (length es - at * 2) es ys) (end * 2)
    block-added ys e =
        let long : length (drop (at * 2) es) ≤ length es - at * 2 = simp length-drop (omega arith) in
        let none : drop (length es - at * 2) (drop (at * 2) es) ≡ [] = drop_of_length-le (drop (at * 2) es) long in
        rw (none, append-nil ys, e, block, part_tail (at * 2) es)
        (rw ends at (adding_on 4 (at * 2) ((end - at) * 2) vs old es a inside))
