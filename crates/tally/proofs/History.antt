-- The tally over histories: each count exactly, and the sum of all.
-- Assumes nothing.
use Prim.Native.Nat.{ℕ, zero, suc, ◌+◌, ◌≤◌, ◌<◌, min}
use mathlib.Core.Path.{◌≡◌, refl, sym, ap, ◌∙◌}
use mathlib.Core.Bool.{Bool, true, false, cond}
use mathlib.Core.List.{List, [], ◌∷◌}
use native.Mathlib.Omega.{arith}
use lib.Dec.{eqb, ltb}
use lib.ListN.{length, get_or, set, length-set, get_or-replicate}
use lib.Seq.{get_or-set_same, get_or-set_other}
use borrow.Author.Tests.{eqb-true, eqb-false, lt-ltb, ltb-true}
use Rattle.laws.specs.Tests.{all}
use Rattle.laws.proofs.Chunks.{and_first, and_second}
use Rattle.tally.specs.Counts.{answer_count, full, one_more, raised, bump, bumps, occurrences, answers, sum}
use Rattle.tally.specs.History.{Sized, CountsExactly, SumGrows, SumIsMessages, zeros}

-- one answer: its own count rises, every other stays
count-after : (counts : List ℕ) (a k : ℕ) → length counts ≡ answer_count → k < answer_count
    → get_or (bump counts a) k 0 ≡ cond (eqb a k) (one_more (get_or counts k 0)) (get_or counts k 0)
unfolding bump
count-after counts a k n h = by (eqb a k) refl (ltb a answer_count) refl
  where
    by : (same : Bool) → eqb a k ≡ same → (answer : Bool) → ltb a answer_count ≡ answer
        → get_or (cond (ltb a answer_count) (raised counts a) counts) k 0 ≡ cond (eqb a k) (one_more (get_or counts k 0))
        (get_or counts k 0)
    by true e answer l =
        let same : a ≡ k = eqb-true a k e in
        rw (e, same, lt-ltb k answer_count h) (get_or-set_same counts k (one_more (get_or counts k 0)) 0 (omega (arith, n)))
    by false e true l = rw (e, l) (get_or-set_other counts a k (one_more (get_or counts a 0)) 0
        (λ x. eqb-false a k e (sym x)))
    by false e false l = rw (e, l) refl

bump-length : (counts : List ℕ) (a : ℕ) → length (bump counts a) ≡ length counts
unfolding bump
bump-length counts a = by (ltb a answer_count)
  where
    by : (answer : Bool) → length (cond answer (raised counts a) counts) ≡ length counts
    by true = length-set counts a (one_more (get_or counts a 0))
    by false = refl

bump-sized : (counts : List ℕ) (a : ℕ) → Sized counts → Sized (bump counts a)
unfolding one_more
bump-sized counts a s = record {
  long = bump-length counts a ∙ s.long;
  small = λ k h. rw (count-after counts a k s.long h) (by (eqb a k) k h);
}
  where
    by : (same : Bool) (k : ℕ) → k < answer_count → cond same (one_more (get_or counts k 0)) (get_or counts k 0) ≤ full
    by true k h = omega arith
    by false k h = s.small k h

pub counts-exactly : CountsExactly
unfolding bumps occurrences one_more
counts-exactly [] counts s k h = let c : get_or counts k 0 ≤ full = s.small k h in omega arith
counts-exactly (a ∷ ns) counts s k h =
    counts-exactly ns (bump counts a) (bump-sized counts a s) k h ∙ rw (count-after counts a k s.long h)
    (by (eqb a k))
  where
    by : (same : Bool)
        → min full (cond same (one_more (get_or counts k 0)) (get_or counts k 0) + occurrences k ns)
        ≡ min full (get_or counts k 0 + cond same (suc (occurrences k ns)) (occurrences k ns))
    by true = omega arith
    by false = refl

-- a store changes the sum by as much as the element
sum-set : (l : List ℕ) (i x : ℕ) → i < length l → sum (set l i x) + get_or l i 0 ≡ sum l + x
unfolding sum
sum-set [] i x h = absurd (omega arith)
sum-set (c ∷ cs) zero x h = omega arith
sum-set (c ∷ cs) (suc i) x h = let e : sum (set cs i x) + get_or cs i 0 ≡ sum cs + x = sum-set cs i x (omega arith) in
    omega arith

-- an answer whose count is not full adds one
sum-after : (counts : List ℕ) (a : ℕ) → length counts ≡ answer_count → (a < answer_count → get_or counts a 0 < full)
    → sum (bump counts a) ≡ sum counts + cond (ltb a answer_count) 1 0
unfolding bump one_more
sum-after counts a n below = by (ltb a answer_count) refl
  where
    by : (answer : Bool) → ltb a answer_count ≡ answer
        → sum (cond answer (raised counts a) counts) ≡ sum counts + cond answer 1 0
    by true e =
        let here : a < answer_count = ltb-true a answer_count e in
        let room : get_or counts a 0 < full = below here in
        let s : sum (raised counts a) + get_or counts a 0 ≡ sum counts + one_more (get_or counts a 0) =
        sum-set counts a (one_more (get_or counts a 0)) (omega (arith, n)) in
        omega arith
    by false e = omega arith

pub sum_grows : SumGrows
unfolding bumps answers occurrences
sum_grows [] counts s f = omega arith
sum_grows (a ∷ ns) counts s f =
    sum_grows ns (bump counts a) (bump-sized counts a s) f ∙ rw (sum-after counts a s.long room)
    (by (ltb a answer_count))
  where
    room : a < answer_count → get_or counts a 0 < full
    room h =
        let e : get_or (bumps counts (a ∷ ns)) a 0 ≡ min full (get_or counts a 0 + occurrences a (a ∷ ns)) =
        counts-exactly (a ∷ ns) counts s a h in
        let l : get_or (bumps counts (a ∷ ns)) a 0 < full = f a h in
        omega arith

    by : (answer : Bool) → sum counts + cond answer 1 0 + answers ns ≡ sum counts + cond answer
        (suc (answers ns)) (answers ns)
    by true = omega arith
    by false = omega arith

all-answers : (ns : List ℕ) → all (λ n. ltb n answer_count) ns ≡ true → answers ns ≡ length ns
unfolding answers
all-answers [] h = refl
all-answers (a ∷ ns) h =
    rw (and_first (ltb a answer_count) (all (λ n. ltb n answer_count) ns) h)
    (ap suc (all-answers ns (and_second (ltb a answer_count) (all (λ n. ltb n answer_count) ns) h)))

pub zeros-sized : Sized zeros
zeros-sized = record { long = refl; small = λ k h. rw (get_or-replicate {A = ℕ} answer_count k 0 0 h) (omega arith) }

pub sum-is-messages : SumIsMessages
unfolding sum
sum-is-messages ns h f =
    let e : sum (bumps zeros ns) ≡ sum zeros + answers ns = sum_grows ns zeros zeros-sized f in
    let none : sum zeros ≡ 0 = refl in
    let whole : answers ns ≡ length ns = all-answers ns h in
    omega arith
