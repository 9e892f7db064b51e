-- Tables and a data size that may be written, in plain numbers.
use Prim.Native.Nat.{ℕ, zero, suc, ◌+◌, ◌≤◌, ◌<◌}
use mathlib.Core.Path.{◌≡◌, refl, sym, ap, ◌∙◌}
use mathlib.Core.Logic.{◌↔◌}
use mathlib.Core.Bool.{Bool, true, false, ◌&&◌, ◌||◌, false≢true, and-eq-true_iff}
use mathlib.Core.List.{List, [], ◌∷◌}
use native.Mathlib.Omega.{arith}
use lib.Dec.{leb, eqb}
use lib.ListN.{length, get_or, drop}
use borrow.Author.Tests.{leb-true, le-leb, eqb-true, eq-eqb}
use Rattle.laws.specs.Tests.{any, all}
use Rattle.laws.proofs.Writing.{all-stop, all-on}
use Rattle.tables.specs.Tables.{good_length, good_infinity, lengths}
use Rattle.tablemessages.specs.Writer.{in_range, good_table}
use Rattle.tablemessages.specs.Steps.{may_write}

-- what a test holds of each of a list, it holds of one among them
among : (f : ℕ → Bool) (n : ℕ) (l : List ℕ) → any (eqb n) l ≡ true → all f l ≡ true → f n ≡ true
among f n [] h k = absurd (false≢true h)
among f n (m ∷ ms) h k = go (eqb n m) refl (among f n ms)
  where
    go : (t : Bool) → eqb n m ≡ t → (any (eqb n) ms ≡ true → all f ms ≡ true → f n ≡ true) → f n ≡ true
    go true e r = ap f (eqb-true n m e) ∙ ((and-eq-true_iff (f m) (all f ms)).0 k).0
    go false e r = r (sym (ap (λ t. t || any (eqb n) ms) e) ∙ h) ((and-eq-true_iff (f m) (all f ms)).0 k).1

length_bound : (n : ℕ) → good_length n ≡ true → n ≤ 65536
unfolding good_length
length_bound n h = leb-true n 65536 (among (λ k. leb k 65536) n lengths h refl)

-- a test of every element, with those before element i tested, once that one is tested too
pub all_more : (f : ℕ → Bool) (l : List ℕ) (i : ℕ) (good fit : Bool) → i < length l → fit ≡ f (get_or l i 0)
    → (good && all f (drop i l)) ≡ ((good && fit) && all f (drop (i + 1) l))
all_more f l i false fit h e = refl
all_more f l i true true h e = all-on f l i h (sym e)
all_more f l i true false h e = all-stop f l i h (sym e)

-- a table with a length and an Infinity that a RESET may carry, and each entry in 1..Infinity
pub record GoodTable (es : List ℕ) (infinity : ℕ) : Type 0 where
  pub long : good_length (length es) ≡ true
  pub low : 2 ≤ infinity
  pub high : infinity ≤ 127
  pub entries : (i : ℕ) → i < length es → (1 ≤ get_or es i 0) × (get_or es i 0 ≤ infinity)

all-at : (f : ℕ → Bool) (l : List ℕ) (i : ℕ) → all f l ≡ true → i < length l → f (get_or l i 0) ≡ true
all-at f [] i h k = absurd (omega arith)
all-at f (x ∷ xs) zero h k = ((and-eq-true_iff (f x) (all f xs)).0 h).0
all-at f (x ∷ xs) (suc i) h k = all-at f xs i ((and-eq-true_iff (f x) (all f xs)).0 h).1 (omega arith)

all_of : (f : ℕ → Bool) (l : List ℕ) → ((i : ℕ) → i < length l → f (get_or l i 0) ≡ true) → all f l ≡ true
all_of f [] h = refl
all_of f (x ∷ xs) h = (and-eq-true_iff (f x) (all f xs)).1
    (h 0 (omega arith), all_of f xs (λ i k. h (suc i) (omega arith)))

module _ (es : List ℕ) (infinity : ℕ) where
  good-to : good_table es infinity ≡ true → GoodTable es infinity
  unfolding good_table
  good-to h =
      let a = (and-eq-true_iff (good_length (length es)) (good_infinity infinity && all (in_range infinity) es)).0 h in
      let b = (and-eq-true_iff (good_infinity infinity) (all (in_range infinity) es)).0 a.1 in
      let c = (and-eq-true_iff (leb 2 infinity) (leb infinity 127)).0 b.0 in
      record {
        long = a.0;
        low = leb-true 2 infinity c.0;
        high = leb-true infinity 127 c.1;
        entries = λ i k.
            let e = (and-eq-true_iff (leb 1 (get_or es i 0)) (leb (get_or es i 0) infinity)).0
            (all-at (in_range infinity) es i b.1 k) in
            (leb-true 1 (get_or es i 0) e.0, leb-true (get_or es i 0) infinity e.1);
      }

  good_of : GoodTable es infinity → good_table es infinity ≡ true
  unfolding good_table
  good_of g =
      rw (g.long, le-leb 2 infinity g.low, le-leb infinity 127 g.high)
      (all_of (in_range infinity) es
      (λ i k. rw (le-leb 1 (get_or es i 0) (g.entries i k).0, le-leb (get_or es i 0) infinity (g.entries i k).1)))

  pub good-exactly : (good_table es infinity ≡ true) ↔ GoodTable es infinity
  good-exactly = (good-to, good_of)

-- tables and a data size that may be written: an old table, where there is one, like the new one
pub record GoodCall (had : Bool) (old : List ℕ) (old_infinity : ℕ) (new : List ℕ) (infinity size : ℕ) : Type 0 where
  pub fresh : GoodTable new infinity
  pub before : had ≡ true → GoodTable old old_infinity
  pub like : had ≡ true → length old ≡ length new
  pub same : had ≡ true → old_infinity ≡ infinity
  pub some : 1 ≤ size
  pub most : size ≤ 4091

pub call-to : (had : Bool) (old : List ℕ) (old_infinity : ℕ) (new : List ℕ) (infinity size : ℕ)
    → may_write had old old_infinity new infinity size ≡ true
    → GoodCall had old old_infinity new infinity size
unfolding may_write
call-to true old old_infinity new infinity size h =
    let a = (and-eq-true_iff (leb 1 size) _).0 h in
    let b = (and-eq-true_iff (leb size 4091) _).0 a.1 in
    let l = (and-eq-true_iff (eqb (length old) (length new)) _).0 b.1 in
    let i = (and-eq-true_iff (eqb old_infinity infinity) _).0 l.1 in
    let g = (and-eq-true_iff (good_table old old_infinity) _).0 i.1 in
    record {
      fresh = good-to new infinity g.1;
      before = λ t. good-to old old_infinity g.0;
      like = λ t. eqb-true (length old) (length new) l.0;
      same = λ t. eqb-true old_infinity infinity i.0;
      some = leb-true 1 size a.0;
      most = leb-true size 4091 b.0;
    }
call-to false old old_infinity new infinity size h =
    let a = (and-eq-true_iff (leb 1 size) _).0 h in
    let b = (and-eq-true_iff (leb size 4091) _).0 a.1 in
    record {
      fresh = good-to new infinity b.1;
      before = λ t. absurd (false≢true t);
      like = λ t. absurd (false≢true t);
      same = λ t. absurd (false≢true t);
      some = leb-true 1 size a.0;
      most = leb-true size 4091 b.0;
    }

pub call_of : (had : Bool) (old : List ℕ) (old_infinity : ℕ) (new : List ℕ) (infinity size : ℕ)
    → GoodCall had old old_infinity new infinity size
    → may_write had old old_infinity new infinity size ≡ true
unfolding may_write
call_of true old old_infinity new infinity size g =
    rw (
      le-leb 1 size g.some,
      le-leb size 4091 g.most,
      eq-eqb (length old) (length new) (g.like refl),
      eq-eqb old_infinity infinity (g.same refl),
      good_of old old_infinity (g.before refl),
    )
    (good_of new infinity g.fresh)
call_of false old old_infinity new infinity size g =
    rw (le-leb 1 size g.some, le-leb size 4091 g.most) (good_of new infinity g.fresh)

pub call-exactly : (had : Bool) (old : List ℕ) (old_infinity : ℕ) (new : List ℕ) (infinity size : ℕ)
    → (may_write had old old_infinity new infinity size ≡ true) ↔ GoodCall had old old_infinity new infinity size
call-exactly had old old_infinity new infinity size =
    (call-to had old old_infinity new infinity size, call_of had old old_infinity new infinity size)

-- a good call has at most 65,536 entries
pub call-few : (had : Bool) (old : List ℕ) (old_infinity : ℕ) (new : List ℕ) (infinity size : ℕ)
    → GoodCall had old old_infinity new infinity size
    → length new ≤ 65536
call-few had old old_infinity new infinity size g = length_bound (length new) g.fresh.long
