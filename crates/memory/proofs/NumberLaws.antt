-- No number twice, from the oldest query on: each query is tested against those that were passed.
use mathlib.Core.Path.{◌≡◌, refl, sym, ap, ◌∙◌}
use mathlib.Core.Bool.{Bool, true, false, not, ◌||◌, and-false, false≢true}
use mathlib.Core.List.{List, [], ◌∷◌, map}
use Prim.Native.Nat.{ℕ, zero, suc, ◌+◌, ◌-◌, ◌%◌, ◌≤◌, ◌<◌, min}
use native.Mathlib.Omega.{arith}
use lib.Bits.{bit_or}
use lib.ListN.{length, get_or, length-set}
use borrow.Author.Tests.{ne_eqb, le-leb, lt-ltb}
use Rattle.laws.specs.Tests.{any}
use Rattle.laws.specs.Ring.{places_before}
use Rattle.laws.proofs.Truth.{both_true, all_more}
use Rattle.laws.proofs.RingScan.{back-pos, places-more, places-rest}
use Rattle.std.specs.Prelude.{Option, Some, None}
use Rattle.std.specs.Option.{is_some}
use Rattle.protocol.specs.declared.Remembered.{Remembered}
use Rattle.protocol.specs.Memory.{lookup_in}
use Rattle.protocol.specs.Memory.{Memory, memory_of, Query, query_at, queries_in, number_from, no_twice}
use Rattle.protocol.specs.Memory.{Found, Absent, At, later, pick_found, find, is_found, lookup_of}
use Rattle.memory.specs.Queries.{queries_before}
use Rattle.memory.specs.Order.{same_as, marked, Passed, BroughtOn, Tested}
use Rattle.memory.proofs.FilterLaws.{joined, marked-same, marked-stays, unmarked_new}
use Rattle.memory.proofs.OrderLaws.{kept-all}

-- found is what some query has
found-any : (qs : List Query) (q : Query) → is_found (find qs q.number) ≡ any (same_as q) qs
unfolding find
found-any [] q = refl
found-any (x ∷ xs) q = by (same_as q x) (find xs q.number) (found-any xs q)
  where
    by : (t : Bool) (f : Found) → is_found f ≡ any (same_as q) xs
        → is_found (pick_found t (At 0 x.asker x.hits) (later f)) ≡ (t || any (same_as q) xs)
    by true f e = refl
    by false Absent e = e
    by false (At n a h) e = e

found-is : (r : Option Remembered) → is_some r ≡ (lookup_in r).found
found-is None = refl
found-is (Some x) = refl

-- the number at the ring's next place, looked up among those before it
pub found_before : (n : ℕ) (q : Memory) (hi : ℕ) (r : Option Remembered)
    → q.next < n → q.count ≤ n → hi ≡ get_or q.hi q.next 0
    → lookup_in r ≡ lookup_of (find (queries_in n q) (number_from (get_or q.lo q.next 0) hi))
    → is_some r ≡ any (same_as (query_at q q.next)) (queries_before n q)
found_before n q hi r h m e f =
    found-is r
    ∙ rw (f, e, kept-all n q (rw (le-leb q.count n m, lt-ltb q.next n h)))
    (found-any (queries_before n q) (query_at q q.next))

found_none : (f : Found) → is_found f ≡ false → f ≡ Absent
found_none Absent e = refl
found_none (At n a h) e = cc

-- a number with a bit that its word lacks is not found among the queries passed
pub lacks-absent : (filter : List ℕ) (qs : List Query) (low high : ℕ) → Passed filter qs
    → (bit_or (get_or filter (low % 1024) 0) low ≡ get_or filter (low % 1024) 0 → ⊥) → find qs (number_from low high) ≡ Absent
lacks-absent filter qs low high known lacks =
    let q : Query = record { number = number_from low high; asker = 0; hits = 0 } in
    found_none (find qs q.number) (found-any qs q ∙ unmarked_new filter q (ne_eqb _ _ lacks) qs known.has)

pub passed_none : (filter : List ℕ) → length filter ≡ 1024 → Passed filter []
unfolding no_twice
passed_none filter e = record { size = e; apart = refl; has = refl }

pub tested-is : (filter : List ℕ) (qs : List Query) (r : Bool) → Tested r filter qs → r ≡ no_twice qs
tested-is filter qs true t = sym t.apart
tested-is filter qs false t = sym t

pub tested-passed : (filter : List ℕ) (qs : List Query) (r : Bool) → Tested r filter qs → r ≡ true → Passed filter qs
tested-passed filter qs true t e = t
tested-passed filter qs false t e = absurd (false≢true e)

-- the query at place p, behind the n before it
module _ (query : ℕ → Query) (c : ℕ) where
  abbrev pub before : ℕ → ℕ → List Query
  before p n = map query (places_before c p n)

  one_more : (p n : ℕ) → p < c → before (p + 1) (n + 1) ≡ query p ∷ before p n
  one_more p n h =
      ap (map query) (places-more c p (p + 1) n (back-pos c (p + 1) (omega arith) (omega arith) ∙ omega arith))

  -- it is passed with a filter that has its bits and theirs, where none of them has its number
  pub passed_with : (p n : ℕ) (old filter : List ℕ) → p < c
      → Passed old (before p n) → any (same_as (query p)) (before p n) ≡ false
      → length filter ≡ 1024 → marked filter (query p).number.lo ≡ true
      → ((a : ℕ) → marked old a ≡ true → marked filter a ≡ true)
      → Passed filter (before (p + 1) (n + 1))
  unfolding no_twice
  passed_with p n old filter h known m size own stay =
      rw (one_more p n h)
      (record {
        size = size;
        apart = rw m known.apart;
        has = both_true _ _ own
            (all_more (λ q. marked old q.number.lo) (λ q. marked filter q.number.lo) (λ q. stay q.number.lo)
            (before p n) known.has);
      })

  -- where a number stands twice among the oldest, it does among all
  twice-above : (k p n : ℕ) → p + k ≤ c → no_twice (before p n) ≡ false → no_twice (before (p + k) (n + k)) ≡ false
  unfolding no_twice
  twice-above zero p n h e =
      let d : p + 0 ≡ p = omega arith in
      let f : n + 0 ≡ n = omega arith in
      rw (d, f) e
  twice-above (suc k) p n h e =
      let d : p + suc k ≡ p + k + 1 = omega arith in
      let f : n + suc k ≡ n + k + 1 = omega arith in
      rw (d, f, one_more (p + k) (n + k) (omega arith), twice-above k p n (omega arith) e)
      (and-false (not (any (same_as (query (p + k))) (before (p + k) (n + k)))))

  -- behind `passed` queries before `from`, one before `to` has the number of an older one
  pub twice-met : (from to passed p : ℕ) → from ≤ p → p < to → to ≤ c
      → any (same_as (query p)) (before p (passed + (p - from))) ≡ true
      → no_twice (before to (passed + (to - from))) ≡ false
  unfolding no_twice
  twice-met from to passed p low high inside m =
      let n = passed + (p - from) in
      let d : p + 1 + (to - (p + 1)) ≡ to = omega arith in
      let e : n + 1 + (to - (p + 1)) ≡ passed + (to - from) = omega arith in
      let one : no_twice (before (p + 1) (n + 1)) ≡ false = rw (one_more p n (omega arith), m) in
      rw (d, e) at (twice-above (to - (p + 1)) (p + 1) (n + 1) (omega arith) one)

-- the filter is brought on by a number with a bit that its word lacks
pub on_none : (lo : List ℕ) (from : ℕ) (filter : List ℕ) → BroughtOn lo from from filter filter
on_none lo from filter hi asker hits n known = let e : n + (from - from) ≡ n = omega arith in rw e known

pub on-more : (lo : List ℕ) (from p : ℕ) (old filter : List ℕ) → from ≤ p → p < length lo → length filter ≡ 1024
    → marked filter (get_or lo p 0) ≡ false
    → BroughtOn lo from p old filter → BroughtOn lo from (p + 1) old (joined filter (get_or lo p 0))
on-more lo from p old filter m h size new on hi asker hits n known =
    let query = query_at (memory_of lo hi asker hits 0 0) in
    let now = on hi asker hits n known in
    let e : n + (p + 1 - from) ≡ n + (p - from) + 1 = omega arith in
    rw e
    (passed_with query (length lo) p (n + (p - from)) filter (joined filter (get_or lo p 0)) h now
    (unmarked_new filter (query p) new (before query (length lo) p (n + (p - from))) now.has)
    (rw length-set size) (marked-same filter (get_or lo p 0) size) (marked-stays filter (get_or lo p 0) size))

-- the two parts of a ring: the rest at the end of the slices, and then the `first` below `next`
module _ (query : ℕ → Query) (c next count first : ℕ)
    (inside : next < c) (fits : count ≤ c) (is : first ≡ min count next) where
  abbrev at_end : List Query
  at_end = before query c c (0 + (c - (c - (count - first))))

  end_is : at_end ≡ before query c (next - first) (count - first)
  end_is =
      let e : 0 + (c - (c - (count - first))) ≡ count - first = omega arith in
      rw (e, is) (ap (map query) (sym (places-rest c next count inside)))

  pub end-passed : (filter : List ℕ)
      → Passed filter at_end → Passed filter (before query c (next - first) (count - first))
  end-passed filter known = rw end_is at known

  pub end-twice : no_twice at_end ≡ false → no_twice (before query c next count) ≡ false
  end-twice e =
      let d : next - first + first ≡ next = omega arith in
      let f : count - first + first ≡ count = omega arith in
      rw (d, f) at (twice-above query c first (next - first) (count - first) (omega arith) (rw end_is at e))
