-- A ring that fits and one that does not; the test of order put together: the ring fits, the askers and the counts of
-- hits fit, and no number stands twice.
use mathlib.Core.Path.{◌≡◌, refl, sym}
use mathlib.Core.Bool.{Bool, true, false, ◌&&◌, and-true, and-false}
use mathlib.Core.List.{[]}
use Prim.Native.Nat.{ℕ, ◌≤◌, ◌<◌}
use lib.Dec.{leb, ltb}
use lib.ListN.{length, get_or}
use borrow.Author.Tests.{leb-true, ltb-true, le-leb, lt-ltb}
use Rattle.laws.specs.Tests.{all}
use Rattle.laws.specs.Ring.{places_before, ring_fits, kept_places}
use Rattle.laws.proofs.Truth.{both_left, both_right}
use Rattle.laws.proofs.Refusals.{all_map}
use Rattle.protocol.specs.Memory.{Memory, query_at, queries_in, no_twice, asker_fits, hits_fit, memory_in_order}
use Rattle.memory.specs.Queries.{queries_before}

module _ (n next count : ℕ) (fits : ring_fits n next count ≡ true) where
  pub fits_count : count ≤ n
  fits_count = leb-true count n (both_left _ _ fits)

  pub fits_next : next < n
  fits_next = ltb-true next n (both_right (leb count n) _ fits)

-- what the tests of the ring, the askers and the counts, made in turn, tell of the order
pub not_in_order : (f n a h : Bool) → ((f && a) && h) ≡ false → (f && (n && (a && h))) ≡ false
not_in_order true n true true e = cc
not_in_order true n true false e = and-false n
not_in_order true n false h e = and-false n
not_in_order false n a h e = refl

pub in_order : (f n a h : Bool) → ((f && a) && h) ≡ true → n ≡ (f && (n && (a && h)))
in_order true n true true e = sym (and-true n)
in_order true n true false e = cc
in_order true n false h e = cc
in_order false n a h e = cc

first_two : (x y z : Bool) → (x && y) ≡ false → (x && (y && z)) ≡ false
first_two true true z e = cc
first_two true false z e = refl
first_two false y z e = refl

module _ (n : ℕ) (q : Memory) where
  pub kept-all : ring_fits n q.next q.count ≡ true → queries_in n q ≡ queries_before n q
  unfolding queries_in kept_places
  kept-all e = rw e

  pub kept-none : ring_fits n q.next q.count ≡ false → queries_in n q ≡ []
  unfolding queries_in kept_places
  kept-none e = rw e

  module _ (live : ℕ → Bool) where
    order-unfit : ring_fits n q.next q.count ≡ false → memory_in_order n live q ≡ false
    unfolding memory_in_order
    order-unfit f =
        first_two (leb q.count n) (ltb q.next n)
        (no_twice (queries_in n q)
        && (all (λ x. asker_fits live x.asker) (queries_in n q)
        && (all (λ x. hits_fit x.hits) (queries_in n q) && true)))
        f

    order-fit : length q.asker ≡ n → length q.hits ≡ n → ring_fits n q.next q.count ≡ true
        → memory_in_order n live q
        ≡ (no_twice (queries_before n q)
        && (all (λ p. asker_fits live (get_or q.asker p 0)) (places_before (length q.asker) q.next q.count)
        && all (λ p. hits_fit (get_or q.hits p 0)) (places_before (length q.hits) q.next q.count)))
    unfolding memory_in_order
    order-fit same also f =
        let m = le-leb q.count n (fits_count n q.next q.count f) in
        let h = lt-ltb q.next n (fits_next n q.next q.count f) in
        rw (
          kept-all f,
          m,
          h,
          and-true,
          all_map (query_at q) (λ x. asker_fits live x.asker),
          all_map (query_at q) (λ x. hits_fit x.hits),
          same,
          also,
        )

    pub order-is : length q.asker ≡ n → length q.hits ≡ n
        → memory_in_order n live q
        ≡ (ring_fits n q.next q.count && (no_twice (queries_before n q)
        && (all (λ p. asker_fits live (get_or q.asker p 0)) (places_before (length q.asker) q.next q.count)
        && all (λ p. hits_fit (get_or q.hits p 0)) (places_before (length q.hits) q.next q.count))))
    order-is same also = by (ring_fits n q.next q.count) refl
      where
        by : (t : Bool) → ring_fits n q.next q.count ≡ t
            → memory_in_order n live q
            ≡ (t && (no_twice (queries_before n q)
            && (all (λ p. asker_fits live (get_or q.asker p 0)) (places_before (length q.asker) q.next q.count)
            && all (λ p. hits_fit (get_or q.hits p 0)) (places_before (length q.hits) q.next q.count))))
        by true e = order-fit same also e
        by false e = order-unfit e
