-- The remembered queries and the stored pongs as newest-first lists: one more goes in front, and closing a line marks
-- its queries as gone.
-- Assumes nothing.
use Prim.Native.Nat.{ℕ, zero, suc, ◌%◌, ◌<◌}
use native.Mathlib.Nat.{mod-eq_of_lt}
use native.Mathlib.Omega.{arith}
use mathlib.Core.Path.{◌≡◌, refl, sym, ap, ap₂, ◌∙◌}
use mathlib.Core.Bool.{Bool, true, false, not, ◌&&◌, ◌||◌}
use mathlib.Core.List.{List, [], ◌∷◌, map}
use lib.Dec.{eqb, ltb}
use lib.ListN.{get_or, take}
use lib.Seq.{get_or-set_same, get_or-set_other}
use borrow.Author.Tests.{ltb-true, eqb-true, eq-eqb, not-true}
use Rattle.laws.specs.Tests.{any}
use Rattle.laws.specs.Ring.{kept_places}
use Rattle.laws.proofs.Refusals.{and_fst, and_snd, any-take}
use Rattle.laws.proofs.Rings.{map_where, map-map, map-get_or, kept-below, ring-push}
use Rattle.protocol.specs.State.{Station, remembered, seen}
use Rattle.protocol.specs.Memory.{Memory, capacity, queries_in, left_all, Number, same_number, Query, query_at}
use Rattle.protocol.specs.Memory.{Found, Absent, At, later, pick_found, find, is_found, remember, no_twice, left}
use Rattle.protocol.specs.declared.Pong.{Pong}
use Rattle.protocol.specs.Lines.{with_pong, stored_pongs}
use Rattle.protocol.specs.Kept.{asked, left_by, RemembersNewest, RemembersLeft, StoresNewest}

-- one number, by its halves
pub same_number_lem : (x y : Number) → same_number x y ≡ true → x ≡ y
same_number_lem x y e =
    let a : x.lo ≡ y.lo = eqb-true x.lo y.lo (and_fst (eqb x.lo y.lo) (eqb x.hi y.hi) e) in
    let b : x.hi ≡ y.hi = eqb-true x.hi y.hi (and_snd (eqb x.lo y.lo) (eqb x.hi y.hi) e) in
    λ i. record { lo = a i; hi = b i }

pub number_itself : (x : Number) → same_number x x ≡ true
number_itself x = rw (eq-eqb x.lo x.lo refl) (eq-eqb x.hi x.hi refl)

-- the place at which a ring whose next place is within its capacity keeps the next
at_next : (n next : ℕ) → next < suc n → next % suc n ≡ next
at_next n next h = mod-eq_of_lt h

pub remembered-newest : RemembersNewest
unfolding queries_in remember
remembered-newest s n who z hc hn =
    ring-push 511 q.next q.count hn hc (query_at (remember capacity q n who)) (query_at q) (asked n who)
    (rw (at_next 511 q.next hn) (λ i. record {
      number = record {
        lo = get_or-set_same q.lo q.next n.lo 0 (omega (arith, z.lo)) i;
        hi = get_or-set_same q.hi q.next n.hi 0 (omega (arith, z.hi)) i;
      };
      asker = get_or-set_same q.asker q.next who 0 (omega (arith, z.asker)) i;
      hits = get_or-set_same q.hits q.next 0 0 (omega (arith, z.hits)) i;
    }))
    (rw (at_next 511 q.next hn) (λ x ne i. record {
      number = record {
        lo = get_or-set_other q.lo q.next x n.lo 0 ne i;
        hi = get_or-set_other q.hi q.next x n.hi 0 ne i;
      };
      asker = get_or-set_other q.asker q.next x who 0 ne i;
      hits = get_or-set_other q.hits q.next x 0 0 ne i;
    }))
  where
    q : Memory
    q = s.memory

pub remembered-left : RemembersLeft
unfolding queries_in
remembered-left s l z =
    map_where (λ x. ltb x capacity) (query_at (left_all l s.memory)) (λ x. left_by l (query_at s.memory x))
    (λ x t i. let k : x < capacity = ltb-true x capacity t in
    record {
      number = (query_at s.memory x).number;
      asker = map-get_or (left l) s.memory.asker x 0 0 (omega (arith, z.asker)) i;
      hits = (query_at s.memory x).hits;
    })
    (kept_places capacity s.memory.next s.memory.count)
    (kept-below capacity (omega arith) s.memory.next s.memory.count)
    ∙ sym (map-map (query_at s.memory) (left_by l) (kept_places capacity s.memory.next s.memory.count))

pub stored-newest : StoresNewest
unfolding stored_pongs
stored-newest x p z hc hn =
    let d : Pong = record { bytes = []; hops = 0; clock = 0 } in
    ring-push 9 x.pongnext x.pongcount hn hc (λ i. get_or (with_pong x p).pongs i d) (λ i. get_or x.pongs i d) p
    (rw (at_next 9 x.pongnext hn) (get_or-set_same x.pongs x.pongnext p d (omega (arith, z))))
    (rw (at_next 9 x.pongnext hn) (λ i ne. get_or-set_other x.pongs x.pongnext i p d ne))

-- a number is seen exactly if some remembered query has it
find-any : (qs : List Query) (n : Number) → is_found (find qs n) ≡ any (λ q. same_number q.number n) qs
unfolding find
find-any [] n = refl
find-any (q ∷ qs) n =
    here (same_number q.number n) (find qs n) ∙ ap (λ b. same_number q.number n || b) (find-any qs n)
  where
    late : (f : Found) → is_found (later f) ≡ is_found f
    late Absent = refl
    late (At k a h) = refl

    here : (b : Bool) (f : Found) → is_found (pick_found b (At 0 q.asker q.hits) (later f)) ≡ (b || is_found f)
    here true f = refl
    here false f = late f

pub seen-any : (s : Station) (n : Number) → seen s n ≡ any (λ q. same_number q.number n) (remembered s)
seen-any s n = find-any (remembered s) n

-- no number twice: among the newest, after one more that was not there, and where only other parts of queries change
pub no_twice-take : (k : ℕ) (qs : List Query) → no_twice qs ≡ true → no_twice (take k qs) ≡ true
unfolding no_twice
no_twice-take zero qs h = refl
no_twice-take (suc k) [] h = refl
no_twice-take (suc k) (q ∷ qs) h =
    let same : Query → Bool = λ p. same_number p.number q.number in
    let a : any same qs ≡ false = not-true (any same qs) (and_fst (not (any same qs)) (no_twice qs) h) in
    rw (any-take same k qs a) (no_twice-take k qs (and_snd (not (any same qs)) (no_twice qs) h))

pub no_twice-new : (n : Number) (who : ℕ) (qs : List Query) → any (λ q. same_number q.number n) qs ≡ false
    → no_twice qs ≡ true → no_twice (asked n who ∷ qs) ≡ true
unfolding no_twice
no_twice-new n who qs a h = rw a h

module _ (f : Query → Query) (kept : (q : Query) → (f q).number ≡ q.number) where
  any-map : (n : Number) (qs : List Query)
      → any (λ q. same_number q.number n) (map f qs) ≡ any (λ q. same_number q.number n) qs
  any-map n [] = refl
  any-map n (q ∷ qs) = ap₂ (λ (x : Number) b. same_number x n || b) (kept q) (any-map n qs)

  pub no_twice-map : (qs : List Query) → no_twice (map f qs) ≡ no_twice qs
  unfolding no_twice
  no_twice-map [] = refl
  no_twice-map (q ∷ qs) =
      ap₂ (λ a b. not a && b)
      (ap (λ (x : Number). any (λ p. same_number p.number x) (map f qs)) (kept q) ∙ any-map q.number qs)
      (no_twice-map qs)
