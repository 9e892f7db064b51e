-- The remembered queries: the last 512 (RULES 7.3), as a newest-first list over a ring.
use Rattle.std.specs.Prelude.{ℕ, suc, ◌+◌, ◌%◌, min, ◌≡◌, Bool, true, false, cond, not, ◌&&◌, ◌||◌, Option, Some, None, List, [], ◌∷◌, map, eqb, leb, ltb, get_or, set, take, drop}
use Rattle.laws.specs.Tests.{first_of, any, every, all}
use Rattle.laws.specs.Bytes.{little}
use Rattle.laws.specs.Ring.{kept_places, onward, ring_place}
use Rattle.protocol.specs.declared.Lookup.{Lookup}
use Rattle.protocol.specs.declared.Remembered.{Remembered}
use Rattle.protocol.specs.declared.Age.{Age}
use Rattle.protocol.specs.Lines.{line_count}

-- how many are remembered
abbrev pub capacity : ℕ
capacity = 512

-- askers that are no line: here and gone (RULES 4.4); nobody, where a number is not remembered
abbrev pub here : ℕ
here = 8

abbrev pub gone : ℕ
gone = 9

abbrev pub nobody_asked : ℕ
nobody_asked = 10

-- how many hits of one query are passed back or delivered at most (RULES 24)
abbrev pub hit_limit : ℕ
hit_limit = 200

-- the ring: the number of each query as two halves, its asker, its count of hits, how many are kept, and the place of
-- the next. The code is lent these
pub record Memory : Type 0 where
  pub lo : List ℕ
  pub hi : List ℕ
  pub asker : List ℕ
  pub hits : List ℕ
  pub count : ℕ
  pub next : ℕ

abbrev pub memory_of : List ℕ → List ℕ → List ℕ → List ℕ → ℕ → ℕ → Memory
memory_of lo hi asker hits count next =
    record { lo = lo; hi = hi; asker = asker; hits = hits; count = count; next = next }

-- the number of a query, as two little-endian halves of its 16 bytes
pub record Number : Type 0 where
  pub lo : ℕ
  pub hi : ℕ

abbrev pub number_from : ℕ → ℕ → Number
number_from lo hi = record { lo = lo; hi = hi }

abbrev pub number_in : List ℕ → Number
number_in m = number_from (little (take 8 m)) (little (take 8 (drop 8 m)))

abbrev pub same_number : Number → Number → Bool
same_number a b = eqb a.lo b.lo && eqb a.hi b.hi

-- a remembered query: its number, who asked, and how many hits of it were passed back or delivered
pub record Query : Type 0 where
  pub number : Number
  pub asker : ℕ
  pub hits : ℕ

abbrev pub query_at : Memory → ℕ → Query
query_at q p =
    record {
      number = number_from (get_or q.lo p 0) (get_or q.hi p 0);
      asker = get_or q.asker p 0;
      hits = get_or q.hits p 0;
    }

-- the queries of a ring of n places, the newest first
unfoldable pub queries_in : ℕ → Memory → List Query
queries_in n q = map (query_at q) (kept_places n q.next q.count)

-- the place in a ring of n places of the query that stands behind `after` newer ones
abbrev pub place_behind : ℕ → Memory → ℕ → ℕ
place_behind n q after = ring_place n q.next after

-- looking a number up: how many were remembered after it, its asker and its count of hits
pub data Found : Type 0 where
  Absent : Found
  At : (after asker hits : ℕ) → Found

abbrev pub later : Found → Found
later Absent = Absent
later (At n a h) = At (suc n) a h

abbrev pub pick_found : Bool → Found → Found → Found
pick_found true a b = a
pick_found false a b = b

unfoldable pub find : List Query → Number → Found
find [] n = Absent
find (q ∷ qs) n = pick_found (same_number q.number n) (At 0 q.asker q.hits) (later (find qs n))

abbrev pub is_found : Found → Bool
is_found Absent = false
is_found (At n a h) = true

-- how many were remembered after it
abbrev pub after_of : Found → ℕ
after_of Absent = 0
after_of (At n a h) = n

-- who asked
abbrev pub asker_of : Found → ℕ
asker_of Absent = nobody_asked
asker_of (At n a h) = a

-- how many hits it has had
abbrev pub hits_of : Found → ℕ
hits_of Absent = 0
hits_of (At n a h) = h

-- as the rules read it
abbrev pub lookup_of : Found → Lookup
lookup_of f = record { found = is_found f; after = after_of f; asker = asker_of f; hits = hits_of f }

-- what the code knows of a number, as the rules read it
abbrev pub lookup_in : Option Remembered → Lookup
lookup_in None = record { found = false; after = 0; asker = nobody_asked; hits = 0 }
lookup_in (Some r) = record { found = true; after = r.after; asker = r.asker; hits = r.hits }

-- and the other way round: one that found nothing says nothing, whatever its other fields are
abbrev pub remembered_in : Lookup → Option Remembered
remembered_in k = cond k.found (Some record { after = k.after; asker = k.asker; hits = k.hits }) None

-- where a query is found, it stands: the look-up tells its place in the ring
abbrev pub FoundThere : Type 0
FoundThere =
    (n : ℕ) (q : Memory) (x : Number) (after a h : ℕ)
    → find (queries_in n q) x ≡ At after a h
    → query_at q (place_behind n q after) ≡ record { number = x; asker = a; hits = h }

-- The age of a query that was found (RULES 21): how many were remembered after it. 0 is an age, so a flag beside it
-- says whether there is one
abbrev pub no_age : Age
no_age = record { known = false; after = 0 }

abbrev pub age_after : ℕ → Age
age_after n = record { known = true; after = n }

-- as the code tells it
abbrev pub age_in : Option ℕ → Age
age_in None = no_age
age_in (Some n) = age_after n

abbrev pub pick_age : Bool → Age → Age → Age
pick_age true a b = a
pick_age false a b = b

abbrev pub age_of : Lookup → Age
age_of k = pick_age k.found (age_after k.after) no_age

-- what is handed up by a call whose number is looked up behind these checks: none where one of them refuses, for then
-- nothing was looked up, and none where nothing was found
abbrev pub age_behind : List (Bool × ℕ) → Lookup → Age
age_behind before k = pick_age (eqb (first_of before) 0) (age_of k) no_age

-- one more is remembered, at the ring's next place, with no hit yet; the oldest of n makes way
unfoldable pub remember : ℕ → Memory → Number → ℕ → Memory
remember n q x who =
    record {
      lo = set q.lo (q.next % n) x.lo;
      hi = set q.hi (q.next % n) x.hi;
      asker = set q.asker (q.next % n) who;
      hits = set q.hits (q.next % n) 0;
      count = min n (q.count + 1);
      next = onward n q.next;
    }

abbrev pub pick_memory : Bool → Memory → Memory → Memory
pick_memory true a b = a
pick_memory false a b = b

-- the ring after a call that took the query x, or did not
abbrev pub remember_if : Bool → ℕ → Memory → Number → ℕ → Memory
remember_if taken n q x who = pick_memory taken (remember n q x who) q

-- one more, to 200 at most
abbrev pub count_up : ℕ → ℕ
count_up h = min hit_limit (h + 1)

-- the counts after one hit more of the query that stands behind `after` newer ones, and the ring with them
abbrev pub raised : ℕ → ℕ → ℕ → List ℕ → List ℕ
raised n next after hits =
    set hits (ring_place n next after) (count_up (get_or hits (ring_place n next after) 0))

unfoldable pub raise : ℕ → Memory → ℕ → Memory
raise n q after =
    memory_of q.lo q.hi q.asker (raised n q.next after q.hits) q.count q.next

-- the ring after a call that passed a hit of that query back or delivered it, or did not
abbrev pub raise_if : Bool → ℕ → Memory → ℕ → Memory
raise_if answered n q after = pick_memory answered (raise n q after) q

-- no number stands twice
unfoldable pub no_twice : List Query → Bool
no_twice [] = true
no_twice (q ∷ qs) = not (any (λ p. same_number p.number q.number) qs) && no_twice qs

-- an asker is an open line, here or gone; `live` says which lines are open
abbrev pub asker_fits : (ℕ → Bool) → ℕ → Bool
asker_fits live a = (ltb a line_count && live a) || (eqb a here || eqb a gone)

-- a count of hits is at most 200
abbrev pub hits_fit : ℕ → Bool
hits_fit h = leb h hit_limit

-- the ring is in order, clause by clause (RULES 4.1 to 4.4, 24.3)
unfoldable pub memory_in_order : ℕ → (ℕ → Bool) → Memory → Bool
memory_in_order n live q =
    every
    (leb q.count n
    ∷ ltb q.next n
    ∷ no_twice (queries_in n q)
    ∷ all (λ x. asker_fits live x.asker) (queries_in n q)
    ∷ all (λ x. hits_fit x.hits) (queries_in n q)
    ∷ [])

-- the asker after line l has closed, and the ring then
abbrev pub left : ℕ → ℕ → ℕ
left l a = cond (eqb a l) gone a

abbrev pub left_all : ℕ → Memory → Memory
left_all l q = memory_of q.lo q.hi (map (left l) q.asker) q.hits q.count q.next
