-- A look-up, turn by turn, and in the two parts of a ring: the places below `next`, and the rest at the end of the
-- slices.
use mathlib.Core.Path.{◌≡◌, refl, sym, ◌∙◌}
use mathlib.Core.Bool.{Bool, true, false}
use mathlib.Core.List.{List, [], ◌∷◌, ◌++◌, map, map-append}
use Prim.Native.Nat.{ℕ, suc, ◌+◌, ◌-◌, ◌≤◌, ◌<◌, min}
use native.Mathlib.Omega.{arith}
use lib.ListN.{length, length-map}
use Rattle.laws.specs.Ring.{back, places_before, ring_fits}
use Rattle.laws.proofs.RingScan.{back-pos, places-split, places-length}
use Rattle.protocol.specs.Memory.{Memory, Number, Query, query_at, queries_in, same_number}
use Rattle.protocol.specs.Memory.{Found, Absent, At, later, pick_found, find, is_found}
use Rattle.memory.specs.Queries.{behind}
use Rattle.memory.proofs.OrderLaws.{fits_next, kept-all}

behind-none : (f : Found) → behind 0 f ≡ f
behind-none Absent = refl
behind-none (At n a h) = let e : 0 + n ≡ n = omega arith in rw e

behind-pick : (t : Bool) (i a h : ℕ) (f : Found)
    → behind i (pick_found t (At 0 a h) (later f)) ≡ pick_found t (At i a h) (behind (i + 1) f)
behind-pick true i a h f = let e : i + 0 ≡ i = omega arith in rw e
behind-pick false i a h Absent = refl
behind-pick false i a h (At n b k) = let e : i + suc n ≡ i + 1 + n = omega arith in rw e

module _ (query : ℕ → Query) (c : ℕ) (x : Number) where
  -- what is left of a look-up: n queries before place p, i passed
  abbrev pub left_of : ℕ → ℕ → ℕ → Found
  left_of p n i = behind i (find (map query (places_before c p n)) x)

  pub left_end : (p n i : ℕ) → n ≡ 0 → left_of p n i ≡ Absent
  unfolding find
  left_end p n i e = rw e

  -- after i of the n before `from`: the next is the one, or it is passed
  module _ (from n passed i : ℕ) (more : i < n) (enough : n ≤ from) (inside : from ≤ c) where
    pub left-turn : left_of (from - i) (n - i) (passed + i)
        ≡ pick_found (same_number (query (from - 1 - i)).number x)
        (At (passed + i) (query (from - 1 - i)).asker (query (from - 1 - i)).hits)
        (left_of (from - (i + 1)) (n - (i + 1)) (passed + (i + 1)))
    unfolding find
    left-turn =
        let e : n - i ≡ suc (n - (i + 1)) = omega arith in
        let b : back c (from - i) ≡ from - (i + 1) = back-pos c (from - i) (omega arith) (omega arith) ∙ omega arith in
        let d : from - 1 - i ≡ from - (i + 1) = omega arith in
        let f : passed + i + 1 ≡ passed + (i + 1) = omega arith in
        rw (e, b, d, ← f)
        (behind-pick (same_number (query (from - (i + 1))).number x) (passed + i) (query (from - (i + 1))).asker
        (query (from - (i + 1))).hits
        (find (map query (places_before c (from - (i + 1)) (n - (i + 1)))) x))

-- a look-up in two parts
abbrev or_else : Found → Found → Found
or_else Absent g = g
or_else (At n a h) g = At n a h

first_found : (f g : Found) → is_found f ≡ true → or_else f g ≡ f
first_found Absent g e = cc
first_found (At n a h) g e = refl

second-found : (f g : Found) → is_found f ≡ false → or_else f g ≡ g
second-found Absent g e = refl
second-found (At n a h) g e = cc

find_append : (xs ys : List Query) (x : Number)
    → find (xs ++ ys) x ≡ or_else (find xs x) (behind (length xs) (find ys x))
unfolding find
find_append [] ys x = sym (behind-none (find ys x))
find_append (q ∷ xs) ys x = rw (find_append xs ys x) (by (same_number q.number x) (find xs x) (find ys x))
  where
    by : (t : Bool) (f g : Found)
        → pick_found t (At 0 q.asker q.hits) (later (or_else f (behind (length xs) g)))
        ≡ or_else (pick_found t (At 0 q.asker q.hits) (later f)) (behind (suc (length xs)) g)
    by true f g = refl
    by false (At n a h) g = refl
    by false Absent Absent = refl
    by false Absent (At n a h) = let e : suc (length xs + n) ≡ suc (length xs) + n = omega arith in rw e

module _ (n : ℕ) (q : Memory) (x : Number) (first : ℕ)
    (fits : ring_fits n q.next q.count ≡ true) (is : first ≡ min q.count q.next) where
  abbrev newer : Found
  newer = find (map (query_at q) (places_before n q.next first)) x

  abbrev older : Found
  older = behind first (find (map (query_at q) (places_before n n (q.count - first))) x)

  parts : find (queries_in n q) x ≡ or_else newer older
  parts =
      let split = places-split n q.next q.count (fits_next n q.next q.count fits) in
      rw (kept-all n q fits, split, ← is, map-append)
      (find_append (map (query_at q) (places_before n q.next first))
      (map (query_at q) (places_before n n (q.count - first))) x
      ∙ rw (length-map, places-length))

  pub find_first : is_found (behind 0 newer) ≡ true → behind 0 newer ≡ find (queries_in n q) x
  find_first e = behind-none newer ∙ sym (parts ∙ first_found newer older (rw behind-none at e))

  pub find-rest : is_found (behind 0 newer) ≡ false → older ≡ find (queries_in n q) x
  find-rest e = sym (parts ∙ second-found newer older (rw behind-none at e))
