-- What a look-up finds stands there: at its index of the newest-first list, and so at its place of the ring; one hit
-- more of it raises the count of that query and of no other.
-- Assumes nothing.
use mathlib.Core.Path.{◌≡◌, refl, sym, ap, subst, ◌∙◌}
use mathlib.Core.Bool.{Bool, true, false, cond, not, ◌||◌, or-false}
use mathlib.Core.List.{List, [], ◌∷◌, map}
use Prim.Native.Nat.{ℕ, suc, ◌+◌, ◌-◌, ◌<◌}
use native.Mathlib.Nat.{mod-lt}
use native.Mathlib.Omega.{arith}
use lib.Dec.{eqb}
use lib.ListN.{length, get_or, length-map}
use lib.Seq.{get_or-set_same, get_or-set_other}
use borrow.Author.Tests.{eqb-true, eqb-false, eq-eqb, ne_eqb, le-leb, not-true}
use Rattle.laws.specs.Tests.{any, all}
use Rattle.laws.specs.Ring.{kept_places}
use Rattle.laws.proofs.Refusals.{clash, and_fst, and_snd, or_fst, or_snd, all_map, all_weaken}
use Rattle.laws.proofs.Rings.{map_where, map-map, map-get_or, kept_at}
use Rattle.protocol.specs.State.{Station, remembered}
use Rattle.protocol.specs.Memory.{capacity, Memory, Number, Query, query_at, queries_in, place_behind, number_from}
use Rattle.protocol.specs.Memory.{same_number, Found, Absent, At, later, pick_found, find, no_twice, FoundThere}
use Rattle.protocol.specs.Memory.{hit_limit, count_up, hits_fit, raise}
use Rattle.protocol.specs.Kept.{Sized, hit_by, RemembersHit}
use Rattle.protocol.proofs.Memory.{same_number_lem, number_itself}

-- what is found is the query at its index of the list, and so at its place of the ring
abbrev pub none : Query
none = record { number = number_from 0 0; asker = 0; hits = 0 }

abbrev pub Stands : List Query → Number → ℕ → ℕ → ℕ → Type 0
Stands qs x a h i = (i < length qs) × (get_or qs i none ≡ record { number = x; asker = a; hits = h })

pub found-index : (qs : List Query) (x : Number) (a h i : ℕ) → find qs x ≡ At i a h → Stands qs x a h i
unfolding find
found-index [] x a h i e = let z : ◌≡◌ {A = ℕ} 0 1 = cc in absurd (omega arith)
found-index (q ∷ qs) x a h i e = by (same_number q.number x) refl (find qs x) (found-index qs x a h) e
  where
    by : (t : Bool) → same_number q.number x ≡ t → (f : Found) → ((n : ℕ) → f ≡ At n a h → Stands qs x a h n)
        → pick_found t (At 0 q.asker q.hits) (later f) ≡ At i a h → Stands (q ∷ qs) x a h i
    by true s f g e =
        let z : i ≡ 0 = cc in
        let w : q.asker ≡ a = cc in
        let y : q.hits ≡ h = cc in
        let n = same_number_lem q.number x s in
        rw z (omega arith, λ j. record { number = n j; asker = w j; hits = y j })
    by false s Absent g e = let z : ◌≡◌ {A = ℕ} 0 1 = cc in absurd (omega arith)
    by false s (At n b c) g e =
        let z : i ≡ suc n = cc in
        let r = g n (cc) in
        rw z (omega (arith, r.0), r.1)

pub found-there : FoundThere
unfolding queries_in
found-there n q x i a k e =
    let r = found-index (queries_in n q) x a k i e in
    let h : i < length (kept_places n q.next q.count) = rw length-map at r.0 in
    ap (query_at q) (sym (kept_at n q.next q.count i h))
    ∙ sym (map-get_or (query_at q) (kept_places n q.next q.count) i 0 none h)
    ∙ r.1

-- no other place of a list without a number twice has the number that was found
abbrev alone : (ℕ → Query) → Number → ℕ → ℕ → Bool
alone f x at p = not (same_number (f p).number x) || eqb p at

none-alone : (f : ℕ → Query) (x : Number) (at : ℕ) (ps : List ℕ)
    → any (λ q. same_number q.number x) (map f ps) ≡ false → all (alone f x at) ps ≡ true
none-alone f x at [] e = refl
none-alone f x at (p ∷ ps) e =
    let same : Bool = same_number (f p).number x in
    let rest : Bool = any (λ q. same_number q.number x) (map f ps) in
    rw (or_fst same rest e) (none-alone f x at ps (or_snd same rest e))

found-alone : (f : ℕ → Query) (x : Number) (ps : List ℕ) (i a h : ℕ)
    → find (map f ps) x ≡ At i a h → no_twice (map f ps) ≡ true → all (alone f x (get_or ps i 0)) ps ≡ true
unfolding find no_twice
found-alone f x [] i a h e n = let z : ◌≡◌ {A = ℕ} 0 1 = cc in absurd (omega arith)
found-alone f x (p ∷ ps) i a h e n =
    by (same_number (f p).number x) refl (find (map f ps) x) (λ j. found-alone f x ps j a h) e
  where
    others : Bool
    others = any (λ q. same_number q.number (f p).number) (map f ps)

    by : (t : Bool) → same_number (f p).number x ≡ t → (r : Found)
        → ((j : ℕ) → r ≡ At j a h → no_twice (map f ps) ≡ true → all (alone f x (get_or ps j 0)) ps ≡ true)
        → pick_found t (At 0 (f p).asker (f p).hits) (later r) ≡ At i a h
        → all (alone f x (get_or (p ∷ ps) i 0)) (p ∷ ps) ≡ true
    by true s r g e =
        let z : i ≡ 0 = cc in
        let k = same_number_lem (f p).number x s in
        let w = not-true others (and_fst (not others) (no_twice (map f ps)) n) in
        let first : all (alone f x p) (p ∷ ps) ≡ true =
        rw (s, eq-eqb p p refl)
        (none-alone f x p ps (subst (λ v. any (λ q. same_number q.number v) (map f ps) ≡ false) k w)) in
        subst (λ k. all (alone f x (get_or (p ∷ ps) k 0)) (p ∷ ps) ≡ true) (sym z) first
    by false s Absent g e = let z : ◌≡◌ {A = ℕ} 0 1 = cc in absurd (omega arith)
    by false s (At j b c) g e =
        let z : i ≡ suc j = cc in
        let there : all (alone f x (get_or (p ∷ ps) (suc j) 0)) (p ∷ ps) ≡ true =
        rw s (g j (cc) (and_snd (not others) (no_twice (map f ps)) n)) in
        subst (λ k. all (alone f x (get_or (p ∷ ps) k 0)) (p ∷ ps) ≡ true) (sym z) there

-- the ring whose query behind i others has had one hit more
module _ (s : Station) (z : Sized s) (i : ℕ) where
  abbrev q : Memory
  q = s.memory

  abbrev places : List ℕ
  places = kept_places capacity q.next q.count

  abbrev spot : ℕ
  spot = place_behind capacity q i

  abbrev after : Memory
  after = raise capacity q i

  -- the count at its place goes up, and no other moves
  up-there : get_or after.hits spot 0 ≡ count_up (get_or q.hits spot 0)
  unfolding raise
  up-there =
      let k : spot < 512 = mod-lt (q.next + (512 - suc i)) (omega arith) in
      get_or-set_same q.hits spot _ 0 (omega (arith, z.hits))

  same-elsewhere : (p : ℕ) → eqb p spot ≡ false → get_or after.hits p 0 ≡ get_or q.hits p 0
  unfolding raise
  same-elsewhere p y = get_or-set_other q.hits spot p _ 0 (eqb-false p spot y)

  -- it is at most 200
  few-there : (p : ℕ) → hits_fit (get_or q.hits p 0) ≡ true → hits_fit (get_or after.hits p 0) ≡ true
  few-there p f = go (eqb p spot) refl
    where
      go : (b : Bool) → eqb p spot ≡ b → hits_fit (get_or after.hits p 0) ≡ true
      go true y = rw (eqb-true p spot y, up-there) (le-leb (count_up (get_or q.hits spot 0)) hit_limit (omega arith))
      go false y = rw (same-elsewhere p y) f

  pub hits-after : all (λ x. hits_fit x.hits) (remembered s) ≡ true
      → all (λ x. hits_fit x.hits) (queries_in capacity after) ≡ true
  unfolding queries_in raise
  hits-after e =
      all_map (query_at after) (λ x. hits_fit x.hits) places
      ∙ all_weaken (λ p. hits_fit (get_or q.hits p 0)) (λ p. hits_fit (get_or after.hits p 0)) places few-there
      (sym (all_map (query_at q) (λ x. hits_fit x.hits) places) ∙ e)

  -- where the number n was found there, by this asker and with this count
  module _ (n : Number) (a h : ℕ) (found : find (remembered s) n ≡ At i a h) (few : h < hit_limit) where
    there : query_at q spot ≡ record { number = n; asker = a; hits = h }
    there = found-there capacity q n i a h found

    -- the queries at a place before and after, with the count that it has then
    hit-at : (p : ℕ) (same : Bool) → same_number (query_at q p).number n ≡ same
        → get_or after.hits p 0 ≡ cond same (suc (get_or q.hits p 0)) (get_or q.hits p 0)
        → query_at after p ≡ hit_by n (query_at q p)
    unfolding raise
    hit-at p same e up = λ j. record {
      number = (query_at q p).number;
      asker = (query_at q p).asker;
      hits = (up ∙ sym (ap (λ b. cond b (suc (get_or q.hits p 0)) (get_or q.hits p 0)) e)) j;
    }

    pointwise : (p : ℕ) → alone (query_at q) n spot p ≡ true → query_at after p ≡ hit_by n (query_at q p)
    pointwise p t = go (eqb p spot) refl
      where
        go : (b : Bool) → eqb p spot ≡ b → query_at after p ≡ hit_by n (query_at q p)
        go true y =
            let k : get_or q.hits spot 0 ≡ h = ap (λ (x : Query). x.hits) there in
            rw (eqb-true p spot y)
            (hit-at spot true (ap (λ (x : Query). same_number x.number n) there ∙ number_itself n)
            (up-there ∙ omega (arith, k)))
        go false y =
            let same : Bool = same_number (query_at q p).number n in
            hit-at p false (not-true same (sym (or-false (not same)) ∙ (rw y at t))) (same-elsewhere p y)

    pub others-stay : (p : ℕ) → same_number (query_at q p).number n ≡ false
        → get_or after.hits p 0 ≡ get_or q.hits p 0
    others-stay p d =
        same-elsewhere p (ne_eqb p spot (λ e. clash
        (ap (λ x. same_number (query_at q x).number n) e ∙ ap (λ (x : Query). same_number x.number n) there
        ∙ number_itself n) d))

    raised-hit : no_twice (remembered s) ≡ true → queries_in capacity after ≡ map (hit_by n) (remembered s)
    unfolding queries_in raise
    raised-hit once =
        let within : i < length places = rw length-map at (found-index (remembered s) n a h i found).0 in
        map_where (alone (query_at q) n spot) (query_at after) (λ p. hit_by n (query_at q p)) pointwise places
        (subst (λ k. all (alone (query_at q) n k) places ≡ true) (kept_at capacity q.next q.count i within)
        (found-alone (query_at q) n places i a h found once))
        ∙ sym (map-map (query_at q) (hit_by n) places)

pub remembered-hit : RemembersHit
remembered-hit s n i a h z once e few = raised-hit s z i n a h e few once
