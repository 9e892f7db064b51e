-- Where a number stands in a list of queries, counted from the newest: among all that were taken, its place is how many
-- were taken since.
-- Assumes nothing.
use Prim.Native.Nat.{ℕ, zero, suc, ◌+◌, ◌<◌}
use native.Mathlib.Omega.{arith}
use mathlib.Core.Path.{◌≡◌, refl, sym, ap, ◌∙◌}
use mathlib.Core.Bool.{Bool, true, false, cond, ◌||◌}
use mathlib.Core.Logic.{◌↔◌, inl, inr}
use mathlib.Core.List.{List, [], ◌∷◌, ◌++◌, map, append-nil}
use lib.ListN.{length, take}
use Rattle.protocol.specs.Memory.{Number, Query}
use Rattle.protocol.specs.Runs.{Made}
use Rattle.protocol.specs.Demand2.{took, closed, Past, all_taken, taken_in}
use Rattle.protocol.proofs.Origins.{before, newest, taken-took, taken-passed}
use Rattle.ages.specs.History.{Since}

-- the numbers of a remembered query and of a taken one
abbrev pub asked_number : Query → Number
asked_number q = q.number

abbrev pub taken_number : Past → Number
taken_number p = p.number

-- the number x stands at place n of a list
module _ {A : Type 0} (number : A → Number) (x : Number) where
  abbrev pub Stands : List A → ℕ → Type 0
  Stands [] n = ⊥
  Stands (q ∷ qs) zero = number q ≡ x
  Stands (q ∷ qs) (suc n) = Stands qs n

  -- in a list cut in two before it
  pub stands-behind : (newer : List A) (q : A) (older : List A) → number q ≡ x
      → Stands (newer ++ (q ∷ older)) (length newer)
  stands-behind [] q older e = e
  stands-behind (p ∷ newer) q older e = stands-behind newer q older e

  -- every list with it is one
  pub record Around (qs : List A) (n : ℕ) : Type 0 where
    pub newer : List A
    pub query : A
    pub older : List A
    pub split : qs ≡ newer ++ (query ∷ older)
    pub has : number query ≡ x
    pub count : length newer ≡ n

  pub around : (qs : List A) (n : ℕ) → Stands qs n → Around qs n
  around [] n h = absurd h
  around (q ∷ qs) zero h = record { newer = []; query = q; older = qs; split = refl; has = h; count = refl }
  around (q ∷ qs) (suc n) h =
      let r = around qs n h in
      record {
        newer = q ∷ r.newer;
        query = r.query;
        older = r.older;
        split = ap (◌∷◌ q) r.split;
        has = r.has;
        count = ap suc r.count;
      }

  -- in the first m of a list
  pub stands-take : (m : ℕ) (qs : List A) (n : ℕ) → Stands (take m qs) n ↔ ((n < m) × Stands qs n)
  stands-take zero qs n = ((λ h. absurd h), (λ h. absurd (omega (arith, h.0))))
  stands-take (suc m) [] n = ((λ h. absurd h), (λ h. absurd h.1))
  stands-take (suc m) (q ∷ qs) zero = ((λ h. (omega arith, h)), (λ h. h.1))
  stands-take (suc m) (q ∷ qs) (suc n) =
      let r = stands-take m qs n in
      ((λ h. let v = r.0 h in (omega arith, v.1)), (λ h. r.1 (omega (arith, h.0), h.1)))

-- in a list that was mapped
pub stands-map : {A B : Type 0} (number : A → Number) (f : B → A) (x : Number) (qs : List B) (n : ℕ)
    → Stands number x (map f qs) n ↔ Stands (λ q. number (f q)) x qs n
stands-map number f x [] n = ((λ h. h), (λ h. h))
stands-map number f x (q ∷ qs) zero = ((λ h. h), (λ h. h))
stands-map number f x (q ∷ qs) (suc n) = stands-map number f x qs n

-- a call that took a query
abbrev takes : Made → Bool
takes d = took d.call d.outcome.answer

-- a count grows by it
one_more : (b : Bool) (t k n : ℕ) → t + k ≡ n → cond b (suc t) t + k ≡ cond b (suc n) n
one_more true t k n e = omega arith
one_more false t k n e = e

module _ (base : List Query) (x : Number) where
  -- it stands there among all that were taken, where `shut` says which lines have closed since
  abbrev Place : (ℕ → Bool) → List Made → ℕ → Type 0
  Place shut log n = Stands taken_number x (all_taken shut log base) n

  -- with no call made
  place-start : (shut : ℕ → Bool) (n : ℕ) → Place shut [] n ↔ Stands asked_number x base n
  unfolding all_taken
  place-start shut n = stands-map taken_number (before shut) x base n

  -- One call more: a query that it took is newer, by the log
  module _ (d : Made) (ds : List Made) (n : ℕ) where
    since-more : Since ds base x n → Since (d ∷ ds) base x (cond (takes d) (suc n) n)
    since-more (inl r) =
        inl (record {
          newer = d ∷ r.newer;
          taking = r.taking;
          older = r.older;
          split = ap (◌∷◌ d) r.split;
          taken = r.taken;
          number = r.number;
          count = ap (λ k. cond (takes d) (suc k) k) r.count;
        })
    since-more (inr r) =
        inr (record {
          newer = r.newer;
          query = r.query;
          older = r.older;
          split = r.split;
          number = r.number;
          count = one_more (takes d) (taken_in ds) (length r.newer) n r.count;
        })

    -- and by the place
    place-more : ((shut : ℕ → Bool) → Place shut ds n) → (shut : ℕ → Bool)
        → Place shut (d ∷ ds) (cond (takes d) (suc n) n)
    place-more h shut = go (takes d) refl
      where
        go : (b : Bool) → takes d ≡ b → Place shut (d ∷ ds) (cond (takes d) (suc n) n)
        go true t = rw (t, taken-took base d ds shut t) (h shut)
        go false t = rw (t, taken-passed base d ds shut t) (h (λ l. shut l || closed d.call d.outcome.answer l))

  -- From the place to the log
  since-start : (n : ℕ) → Stands asked_number x base n → Since [] base x n
  since-start n h =
      let r : Around asked_number x base n = around asked_number x base n h in
      inr (record {
        newer = r.newer;
        query = r.query;
        older = r.older;
        split = r.split;
        number = r.has;
        count = omega (arith, r.count);
      })

  module _ (d : Made) (ds : List Made) (ih : (shut : ℕ → Bool) (n : ℕ) → Place shut ds n → Since ds base x n)
      (shut : ℕ → Bool) where
    -- the call took a query: the newest, or an older one
    since-took : takes d ≡ true → (n : ℕ) → Stands taken_number x (newest base d ds shut ∷ all_taken shut ds base) n
        → Since (d ∷ ds) base x n
    since-took t zero h =
        inl (record { newer = []; taking = d; older = ds; split = refl; taken = t; number = h; count = refl })
    since-took t (suc n) h = rw t at (since-more d ds n (ih shut n h))

    -- the call took one or did not
    since-one : (n : ℕ) → Place shut (d ∷ ds) n → Since (d ∷ ds) base x n
    since-one n h = go (takes d) refl
      where
        go : (b : Bool) → takes d ≡ b → Since (d ∷ ds) base x n
        go true t = since-took t n (rw (taken-took base d ds shut t) at h)
        go false t = rw t at (since-more d ds n (ih _ n (rw (taken-passed base d ds shut t) at h)))

  since-place : (log : List Made) (shut : ℕ → Bool) (n : ℕ) → Place shut log n → Since log base x n
  since-place [] shut n h = since-start n ((place-start shut n).0 h)
  since-place (d ∷ ds) shut n h = since-one d ds (since-place ds) shut n h

  -- From the log to the place: behind the calls since, whatever has closed
  place-behind : (newer older : List Made) (k n : ℕ) → taken_in newer + k ≡ n → ((shut : ℕ → Bool) → Place shut older k)
      → (shut : ℕ → Bool) → Place shut (newer ++ older) n
  place-behind [] older k n e h shut = let q : k ≡ n = omega arith in rw q at (h shut)
  place-behind (d ∷ ds) older k n e h shut =
      let q : cond (takes d) (suc (taken_in ds + k)) (taken_in ds + k) ≡ n
      = sym (one_more (takes d) (taken_in ds) k (taken_in ds + k) refl) ∙ e in
      rw q at (place-more d (ds ++ older) (taken_in ds + k) (place-behind ds older k (taken_in ds + k) refl h) shut)

  place-since : (log : List Made) (n : ℕ) → Since log base x n → (shut : ℕ → Bool) → Place shut log n
  place-since log n (inl r) =
      rw r.split
      (place-behind r.newer (r.taking ∷ r.older) 0 n (omega (arith, r.count))
      (λ shut. rw (taken-took base r.taking r.older shut r.taken) r.number))
  place-since log n (inr r) =
      let h : Stands asked_number x base (length r.newer)
      = rw r.split (stands-behind asked_number x r.newer r.query r.older r.number) in
      rw (append-nil log)
      at (place-behind log [] (length r.newer) n r.count (λ shut. (place-start shut (length r.newer)).1 h))

  -- both ways
  pub place_iff : (log : List Made) (n : ℕ)
      → Stands taken_number x (all_taken (λ l. false) log base) n ↔ Since log base x n
  place_iff log n = (since-place log (λ l. false) n, λ h. place-since log n h (λ l. false))
