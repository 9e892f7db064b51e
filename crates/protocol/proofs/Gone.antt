-- Gone stays gone: an asker that has closed is never a line or here again.
-- Assumes nothing.
use Prim.Native.Nat.{ℕ, zero, suc, ◌≤◌}
use native.Mathlib.Omega.{arith}
use mathlib.Core.Path.{◌≡◌, refl, sym, ap, ◌∙◌}
use mathlib.Core.Bool.{Bool, true, false}
use mathlib.Core.Logic.{◌⊎◌, inl, inr, ⊎_elim}
use mathlib.Core.List.{List, [], ◌∷◌, ◌++◌, map}
use lib.Dec.{eqb}
use lib.ListN.{take}
use Rattle.laws.proofs.Refusals.{clash, of_choice}
use Rattle.protocol.specs.Memory.{capacity, gone, Number, same_number, Query}
use Rattle.protocol.specs.Memory.{Found, Absent, At, later, pick_found, find, is_found, asker_of}
use Rattle.protocol.specs.State.{remembered}
use Rattle.protocol.specs.Runs.{Call, World, step, run, start}
use Rattle.protocol.specs.Kept.{asked, left_by, hit_by}
use Rattle.protocol.specs.Demand2.{brought_number, brought_by, Origin, Unknown, Here, From, Gone, origin, asker_now}
use Rattle.protocol.specs.Demand2.{hits_since, GoneForever}
use Rattle.protocol.proofs.Memory.{same_number_lem}
use Rattle.protocol.proofs.Effects.{call_effect}
use Rattle.protocol.proofs.Origins.{unknown_of, SameLookUp, Invariant, begins, goes_on_lem}
use Rattle.protocol.proofs.Origins.{holds_after}
use Rattle.protocol.proofs.Origins.{looked-up}

-- In the remembered queries: gone is still gone after a closing and a hit, and after one more query gone or not there
asker-later : (f : Found) → asker_of (later f) ≡ asker_of f
asker-later Absent = refl
asker-later (At n a h) = refl

gone-map : (f : Query → Query) → ((q : Query) → (f q).number ≡ q.number)
    → ((q : Query) → q.asker ≡ gone → (f q).asker ≡ gone) → (x : Number) (qs : List Query)
    → asker_of (find qs x) ≡ gone → asker_of (find (map f qs) x) ≡ gone
unfolding find
gone-map f same kept x [] e = e
gone-map f same kept x (q ∷ qs) e =
    rw (same q) (go (same_number q.number x) (gone-map f same kept x qs) e)
  where
    go : (b : Bool) → (asker_of (find qs x) ≡ gone → asker_of (find (map f qs) x) ≡ gone)
        → asker_of (pick_found b (At 0 q.asker q.hits) (later (find qs x))) ≡ gone
        → asker_of (pick_found b (At 0 (f q).asker (f q).hits) (later (find (map f qs) x))) ≡ gone
    go true h e = kept q e
    go false h e = asker-later (find (map f qs) x) ∙ h (sym (asker-later (find qs x)) ∙ e)

gone-left : (l : ℕ) (q : Query) → q.asker ≡ gone → (left_by l q).asker ≡ gone
gone-left l q e = of_choice (λ n. n ≡ gone) (eqb q.asker l) gone q.asker (λ _. refl) (λ _. e)

abbrev GoneOrAbsent : Found → Type 0
GoneOrAbsent f = (asker_of f ≡ gone) ⊎ (is_found f ≡ false)

gone-later : (f : Found) → GoneOrAbsent f → GoneOrAbsent (later f)
gone-later Absent h = h
gone-later (At n a k) h = h

gone-take : (n : ℕ) (x : Number) (qs : List Query) → asker_of (find qs x) ≡ gone → GoneOrAbsent (find (take n qs) x)
unfolding find
gone-take zero x qs e = inr refl
gone-take (suc n) x [] e = inr refl
gone-take (suc n) x (q ∷ qs) e = go (same_number q.number x) (gone-take n x qs) e
  where
    go : (b : Bool) → (asker_of (find qs x) ≡ gone → GoneOrAbsent (find (take n qs) x))
        → asker_of (pick_found b (At 0 q.asker q.hits) (later (find qs x))) ≡ gone
        → GoneOrAbsent (pick_found b (At 0 q.asker q.hits) (later (find (take n qs) x)))
    go true h e = inl e
    go false h e = gone-later (find (take n qs) x) (h (sym (asker-later (find qs x)) ∙ e))

found-gone : (f : Found) → is_found f ≡ false → asker_of f ≡ gone → ⊥
found-gone Absent u e = absurd (omega arith)
found-gone (At n a h) u e = clash refl u

-- a number that is remembered is not taken
gone-asked : (n : ℕ) (x y : Number) (who : ℕ) (qs : List Query) → is_found (find qs y) ≡ false
    → asker_of (find qs x) ≡ gone → GoneOrAbsent (find (take (suc n) (asked y who ∷ qs)) x)
unfolding find
gone-asked n x y who qs u e = go (same_number y x) refl
  where
    go : (b : Bool) → same_number y x ≡ b
        → GoneOrAbsent (pick_found (same_number y x) (At 0 who 0) (later (find (take n qs) x)))
    go true z = absurd (found-gone (find qs y) u (ap (λ (k : Number). asker_of (find qs k)) (same_number_lem y x z) ∙ e))
    go false z = rw z (gone-later (find (take n qs) x) (gone-take n x qs e))

-- one call, and a list of them
gone_of : (o : Origin) → ((l n : ℕ) → o ≡ From l n → l ≤ 7) → asker_now o ≡ gone → o ≡ Gone
gone_of Unknown h e = absurd (omega arith)
gone_of Here h e = absurd (omega arith)
gone_of (From l n) h e = let b : l ≤ 7 = h l n refl in absurd (omega arith)
gone_of Gone h e = refl

module _ (base : List Query) (x : Number) where
  abbrev from : World → Origin
  from w = origin capacity w.log base x

  abbrev found : World → Found
  found w = find (remembered w.state) x

  gone-step : (w : World) → Invariant base w → (c : Call) → from w ≡ Gone
      → (from (step w c) ≡ Gone) ⊎ (from (step w c) ≡ Unknown)
  gone-step w v c e =
      let w' : World = step w c in
      let v' : Invariant base w' = goes_on_lem base w v c in
      let was : asker_of (found w) ≡ gone = (looked-up base w v x).asker ∙ ap asker_now e in
      let now : SameLookUp (found w') (from w') (hits_since w'.log base x) = looked-up base w' v' x in
      ⊎_elim
      (λ q. inl (gone_of (from w') (λ l n f. (v'.since (λ _. false) capacity x l n f).below) (sym now.asker ∙ q)))
      (λ q. inr (unknown_of (from w') (sym now.found ∙ q)))
      (⊎_elim
      (λ t. rw t.memory (gone-asked 511 x (brought_number c) (brought_by c) (remembered w.state) t.unseen was))
      (⊎_elim
      (λ t. inl
      (rw t.memory (gone-map (left_by t.line) (λ _. refl) (gone-left t.line) x (remembered w.state)
      was)))
      (⊎_elim
      (λ t. inl (rw t.memory (gone-map (hit_by (brought_number c)) (λ _. refl) (λ _ g. g) x (remembered w.state)
      was)))
      (λ t. inl (rw t.memory was))))
      (call_effect w v.sized v.order c).does)

  gone-list : (w : World) → Invariant base w → (cs : List Call) → from w ≡ Gone
      → (from (run w cs) ≡ Gone) ⊎ ((ps qs : List Call) × (cs ≡ ps ++ qs) × (from (run w ps) ≡ Unknown))
  gone-list w v [] e = inl e
  gone-list w v (c ∷ cs) e =
      ⊎_elim
      (λ g. ⊎_elim inl (λ r. inr (c ∷ r.0, r.1, ap (◌∷◌ c) r.2, r.3))
      (gone-list (step w c) (goes_on_lem base w v c) cs g))
      (λ u. inr (c ∷ [], cs, refl, u))
      (gone-step w v c e)

pub gone_forever : GoneForever
gone_forever s area cs more x z o =
    gone-list (remembered s) x (run (start s area) cs)
    (holds_after (remembered s) (start s area) cs (begins s area z o)) more
