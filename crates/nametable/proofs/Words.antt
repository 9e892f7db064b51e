-- The entries of the table in words: which are 1, how many there are, and that all are in bounds.
use Prim.Native.Nat.{ℕ, ◌≤◌, ◌<◌}
use mathlib.Core.Path.{◌≡◌, refl, sym, ap, ◌∙◌}
use mathlib.Core.Bool.{Bool, true, false}
use mathlib.Core.Logic.{◌↔◌, ◌⊎◌, inl, inr, ⊎_elim}
use mathlib.Core.List.{List, [], ◌∷◌, map}
use mathlib.Core.List.Memᴰ
use mathlib.Core.List.{Memᴰ}
use native.Mathlib.Omega.{arith}
use lib.Dec.{eqb, leb}
use lib.ListN.{length, get_or, set, replicate, length-replicate, get_or-replicate}
use lib.Seq.{lt-length-set, get_or-set_same, get_or-set_other}
use borrow.Author.Tests.{eqb-true, eqb-false, le-leb}
use Rattle.laws.specs.Tests.{all}
use Rattle.laws.proofs.Refusals.{and_intro, all_set}
use Rattle.keywords.specs.Keywords.{keywords_of}
use Rattle.keywords.specs.Hash.{hash_of, scaled, place_of, place_in}
use Rattle.keywords.proofs.PlaceLaws.{place-scaled}
use Rattle.tables.specs.Tables.{in_bounds}
use Rattle.tables.proofs.BoundLaws.{all_replicate}
use Rattle.nametable.specs.Table.{places_of, own_places, with_ones, own_entries}
use Rattle.nametable.specs.Words.{FallsOn, Entry, TableExactly, TableLong, TableWithin}
use Rattle.nametable.proofs.TableLaws.{entries-length}

-- ---- one entry, with 1 at some places

module _ (i : ℕ) where
  here : (es : List ℕ) (p : ℕ) → i < length es → i ≡ p → get_or (set es p 1) i 0 ≡ 1
  here es p h e = ap (λ q. get_or (set es q 1) i 0) (sym e) ∙ get_or-set_same es i 1 0 h

  -- a 1 that stands there stays
  stays : (ps es : List ℕ) → i < length es → get_or es i 0 ≡ 1 → get_or (with_ones ps es) i 0 ≡ 1
  unfolding with_ones
  stays [] es h e = e
  stays (p ∷ ps) es h e = stays ps (set es p 1) (lt-length-set es p 1 h) (by (eqb i p) refl)
    where
      by : (b : Bool) → eqb i p ≡ b → get_or (set es p 1) i 0 ≡ 1
      by true q = here es p h (eqb-true i p q)
      by false q = get_or-set_other es p i 1 0 (eqb-false i p q) ∙ e

  pub on : (ps es : List ℕ) → i < length es → Memᴰ i ps → get_or (with_ones ps es) i 0 ≡ 1
  unfolding with_ones
  on [] es h m = absurd (Memᴰ.not-nil m)
  on (p ∷ ps) es h m =
      let g = lt-length-set es p 1 h in
      ⊎_elim (λ e. stays ps (set es p 1) g (here es p h e)) (λ t. on ps (set es p 1) g t) (Memᴰ.cases_cons m)

  pub off : (ps es : List ℕ) → (Memᴰ i ps → ⊥) → get_or (with_ones ps es) i 0 ≡ get_or es i 0
  unfolding with_ones
  off [] es n = refl
  off (p ∷ ps) es n = off ps (set es p 1) (λ m. n (Memᴰ.tail m))
      ∙ get_or-set_other es p i 1 0 (λ e. n (Memᴰ.head e))

  pub among : (ps : List ℕ) → Memᴰ i ps ⊎ (Memᴰ i ps → ⊥)
  among [] = inr Memᴰ.not-nil
  among (p ∷ ps) = by (eqb i p) refl (among ps)
    where
      by : (b : Bool) → eqb i p ≡ b → Memᴰ i ps ⊎ (Memᴰ i ps → ⊥)
          → Memᴰ i (p ∷ ps) ⊎ (Memᴰ i (p ∷ ps) → ⊥)
      by true q r = inl (Memᴰ.head (eqb-true i p q))
      by false q (inl m) = inl (Memᴰ.tail m)
      by false q (inr n) = inr (λ m. ⊎_elim (eqb-false i p q) n (Memᴰ.cases_cons m))

  entry_of : (falls : Type 0) (ps : List ℕ) (n infinity : ℕ) → i < n → Memᴰ i ps ↔ falls
      → Entry falls infinity (get_or (with_ones ps (replicate n infinity)) i 0)
  entry_of falls ps n infinity h x = record { near = near; far = far; exactly = λ ne. (says ne, near) }
    where
      near : falls → get_or (with_ones ps (replicate n infinity)) i 0 ≡ 1
      near f = on ps (replicate n infinity) (rw length-replicate h) (x.1 f)

      far : (falls → ⊥) → get_or (with_ones ps (replicate n infinity)) i 0 ≡ infinity
      far f = off ps (replicate n infinity) (λ m. f (x.0 m)) ∙ get_or-replicate n i infinity 0 h

      says : (infinity ≡ 1 → ⊥) → get_or (with_ones ps (replicate n infinity)) i 0 ≡ 1 → falls
      says ne e = ⊎_elim x.0 (λ m. absurd (ne (sym (far (λ f. m (x.1 f))) ∙ e))) (among ps)

-- ---- the places of names

module _ (f : List ℕ → ℕ) (i : ℕ) where
  of_some : (ks : List (List ℕ)) → Memᴰ i (map f ks) → (k : List ℕ) × Memᴰ k ks × (f k ≡ i)
  of_some [] m = absurd (Memᴰ.not-nil m)
  of_some (k ∷ ks) m =
      ⊎_elim (λ e. (k, Memᴰ.head refl, sym e))
      (λ t. let r = of_some ks t in (r.0, Memᴰ.tail r.1, r.2))
      (Memᴰ.cases_cons m)

module _ (n b : ℕ) (same : (k : List ℕ) → place_in n k ≡ place_of b k) (i : ℕ) where
  pub falls : (names : List (List ℕ)) → Memᴰ i (own_places n names) → FallsOn b names i
  unfolding own_places
  falls [] m = absurd (Memᴰ.not-nil m)
  falls (x ∷ xs) m =
      ⊎_elim
      (λ t. let r = of_some (place_in n) i (keywords_of x) t in
      (x, Memᴰ.head refl, (r.0, r.1, sym (same r.0) ∙ r.2)))
      (λ t. let r = falls xs t in (r.0, Memᴰ.tail r.1, r.2))
      (Memᴰ.append_cases (places_of n x) m)

  pub marked : (names : List (List ℕ)) (x : List ℕ) → Memᴰ x names
      → (k : List ℕ) → Memᴰ k (keywords_of x) → place_of b k ≡ i → Memᴰ i (own_places n names)
  unfolding own_places
  marked [] x m k mk e = absurd (Memᴰ.not-nil m)
  marked (y ∷ ys) x m k mk e =
      ⊎_elim
      (λ q. Memᴰ.append_left (own_places n ys) (Memᴰ.cast (sym (same k ∙ e)) (Memᴰ.map (place_in n) (rw q at mk))))
      (λ t. Memᴰ.append_right (places_of n y) (marked ys x t k mk e))
      (Memᴰ.cases_cons m)

pub table-exactly : TableExactly
unfolding own_entries
table-exactly n b e l infinity names i h =
    let same : (k : List ℕ) → place_in n k ≡ place_of b k =
    λ k. ap (λ m. scaled m (hash_of k)) e ∙ place-scaled b k l in
    entry_of i (FallsOn b names i) (own_places n names) n infinity h
    (falls n b same i names, λ v. marked n b same i names v.0 v.1 v.2.0 v.2.1 v.2.2)

pub table-long : TableLong
table-long = entries-length

pub within_ones : (infinity : ℕ) → 1 ≤ infinity → (ps es : List ℕ) → all (in_bounds infinity) es ≡ true
    → all (in_bounds infinity) (with_ones ps es) ≡ true
unfolding with_ones
within_ones infinity h [] es e = e
within_ones infinity h (p ∷ ps) es e =
    within_ones infinity h ps (set es p 1)
    (all_set (in_bounds infinity) es p 1 e (and_intro (leb 1 1) (leb 1 infinity) refl (le-leb 1 infinity h)))

pub table-within : TableWithin
unfolding own_entries
table-within n infinity h names =
    within_ones infinity h (own_places n names) (replicate n infinity)
    (all_replicate (in_bounds infinity) n infinity
    (and_intro (leb 1 infinity) (leb infinity infinity) (le-leb 1 infinity h) (le-leb infinity infinity (omega arith))))
