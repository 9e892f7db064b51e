-- The results that are chosen: those of the places that the search tells, and none exactly if no name matches.
use Prim.Native.Nat.{ℕ, zero, suc, ◌+◌, ◌*◌, ◌≤◌, ◌<◌}
use mathlib.Core.Path.{◌≡◌, refl, ap, ap₂, ◌∙◌}
use mathlib.Core.Bool.{Bool, true, false, cond, ◌||◌}
use mathlib.Core.List.{List, ◌∷◌, map}
use native.Mathlib.Omega.{arith}
use lib.ListN.{length, get_or, drop}
use lib.Seq.{drop-drop}
use borrow.Author.Tests.{le-leb, lt-ltb}
use Rattle.laws.specs.Tests.{any}
use Rattle.laws.specs.Numbers.{counting}
use Rattle.namearea.specs.Area.{count_in, spans_from, name_of, name_at, names_in}
use Rattle.namearea.specs.Good.{good_list}
use Rattle.namearea.proofs.GoodLaws.{listed, named-at}
use Rattle.namearea.proofs.Words.{fine_iff}
use Rattle.hits.specs.Results.{HitResult, result_bytes}
use Rattle.hits.proofs.WriteLaws.{result-long}
use Rattle.matching.specs.Matching.{matches, matching_places}
use Rattle.matching.proofs.MatchLaws.{places-at}
use Rattle.answering.specs.Writing.{result_at, picked_results, fitting, chosen}
use Rattle.answerer.specs.Filling.{filling_of}

-- picked by tests that agree at these places
pub picked_same : (f g : ℕ → Bool) (result : ℕ → HitResult) (n from : ℕ)
    → ((i : ℕ) → from ≤ i → i < from + n → f i ≡ g i)
    → picked_results f result (counting n from) ≡ picked_results g result (counting n from)
unfolding picked_results
picked_same f g result zero from h = refl
picked_same f g result (suc n) from h =
    ap₂ (λ b rs. cond b (result from ∷ rs) rs) (h from (omega arith) (omega arith))
    (picked_same f g result n (suc from) (λ i low high. h i (omega arith) (omega arith)))

-- where each of them fits alone, some fit exactly if some is picked
module _ (f : ℕ → Bool) (result : ℕ → HitResult) (k room : ℕ) where
  abbrev fit : ℕ → ℕ → List HitResult
  fit n from = fitting (suc k) room (picked_results f result (counting n from))

  pub none-picked : (n from : ℕ) → ((i : ℕ) → from ≤ i → i < from + n → length (result_bytes (result i)) ≤ room)
      → length (fit n from) ≡ 0 → any f (counting n from) ≡ false
  unfolding picked_results fitting
  none-picked zero from h e = refl
  none-picked (suc n) from h e =
      by (none-picked n (suc from) (λ i low high. h i (omega arith) (omega arith))) (f from) refl
    where
      by : (length (fit n (suc from)) ≡ 0 → any f (counting n (suc from)) ≡ false) → (b : Bool) → f from ≡ b
          → any f (counting (suc n) from) ≡ false
      by more true q =
          let fits = le-leb (length (result_bytes (result from))) room (h from (omega arith) (omega arith)) in
          absurd (omega (arith, rw (q, fits) at e))
      by more false q = rw q (more (rw q at e))

  pub some-picked : (n from : ℕ) → (length (fit n from) ≡ 0 → ⊥) → any f (counting n from) ≡ true
  unfolding picked_results fitting
  some-picked zero from h = absurd (h refl)
  some-picked (suc n) from h = by (some-picked n (suc from)) (f from) refl
    where
      by : ((length (fit n (suc from)) ≡ 0 → ⊥) → any f (counting n (suc from)) ≡ true) → (b : Bool) → f from ≡ b
          → any f (counting (suc n) from) ≡ true
      by more true q = rw q
      by more false q = rw q (more (λ z. h (rw q z)))

-- a test of the names is one of the places
pub any-names : (g : List ℕ → Bool) (a : List ℕ)
    → any g (names_in a) ≡ any (λ i. g (name_at a i)) (counting (count_in a) 0)
unfolding spans_from
any-names g a = go (count_in a) 0
  where
    go : (n i : ℕ) → any g (map (name_of a) (spans_from n (drop (4 + 8 * i) a)))
        ≡ any (λ j. g (name_at a j)) (counting n i)
    go zero i = refl
    go (suc n) i =
        let e : 4 + 8 * i + 8 ≡ 4 + 8 * suc i = omega arith in
        ap (λ b. g (name_at a i) || b)
        (ap (λ d. any g (map (name_of a) (spans_from n d))) (drop-drop 8 (4 + 8 * i) a ∙ ap (λ m. drop m a) e)
        ∙ go n (suc i))

-- those of a good list's names for a text
module _ (text a sizes : List ℕ) (good : good_list a ≡ true) where
  small : (i : ℕ) → i < count_in a → length (result_bytes (result_at a sizes i)) ≤ 4069
  small i h =
      let fine = (fine_iff (name_at a i)).0 (named-at a (listed a good).named i h) in
      omega (arith, result-long i (get_or sizes i 0) (name_at a i), fine.short)

  pub none-chosen : length (chosen text a sizes) ≡ 0 → any (matches text) (names_in a) ≡ false
  unfolding chosen
  none-chosen e =
      any-names (matches text) a
      ∙ none-picked (λ i. matches text (name_at a i)) (result_at a sizes) 254 4069 (count_in a) 0
      (λ i low high. small i (omega arith)) e

  pub some-chosen : (length (chosen text a sizes) ≡ 0 → ⊥) → any (matches text) (names_in a) ≡ true
  unfolding chosen
  some-chosen h =
      any-names (matches text) a
      ∙ some-picked (λ i. matches text (name_at a i)) (result_at a sizes) 254 4069 (count_in a) 0 h

  -- the places that the search tells are those of the names that match
  pub found-chosen : length text ≤ 4096 → filling_of (matching_places text a) a sizes 4069 ≡ chosen text a sizes
  unfolding chosen filling_of
  found-chosen short =
      ap (fitting 255 4069)
      (picked_same (λ i. get_or (matching_places text a) i false) (λ i. matches text (name_at a i)) (result_at a sizes)
      (count_in a) 0
      (λ i low high. let h : i < count_in a = omega arith in
      let m : i < 512 = omega (arith, (listed a good).few) in
      places-at text a i m ∙ rw (le-leb (length text) 4096 short, lt-ltb i (count_in a) h)))
