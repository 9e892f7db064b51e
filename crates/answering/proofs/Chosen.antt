-- The names that are chosen: of all places whose names match, in rising order, the longest beginning that fits.
use Prim.Native.Nat.{ℕ, zero, suc, ◌+◌, ◌-◌, ◌≤◌, ◌<◌}
use mathlib.Core.Path.{◌≡◌, refl, sym, ap, subst, ◌∙◌}
use mathlib.Core.Bool.{Bool, true, false, cond}
use mathlib.Core.Logic.{◌↔◌, ◌⊎◌, inl, inr, ⊎_elim}
use mathlib.Core.List.{List, [], ◌∷◌, map}
use mathlib.Core.List.Memᴰ
use mathlib.Core.List.{Memᴰ}
use native.Mathlib.Omega.{arith}
use lib.Dec.{eqb, leb}
use lib.ListN.{length, get_or, take, length-append, length-map}
use borrow.Author.Tests.{leb-true, leb-false, eqb-true, eqb-false}
use Rattle.laws.specs.Numbers.{counting}
use Rattle.laws.proofs.Refusals.{clash}
use Rattle.namearea.specs.Area.{count_in, name_at}
use Rattle.hits.specs.Results.{HitResult, result_bytes, results_bytes}
use Rattle.hits.proofs.ResultLaws.{result-length}
use Rattle.matching.specs.Matching.{matches}
use Rattle.matching.specs.Words.{HasEvery}
use Rattle.matching.proofs.Words.{matches-exactly}
use Rattle.answering.specs.Writing.{result_at, picked_results, candidates, fitting, chosen}
use Rattle.answering.specs.Words.{Rising, bytes_for, TellOf, ChosenLongest}

-- ---- results that fit

-- some results are the longest beginning of others that has n at most and fits so many bytes
pub record FitsIn (n room : ℕ) (rs taken : List HitResult) : Type 0 where
  pub front : taken ≡ take (length taken) rs
  pub few : length taken ≤ n
  pub some : length taken ≤ length rs
  pub fits : length (results_bytes taken) ≤ room
  pub longest : (m : ℕ) → length taken < m → m ≤ length rs
      → (n < m) ⊎ (room < length (results_bytes (take m rs)))

-- one more in front, where it fits
fits_more : (n room : ℕ) (r : HitResult) (rs taken : List HitResult) → length (result_bytes r) ≤ room
    → FitsIn n (room - length (result_bytes r)) rs taken → FitsIn (suc n) room (r ∷ rs) (r ∷ taken)
unfolding results_bytes
fits_more n room r rs taken h f =
    record {
      front = ap (λ (l : List HitResult). r ∷ l) f.front;
      few = omega (arith, f.few);
      some = omega (arith, f.some);
      fits = omega (arith, f.fits, length-append (result_bytes r) (results_bytes taken));
      longest = longer;
    }
  where
    longer : (m : ℕ) → suc (length taken) < m → m ≤ suc (length rs)
        → (suc n < m) ⊎ (room < length (results_bytes (take m (r ∷ rs))))
    longer zero a b = absurd (omega arith)
    longer (suc m) a b =
        ⊎_elim (λ g. inl (omega arith))
        (λ g. inr (omega (arith, length-append (result_bytes r) (results_bytes (take m rs)))))
        (f.longest m (omega arith) (omega arith))

-- none, where the first does not
fits-none : (n room : ℕ) (r : HitResult) (rs : List HitResult) → room < length (result_bytes r)
    → FitsIn (suc n) room (r ∷ rs) []
unfolding results_bytes
fits-none n room r rs h =
    record { front = refl; few = omega arith; some = omega arith; fits = omega arith; longest = longer }
  where
    longer : (m : ℕ) → 0 < m → m ≤ suc (length rs)
        → (suc n < m) ⊎ (room < length (results_bytes (take m (r ∷ rs))))
    longer zero a b = absurd (omega arith)
    longer (suc m) a b = inr (omega (arith, length-append (result_bytes r) (results_bytes (take m rs))))

pub fitting-fits : (n room : ℕ) (rs : List HitResult) → FitsIn n room rs (fitting n room rs)
unfolding fitting results_bytes
fitting-fits zero room rs =
    record {
      front = refl;
      few = omega arith;
      some = omega arith;
      fits = omega arith;
      longest = λ m a b. inl a;
    }
fitting-fits (suc n) room [] =
    record {
      front = refl;
      few = omega arith;
      some = omega arith;
      fits = omega arith;
      longest = λ m a b. absurd (omega arith);
    }
fitting-fits (suc n) room (r ∷ rs) =
    by (leb (length (result_bytes r)) room) refl (fitting-fits n (room - length (result_bytes r)) rs)
  where
    by : (t : Bool) → leb (length (result_bytes r)) room ≡ t
        → FitsIn n (room - length (result_bytes r)) rs (fitting n (room - length (result_bytes r)) rs)
        → FitsIn (suc n) room (r ∷ rs) (cond t (r ∷ fitting n (room - length (result_bytes r)) rs) [])
    by true q f = fits_more n room r rs _ (leb-true (length (result_bytes r)) room q) f
    by false q f = fits-none n room r rs (leb-false (length (result_bytes r)) room q)

-- ---- places that are picked

-- a number in front of others, where it is picked
abbrev pub with_first : Bool → ℕ → List ℕ → List ℕ
with_first t i is = cond t (i ∷ is) is

unfoldable pub picked_of : (ℕ → Bool) → List ℕ → List ℕ
picked_of f [] = []
picked_of f (i ∷ is) = with_first (f i) i (picked_of f is)

module _ (f : ℕ → Bool) where
  pub picked-results : (result : ℕ → HitResult) (is : List ℕ)
      → picked_results f result is ≡ map result (picked_of f is)
  unfolding picked_results picked_of
  picked-results result [] = refl
  picked-results result (i ∷ is) = by (f i) (picked-results result is)
    where
      by : (t : Bool) → picked_results f result is ≡ map result (picked_of f is)
          → cond t (result i ∷ picked_results f result is) (picked_results f result is)
          ≡ map result (with_first t i (picked_of f is))
      by true e = ap (λ (l : List HitResult). result i ∷ l) e
      by false e = e

  -- of the numbers from `from` on those behind the first
  abbrev behind : ℕ → ℕ → List ℕ
  behind n from = picked_of f (counting n (suc from))

  -- none of them is before the first number
  low : (n from k : ℕ) → k < length (picked_of f (counting n from)) → from ≤ get_or (picked_of f (counting n from)) k 0
  unfolding picked_of
  low zero from k h = absurd (omega arith)
  low (suc n) from k h = by (f from) k h (low n (suc from))
    where
      by : (t : Bool) (k : ℕ) → k < length (with_first t from (behind n from))
          → ((k : ℕ) → k < length (behind n from) → suc from ≤ get_or (behind n from) k 0)
          → from ≤ get_or (with_first t from (behind n from)) k 0
      by true zero h g = omega arith
      by true (suc k) h g = omega (arith, g k (omega arith))
      by false k h g = omega (arith, g k h)

  pub rising : (n from : ℕ) → Rising (picked_of f (counting n from))
  unfolding picked_of
  rising zero from k j a b = absurd (omega arith)
  rising (suc n) from k j a b = by (f from) k j a b (rising n (suc from)) (low n (suc from))
    where
      by : (t : Bool) (k j : ℕ) → k < j → j < length (with_first t from (behind n from)) → Rising (behind n from)
          → ((k : ℕ) → k < length (behind n from) → suc from ≤ get_or (behind n from) k 0)
          → get_or (with_first t from (behind n from)) k 0 < get_or (with_first t from (behind n from)) j 0
      by true k zero a b r l = absurd (omega arith)
      by true zero (suc j) a b r l = l j (omega arith)
      by true (suc k) (suc j) a b r l = r k j (omega arith) (omega arith)
      by false k j a b r l = r k j a b

  -- a number is among them exactly if it is one of those and is picked
  pub picked-there : (i n from : ℕ) → Memᴰ i (picked_of f (counting n from))
      → (from ≤ i) × ((i < from + n) × (f i ≡ true))
  unfolding picked_of
  picked-there i zero from m = absurd (Memᴰ.not-nil m)
  picked-there i (suc n) from m = by (f from) refl m (picked-there i n (suc from))
    where
      by : (t : Bool) → f from ≡ t → Memᴰ i (with_first t from (behind n from))
          → (Memᴰ i (behind n from) → (suc from ≤ i) × ((i < suc from + n) × (f i ≡ true)))
          → (from ≤ i) × ((i < from + suc n) × (f i ≡ true))
      by true q m g =
          ⊎_elim (λ e. (omega arith, (omega arith, ap f e ∙ q)))
          (λ l. let v = g l in (omega (arith, v.0), (omega (arith, v.1.0), v.1.1)))
          (Memᴰ.cases_cons m)
      by false q m g = let v = g m in (omega (arith, v.0), (omega (arith, v.1.0), v.1.1))

  pub picked-here : (i n from : ℕ) → from ≤ i → i < from + n → f i ≡ true
      → Memᴰ i (picked_of f (counting n from))
  unfolding picked_of
  picked-here i zero from a b e = absurd (omega arith)
  picked-here i (suc n) from a b e = by (f from) refl (eqb i from) refl (picked-here i n (suc from))
    where
      by : (t : Bool) → f from ≡ t → (s : Bool) → eqb i from ≡ s
          → (suc from ≤ i → i < suc from + n → f i ≡ true → Memᴰ i (behind n from))
          → Memᴰ i (with_first t from (behind n from))
      by true p true q g = Memᴰ.head (eqb-true i from q)
      by true p false q g = let o = eqb-false i from q in Memᴰ.tail (g (omega arith) (omega arith) e)
      by false p true q g = absurd (clash e (ap f (eqb-true i from q) ∙ p))
      by false p false q g = let o = eqb-false i from q in g (omega arith) (omega arith) e

-- ---- the names of a list that match a text

take-map : (f : ℕ → HitResult) (n : ℕ) (is : List ℕ) → take n (map f is) ≡ map f (take n is)
take-map f zero is = refl
take-map f (suc n) [] = refl
take-map f (suc n) (i ∷ is) = ap (λ (l : List HitResult). f i ∷ l) (take-map f n is)

abbrev pub match_at : List ℕ → List ℕ → ℕ → Bool
match_at text a i = matches text (name_at a i)

abbrev pub places_in : List ℕ → List ℕ → List ℕ
places_in text a = picked_of (match_at text a) (counting (count_in a) 0)

module _ (text a sizes : List ℕ) where
  abbrev places : List ℕ
  places = places_in text a

  pub candidates-are : candidates text a sizes ≡ map (result_at a sizes) places
  candidates-are = picked-results (match_at text a) (result_at a sizes) (counting (count_in a) 0)

  pub chosen-fits : FitsIn 255 4069 (candidates text a sizes) (chosen text a sizes)
  unfolding chosen
  chosen-fits = fitting-fits 255 4069 (candidates text a sizes)

  pub bytes-are : (is : List ℕ) → length (results_bytes (map (result_at a sizes) is)) ≡ bytes_for a is
  unfolding results_bytes
  bytes-are [] = refl
  bytes-are (i ∷ is) =
      omega (
        arith,
        length-append (result_bytes (result_at a sizes i)) (results_bytes (map (result_at a sizes) is)),
        result-length (result_at a sizes i),
        bytes-are is,
      )

  tell : (is : List ℕ) → TellOf a sizes is (map (result_at a sizes) is)
  tell [] = tt
  tell (i ∷ is) = (record { index = refl; size = refl; name = refl; extension = refl }, tell is)

  -- the first m of them, and their bytes
  first-are : (m : ℕ) → take m (candidates text a sizes) ≡ map (result_at a sizes) (take m places)
  first-are m = ap (take m) candidates-are ∙ take-map (result_at a sizes) m places

  first-bytes : (m : ℕ) → length (results_bytes (take m (candidates text a sizes))) ≡ bytes_for a (take m places)
  first-bytes m = ap (λ l. length (results_bytes l)) (first-are m) ∙ bytes-are (take m places)

  long : length (candidates text a sizes) ≡ length places
  long = ap length candidates-are ∙ length-map places (result_at a sizes)

pub chosen-longest : ChosenLongest
chosen-longest text a sizes =
    let f = chosen-fits text a sizes in
    let n : ℕ = length (chosen text a sizes) in
    let is : chosen text a sizes ≡ map (result_at a sizes) (take n (places_in text a)) =
    f.front ∙ first-are text a sizes n in
    record {
      places = places_in text a;
      rising = rising (match_at text a) (count_in a) 0;
      exactly = among;
      n = n;
      some = omega (arith, f.some, long text a sizes);
      tell =
          subst (λ l. TellOf a sizes (take n (places_in text a)) l) (sym is)
          (tell text a sizes (take n (places_in text a)));
      few = f.few;
      fits = omega (arith, f.fits, ap (λ l. length (results_bytes l)) f.front, first-bytes text a sizes n);
      longest = λ m g h.
          ⊎_elim inl (λ v. inr (omega (arith, first-bytes text a sizes m)))
          (f.longest m g (omega (arith, long text a sizes)));
    }
  where
    among : (i : ℕ) → Memᴰ i (places_in text a) ↔ ((i < count_in a) × HasEvery text (name_at a i))
    among i = (
      (λ m. let v = picked-there (match_at text a) i (count_in a) 0 m in
          (omega (arith, v.1.0), (matches-exactly text (name_at a i)).0 v.1.1)),
      (λ v. picked-here (match_at text a) i (count_in a) 0 (omega arith) (omega (arith, v.0))
          ((matches-exactly text (name_at a i)).1 v.1)),
    )
