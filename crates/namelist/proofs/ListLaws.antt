-- Lists with one element more at the end and lists without the element at a place: their elements, and the tests that
-- hold of them.
use Prim.Native.Nat.{ℕ, zero, suc, ◌+◌, ◌-◌, ◌≤◌, ◌<◌}
use mathlib.Core.Path.{◌≡◌, refl, sym, ap, ◌∙◌}
use mathlib.Core.Bool.{Bool, true, false, cond, not}
use mathlib.Core.Logic.{◌⊎◌, inl, inr, ⊎_elim}
use mathlib.Core.List.{List, [], ◌∷◌, ◌++◌}
use native.Mathlib.Omega.{arith}
use native.Mathlib.Decide.{dec_lt}
use native.Mathlib.Numerals.{add-one}
use lib.Dec.{ltb}
use lib.ListN.{length, get_or, take, drop, length-append, length-take, length-drop, get_or-append}
use lib.Seq.{drop-drop, length-take-le, get_or-take, get_or-drop, get_or-append-add, ext_get_or}
use borrow.Author.Tests.{ltb-true, ltb-false}
use Rattle.laws.specs.Tests.{all}
use Rattle.laws.proofs.Refusals.{and_fst, and_snd, and_intro, or_fst, or_snd, all_append}
use Rattle.namearea.specs.declared.Span.{Span}
use Rattle.namearea.specs.Area.{text_from, count_in, name_of, name_at, names_in}
use Rattle.namearea.specs.Good.{same_text, differ, pairwise}
use Rattle.namearea.specs.Calls.{is_listed}
use Rattle.namearea.proofs.GoodLaws.{same-swap, names-length, names_at}

-- below n + 1: below n, or n
pub last_or : (i n : ℕ) → i < n + 1 → (i < n) ⊎ (i ≡ n)
last_or i n h = go (dec_lt i n)
  where
    go : Dec (i < n) → (i < n) ⊎ (i ≡ n)
    go (yes g) = inl g
    go (no g) = inr (omega arith)

-- which place an element had before the one at p was taken out
unfoldable pub was : ℕ → ℕ → ℕ
was p i = cond (ltb i p) i (i + 1)

pub was-is : (p i : ℕ) → ((i < p) × (was p i ≡ i)) ⊎ ((p ≤ i) × (was p i ≡ i + 1))
unfolding was
was-is p i = go (ltb i p) refl
  where
    go : (b : Bool) → ltb i p ≡ b → ((i < p) × (was p i ≡ i)) ⊎ ((p ≤ i) × (was p i ≡ i + 1))
    go true e = inl (ltb-true i p e, rw e)
    go false e = inr (ltb-false i p e, rw e)

pub was-less : (p i n : ℕ) → i < n - 1 → was p i < n
was-less p i n h = ⊎_elim (λ q. omega arith) (λ q. omega arith) (was-is p i)

pub was-order : (p i k : ℕ) → i < k → was p i < was p k
was-order p i k h =
    ⊎_elim (λ q. ⊎_elim (λ r. omega arith) (λ r. omega arith) (was-is p k))
    (λ q. ⊎_elim (λ r. omega arith) (λ r. omega arith) (was-is p k)) (was-is p i)

-- what a pair of the text tells of depends on the text alone
pub same_name : (a b : List ℕ) (s : Span) → drop text_from b ≡ drop text_from a → text_from ≤ s.offset
    → name_of b s ≡ name_of a s
same_name a b s e h =
    let k : text_from + (s.offset - text_from) ≡ s.offset = omega arith in
    ap (λ n. take s.size (drop n b)) (sym k)
    ∙ ap (take s.size) (sym (drop-drop (s.offset - text_from) text_from b)
    ∙ ap (drop (s.offset - text_from)) e
    ∙ drop-drop (s.offset - text_from) text_from a)
    ∙ ap (λ n. take s.size (drop n a)) k

-- names are these where they are as many and each stands at its place
pub names-are : (a : List ℕ) (names : List (List ℕ)) → count_in a ≡ length names
    → ((i : ℕ) → i < count_in a → name_at a i ≡ get_or names i [])
    → names_in a ≡ names
names-are a names e h =
    ext_get_or [] (names_in a) names (names-length (count_in a) a ∙ e) (λ i l.
    let g : i < count_in a = rw names-length at l in names_at (count_in a) a i g ∙ h i g)

module _ {A : Type 0} where
  -- one element more
  pub snoc_pairwise : (f : A → A → Bool) (xs : List A) (x : A) → pairwise f xs ≡ true → all (λ y. f y x) xs ≡ true
      → pairwise f (xs ++ (x ∷ [])) ≡ true
  unfolding pairwise
  snoc_pairwise f [] x e h = refl
  snoc_pairwise f (y ∷ ys) x e h =
      and_intro (all (f y) (ys ++ (x ∷ []))) (pairwise f (ys ++ (x ∷ [])))
      (all_append (f y) ys (x ∷ []) (and_fst (all (f y) ys) (pairwise f ys) e)
      (and_intro (f y x) true (and_fst (f y x) (all (λ z. f z x) ys) h) refl))
      (snoc_pairwise f ys x (and_snd (all (f y) ys) (pairwise f ys) e) (and_snd (f y x) (all (λ z. f z x) ys) h))

  -- one element less
  abbrev pub less : ℕ → List A → List A
  less p xs = take p xs ++ drop (p + 1) xs

  all-less : (f : A → Bool) (p : ℕ) (xs : List A) → all f xs ≡ true → all f (take p xs ++ drop (suc p) xs) ≡ true
  all-less f zero [] e = refl
  all-less f (suc p) [] e = refl
  all-less f zero (x ∷ xs) e = and_snd (f x) (all f xs) e
  all-less f (suc p) (x ∷ xs) e =
      and_intro (f x) (all f (take p xs ++ drop (suc p) xs)) (and_fst (f x) (all f xs) e)
      (all-less f p xs (and_snd (f x) (all f xs) e))

  pairwise-less : (f : A → A → Bool) (p : ℕ) (xs : List A) → pairwise f xs ≡ true
      → pairwise f (take p xs ++ drop (suc p) xs) ≡ true
  unfolding pairwise
  pairwise-less f zero [] e = refl
  pairwise-less f (suc p) [] e = refl
  pairwise-less f zero (x ∷ xs) e = and_snd (all (f x) xs) (pairwise f xs) e
  pairwise-less f (suc p) (x ∷ xs) e =
      and_intro (all (f x) (take p xs ++ drop (suc p) xs)) (pairwise f (take p xs ++ drop (suc p) xs))
      (all-less (f x) p xs (and_fst (all (f x) xs) (pairwise f xs) e))
      (pairwise-less f p xs (and_snd (all (f x) xs) (pairwise f xs) e))

  pub less-all : (f : A → Bool) (p : ℕ) (xs : List A) → all f xs ≡ true → all f (less p xs) ≡ true
  less-all f p xs e = rw (add-one p) (all-less f p xs e)

  pub less-pairwise : (f : A → A → Bool) (p : ℕ) (xs : List A) → pairwise f xs ≡ true → pairwise f (less p xs) ≡ true
  less-pairwise f p xs e = rw (add-one p) (pairwise-less f p xs e)

  pub less-length : (p : ℕ) (xs : List A) → p < length xs → length (less p xs) ≡ length xs - 1
  less-length p xs h = simp (length-append, length-take, length-drop) (omega arith)

  pub less-at : (p : ℕ) (xs : List A) (i : ℕ) (d : A) → p < length xs → get_or (less p xs) i d ≡ get_or xs (was p i) d
  less-at p xs i d h = ⊎_elim before behind (was-is p i)
    where
      m : length (take p xs) ≡ p
      m = length-take-le p xs (omega arith)

      before : (i < p) × (was p i ≡ i) → get_or (less p xs) i d ≡ get_or xs (was p i) d
      before q =
          get_or-append (take p xs) (drop (p + 1) xs) d i (rw m q.0)
          ∙ get_or-take p xs i d q.0
          ∙ ap (λ j. get_or xs j d) (sym q.1)

      behind : (p ≤ i) × (was p i ≡ i + 1) → get_or (less p xs) i d ≡ get_or xs (was p i) d
      behind q =
          let k : length (take p xs) + (i - p) ≡ i = rw m (omega arith) in
          let n : p + 1 + (i - p) ≡ was p i = omega arith in
          ap (λ j. get_or (less p xs) j d) (sym k)
          ∙ get_or-append-add (take p xs) (drop (p + 1) xs) (i - p) d
          ∙ get_or-drop (p + 1) xs (i - p) d
          ∙ ap (λ j. get_or xs j d) n

-- a name that is not listed differs from each that is
pub unlisted_differs : (x : List ℕ) (names : List (List ℕ)) → is_listed x names ≡ false
    → all (λ y. differ y x) names ≡ true
unlisted_differs x [] e = refl
unlisted_differs x (y ∷ ys) e =
    and_intro (differ y x) (all (λ z. differ z x) ys)
    (ap not (sym (same-swap x y) ∙ or_fst (same_text x y) (is_listed x ys) e))
    (unlisted_differs x ys (or_snd (same_text x y) (is_listed x ys) e))
