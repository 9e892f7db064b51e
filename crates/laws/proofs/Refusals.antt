-- Choices, tests over lists, and what the first refusal of an ordered list says.
-- Assumes nothing.
use Prim.Native.Nat.{ℕ, zero, suc, ◌<◌}
use native.Mathlib.Omega.{arith}
use mathlib.Core.Path.{◌≡◌, refl, sym, ap, ◌∙◌}
use mathlib.Core.Bool.{Bool, true, false, cond, not, ◌&&◌, ◌||◌}
use mathlib.Core.Logic.{◌⊎◌, inl, inr}
use mathlib.Core.List.{List, [], ◌∷◌, ◌++◌, map}
use lib.Dec.{eqb, leb}
use lib.ListN.{length, get_or, set, take}
use borrow.Author.Tests.{leb-true, eq-eqb, ne_eqb, not-true}
use Rattle.laws.specs.Tests.{first_of, every, any, all}

-- bools
pub clash : {b : Bool} → b ≡ true → b ≡ false → ⊥
clash p q = mathlib.Core.Bool.true≢false (sym p ∙ q)

pub and_fst : (a b : Bool) → (a && b) ≡ true → a ≡ true
and_fst true b e = refl
and_fst false b e = e

pub and_snd : (a b : Bool) → (a && b) ≡ true → b ≡ true
and_snd true b e = e
and_snd false b e = absurd (clash e refl)

pub and_intro : (a b : Bool) → a ≡ true → b ≡ true → (a && b) ≡ true
and_intro a b e f = rw (e, f)

pub or_fst : (a b : Bool) → (a || b) ≡ false → a ≡ false
or_fst true b e = e
or_fst false b e = refl

pub or_snd : (a b : Bool) → (a || b) ≡ false → b ≡ false
or_snd true b e = absurd (clash refl e)
or_snd false b e = e

pub or_split : (a b : Bool) → (a || b) ≡ true → (a ≡ true) ⊎ (b ≡ true)
or_split true b e = inl refl
or_split false b e = inr e

pub or_left : (a b : Bool) → a ≡ true → (a || b) ≡ true
or_left a b e = rw e

pub or_right : (a b : Bool) → b ≡ true → (a || b) ≡ true
or_right true b e = refl
or_right false b e = e

-- a test that is false leaves the other of the two
pub or_rest : (a b : Bool) → (a || b) ≡ true → a ≡ false → b ≡ true
or_rest true b e f = absurd (clash refl f)
or_rest false b e f = e

pub and_rest : (a b : Bool) → (a && not b) ≡ false → a ≡ true → b ≡ true
and_rest true true e f = refl
and_rest true false e f = absurd (clash refl e)
and_rest false b e f = absurd (clash f refl)

-- a choice has what both sides have
module _ {A : Type 0} (P : A → Type 0) where
  pub of_choice : (b : Bool) (x y : A) → (b ≡ true → P x) → (b ≡ false → P y) → P (cond b x y)
  of_choice true x y f g = f refl
  of_choice false x y f g = g refl

-- every test of a list holds
abbrev pub Each : List Bool → Type 0
Each [] = Unit {0}
Each (b ∷ bs) = (b ≡ true) × Each bs

pub each : (bs : List Bool) → every bs ≡ true → Each bs
each [] e = tt
each (b ∷ bs) e = (and_fst b (every bs) e, each bs (and_snd b (every bs) e))

pub every_of : (bs : List Bool) → Each bs → every bs ≡ true
every_of [] h = refl
every_of (b ∷ bs) h = and_intro b (every bs) h.0 (every_of bs h.1)

-- ordered refusals: the answer 0 says that no test held
abbrev pub NoRefusal : List (Bool × ℕ) → Type 0
NoRefusal [] = Unit {0}
NoRefusal (c ∷ cs) = (c.0 ≡ false) × NoRefusal cs

one-refusal : (b : Bool) (n r : ℕ) → 0 < n → cond b n r ≡ 0 → (b ≡ false) × (r ≡ 0)
one-refusal true n r p e = absurd (omega arith)
one-refusal false n r p e = (refl, e)

pub no-refusal : (cs : List (Bool × ℕ)) → all (λ c. leb 1 c.1) cs ≡ true → first_of cs ≡ 0 → NoRefusal cs
no-refusal [] p e = tt
no-refusal (c ∷ cs) p e =
    let here : 0 < c.1 = leb-true 1 c.1 (and_fst (leb 1 c.1) (all (λ c. leb 1 c.1) cs) p) in
    let q : (c.0 ≡ false) × (first_of cs ≡ 0) = one-refusal c.0 c.1 (first_of cs) here e in
    (q.0, no-refusal cs (and_snd (leb 1 c.1) (all (λ c. leb 1 c.1) cs) p) q.1)

pub none-refused : (cs : List (Bool × ℕ)) → NoRefusal cs → first_of cs ≡ 0
none-refused [] h = refl
none-refused (c ∷ cs) h = ap (λ b. cond b c.1 (first_of cs)) h.0 ∙ none-refused cs h.1

-- two lists, one behind the other
pub first_append : (cs ds : List (Bool × ℕ)) → all (λ c. leb 1 c.1) cs ≡ true
    → first_of (cs ++ ds) ≡ cond (eqb (first_of cs) 0) (first_of ds) (first_of cs)
first_append [] ds p = refl
first_append (c ∷ cs) ds p = go (first_append cs ds (and_snd (leb 1 c.1) (all (λ c. leb 1 c.1) cs) p)) c.0
  where
    some : 0 < c.1
    some = leb-true 1 c.1 (and_fst (leb 1 c.1) (all (λ c. leb 1 c.1) cs) p)

    go : first_of (cs ++ ds) ≡ cond (eqb (first_of cs) 0) (first_of ds) (first_of cs) → (b : Bool)
        → cond b c.1 (first_of (cs ++ ds)) ≡ cond (eqb (cond b c.1 (first_of cs)) 0) (first_of ds)
        (cond b c.1 (first_of cs))
    go e true = rw (ne_eqb c.1 0 (λ z. let h : 0 < c.1 = some in omega arith))
    go e false = e

-- what holds of 0 and of each number of the list holds of the answer
pub answer_in : (P : ℕ → Bool) (cs : List (Bool × ℕ)) → P 0 ≡ true → all (λ c. P c.1) cs ≡ true → P (first_of cs)
    ≡ true
answer_in P [] z h = z
answer_in P (c ∷ cs) z h =
    of_choice (λ n. P n ≡ true) c.0 c.1 (first_of cs)
    (λ _. and_fst (P c.1) (all (λ c. P c.1) cs) h)
    (λ _. answer_in P cs z (and_snd (P c.1) (all (λ c. P c.1) cs) h))

-- so a number that the list does not have is not its answer
pub not-answered : (n : ℕ) (cs : List (Bool × ℕ)) → all (λ c. not (eqb c.1 n)) cs ≡ true → eqb 0 n ≡ false
    → first_of cs ≡ n → ⊥
not-answered n cs h z e = clash (eq-eqb (first_of cs) n e) (not-true _ (answer_in (λ k. not (eqb k n)) cs (ap not z) h))

-- where the answer is not 0, what holds of each number is enough
pub refusal_in : (P : ℕ → Bool) (cs : List (Bool × ℕ)) → all (λ c. P c.1) cs ≡ true → (first_of cs ≡ 0 → ⊥)
    → P (first_of cs) ≡ true
refusal_in P [] h n = absurd (n refl)
refusal_in P (c ∷ cs) h n =
    of_choice (λ k. (k ≡ 0 → ⊥) → P k ≡ true) c.0 c.1 (first_of cs)
    (λ _ _. and_fst (P c.1) (all (λ c. P c.1) cs) h)
    (λ _ k. refusal_in P cs (and_snd (P c.1) (all (λ c. P c.1) cs) h) k)
    n

-- tests over lists
module _ {A : Type 0} (f : A → Bool) where
  pub all_get_d : (xs : List A) (i : ℕ) (d : A) → all f xs ≡ true → i < length xs → f (get_or xs i d) ≡ true
  all_get_d [] i d h l = absurd (omega arith)
  all_get_d (x ∷ xs) zero d h l = and_fst (f x) (all f xs) h
  all_get_d (x ∷ xs) (suc i) d h l = all_get_d xs i d (and_snd (f x) (all f xs) h) (omega arith)

  -- at any index, where the test holds of what is read past the end
  pub get_d_any : (xs : List A) (i : ℕ) (d : A) → all f xs ≡ true → f d ≡ true → f (get_or xs i d) ≡ true
  get_d_any [] i d h e = e
  get_d_any (x ∷ xs) zero d h e = and_fst (f x) (all f xs) h
  get_d_any (x ∷ xs) (suc i) d h e = get_d_any xs i d (and_snd (f x) (all f xs) h) e

  pub all_of : ((x : A) → f x ≡ true) → (xs : List A) → all f xs ≡ true
  all_of h [] = refl
  all_of h (x ∷ xs) = and_intro (f x) (all f xs) (h x) (all_of h xs)

  pub all_append : (xs ys : List A) → all f xs ≡ true → all f ys ≡ true → all f (xs ++ ys) ≡ true
  all_append [] ys a b = b
  all_append (x ∷ xs) ys a b =
      and_intro (f x) (all f (xs ++ ys)) (and_fst (f x) (all f xs) a) (all_append xs ys (and_snd (f x) (all f xs) a) b)

  pub all_set : (xs : List A) (i : ℕ) (x : A) → all f xs ≡ true → f x ≡ true → all f (set xs i x) ≡ true
  all_set [] i x h e = refl
  all_set (y ∷ ys) zero x h e = and_intro (f x) (all f ys) e (and_snd (f y) (all f ys) h)
  all_set (y ∷ ys) (suc i) x h e = and_intro (f y) (all f (set ys i x)) (and_fst (f y) (all f ys) h)
      (all_set ys i x (and_snd (f y) (all f ys) h) e)

  pub all_take : (n : ℕ) (xs : List A) → all f xs ≡ true → all f (take n xs) ≡ true
  all_take zero xs h = refl
  all_take (suc n) [] h = refl
  all_take (suc n) (x ∷ xs) h = and_intro (f x) (all f (take n xs)) (and_fst (f x) (all f xs) h)
      (all_take n xs (and_snd (f x) (all f xs) h))

  pub any-take : (n : ℕ) (xs : List A) → any f xs ≡ false → any f (take n xs) ≡ false
  any-take zero xs h = refl
  any-take (suc n) [] h = refl
  any-take (suc n) (x ∷ xs) h = rw (or_fst (f x) (any f xs) h) (any-take n xs (or_snd (f x) (any f xs) h))

  pub all_weaken : (g : A → Bool) (xs : List A) → ((x : A) → f x ≡ true → g x ≡ true) → all f xs ≡ true → all g xs
      ≡ true
  all_weaken g [] h e = refl
  all_weaken g (x ∷ xs) h e = and_intro (g x) (all g xs) (h x (and_fst (f x) (all f xs) e))
      (all_weaken g xs h (and_snd (f x) (all f xs) e))

pub all_map : {A B : Type 0} (f : A → B) (g : B → Bool) (xs : List A) → all g (map f xs) ≡ all (λ x. g (f x)) xs
all_map f g [] = refl
all_map f g (x ∷ xs) = ap (λ c. g (f x) && c) (all_map f g xs)
