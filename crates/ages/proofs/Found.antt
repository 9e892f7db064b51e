-- What a look-up finds: exactly the query that stands at this place of the newest-first list, where no number stands
-- twice; and fewer queries are newer than the ring has places.
-- Assumes nothing.
use Prim.Native.Nat.{ℕ, suc, ◌<◌}
use native.Mathlib.Omega.{arith}
use mathlib.Core.Path.{◌≡◌, refl, sym, ap, ◌∙◌}
use mathlib.Core.Bool.{Bool, true, false, not}
use mathlib.Core.List.{List, [], ◌∷◌, ◌++◌}
use lib.ListN.{length, take, drop}
use lib.Seq.{length-take-le, split_at}
use borrow.Author.Tests.{not-true}
use Rattle.laws.specs.Tests.{any}
use Rattle.laws.proofs.Refusals.{clash, and_fst, and_snd, or_fst, or_snd}
use Rattle.laws.proofs.Words.{refuted}
use Rattle.protocol.specs.Memory.{Number, Query, same_number, Found, Absent, At, after_of}
use Rattle.protocol.specs.Memory.{find, no_twice}
use Rattle.protocol.specs.State.{Station, looked_up, remembered}
use Rattle.protocol.proofs.Places.{none, found-index}
use Rattle.protocol.proofs.Memory.{same_number_lem, number_itself}
use Rattle.protocol.proofs.Origins.{remembered-length}
use Rattle.ages.specs.LookUp.{RememberedAt}

-- fewer than 512 were remembered after one that is found; where none is, 0 stands there
pub after-below : (s : Station) (x : Number) → (looked_up s x).after < 512
after-below s x = by (find (remembered s) x) refl
  where
    by : (f : Found) → find (remembered s) x ≡ f → after_of f < 512
    by Absent e = omega arith
    by (At n a h) e =
        let r = found-index (remembered s) x a h n e in
        omega (arith, r.0, remembered-length s)

-- what is found stands there
pub found-stands : (s : Station) (x : Number) (n a h : ℕ) → find (remembered s) x ≡ At n a h → RememberedAt s x n a
found-stands s x n a h e =
    let qs : List Query = remembered s in
    let r = found-index qs x a h n e in
    record {
      newer = take n qs;
      older = drop (suc n) qs;
      hits = h;
      split = split_at qs n none r.0 ∙ ap (λ q. take n qs ++ (q ∷ drop (suc n) qs)) r.1;
      count = length-take-le n qs (omega (arith, r.0));
    }

-- where a number is not the same as another, that one is not either
other_way : (x y : Number) → same_number x y ≡ false → same_number y x ≡ false
other_way x y e =
    refuted (same_number y x) (λ z. clash (ap (λ (n : Number). same_number x n) (same_number_lem y x z) ∙ number_itself x) e)

-- a test that holds of none of two lists with one between holds not of that one
between : {A : Type 0} (f : A → Bool) (xs : List A) (y : A) (ys : List A) → any f (xs ++ (y ∷ ys)) ≡ false → f y ≡ false
between f [] y ys e = or_fst (f y) (any f ys) e
between f (x ∷ xs) y ys e = between f xs y ys (or_snd (f x) (any f (xs ++ (y ∷ ys))) e)

-- what stands there is found, where no number stands twice
stands-find : (x : Number) (a k : ℕ) (newer older : List Query)
    → no_twice (newer ++ (record { number = x; asker = a; hits = k } ∷ older)) ≡ true
    → find (newer ++ (record { number = x; asker = a; hits = k } ∷ older)) x ≡ At (length newer) a k
unfolding find no_twice
stands-find x a k [] older h = rw (number_itself x)
stands-find x a k (q ∷ newer) older h =
    let rest : List Query = newer ++ (record { number = x; asker = a; hits = k } ∷ older) in
    let same : Query → Bool = λ p. same_number p.number q.number in
    let fresh : any same rest ≡ false = not-true (any same rest) (and_fst (not (any same rest)) (no_twice rest) h) in
    let found : find rest x ≡ At (length newer) a k
    = stands-find x a k newer older (and_snd (not (any same rest)) (no_twice rest) h) in
    rw (other_way x q.number (between same newer _ older fresh), found)

pub stands-found : (s : Station) (x : Number) (n a : ℕ) → no_twice (remembered s) ≡ true → (t : RememberedAt s x n a)
    → find (remembered s) x ≡ At n a t.hits
stands-found s x n a h t =
    ap (λ qs. find qs x) t.split
    ∙ stands-find x a t.hits t.newer t.older (ap no_twice (sym t.split) ∙ h)
    ∙ ap (λ k. At k a t.hits) t.count
