-- A query that is among the remembered ones is the one that a look-up of its number finds, where no number stands
-- twice.
-- Assumes nothing.
use Prim.Native.Nat.{ℕ, zero, suc, ◌<◌}
use native.Mathlib.Omega.{arith}
use mathlib.Core.Path.{◌≡◌, refl, ap, subst, ◌∙◌}
use mathlib.Core.Bool.{Bool, true, false, not}
use mathlib.Core.Logic.{inl, inr}
use mathlib.Core.List.{List, [], ◌∷◌}
use lib.ListN.{length, get_or}
use borrow.Author.Tests.{not-true}
use Rattle.laws.specs.Tests.{any}
use Rattle.laws.proofs.Refusals.{clash, and_fst, and_snd, or_fst, or_snd}
use Rattle.laws.proofs.Words.{refuted}
use Rattle.protocol.specs.Memory.{Number, Query, same_number, Found, At, find, no_twice}
use Rattle.protocol.proofs.Memory.{same_number_lem, number_itself}
use Rattle.protocol.proofs.Places.{none, found-index}
use Rattle.hitcounts.specs.History.{OneOf}

-- a test that holds of none does not hold of it
pub among-any : (f : Query → Bool) (q : Query) (qs : List Query) → any f qs ≡ false → OneOf q qs → f q ≡ false
among-any f q [] h a = absurd a
among-any f q (p ∷ ps) h (inl e) = subst (λ x. f x ≡ false) e (or_fst (f p) (any f ps) h)
among-any f q (p ∷ ps) h (inr a) = among-any f q ps (or_snd (f p) (any f ps) h) a

get_or-among : (qs : List Query) (i : ℕ) → i < length qs → OneOf (get_or qs i none) qs
get_or-among [] i h = absurd (omega arith)
get_or-among (q ∷ qs) zero h = inl refl
get_or-among (q ∷ qs) (suc i) h = inr (get_or-among qs i (omega arith))

-- what is found is one of them
pub found_among : (qs : List Query) (x : Number) (i a h : ℕ) → find qs x ≡ At i a h
    → OneOf (record { number = x; asker = a; hits = h }) qs
found_among qs x i a h e =
    let r = found-index qs x a h i e in subst (λ q. OneOf q qs) r.1 (get_or-among qs i r.0)

-- numbers that are not the same, the other way round
pub other_way : (x y : Number) → same_number x y ≡ false → same_number y x ≡ false
other_way x y e =
    refuted (same_number y x) (λ z. clash (ap (λ (n : Number). same_number x n) (same_number_lem y x z) ∙ number_itself x) e)

-- one of them is found
pub record FoundAt (q : Query) (f : Found) : Type 0 where
  pub index : ℕ
  pub found : f ≡ At index q.asker q.hits

pub among-found : (q : Query) (qs : List Query) → no_twice qs ≡ true → OneOf q qs → FoundAt q (find qs q.number)
unfolding find no_twice
among-found q [] n a = absurd a
among-found q (p ∷ ps) n (inl e) =
    subst (λ (x : Query). FoundAt x (find (p ∷ ps) x.number)) e
    (record { index = 0; found = rw (number_itself p.number) })
among-found q (p ∷ ps) n (inr a) =
    let same : Query → Bool = λ r. same_number r.number p.number in
    let alone : any same ps ≡ false = not-true (any same ps) (and_fst (not (any same ps)) (no_twice ps) n) in
    let r = among-found q ps (and_snd (not (any same ps)) (no_twice ps) n) a in
    let other = other_way q.number p.number (among-any same q ps alone a) in
    record { index = suc r.index; found = rw (other, r.found) }
