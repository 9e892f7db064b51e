-- The order of keywords is the library's order of lists of numbers.
use Rattle.std.proofs.Math.Seq.{drop-cons}
use Rattle.ascii.specs.Text.{lower}
use Rattle.std.proofs.Common.{false, not, ◌==◌, [], ◌∷◌, map, length, get_or, drop, min, ◌+◌, ◌<◌, add-one, length-drop, ◌≡◌, ◌≤◌, ℕ, true, List, refl, sym, ap, ◌∙◌, arith}
use Rattle.std.specs.declared.cmp.Ordering.{Ordering}
use Rattle.std.specs.declared.cmp.Ordering.TheVariants.{Less, Equal, Greater}
use Rattle.std.specs.Ordering.{nat_cmp, is_lt, ordering_reverse, ordering_index, ordering_then}
use Rattle.std.specs.Cmp.Lexicographic.{slice_cmp}
use Rattle.std.proofs.lemmas.Bool.Decides.{nat_tests}
use Rattle.std.proofs.lemmas.Cmp.{same_from_slice_cmp, nat_list_cmp_total, tied_itself, alike_right}
use Rattle.matching.specs.Order.{below}

abbrev pub cmp : List ℕ → List ℕ → Ordering
cmp = slice_cmp nat_cmp

below_is : (a b : List ℕ) → is_lt (cmp a b) ≡ below a b
unfolding below
below_is a b =
    same_from_slice_cmp nat_cmp is_lt below refl (λ _ _. refl) (λ _ _. refl)
    (λ x y xs ys o h. grind (arith, nat_tests)) a b (cmp a b) refl

pub less-below : (a b : List ℕ) → cmp a b ≡ Less → below a b ≡ true
less-below a b e = sym (below_is a b) ∙ ap is_lt e

pub below-less : (a b : List ℕ) → below a b ≡ true → cmp a b ≡ Less
below-less a b e = by (cmp a b) (below_is a b ∙ e)
  where
    by : (o : Ordering) → is_lt o ≡ true → o ≡ Less
    by Less e = refl
    by Equal e = cc
    by Greater e = cc

pub greater-below : (a b : List ℕ) → cmp a b ≡ Greater → below b a ≡ true
greater-below a b e = less-below b a (nat_list_cmp_total.antisymm b a ∙ ap ordering_reverse e)

-- no keyword stands before itself
pub below_self : (a : List ℕ) → below a a ≡ true → ⊥
below_self a e = let p = below-less a a e in let q = tied_itself nat_list_cmp_total a in cc

-- of two keywords that rise, the later is not less against a third
pub not_falling : (a b x : List ℕ) → below a b ≡ true → ordering_index (cmp a x) ≤ ordering_index (cmp b x)
not_falling a b x e = by (cmp b x) refl
  where
    most : (o : Ordering) → ordering_index o ≤ 2
    most Less = omega arith
    most Equal = omega arith
    most Greater = omega arith

    by : (o : Ordering) → cmp b x ≡ o → ordering_index (cmp a x) ≤ ordering_index o
    by Less q = let p = nat_list_cmp_total.trans a b x (below-less a b e) q in rw p (omega arith)
    by Equal q =
        let p = sym (alike_right nat_list_cmp_total b x a q) ∙ below-less a b e in
        rw p (omega arith)
    by Greater q = most (cmp a x)

-- ---- byte by byte

-- what is left to compare, from byte n on
abbrev pub left_from : List ℕ → List ℕ → ℕ → Ordering
left_from a b n = cmp (map lower (drop n a)) (map lower (drop n b))

module _ (a b : List ℕ) (n : ℕ) (h : n < length a) (k : n < length b) (o : Ordering)
    (e : o ≡ nat_cmp (lower (get_or a n 0)) (lower (get_or b n 0))) where
  turn : left_from a b n ≡ ordering_then o (left_from a b (n + 1))
  turn = rw (e, add-one, drop-cons a n 0 h, drop-cons b n 0 k)

  pub left_on : o ≡ Equal → left_from a b n ≡ left_from a b (n + 1)
  left_on q = turn ∙ ap (λ r. ordering_then r (left_from a b (n + 1))) q

  pub left_differ : (o ≡ Equal → ⊥) → left_from a b n ≡ o
  left_differ d = turn ∙ by o d
    where
      by : (r : Ordering) → (r ≡ Equal → ⊥) → ordering_then r (left_from a b (n + 1)) ≡ r
      by Less d = refl
      by Equal d = absurd (d refl)
      by Greater d = refl

-- one of the two has ended
by_length : (a b : List ℕ) → min (length a) (length b) ≡ 0 → cmp (map lower a) (map lower b) ≡ nat_cmp (length a) (length b)
by_length [] [] e = refl
by_length [] (y ∷ b) e = grind (arith, nat_tests)
by_length (x ∷ a) [] e = grind (arith, nat_tests)
by_length (x ∷ a) (y ∷ b) e = absurd (omega arith)

pub left_end : (a b : List ℕ) (n : ℕ) → n ≡ min (length a) (length b) → left_from a b n ≡ nat_cmp (length a) (length b)
left_end a b n e =
    by_length (drop n a) (drop n b) (omega (arith, length-drop n a, length-drop n b))
    ∙ same (length (drop n a)) (length (drop n b)) (omega (arith, length-drop n a)) (omega (arith, length-drop n b))
  where
    same : (x y : ℕ) → x + n ≡ length a → y + n ≡ length b → nat_cmp x y ≡ nat_cmp (length a) (length b)
    same x y p q = rw (← p, ← q) (grind (arith, nat_tests))

-- the library's test for equal
pub equal_of : (o : Ordering) → not (ordering_index o == 1) ≡ false → o ≡ Equal
equal_of Less e = cc
equal_of Equal e = refl
equal_of Greater e = cc

pub differ_of : (o : Ordering) → not (ordering_index o == 1) ≡ true → o ≡ Equal → ⊥
differ_of Less e q = cc
differ_of Equal e q = cc
differ_of Greater e q = cc
