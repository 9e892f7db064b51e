-- The bytes that part keywords, and the keywords of a text, from outside, proved.
use Prim.Native.Nat.{ℕ, suc, ◌≤◌, ◌<◌}
use native.Mathlib.Omega.{arith}
use mathlib.Core.Path.{◌≡◌, refl, sym, ap, ◌∙◌}
use mathlib.Core.Bool.{Bool, true, false, cond, ◌||◌}
use mathlib.Core.Logic.{◌↔◌}
use mathlib.Core.List.{List, [], ◌∷◌, ◌++◌, map, map-append}
use lib.Dec.{leb}
use lib.ListN.{length}
use Rattle.laws.proofs.Words.{and_iff, or_iff, none_iff, some_iff, most_iff}
use Rattle.keywords.specs.Keywords.{within, is_separator, lower, onto, filled, pieces, keywords_of}
use Rattle.keywords.specs.Cutting.{Kept, SeparatorExactly, Throughout, CutAtSeparators}

-- ---- which bytes part keywords

within_iff : (low high b : ℕ) → (within low high b ≡ true) ↔ ((low ≤ b) × (b ≤ high))
within_iff low high b = and_iff (leb low b) (leb b high) (most_iff low b) (most_iff b high)

kept_iff : (b : ℕ) → ((within 0x30 0x39 b || (within 0x41 0x5A b || within 0x61 0x7A b)) ≡ true) ↔ Kept b
kept_iff b =
    or_iff (within 0x30 0x39 b) (within 0x41 0x5A b || within 0x61 0x7A b) (within_iff 0x30 0x39 b)
    (or_iff (within 0x41 0x5A b) (within 0x61 0x7A b) (within_iff 0x41 0x5A b) (within_iff 0x61 0x7A b))

pub separator-exactly : SeparatorExactly
unfolding is_separator
separator-exactly b = record { kept = some_iff _ (kept_iff b); separates = none_iff _ (kept_iff b) }

-- ---- the keywords

filled_append : (ps qs : List (List ℕ)) → filled (ps ++ qs) ≡ filled ps ++ filled qs
unfolding filled
filled_append [] qs = refl
filled_append ([] ∷ ps) qs = filled_append ps qs
filled_append ((b ∷ p) ∷ ps) qs = ap (λ (r : List (List ℕ)). (b ∷ p) ∷ r) (filled_append ps qs)

-- there is always a piece, if an empty one
record Some (ps : List (List ℕ)) : Type 0 where
  first : List ℕ
  rest : List (List ℕ)
  is : ps ≡ first ∷ rest

onto-some : (b : ℕ) (ps : List (List ℕ)) → Some (onto b ps)
onto-some b [] = record { first = b ∷ []; rest = []; is = refl }
onto-some b (p ∷ ps) = record { first = b ∷ p; rest = ps; is = refl }

some_piece : (text : List ℕ) → Some (pieces is_separator text)
unfolding pieces
some_piece [] = record { first = []; rest = []; is = refl }
some_piece (b ∷ bs) = by (is_separator b)
  where
    by : (t : Bool) → Some (cond t ([] ∷ pieces is_separator bs) (onto b (pieces is_separator bs)))
    by true = record { first = []; rest = pieces is_separator bs; is = refl }
    by false = onto-some b (pieces is_separator bs)

onto_append : (b : ℕ) (ps qs : List (List ℕ)) → Some ps → onto b (ps ++ qs) ≡ onto b ps ++ qs
onto_append b ps qs s = ap (λ (x : List (List ℕ)). onto b (x ++ qs)) s.is
    ∙ ap (λ (x : List (List ℕ)). onto b x ++ qs) (sym s.is)

pieces_append : (a : List ℕ) (b : ℕ) (c : List ℕ) → is_separator b ≡ true
    → pieces is_separator (a ++ (b ∷ c)) ≡ pieces is_separator a ++ pieces is_separator c
unfolding pieces
pieces_append [] b c h = rw h
pieces_append (x ∷ xs) b c h =
    ap (λ (ps : List (List ℕ)). cond (is_separator x) ([] ∷ ps) (onto x ps)) (pieces_append xs b c h)
    ∙ by (is_separator x)
  where
    by : (t : Bool)
        → cond t ([] ∷ (pieces is_separator xs ++ pieces is_separator c))
        (onto x (pieces is_separator xs ++ pieces is_separator c))
        ≡ cond t ([] ∷ pieces is_separator xs) (onto x (pieces is_separator xs)) ++ pieces is_separator c
    by true = refl
    by false = onto_append x (pieces is_separator xs) (pieces is_separator c) (some_piece xs)

-- a text without a separator is one piece
whole : (text : List ℕ) → Throughout Kept text → pieces is_separator text ≡ text ∷ []
unfolding pieces
whole [] h = refl
whole (b ∷ bs) h =
    ap (λ (t : Bool). cond t ([] ∷ pieces is_separator bs) (onto b (pieces is_separator bs)))
    ((separator-exactly b).kept.1 (h 0 (omega arith)))
    ∙ ap (onto b) (whole bs (λ i l. h (suc i) (omega arith)))

one_piece : (text : List ℕ) → 0 < length text → map (map lower) (filled (text ∷ [])) ≡ map lower text ∷ []
unfolding filled
one_piece [] h = absurd (omega arith)
one_piece (b ∷ bs) h = refl

pub cut-at_separators : CutAtSeparators
unfolding keywords_of pieces filled
cut-at_separators =
    record {
      none = refl;
      one = λ text h kept. ap (λ (ps : List (List ℕ)). map (map lower) (filled ps)) (whole text kept)
          ∙ one_piece text h;
      both = λ a b c h. ap (λ (ps : List (List ℕ)). map (map lower) (filled ps))
          (pieces_append a b c ((separator-exactly b).separates.1 h))
          ∙ ap (map (map lower)) (filled_append (pieces is_separator a) (pieces is_separator c))
          ∙ map-append (map lower) (filled (pieces is_separator a)) (filled (pieces is_separator c));
    }
