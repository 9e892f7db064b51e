-- Laws of texts cut at a separator.
use Prim.Native.Nat.{ℕ, suc, ◌+◌, ◌≤◌, zero-le, suc-le-suc}
use mathlib.Core.Path.{◌≡◌, refl, sym, ap, ◌∙◌}
use mathlib.Core.Bool.{Bool, true, false, cond}
use mathlib.Core.List.{List, [], ◌∷◌, map}
use native.Mathlib.Numerals.{add-one}
use native.Mathlib.Omega.{arith}
use lib.Dec.{eqb, ltb}
use lib.ListN.{length, take, drop}
use borrow.Author.Tests.{eqb-true, ltb-false}
use Rattle.std.proofs.Common.{Option, Some, None}
use Rattle.std.specs.List.{position_or_len}
use Rattle.std.proofs.lemmas.List.Recursion.{is_position_or_len}
use Rattle.ascii.specs.Text.{onto, pieces, filled}
use Rattle.xtry.specs.Pairs.{comma, space, is_comma, bare, after_commas, items_of, up_to, past}

-- ---- what stands before the first s, and what after it

-- the index of the first s, by the library's word, and the length where there is none
pub index-up_to : (s : ℕ) (text : List ℕ) → position_or_len (λ b. eqb b s) text ≡ length (up_to s text)
unfolding up_to
index-up_to s text = sym (is_position_or_len (λ xs. length (up_to s xs)) (λ b. eqb b s) refl (λ b bs. go (eqb b s) b bs) text)
  where
    go : (t : Bool) (b : ℕ) (bs : List ℕ) → length (cond t [] (b ∷ up_to s bs)) ≡ cond t 0 (1 + length (up_to s bs))
    go true b bs = refl
    go false b bs = omega arith

pub up_to-take : (s : ℕ) (text : List ℕ) → up_to s text ≡ take (length (up_to s text)) text
unfolding up_to
up_to-take s [] = refl
up_to-take s (b ∷ bs) = go (eqb b s) (up_to-take s bs)
  where
    go : (t : Bool) → up_to s bs ≡ take (length (up_to s bs)) bs → cond t [] (b ∷ up_to s bs)
        ≡ take (length (cond t [] (b ∷ up_to s bs))) (b ∷ bs)
    go true h = refl
    go false h = ap (λ x. b ∷ x) h

pub up_to_le : (s : ℕ) (text : List ℕ) → length (up_to s text) ≤ length text
unfolding up_to
up_to_le s [] = zero-le
up_to_le s (b ∷ bs) = go (eqb b s) (up_to_le s bs)
  where
    go : (t : Bool) → length (up_to s bs) ≤ length bs → length (cond t [] (b ∷ up_to s bs)) ≤ suc (length bs)
    go true h = zero-le
    go false h = suc-le-suc h

past-suc : (s : ℕ) (text : List ℕ) → drop (suc (length (up_to s text))) text ≡ past s text
unfolding up_to past
past-suc s [] = refl
past-suc s (b ∷ bs) = go (eqb b s) (past-suc s bs)
  where
    go : (t : Bool) → drop (suc (length (up_to s bs))) bs ≡ past s bs → drop (suc (length (cond t [] (b ∷ up_to s bs))))
        (b ∷ bs) ≡ cond t bs (past s bs)
    go true h = refl
    go false h = h

pub past-drop : (s : ℕ) (text : List ℕ) → drop (length (up_to s text) + 1) text ≡ past s text
past-drop s text = rw add-one (past-suc s text)

-- the place that is found is that of the first s
pub cut-found : (s : ℕ) (text : List ℕ) (r : Option ℕ) (end : ℕ)
    → r ≡ cond (ltb (position_or_len (λ b. eqb b s) text) (length text)) (Some (position_or_len (λ b. eqb b s) text)) None
    → r ≡ Some end → end ≡ length (up_to s text)
cut-found s text r end e h = go (ltb n (length text)) (sym h ∙ e) ∙ index-up_to s text
  where
    n : ℕ
    n = position_or_len (λ b. eqb b s) text

    go : (t : Bool) → Some end ≡ cond t (Some n) None → end ≡ n
    go true k = cc
    go false k = cc

-- and where none is found the whole text stands before it
pub cut-whole : (s : ℕ) (text : List ℕ) (r : Option ℕ)
    → r ≡ cond (ltb (position_or_len (λ b. eqb b s) text) (length text)) (Some (position_or_len (λ b. eqb b s) text)) None
    → r ≡ None → length text ≤ length (up_to s text)
cut-whole s text r e h = go (ltb n (length text)) refl (sym h ∙ e)
  where
    n : ℕ
    n = position_or_len (λ b. eqb b s) text

    go : (t : Bool) → ltb n (length text) ≡ t → ◌≡◌ {A = Option ℕ} None (cond t (Some n) None) → length text ≤ length (up_to s text)
    go true k f = cc
    go false k f = omega (arith, ltb-false n (length text) k, index-up_to s text)

-- ---- items

-- an item in front of the others, unless it is empty
abbrev pub item_onto : List ℕ → List (List ℕ) → List (List ℕ)
item_onto [] items = items
item_onto (b ∷ bs) items = (b ∷ bs) ∷ items

filled_cons : (p : List ℕ) (ps : List (List ℕ)) → filled (p ∷ ps) ≡ item_onto p (filled ps)
unfolding filled
filled_cons [] ps = refl
filled_cons (b ∷ bs) ps = refl

-- the pieces after the first
unfoldable more : List ℕ → List (List ℕ)
more [] = []
more (b ∷ bs) = cond (eqb b comma) (pieces is_comma bs) (more bs)

pieces-split : (text : List ℕ) → pieces is_comma text ≡ up_to comma text ∷ more text
unfolding pieces up_to more
pieces-split [] = refl
pieces-split (b ∷ bs) = go (eqb b comma) (pieces-split bs)
  where
    go : (t : Bool) → pieces is_comma bs ≡ up_to comma bs ∷ more bs → cond t ([] ∷ pieces is_comma bs)
        (onto b (pieces is_comma bs)) ≡ cond t [] (b ∷ up_to comma bs) ∷ cond t (pieces is_comma bs) (more bs)
    go true h = refl
    go false h = ap (onto b) h

-- the space is dropped from each piece, the first one too, where it is dropped from the text
bare_items : (text : List ℕ) → filled (map bare (pieces is_comma text)) ≡ items_of (bare text)
unfolding items_of pieces bare filled
bare_items [] = refl
bare_items (b ∷ bs) = go (eqb b space) (eqb b comma) refl refl
  where
    go : (t u : Bool) → eqb b space ≡ t → eqb b comma ≡ u
        → filled (map bare (cond (eqb b comma) ([] ∷ pieces is_comma bs) (onto b (pieces is_comma bs))))
        ≡ filled (after_commas (pieces is_comma (cond (eqb b space) bs (b ∷ bs))))
    go true true e f = let x = eqb-true b space e in let y = eqb-true b comma f in let z : ◌≡◌ {A = ℕ} 32 44 = sym x
        ∙ y in absurd (omega arith)
    go true false e f = rw (f, pieces-split bs, e, pieces-split bs)
    go false true e f = rw (e, f)
    go false false e f = rw (e, f, pieces-split bs, e)

more-past : (text : List ℕ) → filled (map bare (more text)) ≡ items_of (bare (past comma text))
unfolding more past items_of pieces bare filled
more-past [] = refl
more-past (b ∷ bs) = go (eqb b comma) (more-past bs)
  where
    go : (t : Bool) → filled (map bare (more bs)) ≡ items_of (bare (past comma bs))
        → filled (map bare (cond t (pieces is_comma bs) (more bs))) ≡ items_of (bare (cond t bs (past comma bs)))
    go true h = bare_items bs
    go false h = h

-- the first item of a text, and those that follow its comma
pub items_step : (text : List ℕ) → items_of text ≡ item_onto (up_to comma text) (items_of (bare (past comma text)))
unfolding items_of
items_step text =
    ap (λ x. filled (after_commas x)) (pieces-split text)
    ∙ filled_cons (up_to comma text) (map bare (more text))
    ∙ ap (item_onto (up_to comma text)) (more-past text)
