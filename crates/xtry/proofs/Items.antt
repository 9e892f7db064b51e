-- Laws of the loop over a value's items: what is left to do gives what the whole value gives.
use Prim.Native.Nat.{ℕ, suc, ◌+◌, ◌-◌, ◌≤◌, ◌<◌}
use mathlib.Core.Path.{◌≡◌, refl, sym, ap, ◌∙◌}
use mathlib.Core.Bool.{Bool, true, false, cond, ◌&&◌}
use mathlib.Core.List.{List, [], ◌∷◌, ◌++◌, map, append-nil}
use native.Mathlib.Omega.{arith}
use lib.Dec.{eqb, leb, lit≤}
use lib.ListN.{length, take, replicate, length-append, length-drop}
use lib.Seq.{set_at, take-append-le, take_all, append_snoc}
use borrow.Author.Tests.{lt-ltb, le-ltb, leb-true, leb-false}
use Rattle.laws.specs.Tests.{all}
use Rattle.ascii.specs.Text.{pieces, filled}
use Rattle.xtry.specs.Pairs.{comma, bare, items_of, up_to, past, good_pair, pair_in, no_pair, pairs_from, pairs_of}
use Rattle.xtry.specs.Pairs.{read_answer, Tried, tried_of}
use Rattle.xtry.specs.Reading.{kept, parsed_of}
use Rattle.xtry.specs.declared.Pair.{Pair}
use Rattle.xtry.specs.declared.Pairs.{Pairs}
use Rattle.std.proofs.Common.{Some, None}
use Rattle.xtry.proofs.Parsing.{parsed-is}
use Rattle.xtry.proofs.Cuts.{item_onto, items_step, past-drop}

-- the pairs of these, one after the other, among those that are kept
abbrev pub fill : Pairs → List Pair → Pairs
fill ps [] = ps
fill ps (x ∷ xs) = fill (kept ps x) xs

-- ---- the first 32 are kept

keep-next : (ps : List Pair) (p : Pair) → length ps < 32 → kept (pairs_from ps) p ≡ pairs_from (ps ++ (p ∷ []))
unfolding kept pairs_from
keep-next ps p h =
    let e : 32 - length ps ≡ suc (32 - (length ps + 1)) = omega arith in
    rw (
      lt-ltb (length ps) 32 h,
      e,
      set_at ps no_pair (replicate (32 - (length ps + 1)) no_pair) p (length ps) refl,
      length-append ps (p ∷ []),
      append_snoc ps p (replicate (32 - (length ps + 1)) no_pair),
    )

keep-full : (ps : List Pair) (p : Pair) → 32 ≤ length ps → kept (pairs_from ps) p ≡ pairs_from ps
unfolding kept pairs_from
keep-full ps p h = rw (le-ltb (length ps) 32 h)

fill-first : (ps xs : List Pair) → length ps ≤ 32 → fill (pairs_from ps) xs ≡ pairs_from (take 32 (ps ++ xs))
fill-first ps [] h = rw (append-nil ps, take_all 32 ps h)
fill-first ps (x ∷ xs) h = go (leb 32 (length ps)) refl (fill-first ps xs h)
    (λ k. fill-first (ps ++ (x ∷ [])) xs (rw (length-append ps (x ∷ [])) k))
  where
    go : (t : Bool) → leb 32 (length ps) ≡ t → fill (pairs_from ps) xs ≡ pairs_from (take 32 (ps ++ xs))
        → (length ps + 1 ≤ 32 → fill (pairs_from (ps ++ (x ∷ []))) xs ≡ pairs_from (take 32 ((ps ++ (x ∷ [])) ++ xs)))
        → fill (kept (pairs_from ps) x) xs ≡ pairs_from (take 32 (ps ++ (x ∷ xs)))
    go true e full next =
        let k = leb-true 32 (length ps) e in
        rw (keep-full ps x k) (full ∙ ap pairs_from (take-append-le 32 ps xs k ∙ sym (take-append-le 32 ps (x ∷ xs) k)))
    go false e full next =
        let k = leb-false 32 (length ps) e in
        rw (keep-next ps x k) (next (omega arith) ∙ rw (append_snoc ps x xs))

-- ---- lengths

empty_is : (xs : List ℕ) → length xs ≡ 0 → xs ≡ []
empty_is [] h = refl
empty_is (x ∷ xs) h = absurd (omega arith)

bare-short : (text : List ℕ) → length (bare text) ≤ length text
unfolding bare
bare-short [] = omega arith
bare-short (b ∷ bs) = go (eqb b 32)
  where
    go : (t : Bool) → length (cond t bs (b ∷ bs)) ≤ length (b ∷ bs)
    go true = omega arith
    go false = omega arith

past-short : (text : List ℕ) → 0 < length text → length (past comma text) < length text
past-short text h =
    omega (arith, ap length (past-drop comma text), length-drop (length (up_to comma text) + 1) text)

-- ---- a turn

-- the pairs kept and what is left of the value give what the whole value gives
pub record Left (value rest : List ℕ) (pairs : Pairs) : Type 0 where
  pub good : all good_pair (items_of value) ≡ all good_pair (items_of rest)
  pub kept : fill (pairs_from []) (map pair_in (items_of value)) ≡ fill pairs (map pair_in (items_of rest))

pub no_items : items_of [] ≡ []
unfolding items_of pieces filled
no_items = refl

pub left-all : (value : List ℕ) (ps : Pairs) → ps ≡ pairs_from [] → Left value value ps
left-all value ps e = record { good = refl; kept = rw e }

-- an item that was read, and those after it
item-good : (item : List ℕ) (items : List (List ℕ)) (p : Pair) → parsed_of item ≡ Some p → all good_pair
    (item_onto item items) ≡ all good_pair items
item-good [] items p h = refl
item-good (b ∷ bs) items p h = go (good_pair (b ∷ bs)) (rw parsed-is at h)
  where
    go : (t : Bool) → cond t (Some (pair_in (b ∷ bs))) None ≡ Some p → (t && all good_pair items) ≡ all good_pair items
    go true e = refl
    go false e = cc

item-bad : (item : List ℕ) (items : List (List ℕ)) → 0 < length item → parsed_of item ≡ None → all good_pair
    (item_onto item items) ≡ false
item-bad [] items n h = absurd (omega arith)
item-bad (b ∷ bs) items n h = go (good_pair (b ∷ bs)) (rw parsed-is at h)
  where
    go : (t : Bool) → cond t (Some (pair_in (b ∷ bs))) None ≡ None → (t && all good_pair items) ≡ false
    go true e = cc
    go false e = refl

item-pair : (item : List ℕ) (p : Pair) → parsed_of item ≡ Some p → pair_in item ≡ p
item-pair item p h = go (good_pair item) (rw parsed-is at h)
  where
    go : (t : Bool) → cond t (Some (pair_in item)) None ≡ Some p → pair_in item ≡ p
    go true e = cc
    go false e = cc

item-kept : (ps : Pairs) (item : List ℕ) (items : List (List ℕ)) (p : Pair) → 0 < length item → pair_in item ≡ p
    → fill ps (map pair_in (item_onto item items)) ≡ fill (kept ps p) (map pair_in items)
item-kept ps [] items p n e = absurd (omega arith)
item-kept ps (b ∷ bs) items p n e = rw e

module _ {value rest : List ℕ} {ps : Pairs} (l : Left value rest ps) (item behind : List ℕ)
    (is_item : item ≡ up_to comma rest) (is_behind : behind ≡ past comma rest) where
  -- the items from this one on
  step : items_of rest ≡ item_onto item (items_of (bare behind))
  step = rw (is_item, is_behind) (items_step rest)

  pub left-empty : length item ≡ 0 → Left value (bare behind) ps
  left-empty h =
      let e : items_of rest ≡ items_of (bare behind) = step ∙ ap (λ x. item_onto x (items_of (bare behind)))
      (empty_is item h) in
      record { good = l.good ∙ ap (all good_pair) e; kept = l.kept ∙ ap (λ x. fill ps (map pair_in x)) e }

  pub left-on : 0 < length item → (p : Pair) → parsed_of item ≡ Some p → Left value (bare behind) (kept ps p)
  left-on n p h =
      record {
        good = l.good ∙ ap (all good_pair) step ∙ item-good item (items_of (bare behind)) p h;
        kept =
            l.kept ∙ ap (λ x. fill ps (map pair_in x)) step
            ∙ item-kept ps item (items_of (bare behind)) p n (item-pair item p h);
      }

  pub left-bad : 0 < length item → parsed_of item ≡ None → ◌≡◌ {A = Tried} (record { answer = 6; pairs = pairs_from [] })
      (tried_of value)
  unfolding tried_of read_answer
  left-bad n h =
      let f : all good_pair (items_of value) ≡ false = l.good ∙ ap (all good_pair) step
      ∙ item-bad item (items_of (bare behind)) n h in
      rw f

-- nothing is left
pub left_end : (value rest : List ℕ) (ps : Pairs) → Left value rest ps → length rest ≡ 0
    → ◌≡◌ {A = Tried} (record { answer = 0; pairs = ps }) (tried_of value)
unfolding tried_of read_answer pairs_of
left_end value rest ps l h =
    let n : items_of rest ≡ [] = ap items_of (empty_is rest h) ∙ no_items in
    let f : all good_pair (items_of value) ≡ true = l.good ∙ ap (all good_pair) n in
    let k : fill (pairs_from []) (map pair_in (items_of value)) ≡ ps = l.kept ∙ ap (λ x. fill ps (map pair_in x)) n in
    rw f (ap (λ x. record { answer = 0; pairs = x }) (sym k ∙ fill-first [] (map pair_in (items_of value)) (lit≤ tt)))

-- a turn leaves less
pub less-left : (text : List ℕ) → 0 < length text → length (bare (past comma text)) < length text
less-left text h = omega (arith, bare-short (past comma text), past-short text h)
