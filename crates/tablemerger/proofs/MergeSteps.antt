-- Steps of the loops that merge one table into the entries of another: what an entry takes, which entries a place
-- covers, and entries merged from the front on, one at a time or a block.
-- Assumes nothing.
use Prim.Native.Nat.{ℕ, suc, ◌+◌, ◌-◌, ◌*◌, ◌/◌, ◌≤◌, ◌<◌, min}
use mathlib.Core.Path.{◌≡◌, refl, sym, ap, ap₂, ◌∙◌}
use mathlib.Core.Bool.{Bool, true, false, cond}
use mathlib.Core.List.{List, [], ◌∷◌, ◌++◌, map, append_assoc}
use native.Mathlib.Nat.{mul-one, min-zero, div_self, mul-le-mul_right, div-eq_of_lt-le, le-div_iff_mul-le}
use native.Mathlib.Nat.{div-eq_of_eq-mul_left}
use native.Mathlib.Numerals.{add-one}
use native.Mathlib.Omega.{arith}
use lib.Dec.{eqb}
use lib.ListN.{length, get_or, take, drop, set, length-take, length-drop, length-append, length-map}
use lib.ListN.{get_or-map, take-append-drop, drop_of_length-le}
use lib.Seq.{drop-cons, drop-drop, take-add, take_at, drop_at, length-take-le, ext_get_or, get_or-take, get_or-drop}
use borrow.Author.Tests.{le-leb, lt-leb}
use borrow.Rule.Slice.PartMut.{put_mid}
use Rattle.laws.proofs.Passing.{element_next, element_last}
use Rattle.tablemerging.specs.Merging.{covered, reaching, nearest, merged}
use Rattle.tablemerging.proofs.MergeLaws.{nearest_append, merged-length, merged-at}

-- ---- one entry

-- what an entry of a table with this Infinity gives to another: one more than it, as a byte
abbrev pub farther : ℕ → ℕ → ℕ
farther infinity e = cond (eqb e infinity) 255 (min 255 (e + 1))

-- so it lowers another
pub nearest-one : (infinity e x : ℕ) → x < 256 → min (farther infinity e) x ≡ nearest x (reaching infinity (e ∷ []))
unfolding nearest reaching
nearest-one infinity e x h = by (eqb e infinity)
  where
    by : (b : Bool) → min (cond b 255 (min 255 (e + 1))) x ≡ nearest x (cond b [] (e ∷ []))
    by true = omega arith
    by false = omega arith

-- and two of them
pub nearest-two : (infinity d e x : ℕ) → x < 256
    → min (min (farther infinity d) (farther infinity e)) x ≡ nearest x (reaching infinity (d ∷ e ∷ []))
unfolding nearest reaching
nearest-two infinity d e x h = by (eqb d infinity) (eqb e infinity)
  where
    by : (b c : Bool) → min (min (cond b 255 (min 255 (d + 1))) (cond c 255 (min 255 (e + 1)))) x
        ≡ nearest x (cond b (cond c [] (e ∷ [])) (d ∷ cond c [] (e ∷ [])))
    by true true = omega arith
    by true false = omega arith
    by false true = omega arith
    by false false = omega arith

-- the entries of a block are taken in one by one
pub nearest-next : (infinity x : ℕ) (es : List ℕ) (i : ℕ) → i < length es → x < 256
    → nearest (min (farther infinity (get_or es i 0)) x) (reaching infinity (drop (i + 1) es))
    ≡ nearest x (reaching infinity (drop i es))
unfolding reaching
nearest-next infinity x es i l h =
    let e = get_or es i 0 in
    let rest = reaching infinity (drop (i + 1) es) in
    ap (λ y. nearest y rest) (nearest-one infinity e x h)
    ∙ nearest_append x (reaching infinity (e ∷ [])) rest
    ∙ ap (nearest x) (by e (eqb e infinity) rest ∙ rw (add-one, drop-cons es i 0))
  where
    by : (e : ℕ) (b : Bool) (ds : List ℕ) → cond b [] (e ∷ []) ++ ds ≡ cond b ds (e ∷ ds)
    by e true ds = refl
    by e false ds = refl

-- ---- the entries that a place covers

-- blocks of so many, one after another
pub block_within : (i k size n : ℕ) → i < k → k * size ≤ n → i * size + size ≤ n
block_within i k size n h g = let p : suc i * size ≤ k * size = mul-le-mul_right size h in omega arith

-- the entry at a place, alone
one_at : (es : List ℕ) (i : ℕ) → i < length es → take 1 (drop i es) ≡ get_or es i 0 ∷ []
one_at es i h = ap (take 1) (drop-cons es i 0 h)

module _ (n : ℕ) (es : List ℕ) (i : ℕ) where
  -- of a table that is not shorter, a block
  pub covered-block : n ≤ length es → covered n es i ≡ take (length es / n) (drop (i * (length es / n)) es)
  unfolding covered
  covered-block h = rw (le-leb n (length es) h)

  -- of one of the same length, the entry at the same place
  pub covered_same : length es ≡ n → i < n → covered n es i ≡ get_or es i 0 ∷ []
  covered_same e h =
      let o : length es / n ≡ 1 = ap (λ k. k / n) e ∙ div_self (omega arith) in
      covered-block (omega arith) ∙ rw (o, mul-one) (one_at es i (omega arith))

  -- of one of twice the length, two entries
  pub covered-two : length es ≡ 2 * n → i < n → covered n es i ≡ get_or es (2 * i) 0 ∷ get_or es (2 * i + 1) 0 ∷ []
  covered-two e h =
      let two : length es / n ≡ 2 = div-eq_of_eq-mul_left (omega arith) e in
      let s : i * 2 ≡ 2 * i = omega arith in
      let l : 2 * i + 1 < length es = omega arith in
      covered-block (omega arith)
      ∙ rw (two, s) (ap (take 2) (drop-cons es (2 * i) 0 (omega arith)
      ∙ ap (get_or es (2 * i) 0 ∷◌) (ap (λ k. drop k es) (sym (add-one (2 * i))) ∙ drop-cons es (2 * i + 1) 0 l)))

  -- of a shorter one, the entry whose block has the place, or none behind all blocks
  module _ (h : length es < n) where
    short : covered n es i ≡ take 1 (drop (i / (n / length es)) es)
    unfolding covered
    short = rw (lt-leb n (length es) h)

    pub covered_one : (j : ℕ) → j < length es → j * (n / length es) ≤ i → i < j * (n / length es) + n / length es
        → covered n es i ≡ get_or es j 0 ∷ []
    covered_one j l a b =
        let q : i / (n / length es) ≡ j = div-eq_of_lt-le (n / length es) a (omega arith) in
        short ∙ rw q (one_at es j l)

    -- of one of half the length, entry j at places 2 j and 2 j + 1
    pub covered-half : n ≡ 2 * length es → (j : ℕ) → j < length es → 2 * j ≤ i → i ≤ 2 * j + 1
        → covered n es i ≡ get_or es j 0 ∷ []
    covered-half e j l a b =
        let two : n / length es ≡ 2 = div-eq_of_eq-mul_left (omega arith) e in
        covered_one j l (rw two (omega arith)) (rw two (omega arith))

    pub covered_none : length es ≤ i / (n / length es) → covered n es i ≡ []
    covered_none a = short ∙ ap (take 1) (drop_of_length-le es a)

-- a place behind all m blocks is in none of them
pub blocks-behind : (m n i : ℕ) → 0 < m → m < n → m * (n / m) ≤ i → m ≤ i / (n / m)
blocks-behind m n i h l a = let s : 0 < n / m = (le-div_iff_mul-le {y = n} h).1 (omega arith) in
    (le-div_iff_mul-le s).1 a

-- ---- entries written from the front on

-- the first i entries are those of `all`, the others those of xs
pub record Going (all xs ys : List ℕ) (i : ℕ) : Type 0 where
  pub within : i ≤ length xs
  pub same : length ys ≡ length xs
  pub so : ys ≡ take i all ++ drop i xs

module _ (all xs : List ℕ) (long : length all ≡ length xs) where
  going : (ys : List ℕ) (i : ℕ) → i ≤ length xs → ys ≡ take i all ++ drop i xs → Going all xs ys i
  going ys i h e = record {
    within = h;
    same = ap length e ∙ simp (length-append, length-take, length-drop) (omega arith);
    so = e;
  }

  pub going-first : Going all xs xs 0
  going-first = going xs 0 (omega arith) refl

  module _ (ys : List ℕ) (i : ℕ) (g : Going all xs ys i) where
    front : length (take i all) ≡ i
    front = length-take-le i all (omega arith)

    behind : drop i ys ≡ drop i xs
    behind = ap (drop i) g.so ∙ drop_at (take i all) (drop i xs) i front

    -- one entry more; the next is still the old one
    pub going_next : (v : ℕ) → i < length xs → (get_or ys i 0 ≡ get_or xs i 0 → v ≡ get_or all i 0)
        → Going all xs (set ys i v) (i + 1)
    going_next v h f =
        let e : i + 0 ≡ i = omega arith in
        let old : get_or ys i 0 ≡ get_or xs i 0
        = sym (get_or-drop i ys 0 0 ∙ rw e) ∙ ap (λ l. get_or l 0 0) behind ∙ get_or-drop i xs 0 0 ∙ rw e in
        going (set ys i v) (i + 1) (omega arith)
        (ap₂ (λ l w. set l i w) g.so (f old) ∙ element_next all xs i 0 (omega arith) h)

    pub going_end : length xs ≤ i → ys ≡ all
    going_end h = g.so ∙ element_last all xs i (omega arith) h

-- ---- entries merged from the front on

abbrev pub Merging : ℕ → List ℕ → List ℕ → List ℕ → ℕ → Type 0
Merging infinity es xs = Going (merged infinity es xs) xs

module _ (infinity : ℕ) (es xs : List ℕ) where
  pub merging_first : Merging infinity es xs xs 0
  merging_first = going-first (merged infinity es xs) xs (merged-length infinity es xs)

  -- a place, by what it covers
  at_place : (p : ℕ) (c : List ℕ) → p < length xs → covered (length xs) es p ≡ c
      → nearest (get_or xs p 0) (reaching infinity c) ≡ get_or (merged infinity es xs) p 0
  at_place p c h e =
      sym (merged-at infinity es xs p h ∙ ap (λ l. nearest (get_or xs p 0) (reaching infinity l)) e)

  module _ (ys : List ℕ) (i : ℕ) (m : Merging infinity es xs ys i) where
    -- one entry more, by what its place covers
    pub merging_next : (v : ℕ) (c : List ℕ) → i < length xs → covered (length xs) es i ≡ c
        → v ≡ nearest (get_or ys i 0) (reaching infinity c)
        → Merging infinity es xs (set ys i v) (i + 1)
    merging_next v c h k e =
        going_next (merged infinity es xs) xs (merged-length infinity es xs) ys i m v h
        (λ old. e ∙ ap (λ x. nearest x (reaching infinity c)) old ∙ at_place i c h k)

    -- a block more, that one entry covers
    pub merging_block : (e end : ℕ) (zs : List ℕ) → i ≤ end → end ≤ length xs → ((p : ℕ) → get_or xs p 0 < 256)
        → ((p : ℕ) → i ≤ p → p < end → covered (length xs) es p ≡ e ∷ [])
        → zs ≡ map (min (farther infinity e)) (take (end - i) (drop i ys))
        → Merging infinity es xs (put_mid i (end - i) ys zs) end
    merging_block e end zs h t b k g =
        let n : i + size ≡ end = omega arith in
        going all xs long (put_mid i size ys zs) end t
        (ap₂ (λ l r. l ++ (zs ++ r))
        (ap (take i) m.so ∙ take_at (take i all) (drop i xs) i (front all xs long ys i m))
        (ap (drop size) kept ∙ drop-drop size i xs)
        ∙ ap (λ l. take i all ++ (l ++ drop (i + size) xs)) block
        ∙ sym (append_assoc (take i all) (take size (drop i all)) (drop (i + size) xs))
        ∙ ap (λ l. l ++ drop (i + size) xs) (sym (take-add i size all))
        ∙ ap (λ k. take k all ++ drop k xs) n)
      where
        size : ℕ
        size = end - i

        all : List ℕ
        all = merged infinity es xs

        long : length all ≡ length xs
        long = merged-length infinity es xs

        kept : drop i ys ≡ drop i xs
        kept = behind all xs long ys i m

        f : ℕ → ℕ
        f = min (farther infinity e)

        old : List ℕ
        old = take size (drop i xs)

        one : (p : ℕ) → p < size → f (get_or xs (i + p) 0) ≡ get_or all (i + p) 0
        one p l =
            nearest-one infinity e (get_or xs (i + p) 0) (b (i + p))
            ∙ at_place (i + p) (e ∷ []) (omega arith) (k (i + p) (omega arith) (omega arith))

        at : (p : ℕ) → p < size → get_or (map f old) p 0 ≡ get_or (take size (drop i all)) p 0
        at p l =
            ap (get_or (map f old) p) (sym (min-zero (farther infinity e)))
            ∙ get_or-map f old p 0
            ∙ simp (get_or-take, get_or-drop) (one p l)

        block : zs ≡ take size (drop i all)
        block =
            g ∙ ap (λ l. map f (take size l)) kept
            ∙ ext_get_or 0 (map f old) (take size (drop i all))
            (simp (length-map, length-take, length-drop, merged-length))
            (λ p l. at p (omega (arith, simp (length-map, length-take) at l)))

    -- the end, where the places behind cover nothing
    pub merging_end : ((p : ℕ) → i ≤ p → p < length xs → covered (length xs) es p ≡ []) → ys ≡ merged infinity es xs
    unfolding nearest reaching
    merging_end h =
        m.so
        ∙ ap (λ l. take i (merged infinity es xs) ++ l)
        (ext_get_or 0 (drop i xs) (drop i (merged infinity es xs)) (simp (length-drop, merged-length)) (λ p l. at p
        (omega (arith, simp length-drop at l))))
        ∙ take-append-drop i (merged infinity es xs)
      where
        at : (p : ℕ) → i + p < length xs → get_or (drop i xs) p 0 ≡ get_or (drop i (merged infinity es xs)) p 0
        at p l = simp get_or-drop (at_place (i + p) [] l (h (i + p) (omega arith) l))

-- a table with no entries leaves all as they were
pub merged-none : (infinity : ℕ) (es xs : List ℕ) → length es ≡ 0 → xs ≡ merged infinity es xs
merged-none infinity es xs e =
    merging_end infinity es xs xs 0 (merging_first infinity es xs)
    (λ p h k. covered_none (length xs) es p (omega arith) (omega arith))

-- entries each of which is merged
pub merged_by : (infinity : ℕ) (es xs ys : List ℕ) → length ys ≡ length xs
    → ((i : ℕ) → i < length xs → get_or ys i 0 ≡ nearest (get_or xs i 0) (reaching infinity (covered (length xs) es i)))
    → ys ≡ merged infinity es xs
merged_by infinity es xs ys long f =
    ext_get_or 0 ys (merged infinity es xs) (long ∙ sym (merged-length infinity es xs))
    (λ i h. let g : i < length xs = rw long at h in f i g ∙ sym (merged-at infinity es xs i g))

-- entries each of which is lowered to at most v
pub mapped_by : (v : ℕ) (xs ys : List ℕ) → length ys ≡ length xs
    → ((i : ℕ) → i < length xs → get_or ys i 0 ≡ min v (get_or xs i 0))
    → ys ≡ map (min v) xs
mapped_by v xs ys long f =
    ext_get_or 0 ys (map (min v) xs) (simp length-map long)
    (λ i h. f i (rw long at h)
    ∙ sym (ap (get_or (map (min v) xs) i) (sym (min-zero v)) ∙ get_or-map (min v) xs i 0))
