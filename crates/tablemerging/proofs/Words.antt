-- The entries of a made table in words: each is what its own names and the tables that count there say, all are in
-- bounds, and no keyword is farther than one more than in one of the tables.
-- Assumes nothing.
use Prim.Native.Nat.{ℕ, zero, suc, ◌+◌, ◌^◌, ◌≤◌, ◌<◌, min}
use mathlib.Core.Path.{◌≡◌, refl, sym, ap, ◌∙◌}
use mathlib.Core.Bool.{true}
use mathlib.Core.Logic.{◌⊎◌, inl, inr, ⊎_elim}
use mathlib.Core.List.{List, [], ◌∷◌}
use mathlib.Core.List.{Memᴰ}
use native.Mathlib.Omega.{arith}
use native.Mathlib.Decide.{dec_le}
use lib.Dec.{eqb, leb}
use lib.ListN.{length, get_or}
use lib.Pow.{pow_pos}
use borrow.Author.Tests.{eqb-true, eqb-false, le-leb}
use Rattle.laws.specs.Numbers.{counting}
use Rattle.laws.proofs.Refusals.{clash, and_intro, of_choice, all_of, all_map}
use Rattle.laws.proofs.Words.{refuted}
use Rattle.keywords.specs.Hash.{place_of, place_in}
use Rattle.keywords.proofs.PlaceLaws.{place-below, place-scaled}
use Rattle.tables.specs.Tables.{Held, in_bounds}
use Rattle.tables.specs.Admission.{withholds, Withheld}
use Rattle.tables.proofs.AdmissionLaws.{withheld-exactly}
use Rattle.nametable.specs.Table.{own_places, with_ones, own_entries}
use Rattle.nametable.specs.Words.{FallsOn}
use Rattle.nametable.proofs.MarkLaws.{ones_length}
use Rattle.nametable.proofs.Words.{on, off, among, falls, marked, within_ones}
use Rattle.tablemerging.specs.Merging.{covered, reaching, distances, nearest, relayed_entries, made_entries}
use Rattle.tablemerging.specs.Merging.{merged_all}
use Rattle.tablemerging.specs.Lengths.{covered_places}
use Rattle.tablemerging.specs.Words.{Counts, MadeEntry, Powers, MadeExactly, MadeLong, MadeWithin}
use Rattle.tablemerging.specs.Words.{MadeAlone, OwnNearest, NeverFarther, PassesOn}
use Rattle.tablemerging.proofs.MergeLaws.{relayed-length, relayed-at, all-merged}
use Rattle.tablemerging.proofs.Lengths.{common-below, once_for_all-lengths, covered-by-place, keyword_covered}

-- ---- the nearest: not above Infinity, nor above one more than any, and above nothing else

module _ (x : ℕ) where
  pub nearest-most : (ds : List ℕ) → nearest x ds ≤ x
  unfolding nearest
  nearest-most [] = omega arith
  nearest-most (d ∷ ds) = let h = nearest-most ds in omega arith

  nearest-near : (ds : List ℕ) (d : ℕ) → Memᴰ d ds → nearest x ds ≤ d + 1
  unfolding nearest
  nearest-near [] d m = absurd (mathlib.Core.List.Memᴰ.not-nil m)
  nearest-near (c ∷ ds) d m =
      ⊎_elim (λ e. omega arith) (λ t. let h = nearest-near ds d t in omega arith) (mathlib.Core.List.Memᴰ.cases_cons m)

  nearest-over : (k : ℕ) → k ≤ x → (ds : List ℕ) → ((d : ℕ) → Memᴰ d ds → k ≤ d + 1) → k ≤ nearest x ds
  unfolding nearest
  nearest-over k h [] f = h
  nearest-over k h (d ∷ ds) f =
      let a = f d (mathlib.Core.List.Memᴰ.head refl) in
      let b = nearest-over k h ds (λ c m. f c (mathlib.Core.List.Memᴰ.tail m)) in
      omega arith

-- some numbers have a least, or there is none
abbrev Least : List ℕ → ℕ → Type 0
Least ds e = Memᴰ e ds × ((d : ℕ) → Memᴰ d ds → e ≤ d)

least_of : (ds : List ℕ) → ((d : ℕ) → Memᴰ d ds → ⊥) ⊎ ((e : ℕ) × Least ds e)
least_of [] = inl (λ d. mathlib.Core.List.Memᴰ.not-nil)
least_of (c ∷ ds) = inr (by (least_of ds))
  where
    first : ((d : ℕ) → Memᴰ d ds → c ≤ d) → (e : ℕ) × Least (c ∷ ds) e
    first f = (c, (mathlib.Core.List.Memᴰ.head refl, λ d m. ⊎_elim (λ e. omega arith) (f d) (mathlib.Core.List.Memᴰ.cases_cons m)))

    or_later : (e : ℕ) → Least ds e → Dec (c ≤ e) → (e : ℕ) × Least (c ∷ ds) e
    or_later e l (yes h) = first (λ d m. let g = l.1 d m in omega arith)
    or_later e l (no h) =
        (e, (mathlib.Core.List.Memᴰ.tail l.0, λ d m. ⊎_elim (λ q. omega arith) (l.1 d) (mathlib.Core.List.Memᴰ.cases_cons m)))

    by : ((d : ℕ) → Memᴰ d ds → ⊥) ⊎ ((e : ℕ) × Least ds e) → (e : ℕ) × Least (c ∷ ds) e
    by (inl f) = first (λ d m. absurd (f d m))
    by (inr r) = or_later r.0 r.1 (dec_le c r.0)

-- ---- what counts

module _ (infinity e : ℕ) where
  reached : (es : List ℕ) → Memᴰ e (reaching infinity es) → Memᴰ e es × (e ≡ infinity → ⊥)
  unfolding reaching
  reached [] m = absurd (mathlib.Core.List.Memᴰ.not-nil m)
  reached (c ∷ es) m =
      let later : Memᴰ e (reaching infinity es) → Memᴰ e (c ∷ es) × (e ≡ infinity → ⊥) =
      λ t. let r = reached es t in (mathlib.Core.List.Memᴰ.tail r.0, r.1) in
      of_choice (λ l. Memᴰ e l → Memᴰ e (c ∷ es) × (e ≡ infinity → ⊥)) (eqb c infinity) _ _
      (λ q. later)
      (λ q t. ⊎_elim (λ z. (mathlib.Core.List.Memᴰ.head z, λ y. eqb-false c infinity q (sym z ∙ y))) later (mathlib.Core.List.Memᴰ.cases_cons t))
      m

  reaches : (e ≡ infinity → ⊥) → (es : List ℕ) → Memᴰ e es → Memᴰ e (reaching infinity es)
  unfolding reaching
  reaches n [] m = absurd (mathlib.Core.List.Memᴰ.not-nil m)
  reaches n (c ∷ es) m =
      of_choice (Memᴰ e) (eqb c infinity) _ _
      (λ q. ⊎_elim (λ z. absurd (n (z ∙ eqb-true c infinity q))) (reaches n es) (mathlib.Core.List.Memᴰ.cases_cons m))
      (λ q. ⊎_elim (λ z. mathlib.Core.List.Memᴰ.head z) (λ t. mathlib.Core.List.Memᴰ.tail (reaches n es t)) (mathlib.Core.List.Memᴰ.cases_cons m))

-- an entry is among the covered ones as that of a place
module _ (n i d : ℕ) where
  at_place : (es : List ℕ) → Memᴰ d (covered n es i)
      → (j : ℕ) × Memᴰ j (covered_places n (length es) i) × (get_or es j 0 ≡ d)
  at_place es m = mathlib.Core.List.Memᴰ.of_map (λ j. get_or es j 0) _ (rw (covered-by-place n es i) at m)

  of_place : (es : List ℕ) (j : ℕ) → Memᴰ j (covered_places n (length es) i) → get_or es j 0 ≡ d
      → Memᴰ d (covered n es i)
  of_place es j m e = rw (covered-by-place n es i) (mathlib.Core.List.Memᴰ.cast (sym e) (mathlib.Core.List.Memᴰ.map (λ j. get_or es j 0) m))

  abbrev Of : List Held → Held → Type 0
  Of hs h = Memᴰ h hs × Memᴰ d (covered n h.entries i) × (d ≡ h.table.infinity → ⊥)

  from_one : (hs : List Held) → Memᴰ d (distances n hs i) → (h : Held) × Of hs h
  unfolding distances
  from_one [] m = absurd (mathlib.Core.List.Memᴰ.not-nil m)
  from_one (h ∷ hs) m =
      ⊎_elim (λ t. let r = reached h.table.infinity d _ t in (h, (mathlib.Core.List.Memᴰ.head refl, r.0, r.1)))
      (λ t. let r = from_one hs t in (r.0, (mathlib.Core.List.Memᴰ.tail r.1.0, r.1.1, r.1.2)))
      (mathlib.Core.List.Memᴰ.append_cases (reaching h.table.infinity (covered n h.entries i)) m)

  by_one : (hs : List Held) (h : Held) → Of hs h → Memᴰ d (distances n hs i)
  unfolding distances
  by_one [] h o = absurd (mathlib.Core.List.Memᴰ.not-nil o.0)
  by_one (g ∷ hs) h o =
      ⊎_elim
      (λ q. mathlib.Core.List.Memᴰ.append_left (distances n hs i) (reaches g.table.infinity d (rw q at o.2) _ (rw q at o.1)))
      (λ t. mathlib.Core.List.Memᴰ.append_right (reaching g.table.infinity (covered n g.entries i)) (by_one hs h (t, o.1, o.2)))
      (mathlib.Core.List.Memᴰ.cases_cons o.0)

-- of m numbers in a row each is below the end, and so is what is read past them
row_below : (m from j : ℕ) → 0 < from + m → get_or (counting m from) j 0 < from + m
row_below zero from j h = h
row_below (suc m) from zero h = omega arith
row_below (suc m) from (suc j) h = let r = row_below m (suc from) j (omega arith) in omega arith

-- so a place that is covered is one of the table's
covered-below : (n m i j : ℕ) → 0 < m → Memᴰ j (covered_places n m i) → j < m
covered-below n m i j h covers =
    let r = at_place n i j (counting m 0) covers in
    let below = row_below m 0 r.0 (omega arith) in
    omega (arith, r.2)

module _ (b : ℕ) (most : b ≤ 32) (i : ℕ) (low : i < 2 ^ b) (hs : List Held) where
  counts : Powers hs → (d : ℕ) → Memᴰ d (distances (2 ^ b) hs i) → Counts b i hs d
  counts powers d m =
      let r = from_one (2 ^ b) i d hs m in
      let h : Held = r.0 in
      let p = powers h r.1.0 in
      let c : ℕ = p.0 in
      let q = at_place (2 ^ b) i d h.entries r.1.1 in
      let j : ℕ = q.0 in
      let covers : Memᴰ j (covered_places (2 ^ b) (2 ^ c) i) = rw p.2 at q.1 in
      record {
        table = h;
        one = r.1.0;
        bits = c;
        most = p.1;
        long = p.2;
        place = j;
        common = (once_for_all-lengths b c most p.1 i j low (covered-below (2 ^ b) (2 ^ c) i j (pow_pos c) covers)
            ).common.0 covers;
        entry = q.2;
        reaches = r.1.2;
      }

  counted : (d : ℕ) → Counts b i hs d → Memᴰ d (distances (2 ^ b) hs i)
  counted d x =
      let c : ℕ = x.bits in
      let below = common-below c x.common x.most in
      let m = (once_for_all-lengths b c most x.most i x.place low below).common.1 x.common in
      by_one (2 ^ b) i d hs x.table
      (x.one, of_place (2 ^ b) i d x.table.entries x.place (rw x.long m) x.entry, x.reaches)

-- ---- one entry

module _ (b : ℕ) (most : b ≤ 32) (infinity : ℕ) (names : List (List ℕ)) (hs : List Held) (i : ℕ) (low : i < 2 ^ b) where
  abbrev made : ℕ
  made = get_or (made_entries infinity (2 ^ b) names hs) i 0

  abbrev ds : List ℕ
  ds = distances (2 ^ b) hs i

  same : (k : List ℕ) → place_in (2 ^ b) k ≡ place_of b k
  same k = place-scaled b k most

  made-own : Memᴰ i (own_places (2 ^ b) names) → made ≡ 1
  unfolding made_entries
  made-own m = on i (own_places (2 ^ b) names) _ (rw (relayed-length infinity (2 ^ b) hs) low) m

  made-relayed : (Memᴰ i (own_places (2 ^ b) names) → ⊥) → made ≡ nearest infinity ds
  unfolding made_entries
  made-relayed n = off i (own_places (2 ^ b) names) _ n ∙ relayed-at infinity (2 ^ b) hs i low

  -- where a keyword of an own name falls, the place is marked
  marks : FallsOn b names i → Memᴰ i (own_places (2 ^ b) names)
  marks v = marked (2 ^ b) b same i names v.0 v.1 v.2.0 v.2.1 v.2.2

  made-entry : Powers hs → MadeEntry (FallsOn b names i) b i hs infinity made
  made-entry powers =
      let says = falls (2 ^ b) b same i names in
      let relays : (FallsOn b names i → ⊥) → made ≡ nearest infinity ds = λ n. made-relayed (λ m. n (says m)) in
      let most-of = nearest-most infinity ds in
      let count = counts b most i low hs powers in
      let member = counted b most i low hs in
      record {
        own = λ v. made-own (marks v);
        none = λ n f. let r = relays n in
            let o = nearest-over infinity infinity (omega arith) ds (λ d m. absurd (f d (count d m))) in
            omega arith;
        relayed = λ n e l. let r = relays n in
            let a = nearest-near infinity ds e (member e l.0) in
            let o = nearest-over infinity (min infinity (e + 1)) (omega arith) ds
            (λ d m. let h = l.1 d (count d m) in omega arith) in
            omega arith;
        known = ⊎_elim (λ m. inl (says m)) (λ n. inr (λ v. n (marks v))) (among i (own_places (2 ^ b) names));
        either = ⊎_elim (λ f. inl (λ e c. f e (member e c)))
            (λ r. inr (r.0, (count r.0 r.1.0, λ d c. r.1.1 d (member d c))))
            (least_of ds);
      }

  -- and it is not above one more than what counts
  made-near : 1 ≤ infinity → (d : ℕ) → Memᴰ d ds → made ≤ min infinity (d + 1)
  made-near one d m =
      let a = nearest-most infinity ds in
      let c = nearest-near infinity ds d m in
      ⊎_elim (λ o. let e = made-own o in omega arith) (λ n. let e = made-relayed n in omega arith)
      (among i (own_places (2 ^ b) names))

pub made-exactly : MadeExactly
made-exactly n b e most infinity names hs powers i low =
    rw e (made-entry b most infinity names hs i (rw e at low) powers)

-- ---- all entries

pub made-long : MadeLong
unfolding made_entries
made-long infinity n names hs = ones_length (own_places n names) _ ∙ relayed-length infinity n hs

pub made-within : MadeWithin
unfolding made_entries relayed_entries
made-within infinity n one names hs =
    within_ones infinity one (own_places n names) _
    (all_map _ (in_bounds infinity) (counting n 0) ∙ all_of _ bounds (counting n 0))
  where
    bounds : (i : ℕ) → in_bounds infinity (nearest infinity (distances n hs i)) ≡ true
    bounds i =
        let ds = distances n hs i in
        and_intro (leb 1 (nearest infinity ds)) (leb (nearest infinity ds) infinity)
        (le-leb 1 (nearest infinity ds) (nearest-over infinity 1 one ds (λ d m. omega arith)))
        (le-leb (nearest infinity ds) infinity (nearest-most infinity ds))

pub made-alone : MadeAlone
unfolding made_entries own_entries merged_all
made-alone infinity n names = ap (with_ones (own_places n names)) (sym (all-merged infinity n []))

-- ---- keywords

pub own-nearest : OwnNearest
own-nearest b most infinity names hs x k m mk =
    let low = place-below b k most in
    made-own b most infinity names hs (place_of b k) low
    (marks b most infinity names hs (place_of b k) low (x, m, (k, mk, refl)))

pub never-farther : NeverFarther
never-farther b c most mostc infinity one names hs h k m long other =
    let i : ℕ = place_of b k in
    let d : ℕ = get_or h.entries (place_of c k) 0 in
    let covers : Memᴰ (place_of c k) (covered_places (2 ^ b) (length h.entries) i)
    = rw long (keyword_covered b c most mostc k) in
    made-near b most infinity names hs i (place-below b k most) one d
    (by_one (2 ^ b) i d hs h (m, of_place (2 ^ b) i d h.entries (place_of c k) covers refl, other))

pub passes_on : PassesOn
passes_on b c most mostc infinity names hs h t holds m settles size long keywords ttl life passes =
    refuted (withholds t keywords (ttl + 1))
    (λ e. unstopped ((withheld-exactly t b most holds.long keywords (ttl + 1)).0 e))
  where
    -- a keyword's entry is not Infinity and not above the TTL, so the made one is not either
    unstopped : Withheld t (λ k. get_or t.entries (place_of b k) 0) keywords (ttl + 1) → ⊥
    unstopped w =
        let k : List ℕ = w.1.0 in
        let d : ℕ = get_or h.entries (place_of c k) 0 in
        let lets : (d ≡ h.table.infinity) ⊎ (ttl < d) → ⊥ =
        λ q. clash ((withheld-exactly h c mostc size keywords ttl).1 (settles, (k, w.1.1, q))) passes in
        let far : ttl < d → ⊥ = λ q. lets (inr q) in
        let near = never-farther b c most mostc infinity (omega arith) names hs h k m long (λ q. lets (inl q)) in
        let same : get_or t.entries (place_of b k) 0 ≡ get_or (made_entries infinity (2 ^ b) names hs) (place_of b k) 0
        = ap (λ (es : List ℕ). get_or es (place_of b k) 0) holds.entries in
        let limit = holds.limit in
        ⊎_elim (λ q. omega arith) (λ q. omega arith) w.1.2
