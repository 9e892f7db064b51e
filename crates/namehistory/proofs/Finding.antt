-- What a find tells: in a good area it is what the names say alone, and names that differ have one place each.
-- Assumes nothing.
use Prim.Native.Nat.{ℕ, ◌+◌, ◌-◌, ◌<◌}
use native.Mathlib.Omega.{arith}
use mathlib.Core.Path.{◌≡◌, refl, sym, ap, ◌∙◌}
use mathlib.Core.Bool.{Bool, true, false, cond, not}
use mathlib.Core.List.{List, [], ◌∷◌, ◌++◌}
use lib.Dec.{eqb}
use lib.ListN.{length, take, drop, length-append}
use lib.Seq.{get_or-append_seam}
use Rattle.laws.specs.Tests.{all}
use Rattle.laws.proofs.Refusals.{clash, all_get_d}
use Rattle.laws.proofs.Words.{refuted}
use Rattle.namearea.specs.declared.Found.{Found}
use Rattle.namearea.specs.Area.{count_in, names_in}
use Rattle.namearea.specs.Good.{good_name, same_text, differ, pairwise}
use Rattle.namearea.specs.Calls.{list_answer, is_listed, place_among, finding, with_last, without}
use Rattle.namearea.specs.Calls.{Relisted, Added, Removed}
use Rattle.namearea.proofs.GoodLaws.{listed, names-length, names_at, same-is}
use Rattle.namehistory.specs.Finding.{at, absent, NamedAt, FoundExactly, IsLast, AddedLast, IsGone}
use Rattle.namehistory.specs.Finding.{RemovedGone}
use Rattle.namehistory.proofs.Answers.{add-zero, find-good, find-zero, good-answer}
use Rattle.namehistory.proofs.Answers.{good-parts}
use Rattle.namehistory.proofs.Places.{unlisted, listed_at, Place, place, one_place, place_is, listed_more}
use Rattle.namehistory.proofs.Places.{place-more, cut, cut-length, place-before, place-behind, place-back}

-- a find among names, with no area
abbrev unfit : Found
unfit = record { answer = 6; place = 0 }

abbrev among_names : List (List ℕ) → List ℕ → Found
among_names names x = cond (good_name x) (cond (is_listed x names) (at (place_among x names)) absent) unfit

abbrev told : ℕ → ℕ → Found
told n i = record { answer = n; place = cond (eqb n 0) i 0 }

-- in a good area it is that
module _ (a x : List ℕ) (good : list_answer a ≡ 0) where
  finding-good : finding a x ≡ among_names (names_in a) x
  unfolding finding
  finding-good = rw (find-good a x good) (go (good_name x) (is_listed x (names_in a)) (place_among x (names_in a)))
    where
      go : (g l : Bool) (i : ℕ) → told (cond (not g) 6 (cond (not l) 10 0)) i ≡ cond g (cond l (at i) absent) unfit
      go true true i = refl
      go true false i = refl
      go false l i = refl

  names-good : all good_name (names_in a) ≡ true
  names-good = (listed a (good-parts a good).1).named

  names-differ : pairwise differ (names_in a) ≡ true
  names-differ = (listed a (good-parts a good).1).distinct

-- place i is told exactly if it has the name
among-place : (names : List (List ℕ)) (x : List ℕ) (i : ℕ) → among_names names x ≡ at i → Place x names i
among-place names x i e = go (good_name x) (is_listed x names) refl e
  where
    go : (g l : Bool) → is_listed x names ≡ l → cond g (cond l (at (place_among x names)) absent) unfit ≡ at i
        → Place x names i
    go true true t q =
        let p : place_among x names ≡ i = ap (λ (f : Found). f.place) q in
        rw p at (place x names t)
    go true false t q = let z : ◌≡◌ {A = ℕ} 10 0 = ap (λ (f : Found). f.answer) q in absurd (omega arith)
    go false l t q = let z : ◌≡◌ {A = ℕ} 6 0 = ap (λ (f : Found). f.answer) q in absurd (omega arith)

place-among : (names : List (List ℕ)) (x : List ℕ) (i : ℕ) → all good_name names ≡ true → pairwise differ names ≡ true
    → Place x names i → among_names names x ≡ at i
place-among names x i g d p =
    let n : good_name x ≡ true = rw p.has at (all_get_d good_name names i [] g p.below) in
    rw (n, listed_at x names i p.below p.has, place_is x names i d p)

-- 0 is told in a good area only
told-good : (a x : List ℕ) (i : ℕ) → finding a x ≡ at i → list_answer a ≡ 0
unfolding finding
told-good a x i e = find-zero a x (ap (λ (f : Found). f.answer) e)

told-place : (a x : List ℕ) (i : ℕ) → finding a x ≡ at i → Place x (names_in a) i
told-place a x i e =
    among-place (names_in a) x i (sym (finding-good a x (told-good a x i e)) ∙ e)

place-told : (a x : List ℕ) (i : ℕ) → list_answer a ≡ 0 → Place x (names_in a) i → finding a x ≡ at i
place-told a x i g p = finding-good a x g ∙ place-among (names_in a) x i (names-good a x g) (names-differ a x g) p

-- by pairs
named : (a x : List ℕ) (i : ℕ) → finding a x ≡ at i → NamedAt a x i
named a x i e =
    let p : Place x (names_in a) i = told-place a x i e in
    let b : i < count_in a = rw (names-length (count_in a) a) at p.below in
    record { good = told-good a x i e; below = b; name = sym (names_at (count_in a) a i b) ∙ p.has }

named-place : (a x : List ℕ) (i : ℕ) → NamedAt a x i → Place x (names_in a) i
named-place a x i n =
    record {
      below = rw (names-length (count_in a) a) n.below;
      has = names_at (count_in a) a i n.below ∙ n.name;
    }

pub found-exactly : FoundExactly
found-exactly a x =
    record {
      exactly = λ i. (named a x i, λ n. place-told a x i n.good (named-place a x i n));
      only = λ i j n m.
          let p = named-place a x i n in
          let q = named-place a x j m in
          one_place (names_in a) i j (names-differ a x n.good) p.below q.below (p.has ∙ sym q.has);
    }

-- An add that is answered 0
module _ (area x after : List ℕ) (added : Added area x 0 after) where
  abbrev names : List (List ℕ)
  names = names_in area

  was-good : list_answer area ≡ 0
  was-good = add-zero area x (sym added.answers)

  relisted : Relisted area after (with_last names x)
  relisted = added.done refl

  now-good : list_answer after ≡ 0
  now-good = good-answer area after was-good relisted.long relisted.good

  last-place : Place x (with_last names x) (length names)
  last-place =
      record {
        below = rw (length-append names (x ∷ [])) (omega arith);
        has = get_or-append_seam names x [] [];
      }

  among-more : (y : List ℕ) → same_text y x ≡ false → among_names (with_last names x) y ≡ among_names names y
  among-more y o = rw (listed_more y x o names) (go (is_listed y names) (place-more y names (x ∷ [])))
    where
      go : (l : Bool) → (l ≡ true → place_among y (with_last names x) ≡ place_among y names)
          → cond (good_name y) (cond l (at (place_among y (with_last names x))) absent) unfit
          ≡ cond (good_name y) (cond l (at (place_among y names)) absent) unfit
      go true e = ap (λ i. cond (good_name y) (at i) unfit) (e refl)
      go false e = refl

  is_last : IsLast area x after
  is_last =
      record {
        names = relisted.listed;
        count =
            sym (names-length (count_in after) after) ∙ ap length relisted.listed ∙ length-append names (x ∷ [])
            ∙ ap (λ n. n + 1) (names-length (count_in area) area);
        found = place-told after x (length names) now-good (rw relisted.listed last-place);
        others = λ y n.
            finding-good after y now-good ∙ ap (λ l. among_names l y) relisted.listed
            ∙ among-more y (refuted (same_text y x) (λ e. n (same-is y x e)))
            ∙ sym (finding-good area y was-good);
      }

pub added-last : AddedLast
added-last = is_last

-- a refusal in a good area: the name is none that may be listed, or is absent
among-refused : (ns ms : List (List ℕ)) (y : List ℕ) → (is_listed y ns ≡ false → is_listed y ms ≡ false)
    → ((among_names ns y).answer ≡ 0 → ⊥) → among_names ms y ≡ among_names ns y
among-refused ns ms y f n = go (good_name y) (is_listed y ns) refl n
  where
    go : (g l : Bool) → is_listed y ns ≡ l
        → ((cond g (cond l (at (place_among y ns)) absent) unfit).answer ≡ 0 → ⊥)
        → cond g (cond (is_listed y ms) (at (place_among y ms)) absent) unfit
        ≡ cond g (cond l (at (place_among y ns)) absent) unfit
    go true true t z = absurd (z refl)
    go true false t z = rw (f t)
    go false l t z = refl

-- A remove that is answered 0
module _ (area x after : List ℕ) (removed : Removed area x 0 after) where
  abbrev old : List (List ℕ)
  old = names_in area

  abbrev place_of : ℕ
  place_of = (finding area x).place

  found-was : finding area x ≡ at place_of
  unfolding finding
  found-was = λ k. record { answer = sym removed.answers k; place = (finding area x).place }

  good-was : list_answer area ≡ 0
  good-was = told-good area x place_of found-was

  stood : Place x old place_of
  stood = told-place area x place_of found-was

  new-list : Relisted area after (without old x)
  new-list = removed.done refl

  good-now : list_answer after ≡ 0
  good-now = good-answer area after good-was new-list.long new-list.good

  abbrev left : List (List ℕ)
  left = cut old place_of stood.below

  names-left : names_in after ≡ left
  names-left =
      new-list.listed
      ∙ ap (λ i. take i old ++ drop (i + 1) old) (place_is x old place_of (names-differ area x good-was) stood)

  -- what stands after the remove stood before it, and is another
  gone-from : (j : ℕ) → Place x left j → ⊥
  gone-from j p =
      let b = place-back old place_of stood.below x j p in
      b.1.0
      (one_place old b.0 place_of (names-differ area x good-was) b.1.1.below stood.below
      (b.1.1.has ∙ sym stood.has))

  not_left : (y : List ℕ) → is_listed y old ≡ false → is_listed y left ≡ false
  not_left y u =
      unlisted y left (λ j h e.
      let b = place-back old place_of stood.below y j (record { below = h; has = e }) in
      clash (listed_at y old b.0 b.1.1.below b.1.1.has) u)

  name-fit : good_name x ≡ true
  name-fit = rw stood.has at (all_get_d good_name old place_of [] (names-good area x good-was) stood.below)

  is-gone : IsGone area x place_of after
  unfolding finding
  is-gone =
      record {
        was = found-was;
        count =
            sym (names-length (count_in after) after) ∙ ap length names-left ∙ cut-length old place_of stood.below
            ∙ ap (λ n. n - 1) (names-length (count_in area) area);
        gone =
            finding-good after x good-now ∙ ap (λ l. among_names l x) names-left
            ∙ rw (name-fit, unlisted x left (λ j h e. gone-from j (record { below = h; has = e })));
        before = λ y j e h.
            place-told after y j good-now
            (rw names-left (place-before old place_of stood.below y j (told-place area y j e) h));
        behind = λ y j e h.
            place-told after y (j - 1) good-now
            (rw names-left (place-behind old place_of stood.below y j (told-place area y j e) h));
        refused = λ y n.
            finding-good after y good-now ∙ ap (λ l. among_names l y) names-left
            ∙ among-refused old left y (not_left y)
            (λ z. n (ap (λ (f : Found). f.answer) (finding-good area y good-was) ∙ z))
            ∙ sym (finding-good area y good-was);
      }

pub removed_gone : RemovedGone
removed_gone = is-gone
