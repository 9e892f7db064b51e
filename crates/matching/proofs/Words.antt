-- Which names match a text, and which places are told, in words.
use Prim.Native.Nat.{ℕ}
use mathlib.Core.Path.{◌≡◌, refl, sym, ap, ◌∙◌}
use mathlib.Core.Bool.{Bool, true, false, ◌&&◌}
use mathlib.Core.Logic.{⊎_elim}
use mathlib.Core.List.{List, [], ◌∷◌}
use mathlib.Core.List.Memᴰ
use mathlib.Core.List.{Memᴰ}
use lib.Dec.{leb, ltb}
use lib.ListN.{length}
use Rattle.laws.specs.Tests.{all}
use Rattle.laws.proofs.Refusals.{clash, and_fst, and_snd, and_intro, or_split, or_left, or_right}
use Rattle.laws.proofs.Words.{and_iff, less_iff, most_iff}
use Rattle.ascii.specs.Text.{same}
use Rattle.keywords.specs.Keywords.{keywords_of}
use Rattle.namearea.specs.Area.{count_in, name_at}
use Rattle.namearea.proofs.GoodLaws.{same-is, is_same}
use Rattle.matching.specs.Matching.{is_among, has_each, matches}
use Rattle.matching.specs.Words.{HasEvery, MatchesExactly, PlacesExactly}
use Rattle.matching.proofs.MatchLaws.{has-each, places-at}

-- ---- keywords

-- a keyword is among these exactly if it is one of them
pub among-forth : (k : List ℕ) (ks : List (List ℕ)) → is_among k ks ≡ true → Memᴰ k ks
among-forth k [] e = absurd (clash e refl)
among-forth k (q ∷ ks) e =
    ⊎_elim (λ s. Memᴰ.head (same-is k q s)) (λ t. Memᴰ.tail (among-forth k ks t))
    (or_split (same false k q) (is_among k ks) e)

among-back : (k : List ℕ) (ks : List (List ℕ)) → Memᴰ k ks → is_among k ks ≡ true
among-back k [] m = absurd (Memᴰ.not-nil m)
among-back k (q ∷ ks) m =
    ⊎_elim (λ e. or_left (same false k q) (is_among k ks) (is_same k q e))
    (λ t. or_right (same false k q) (is_among k ks) (among-back k ks t))
    (Memᴰ.cases_cons m)

-- a test of each holds exactly if it holds of every one
module _ (test : List ℕ → Bool) where
  each-forth : (ks : List (List ℕ)) → all test ks ≡ true → (k : List ℕ) → Memᴰ k ks → test k ≡ true
  each-forth [] e k m = absurd (Memᴰ.not-nil m)
  each-forth (q ∷ ks) e k m =
      ⊎_elim (λ s. ap test s ∙ and_fst (test q) (all test ks) e)
      (λ t. each-forth ks (and_snd (test q) (all test ks) e) k t)
      (Memᴰ.cases_cons m)

  each_back : (ks : List (List ℕ)) → ((k : List ℕ) → Memᴰ k ks → test k ≡ true) → all test ks ≡ true
  each_back [] f = refl
  each_back (q ∷ ks) f =
      and_intro (test q) (all test ks) (f q (Memᴰ.head refl)) (each_back ks (λ k m. f k (Memᴰ.tail m)))

-- ---- names

pub matches-exactly : MatchesExactly
unfolding matches
matches-exactly text name = (forth, back)
  where
    forth : has_each (keywords_of text) (keywords_of name) ≡ true → HasEvery text name
    forth e =
        let some : keywords_of text ≡ [] → ⊥ = λ z. clash e (ap (λ ks. has_each ks (keywords_of name)) z) in
        let each = sym (has-each (keywords_of text) (keywords_of name) some) ∙ e in
        record {
          some = some;
          every = λ k m. among-forth k (keywords_of name)
              (each-forth (λ q. is_among q (keywords_of name)) (keywords_of text) each k m);
        }

    back : HasEvery text name → has_each (keywords_of text) (keywords_of name) ≡ true
    back h =
        has-each (keywords_of text) (keywords_of name) h.some
        ∙ each_back (λ q. is_among q (keywords_of name)) (keywords_of text)
        (λ k m. among-back k (keywords_of name) (h.every k m))

-- ---- places

pub places-exactly : PlacesExactly
places-exactly text a i h =
    let e = places-at text a i h in
    let name = name_at a i in
    let there = and_iff (ltb i (count_in a)) (matches text name) (less_iff i (count_in a)) (matches-exactly text name) in
    let told =
    and_iff (leb (length text) 4096) (ltb i (count_in a) && matches text name) (most_iff (length text) 4096) there in (
      λ t. let p = told.0 (sym e ∙ t) in record { short = p.0; listed = p.1.0; every = p.1.1 },
      λ m. e ∙ told.1 (m.short, (m.listed, m.every)),
    )
