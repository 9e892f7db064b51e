-- The quick test: where its places are gone through and none agrees, the name does not match.
use Prim.Native.Nat.{ℕ, ◌+◌, ◌-◌, ◌/◌, ◌%◌, ◌≤◌, ◌<◌}
use native.Mathlib.Nat.{add-mod_right}
use native.Mathlib.Decide.{dec_le}
use native.Mathlib.Omega.{arith}
use mathlib.Core.Path.{◌≡◌, refl, sym, ap, ◌∙◌}
use mathlib.Core.Bool.{Bool, true, false, cond, ◌&&◌}
use mathlib.Core.List.{List, [], ◌∷◌, map}
use lib.Dec.{leb, eqb}
use lib.ListN.{length, get_or, take, length-map, length-take}
use lib.Seq.{get_or-take}
use Rattle.std.proofs.lemmas.List.{get_or_default}
use Rattle.std.proofs.Common.{Option, Some, None, MatchOption, Contains}
use borrow.Author.Tests.{eq-eqb}
use Rattle.laws.specs.Tests.{all}
use Rattle.laws.proofs.Refusals.{clash, and_intro}
use Rattle.laws.proofs.Rings.{map-get_or}
use Rattle.laws.proofs.Words.{refuted}
use Rattle.ascii.specs.Text.{lower}
use Rattle.keywords.specs.Keywords.{keywords_of}
use Rattle.keywords.proofs.Standing.{Stands, keyword_stands}
use Rattle.matching.specs.declared.quick.Sample.{Sample}
use Rattle.matching.specs.Matching.{is_among, has_each, matches}
use Rattle.matching.specs.declared.kept.Span.{Span}
use Rattle.matching.specs.Kept.{part_of, no_span, key_at, Gathered}
use Rattle.matching.specs.Quick.{sample_of, Agrees, NoneIn, Nowhere, Telling, NoneMatches}
use Rattle.matching.proofs.MatchLaws.{match_none}
use Rattle.matching.proofs.Words.{among-forth}

-- ---- places

-- three tests, one of which fails
pub not_agreed : (a b c x y z : ℕ) → ((eqb a x && eqb b y) && eqb c z) ≡ false → a ≡ x → b ≡ y → c ≡ z → ⊥
not_agreed a b c x y z e p q r =
    clash (and_intro (eqb a x && eqb b y) (eqb c z)
    (and_intro (eqb a x) (eqb b y) (eq-eqb a x p) (eq-eqb b y q)) (eq-eqb c z r)) e

module _ (s : Sample) (name : List ℕ) where
  -- two runs of places that overlap or touch
  pub none-join : (a b c d from to : ℕ) → NoneIn s name a b → NoneIn s name c d → a ≤ from → c ≤ b → to ≤ d
      → NoneIn s name from to
  none-join a b c d from to f g u v w p h k = by (dec_le (p + 1) b)
    where
      by : Dec (p + 1 ≤ b) → Agrees s name p → ⊥
      by (yes l) = f p (omega arith) (omega arith)
      by (no l) = g p (omega arith) (omega arith)

  pub none_more : (from i : ℕ) → NoneIn s name from (from + i) → (Agrees s name (from + i) → ⊥)
      → NoneIn s name from (from + (i + 1))
  none_more from i before here =
      none-join from (from + i) (from + i) (from + i + 1) from (from + (i + 1)) before
      (λ p h k a. let e : p ≡ from + i = omega arith in here (rw e at a)) (omega arith) (omega arith) (omega arith)

  -- at every place that has room for the word
  pub none-all : (to : ℕ) → length name ≤ to + s.end → NoneIn s name 0 to → Nowhere s name
  none-all to h f p a = f p (omega arith) (omega (arith, a.inside)) a

-- ---- a keyword

-- the cases of a letter agree modulo 32
lower_mod : (b : ℕ) → lower b % 32 ≡ b % 32
unfolding lower
lower_mod b = by (leb 65 b && leb b 90)
  where
    by : (t : Bool) → cond t (b + 32) b % 32 ≡ b % 32
    by true = add-mod_right b 32
    by false = refl

-- where a word stands, its sample agrees
stands-agrees : (word name : List ℕ) → (st : Stands (map lower word) name) → Agrees (sample_of word) name st.at
stands-agrees word name st =
    let size = length-map word lower in
    let full = st.some in
    let e : st.at + 0 ≡ st.at = omega arith in
    record {
      inside = omega (arith, st.inside);
      first = rw e at (here 0 (omega arith));
      middle = here ((length word - 1) / 2) (omega arith);
      last = here (length word - 1) (omega arith);
    }
  where
    here : (j : ℕ) → j < length word → get_or name (st.at + j) 0 % 32 ≡ get_or word j 0 % 32
    here j h =
        let same = sym (map-get_or lower word j 0 0 h) ∙ st.each j (omega (arith, length-map word lower)) in
        sym (lower_mod (get_or name (st.at + j) 0)) ∙ ap (λ n. n % 32) (sym same) ∙ lower_mod (get_or word j 0)

has_all : (ks own : List (List ℕ)) → has_each ks own ≡ true → all (λ q. is_among q own) ks ≡ true
has_all [] own e = refl
has_all (k ∷ ks) own e = e

module _ (text : List ℕ) (spans : List Span) (count : ℕ) (g : Gathered text spans count) where
  -- where none is kept, no name matches
  pub unmatched : count ≡ 0 → NoneMatches text
  unmatched z name = match_none text spans count g name z

  module _ (span : Span) (place : ℕ) (inside : place < count) (is : get_or spans place no_span ≡ span) where
    -- a keyword that is kept stands in each name that matches
    stands : (name : List ℕ) → matches text name ≡ true → Stands (map lower (part_of text span)) name
    unfolding matches key_at
    stands name t =
        let word = map lower (part_of text span) in
        let each = has_all (keywords_of text) (keywords_of name) t in
        let among = rw is at ((g.whole (λ q. is_among q (keywords_of name))).0 each place inside) in
        keyword_stands name word (among-forth word (keywords_of name) among)

    -- its sample tells; and if it has no bytes, no name matches
    kept-tells : (o : Option Sample)
        → MatchOption o (part_of text span ≡ []) (λ s. s ≡ sample_of (part_of text span))
        → MatchOption o (NoneMatches text) (λ s. (0 < count) × Telling text s)
    kept-tells None e = λ name.
        refuted (matches text name) (λ t.
        let st = stands name t in
        let size = length-map (part_of text span) lower in
        let z = ap length e in
        absurd (omega (arith, st.some)))
    kept-tells (Some s) e = (
      omega arith,
      λ name none.
          refuted (matches text name) (λ t.
          let st = stands name t in
          rw e at none st.at (stands-agrees (part_of text span) name st)),
    )

  pub sampled : (span : Span) → count ≤ length spans → Contains (take count spans) span → (word : List ℕ)
      → word ≡ part_of text span → (o : Option Sample) → MatchOption o (word ≡ []) (λ s. s ≡ sample_of word)
      → MatchOption o (NoneMatches text) (λ s. (0 < count) × Telling text s)
  sampled span long k word e o h =
      let inside : k.0 < count = omega (arith, k.1, length-take count spans) in
      kept-tells span k.0 inside (
      get_or_default spans k.0 no_span span (omega arith)
      ∙ sym (get_or-take count spans k.0 span inside)
      ∙ k.2) o (rw e at h)
