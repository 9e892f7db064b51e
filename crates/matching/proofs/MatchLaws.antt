-- Marks at the places of kept keywords, and what they tell of a name.
use Prim.Native.Nat.{ℕ, zero, suc, min, ◌+◌, ◌≤◌, ◌<◌}
use mathlib.Core.Path.{◌≡◌, refl, sym, ap, ◌∙◌}
use mathlib.Core.Bool.{Bool, true, false, ◌&&◌, ◌||◌, and-false, or-true, or-false, or_assoc}
use mathlib.Core.Logic.{◌↔◌}
use mathlib.Core.List.{List, [], ◌∷◌, ◌++◌, map}
use native.Mathlib.Decide.{dec_le}
use native.Mathlib.Omega.{arith}
use lib.Dec.{leb, ltb, eqb}
use lib.ListN.{length, get_or, set, take, replicate, length-set, length-take}
use lib.Seq.{get_or-set_same, get_or-set_other, get_or-take, ext_get_or}
use borrow.Author.Count.{below_more}
use borrow.Author.Tests.{eqb-true, eqb-false, le-leb, lt-leb, lt-ltb, le-ltb}
use Rattle.std.proofs.Common.{Result, Ok, Err, MatchBool, HoldsAt}
use Rattle.std.specs.List.{AllWithin}
use Rattle.laws.specs.Tests.{all}
use Rattle.laws.proofs.Refusals.{clash}
use Rattle.laws.proofs.Words.{refuted}
use Rattle.laws.proofs.Ranks.{each_at}
use Rattle.ascii.specs.Text.{lower, same}
use Rattle.keywords.specs.Keywords.{keywords_of, words_of}
use Rattle.keywords.proofs.CutLaws.{keywords_words}
use Rattle.namearea.specs.Area.{count_in, name_at}
use Rattle.namearea.proofs.GoodLaws.{same-is, is_same}
use Rattle.matching.specs.Matching.{is_among, has_each, matches, matching_places}
use Rattle.matching.specs.declared.kept.Span.{Span}
use Rattle.matching.specs.Kept.{key_at, Rising, Sought, Gathered, Marked}
use Rattle.matching.proofs.KeptLaws.{only, nowhere}

-- ---- one word

-- what a search tells of the place that is marked: where x stands it gets a mark, and else none does
abbrev pub marked : Result ℕ ℕ → List Bool → List Bool
marked (Ok r) marks = set marks r true
marked (Err r) marks = marks

module _ (key : ℕ → List ℕ) (count : ℕ) (x : List ℕ) (rising : Rising key count) (marks : List Bool) where
  abbrev here : List ℕ → Bool
  here k = same false k x

  -- a place where x does not stand keeps its mark
  other : (i : ℕ) → (key i ≡ x → ⊥) → get_or marks i false ≡ (get_or marks i false || here (key i))
  other i n =
      let off = refuted (here (key i)) (λ s. n (same-is (key i) x s)) in
      sym (ap (λ b. get_or marks i false || b) off ∙ or-false (get_or marks i false))

  pub mark_found : (found : Result ℕ ℕ) → Sought key count x found → count ≤ length marks
      → Marked (λ k. same false k x) key count marks (marked found marks)
  mark_found (Err r) ranked long = record { size = refl; each = λ i h. other i (nowhere key count x r ranked i h) }
  mark_found (Ok r) at long = record { size = length-set marks r true; each = λ i h. by i h (eqb i r) refl }
    where
      by : (i : ℕ) → i < count → (b : Bool) → eqb i r ≡ b
          → get_or (set marks r true) i false ≡ (get_or marks i false || here (key i))
      by i h true q =
          let p = eqb-true i r q in
          let k : key i ≡ x = ap key p ∙ at.here in
          let l : r < length marks = omega (arith, at.inside) in
          ap (λ n. get_or (set marks r true) n false) p
          ∙ get_or-set_same marks r true false l
          ∙ sym (ap (λ b. get_or marks i false || b) (is_same (key i) x k) ∙ or-true (get_or marks i false))
      by i h false q =
          get_or-set_other marks r i true false (eqb-false i r q)
          ∙ other i (λ k. eqb-false i r q (only key count x rising r at i h k))

-- ---- the keywords of a name

-- with the keywords that are left of the name, the marks tell what they told with all of them
pub record Marking (key : ℕ → List ℕ) (count : ℕ) (name : List ℕ) (marks₀ : List Bool) (words : List (List ℕ))
    (marks : List Bool) : Type 0 where
  pub size : length marks ≡ length marks₀
  pub each : (i : ℕ) → i < count → (get_or marks i false || is_among (key i) (map (map lower) words))
      ≡ (get_or marks₀ i false || is_among (key i) (keywords_of name))

module _ (key : ℕ → List ℕ) (count : ℕ) (name : List ℕ) (marks₀ : List Bool) where
  pub name-all : (words : List (List ℕ)) → words ≡ words_of name → Marking key count name marks₀ words marks₀
  name-all words e =
      record {
        size = refl;
        each = λ i h.
            ap (λ ks. get_or marks₀ i false || is_among (key i) ks) (ap (map (map lower)) e ∙ sym (keywords_words name));
      }

  module _ (marks : List Bool) where
    pub name-more : (left words : List (List ℕ)) (word : List ℕ) → left ≡ word ∷ words
        → Marking key count name marks₀ left marks → (after : List Bool)
        → Marked (λ k. same false k (map lower word)) key count marks after
        → Marking key count name marks₀ words after
    name-more left words word e m after a = record { size = a.size ∙ m.size; each = each }
      where
        each : (i : ℕ) → i < count
            → (get_or after i false || is_among (key i) (map (map lower) words))
            ≡ (get_or marks₀ i false || is_among (key i) (keywords_of name))
        each i l =
            let x = map lower word in
            let more = map (map lower) words in
            ap (λ b. b || is_among (key i) more) (a.each i l)
            ∙ or_assoc (get_or marks i false) (same false (key i) x) (is_among (key i) more)
            ∙ ap (λ ws. get_or marks i false || is_among (key i) (map (map lower) ws)) (sym e)
            ∙ m.each i l

    pub name-end : (left : List (List ℕ)) → left ≡ [] → Marking key count name marks₀ left marks
        → Marked (λ k. is_among k (keywords_of name)) key count marks₀ marks
    name-end left e m =
        record {
          size = m.size;
          each = λ i l.
              sym (or-false (get_or marks i false))
              ∙ ap (λ ws. get_or marks i false || is_among (key i) (map (map lower) ws)) (sym e)
              ∙ m.each i l;
        }

-- ---- all marks

-- marks that were taken away
pub cleared : (n : ℕ) (front behind : List Bool) → front ≡ replicate n false → (i : ℕ) → i < n
    → get_or (front ++ behind) i false ≡ false
cleared n front behind e i h = rw e (by n i h)
  where
    by : (n i : ℕ) → i < n → get_or (replicate n false ++ behind) i false ≡ false
    by zero i h = absurd (omega arith)
    by (suc n) zero h = refl
    by (suc n) (suc i) h = by n i (omega arith)

-- what a test of each mark says
pub all_marks : (r : Bool) (marks : List Bool) (count : ℕ) → count ≤ length marks
    → MatchBool r (AllWithin (λ m. m ≡ true) (take count marks) 0 (length (take count marks)))
    ((k : ℕ) × (k < length (take count marks)) × HoldsAt (λ m. m ≡ false) (take count marks) k)
    → (r ≡ true) ↔ ((i : ℕ) → i < count → get_or marks i false ≡ true)
all_marks true marks count long h = (
  λ e i g. sym (get_or-take count marks i false g) ∙ h i false (omega arith) (omega (arith, length-take count marks)),
  λ f. refl,
)
all_marks false marks count long h =
    let inside : h.0 < count = omega (arith, length-take count marks, h.1) in
    let off = sym (get_or-take count marks h.0 false inside) ∙ h.2 false in
    (λ e. cc, λ f. let on = f h.0 inside in cc)

-- ---- the name

pub has-each : (ks own : List (List ℕ)) → (ks ≡ [] → ⊥) → has_each ks own ≡ all (λ q. is_among q own) ks
has-each [] own n = absurd (n refl)
has-each (k ∷ ks) own n = refl

none : (ks : List (List ℕ)) → all (λ q. false) ks ≡ true → ks ≡ []
none [] e = refl
none (k ∷ ks) e = absurd (clash e refl)

told : (s t : Bool) → (s ≡ true → t ≡ true) → (t ≡ true → s ≡ true) → s ≡ t
told true t f g = sym (f refl)
told false true f g = g refl
told false false f g = refl

module _ (text : List ℕ) (spans : List Span) (count : ℕ) (g : Gathered text spans count) (name : List ℕ) where
  -- a text without keywords
  pub match_none : count ≡ 0 → matches text name ≡ false
  unfolding matches
  match_none z =
      ap (λ ks. has_each ks (keywords_of name)) (none (keywords_of text) ((g.whole (λ q. false)).1
      (λ i h. absurd (omega arith))))

  module _ (some : 0 < count) (clean marks : List Bool)
      (cleared : (i : ℕ) → i < count → get_or clean i false ≡ false)
      (m : Marked (λ k. is_among k (keywords_of name)) (key_at text spans) count clean marks) where
    is : (i : ℕ) → i < count → get_or marks i false ≡ is_among (key_at text spans i) (keywords_of name)
    is i h = m.each i h ∙ ap (λ b. b || is_among (key_at text spans i) (keywords_of name)) (cleared i h)

    full : keywords_of text ≡ [] → ⊥
    full z = clash ((g.whole (λ q. false)).0 (ap (all (λ q. false)) z) 0 (omega arith)) refl

    pub match_told : (r : Bool) → (r ≡ true) ↔ ((i : ℕ) → i < count → get_or marks i false ≡ true)
        → r ≡ matches text name
    unfolding matches
    match_told r x =
        let w = g.whole (λ q. is_among q (keywords_of name)) in
        told r (all (λ q. is_among q (keywords_of name)) (keywords_of text))
        (λ t. w.1 (λ i h. sym (is i h) ∙ x.0 t i h))
        (λ t. x.1 (λ i h. is i h ∙ w.0 t i h))
        ∙ sym (has-each (keywords_of text) (keywords_of name) full)

-- ---- the places

replicated : (n k : ℕ) → get_or (replicate n false) k false ≡ false
replicated zero k = refl
replicated (suc n) zero = refl
replicated (suc n) (suc k) = replicated n k

module _ (text a : List ℕ) where
  pub places-long : length (matching_places text a) ≡ 512
  unfolding matching_places
  places-long = refl

  pub places-at : (i : ℕ) → i < 512 → get_or (matching_places text a) i false
      ≡ (leb (length text) 4096 && (ltb i (count_in a) && matches text (name_at a i)))
  unfolding matching_places
  places-at i h =
      each_at (λ k. leb (length text) 4096 && (ltb k (count_in a) && matches text (name_at a k))) false 512 i h

-- the places before place i have been told, and of the others none is found
pub record Filling (text a : List ℕ) (found : List Bool) (i : ℕ) : Type 0 where
  pub size : length found ≡ 512
  pub told : (k : ℕ) → k < i → get_or found k false ≡ get_or (matching_places text a) k false
  pub left : (k : ℕ) → i ≤ k → get_or found k false ≡ false

-- none is found where none is to be told
module _ (text a : List ℕ) where
  off : (k : ℕ) → k < 512 → (leb (length text) 4096 && (ltb k (count_in a) && matches text (name_at a k))) ≡ false
      → get_or (matching_places text a) k false ≡ false
  off k h e = places-at text a k h ∙ e

  pub fill_none : Filling text a (replicate 512 false) 0
  fill_none =
      record {
        size = refl;
        told = λ k h. absurd (omega arith);
        left = λ k h. replicated 512 k;
      }

  module _ (found : List Bool) (i : ℕ) (f : Filling text a found i) where
    pub fill_more : length text ≤ 4096 → i < 512 → i < count_in a → (b : Bool) → b ≡ matches text (name_at a i)
        → Filling text a (set found i b) (i + 1)
    fill_more short h listed b e =
        record {
          size = length-set found i b ∙ f.size;
          told = below_more _ i (λ k g. get_or-set_other found i k b false (λ q. omega arith) ∙ f.told k g) here;
          left = λ k g. get_or-set_other found i k b false (λ q. omega arith) ∙ f.left k (omega arith);
        }
      where
        here : get_or (set found i b) i false ≡ get_or (matching_places text a) i false
        here =
            let long : i < length found = omega (arith, f.size) in
            get_or-set_same found i b false long
            ∙ e
            ∙ sym (places-at text a i h ∙ rw (le-leb (length text) 4096 short, lt-ltb i (count_in a) listed))

    -- no place is left at which a name is listed
    pub fill_end : min 512 (count_in a) ≤ i → found ≡ matching_places text a
    fill_end h =
        ext_get_or false found (matching_places text a) (f.size ∙ sym (places-long text a))
        (λ k g. by k g (dec_le (suc k) i))
      where
        by : (k : ℕ) → k < length found → Dec (k < i) → get_or found k false ≡ get_or (matching_places text a) k false
        by k g (yes l) = f.told k l
        by k g (no l) =
            let past : count_in a ≤ k = omega (arith, f.size) in
            f.left k (omega arith)
            ∙ sym (off k (omega (arith, f.size)) (rw (le-ltb k (count_in a) past) (and-false (leb (length text) 4096))))

  -- no place is found
  pub fill-off : ((k : ℕ) → k < 512 → get_or (matching_places text a) k false ≡ false)
      → replicate 512 false ≡ matching_places text a
  fill-off f =
      ext_get_or false (replicate 512 false) (matching_places text a) (sym (places-long text a))
      (λ k g. replicated 512 k ∙ sym (f k g))

  -- a longer text
  pub fill-long : 4096 < length text → replicate 512 false ≡ matching_places text a
  fill-long h = fill-off (λ k g. off k g (rw (lt-leb (length text) 4096 h)))

  -- a text that no name matches
  pub fill-unmatched : ((name : List ℕ) → matches text name ≡ false) → replicate 512 false ≡ matching_places text a
  fill-unmatched f =
      fill-off (λ k g. off k g
      (rw (f (name_at a k), and-false (ltb k (count_in a)), and-false (leb (length text) 4096))))
