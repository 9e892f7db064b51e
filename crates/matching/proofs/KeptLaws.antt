-- Keywords that are kept in rising order: the search for one, one keyword more, and all keywords of a text.
use Prim.Native.Nat.{ℕ, zero, suc, ◌+◌, ◌-◌, ◌≤◌, ◌<◌}
use mathlib.Core.Path.{◌≡◌, refl, sym, ap, ap₂, ◌∙◌}
use mathlib.Core.Bool.{Bool, true, ◌&&◌}
use mathlib.Core.Logic.{◌↔◌, ◌⊎◌, inl, inr}
use mathlib.Core.List.{List, [], ◌∷◌, map}
use native.Mathlib.Decide.{dec_le}
use native.Mathlib.Omega.{arith}
use lib.ListN.{length, get_or, set, take, drop, length-set, length-drop, length-take}
use lib.Seq.{get_or-set_same, get_or-set_other, get_or-take, get_or-drop, get_or-append-add, drop-drop}
use Rattle.std.proofs.Common.{Result, Ok, Err}
use Rattle.std.proofs.lemmas.List.{get_or_default, get_or_append_left}
use Rattle.std.proofs.lemmas.Map.Lookups.{exact_bytes}
use Rattle.std.specs.declared.cmp.Ordering.{Ordering}
use Rattle.std.specs.Ordering.{ordering_index}
use Rattle.std.specs.List.{RotatedRight}
use borrow.Rule.Slice.PartMut.{put_mid}
use Rattle.std.specs.List.Sorted.{IsNonDecreasingBy, IsBinarySearchResult, IsSearchInRange}
use Rattle.laws.specs.Tests.{all}
use Rattle.laws.proofs.Parts.{part_tail}
use Rattle.laws.proofs.Refusals.{and_fst, and_snd, and_intro}
use Rattle.ascii.specs.Text.{lower}
use Rattle.keywords.specs.declared.cut.Cut.{Cut}
use Rattle.keywords.specs.Keywords.{keywords_of, cut_of}
use Rattle.keywords.proofs.CutLaws.{cut-bounds, cut-found, cut-done}
use Rattle.matching.specs.declared.kept.Span.{Span}
use Rattle.matching.specs.Order.{below}
use Rattle.matching.specs.Kept.{part_of, no_span, key_at, Rising, Each, Ranked, Standing, Sought, Joined, Gathered}
use Rattle.matching.proofs.OrderLaws.{cmp, less-below, greater-below, below_self, not_falling}

-- ---- the search

-- a span against a word
abbrev pub against : List ℕ → List ℕ → Span → Ordering
against text word p = cmp (map lower (part_of text p)) (map lower word)

module _ (text : List ℕ) (spans : List Span) (count : ℕ) (word : List ℕ) (rising : Rising (key_at text spans) count)
    (s : List Span) (is : s ≡ take count spans) (long : count ≤ length spans) where
  size : length s ≡ count
  size = ap length is ∙ omega (arith, length-take count spans)

  at : (i : ℕ) (d : Span) → i < count → get_or s i d ≡ get_or spans i no_span
  at i d h =
      ap (λ l. get_or l i d) is
      ∙ get_or-take count spans i d h
      ∙ get_or_default spans i d no_span (omega arith)

  against-key : (i : ℕ) (d : Span) → i < count → against text word (get_or s i d) ≡ cmp (key_at text spans i) (map lower word)
  unfolding key_at
  against-key i d h = ap (against text word) (at i d h)

  -- later spans are not less against the word
  steady : IsNonDecreasingBy (λ p. ordering_index (against text word p)) s
  steady i j d h k = by (dec_le (suc i) j)
    where
      by : Dec (i < j) → ordering_index (against text word (get_or s i d)) ≤ ordering_index (against text word (get_or s j d))
      by (yes l) =
          rw (against-key i d (omega (arith, size)), against-key j d (omega (arith, size)))
          (not_falling (key_at text spans i) (key_at text spans j) (map lower word) (rising i j l (omega (arith, size))))
      by (no l) = let e : i ≡ j = omega arith in rw e (omega arith)

  pub sought : (r : Result ℕ ℕ) → IsSearchInRange r (length s) → IsBinarySearchResult (against text word) s r
      → Sought (key_at text spans) count (map lower word) r
  sought (Ok i) b h =
      let inside : i < count = omega (arith, size, b) in
      record {
        inside = inside;
        here = exact_bytes (key_at text spans i) (map lower word) (sym (against-key i no_span inside) ∙ h no_span);
      }
  sought (Err i) b h =
      let p = h steady in
      record {
        within = omega (arith, size, b);
        before = λ k g.
            let inside : k < count = omega (arith, size, b) in
            less-below (key_at text spans k) (map lower word)
            (sym (against-key k no_span inside) ∙ p.0 k no_span (omega arith) g);
        behind = λ k g inside.
            greater-below (key_at text spans k) (map lower word)
            (sym (against-key k no_span inside) ∙ p.1 k no_span g (omega (arith, size)));
      }

-- x stands at one place, or nowhere
module _ (key : ℕ → List ℕ) (count : ℕ) (x : List ℕ) where
  pub only : Rising key count → (r : ℕ) → Standing key count x r → (i : ℕ) → i < count → key i ≡ x → i ≡ r
  only rising r s i h e = by (dec_le (suc i) r) (dec_le (suc r) i)
    where
      by : Dec (i < r) → Dec (r < i) → i ≡ r
      by (yes g) d = absurd (below_self x (rw (e, s.here) at (rising i r g s.inside)))
      by (no g) (yes d) = absurd (below_self x (rw (e, s.here) at (rising r i d h)))
      by (no g) (no d) = omega arith

  pub nowhere : (r : ℕ) → Ranked key count x r → (i : ℕ) → i < count → key i ≡ x → ⊥
  nowhere r k i h e = by (dec_le (suc i) r)
    where
      by : Dec (i < r) → ⊥
      by (yes g) = below_self x (rw e at (k.before i g))
      by (no g) = below_self x (rw e at (k.behind i (omega arith) h))

-- ---- one keyword more

-- it is kept already
pub add-known : (key : ℕ → List ℕ) (count : ℕ) (x : List ℕ) (r : ℕ) → Rising key count → r < count → key r ≡ x
    → Joined key key count x count
add-known key count x r rising h e =
    record {
      few = omega arith;
      rising = rising;
      more = λ test. (λ f. (rw e at (f r h), f), λ p. p.1);
    }

module _ (key new : ℕ → List ℕ) (count : ℕ) (x : List ℕ) (r : ℕ) (rising : Rising key count)
    (ranked : Ranked key count x r)
    (before : (i : ℕ) → i < r → new i ≡ key i) (here : new r ≡ x)
    (behind : (i : ℕ) → r ≤ i → i < count → new (suc i) ≡ key i) where
  -- what stands at a place now
  abbrev Spot : ℕ → Type 0
  Spot i =
      ((i < r) × (new i ≡ key i))
      ⊎ (((i ≡ r) × (new i ≡ x)) ⊎ ((k : ℕ) × ((i ≡ suc k) × (r ≤ k) × (k < count) × (new i ≡ key k))))

  spot : (i : ℕ) → i < count + 1 → Spot i
  spot i h = by i h (dec_le (suc i) r) (dec_le (suc r) i)
    where
      by : (i : ℕ) → i < count + 1 → Dec (i < r) → Dec (r < i) → Spot i
      by i h (yes g) d = inl (g, before i g)
      by zero h (no g) (yes d) = absurd (omega arith)
      by (suc k) h (no g) (yes d) =
          inr (inr (k, (refl, omega arith, omega arith, behind k (omega arith) (omega arith))))
      by i h (no g) (no d) =
          let e : i ≡ r = omega arith in
          inr (inl (e, ap new e ∙ here))

  new-rising : Rising new (count + 1)
  new-rising i j h g = by (spot i (omega arith)) (spot j g)
    where
      by : Spot i → Spot j → below (new i) (new j) ≡ true
      by (inl p) (inl q) = let w = ranked.within in rw (p.1, q.1) (rising i j h (omega (arith, q.0)))
      by (inl p) (inr (inl q)) = rw (p.1, q.1) (ranked.before i p.0)
      by (inl p) (inr (inr q)) = rw (p.1, q.1.3) (rising i q.0 (omega (arith, p.0, q.1.1)) q.1.2)
      by (inr (inl p)) (inl q) = absurd (omega (arith, p.0, q.0))
      by (inr (inl p)) (inr (inl q)) = absurd (omega (arith, p.0, q.0))
      by (inr (inl p)) (inr (inr q)) =
          rw (p.1, q.1.3) (ranked.behind q.0 q.1.1 q.1.2)
      by (inr (inr p)) (inl q) = absurd (omega (arith, p.1.0, p.1.1, q.0))
      by (inr (inr p)) (inr (inl q)) = absurd (omega (arith, p.1.0, p.1.1, q.0))
      by (inr (inr p)) (inr (inr q)) =
          rw (p.1.3, q.1.3) (rising p.0 q.0 (omega (arith, p.1.0, q.1.0)) q.1.2)

  module _ (test : List ℕ → Bool) where
    forth : Each test new (count + 1) → (test x ≡ true) × Each test key count
    forth f =
        let w = ranked.within in
        (rw here at (f r (omega arith)), λ i h. by i h (dec_le (suc i) r))
      where
        by : (i : ℕ) → i < count → Dec (i < r) → test (key i) ≡ true
        by i h (yes g) = rw (before i g) at (f i (omega arith))
        by i h (no g) = rw (behind i (omega arith) h) at (f (suc i) (omega arith))

    back : (test x ≡ true) × Each test key count → Each test new (count + 1)
    back p i h = by (spot i h)
      where
        by : Spot i → test (new i) ≡ true
        by (inl q) = let w = ranked.within in rw q.1 (p.1 i (omega (arith, q.0)))
        by (inr (inl q)) = rw q.1 p.0
        by (inr (inr q)) = rw q.1.3 (p.1 q.0 q.1.2)

  pub add-new : Joined key new count x (count + 1)
  add-new = record { few = omega arith; rising = new-rising; more = λ test. (forth test, back test) }

-- ---- spans

-- a keyword of the text, in lower case
abbrev pub keyword : List ℕ → ℕ → ℕ → List ℕ
keyword text start size = map lower (take size (drop start text))

-- a span that was put behind the others, and turned to its place
module _ (old : List Span) (count r : ℕ) (span : Span) (turned : List Span) where
  abbrev pub mid : List Span
  mid = set old count span

  abbrev pub part : List Span
  part = take (count + 1 - r) (drop r mid)

  abbrev pub after : List Span
  after = put_mid r (count + 1 - r) mid turned

  module _ (long : count < length old) (within : r ≤ count) (size : length turned ≡ length part)
      (turns : RotatedRight part turned (length part) 1) where
    part-size : length part ≡ count + 1 - r
    part-size = omega (arith, length-take (count + 1 - r) (drop r mid), length-drop r mid, length-set old count span)

    front : length (take r mid) ≡ r
    front = omega (arith, length-take r mid, length-set old count span)

    in_front : (i : ℕ) → i < r → get_or after i no_span ≡ get_or old i no_span
    in_front i h =
        get_or_append_left (take r mid) _ no_span i (omega (arith, front))
        ∙ get_or-take r mid i no_span h
        ∙ get_or-set_other old count i span no_span (λ e. omega arith)

    turned_at : (j : ℕ) → j < count + 1 - r → get_or after (r + j) no_span ≡ get_or turned j no_span
    turned_at j h =
        let e : r + j ≡ length (take r mid) + j = omega (arith, front) in
        ap (λ n. get_or after n no_span) e
        ∙ get_or-append-add (take r mid) _ j no_span
        ∙ get_or_append_left turned _ no_span j (omega (arith, size, part-size))

    part_at : (j : ℕ) → j < count + 1 - r → get_or part j no_span ≡ get_or mid (r + j) no_span
    part_at j h = get_or-take (count + 1 - r) (drop r mid) j no_span h ∙ get_or-drop r mid j no_span

    here : get_or after r no_span ≡ span
    here =
        let e : r ≡ r + 0 = omega arith in
        let last : r + (length part - 1 + 0) ≡ count = omega (arith, part-size) in
        ap (λ n. get_or after n no_span) e
        ∙ turned_at 0 (omega arith)
        ∙ turns.0 0 no_span (omega arith)
        ∙ part_at (length part - 1 + 0) (omega (arith, part-size))
        ∙ ap (λ n. get_or mid n no_span) last
        ∙ get_or-set_same old count span no_span long

    behind : (i : ℕ) → r ≤ i → i < count → get_or after (suc i) no_span ≡ get_or old i no_span
    behind i h k =
        let e : suc i ≡ r + (suc i - r) = omega arith in
        let q : r + (suc i - r - 1) ≡ i = omega arith in
        ap (λ n. get_or after n no_span) e
        ∙ turned_at (suc i - r) (omega arith)
        ∙ turns.1 (suc i - r) no_span (omega arith) (omega (arith, part-size))
        ∙ part_at (suc i - r - 1) (omega arith)
        ∙ ap (λ n. get_or mid n no_span) q
        ∙ get_or-set_other old count i span no_span (λ z. omega arith)

    pub turned-joined : (text : List ℕ) → Rising (key_at text old) count
        → Ranked (key_at text old) count (map lower (part_of text span)) r
        → Joined (key_at text old) (key_at text after) count (map lower (part_of text span)) (count + 1)
    unfolding key_at
    turned-joined text rising ranked =
        let word = λ (p : Span). map lower (part_of text p) in
        add-new (key_at text old) (key_at text after) count (word span) r rising ranked
        (λ i h. ap word (in_front i h)) (ap word here) (λ i h k. ap word (behind i h k))

-- ---- all keywords of a text

-- those before byte `at` are kept
pub record Gathering (text : List ℕ) (spans : List Span) (count at : ℕ) : Type 0 where
  pub inside : at ≤ length text
  pub few : count ≤ at
  pub whole : (test : List ℕ → Bool) → (all test (keywords_of text) ≡ true)
      ↔ (Each test (key_at text spans) count × (all test (keywords_of (drop at text)) ≡ true))

pub gather_none : (text : List ℕ) (spans : List Span) → Gathering text spans 0 0
gather_none text spans =
    record {
      inside = omega arith;
      few = omega arith;
      whole = λ test. (λ e. (λ i h. absurd (omega arith), e), λ p. p.1);
    }

module _ (text : List ℕ) (spans : List Span) (count at : ℕ) (g : Gathering text spans count at) (c : Cut)
    (e : c ≡ cut_of (take (length text - at) (drop at text))) where
  abbrev left : List ℕ
  left = take (length text - at) (drop at text)

  left_is : left ≡ drop at text
  left_is = part_tail at text

  pub gather-bounds : (c.start ≤ c.end) × (at + c.end ≤ length text)
  gather-bounds =
      let b = cut-bounds left c e in
      let l = ap length left_is ∙ length-drop at text in
      let i = g.inside in
      (b.0, omega (arith, b.1))

  pub gather-end : c.end ≤ c.start → Gathered text spans count
  gather-end h =
      record {
        whole = λ test. (λ t. ((g.whole test).0 t).0, λ f. (g.whole test).1 (f, ap (all test) none));
      }
    where
      none : keywords_of (drop at text) ≡ []
      none = ap keywords_of (sym left_is) ∙ cut-done left c e h

  module _ (h : c.start < c.end) where
    abbrev word : List ℕ
    word = keyword text (at + c.start) (c.end - c.start)

    found : keywords_of (drop at text) ≡ word ∷ keywords_of (drop (at + c.end) text)
    found =
        ap keywords_of (sym left_is)
        ∙ cut-found left c e h
        ∙ ap₂ (λ w r. map lower (take (c.end - c.start) w) ∷ keywords_of r)
        (ap (drop c.start) left_is ∙ drop-drop c.start at text)
        (part_tail c.end left ∙ ap (drop c.end) left_is ∙ drop-drop c.end at text)

    module _ (after : List Span) (r : ℕ) (a : Joined (key_at text spans) (key_at text after) count word r)
        (test : List ℕ → Bool) where
      abbrev rest : Bool
      rest = all test (keywords_of (drop (at + c.end) text))

      split : all test (keywords_of (drop at text)) ≡ (test word && rest)
      split = ap (all test) found

      kept-forth : all test (keywords_of text) ≡ true → Each test (key_at text after) r × (rest ≡ true)
      kept-forth t =
          let p = (g.whole test).0 t in
          let s = sym split ∙ p.1 in
          ((a.more test).1 (and_fst (test word) rest s, p.0), and_snd (test word) rest s)

      kept_back : Each test (key_at text after) r × (rest ≡ true) → all test (keywords_of text) ≡ true
      kept_back p =
          let q = (a.more test).0 p.0 in
          (g.whole test).1 (q.1, split ∙ and_intro (test word) rest q.0 p.1)

    pub gather-more : (after : List Span) (r : ℕ) → Joined (key_at text spans) (key_at text after) count word r
        → Gathering text after r (at + c.end)
    gather-more after r a =
        record {
          inside = gather-bounds.1;
          few = let f = g.few in let n = a.few in omega arith;
          whole = λ test. (kept-forth after r a test, kept_back after r a test);
        }
