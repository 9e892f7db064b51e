-- The keywords of a text are its maximal runs of digits and letters, proved: the runs of a text are its first cut, and
-- those of the text behind it, as many places on. Assumes nothing.
use Prim.Native.Nat.{ℕ, zero, suc, ◌+◌, ◌-◌, ◌≤◌, ◌<◌}
use native.Mathlib.Nat.{lt_of_not-le}
use native.Mathlib.Decide.{dec_le}
use native.Mathlib.Omega.{arith}
use mathlib.Core.Path.{◌≡◌, refl, ap, ap₂, ◌∙◌}
use mathlib.Core.Bool.{Bool, true, false, cond, not, ◌&&◌, false≢true}
use mathlib.Core.Logic.{◌↔◌, ◌⊎◌, inl, inr, ⊎_elim}
use mathlib.Core.List.Memᴰ
use mathlib.Core.List.{List, [], ◌∷◌, map, Memᴰ}
use lib.Dec.{leb}
use lib.ListN.{length, get_or, take, drop, length-take, length-drop, length-map}
use lib.Seq.{get_or-take, get_or-drop, drop-drop}
use borrow.Author.Tests.{not-true, not-false}
use Rattle.laws.proofs.Words.{and_iff, most_iff}
use Rattle.laws.proofs.Rings.{map-get_or}
use Rattle.ascii.specs.Text.{lower}
use Rattle.ascii.proofs.TextLaws.{leading-passes, leading-stops}
use Rattle.keywords.specs.Keywords.{is_separator, keywords_of, cut_start, cut_end, keyword_at, text_behind}
use Rattle.keywords.specs.Cutting.{Digit, Capital, Small, Kept, Separates, Throughout}
use Rattle.keywords.proofs.CutLaws.{keywords_cut, keywords_none, cut-end, cut-within, cut-empty}
use Rattle.keywords.proofs.Cutting.{separator-exactly}
use Rattle.parting.specs.Runs.{NoKeyword, KeywordBytes, Span, word_at, Run, Runs, MaximalRuns}

-- ---- the first cut of a text: what stands before it, in it and behind it

module _ (text : List ℕ) where
  abbrev start : ℕ
  start = cut_start text

  abbrev end : ℕ
  end = cut_end text

  skipped : (i : ℕ) → i < start → Separates (get_or text i 0)
  skipped i h = (separator-exactly _).separates.0 (leading-passes is_separator text i h)

  within : (i : ℕ) → start ≤ i → i < end → Kept (get_or text i 0)
  within i a h =
      let e : start + (i - start) ≡ i = omega arith in
      let n = leading-passes (λ b. not (is_separator b)) (drop start text) (i - start) (omega arith) in
      (separator-exactly _).kept.0 (not-true _ (rw (get_or-drop, e) at n))

  past : end < length text → Separates (get_or text end 0)
  past h =
      let n = leading-stops (λ b. not (is_separator b)) (drop start text) (omega (arith, length-drop start text)) in
      (separator-exactly _).separates.0 (not-false _ (rw get_or-drop at n))

-- a cut is empty only at the end of the text, all of which was skipped then; and no byte in it parts
pub no_keyword : NoKeyword
no_keyword text = (there, back)
  where
    there : keywords_of text ≡ [] → Throughout Separates text
    there e i h = let c = (cut-empty text).1 e in skipped text i (omega (arith, cut-end text c))

    back : Throughout Separates text → keywords_of text ≡ []
    back parts = by (dec_le (suc (cut_start text)) (cut_end text))
      where
        by : Dec (cut_start text < cut_end text) → keywords_of text ≡ []
        by (yes h) = absurd (parts (cut_start text) (omega (arith, cut-within text))
            (within text (cut_start text) (omega arith) h))
        by (no h) = keywords_none text (omega (arith, cut-within text))

-- ---- a text with a keyword: its runs are the first cut, and those of the rest, as many places on as the cut ends

same_span : {r q : Span} → r.from ≡ q.from → r.to ≡ q.to → r ≡ q
same_span = ap₂ (λ (a b : ℕ). record { from = a; to = b })

-- an element of a list, by its place
listed : {A : Type 0} (l : List A) (i : ℕ) (d : A) → i < length l → Memᴰ (get_or l i d) l
listed [] i d h = absurd (omega arith)
listed (x ∷ xs) zero d h = Memᴰ.head refl
listed (x ∷ xs) (suc i) d h = Memᴰ.tail (listed xs i d (omega arith))

module _ (text : List ℕ) (some : cut_start text < cut_end text) where
  abbrev rest : List ℕ
  rest = text_behind text

  abbrev first : Span
  first = record { from = cut_start text; to = cut_end text }

  -- where a span of the rest stands in the text
  abbrev moved : Span → Span
  moved q = record { from = cut_end text + q.from; to = cut_end text + q.to }

  rest-length : length rest ≡ length text - cut_end text
  rest-length = length-drop (cut_end text) text

  rest_at : (i n : ℕ) → cut_end text + i ≡ n → get_or rest i 0 ≡ get_or text n 0
  rest_at i n e = get_or-drop (cut_end text) text i 0 ∙ ap (λ (m : ℕ). get_or text m 0) e

  first_run : Run text first
  first_run =
      record {
        some = some;
        inside = (cut-within text).1;
        kept = within text;
        before = λ i e. skipped text i (omega arith);
        behind = past text;
      }

  -- A run that begins before the cut ends is the cut. It begins neither before it, where bytes part, nor in its midst,
  -- with a kept byte before it; and it ends neither in its midst, with a kept byte behind it, nor past it.
  only-first : (r : Span) → Run text r → r.from < cut_end text → r ≡ first
  only-first r run h =
      let not-before = lt_of_not-le (λ (l : r.from < cut_start text).
      skipped text r.from l (run.kept r.from (omega arith) run.some)) in
      let not-amid = lt_of_not-le (λ (l : cut_start text < r.from).
      run.before (r.from - 1) (omega arith) (within text (r.from - 1) (omega arith) (omega arith))) in
      let not_IsShort = lt_of_not-le (λ (l : r.to < cut_end text).
      run.behind (omega (arith, cut-within text)) (within text r.to (omega arith) l)) in
      let not-past = lt_of_not-le (λ (l : cut_end text < r.to).
      past text (omega arith) (run.kept (cut_end text) (omega arith) l)) in
      same_span (omega arith) (omega arith)

  -- the rest begins with a byte that parts, so no run of it begins at its first byte
  later : (q : Span) → Run rest q → 0 < q.from
  later q run = lt_of_not-le (λ (z : q.from ≤ 0).
      past text (omega (arith, rest-length))
      (rw (rest_at 0 (cut_end text) (omega arith)) at (run.kept 0 z (omega arith))))

  -- A span is a run of the rest exactly if it is one of the text, where it stands there. The byte before it is one of
  -- the rest, by `later`.
  onward : (q : Span) → Run rest q ↔ Run text (moved q)
  onward q = (there, back)
    where
      there : Run rest q → Run text (moved q)
      there run =
          let e = cut_end text in
          let h = later q run in
          record {
            some = omega arith;
            inside = omega (arith, rest-length);
            kept = λ i a b. rw (rest_at (i - e) i (omega arith)) at (run.kept (i - e) (omega arith) (omega arith));
            before = λ i g. rw (rest_at (i - e) i (omega arith)) at (run.before (i - e) (omega arith));
            behind = λ h. rw (rest_at q.to (e + q.to) refl) at (run.behind (omega (arith, rest-length)));
          }

      back : Run text (moved q) → Run rest q
      back run =
          let e = cut_end text in
          record {
            some = omega arith;
            inside = omega (arith, rest-length);
            kept = λ i a b. rw (rest_at i (e + i) refl) (run.kept (e + i) (omega arith) (omega arith));
            before = λ i g. rw (rest_at i (e + i) refl) (run.before (e + i) (omega arith));
            behind = λ h. rw (rest_at q.to (e + q.to) refl) (run.behind (omega (arith, rest-length)));
          }

  -- the words of the rest are words of the text
  words-onward : (qs : List Span) → map (word_at rest) qs ≡ map (word_at text) (map moved qs)
  words-onward [] = refl
  words-onward (q ∷ qs) =
      let size : q.to - q.from ≡ (cut_end text + q.to) - (cut_end text + q.from) = omega arith in
      ap₂ ◌∷◌ (ap₂ (λ (n : ℕ) (l : List ℕ). map lower (take n l)) size (drop-drop q.from (cut_end text) text))
      (words-onward qs)

  -- all that `Runs` asks of the text, from what it has of the rest
  module _ (runs : Runs rest) where
    abbrev spans : List Span
    spans = first ∷ map moved runs.spans

    words : keywords_of text ≡ map (word_at text) spans
    words = keywords_cut text some
        ∙ ap (λ (ks : List (List ℕ)). map lower (keyword_at text) ∷ ks) (runs.words ∙ words-onward runs.spans)

    is-run : (r : Span) → Memᴰ r spans → Run text r
    is-run r m = ⊎_elim (λ (e : r ≡ first). rw e first_run)
        (λ m'. let (q, mq, e) = Memᴰ.of_map moved runs.spans m' in rw e at ((onward q).0 ((runs.each q).0 mq)))
        (Memᴰ.cases_cons m)

    -- a run that begins behind the cut is one of the rest, so many places back
    is-listed : (r : Span) → Run text r → Memᴰ r spans
    is-listed r run = by (dec_le (cut_end text) r.from)
      where
        by : Dec (cut_end text ≤ r.from) → Memᴰ r spans
        by (no h) = Memᴰ.head (only-first r run (omega arith))
        by (yes h) =
            let q : Span = record { from = r.from - cut_end text; to = r.to - cut_end text } in
            let e : r ≡ moved q = same_span (omega arith) (omega arith) in
            Memᴰ.tail (Memᴰ.cast e (Memᴰ.map moved ((runs.each q).1 ((onward q).1 (rw e at run)))))

    moved_at : (i : ℕ) (d : Span) → i < length runs.spans → get_or spans (suc i) d ≡ moved (get_or runs.spans i d)
    moved_at i d h = map-get_or moved runs.spans i d d h

    order : (j k : ℕ) (d : Span) → j < k → k < length spans → (get_or spans j d).to < (get_or spans k d).from
    order j zero d h l = absurd (omega arith)
    order zero (suc k) d h l =
        let g : k < length runs.spans = omega (arith, length-map runs.spans moved) in
        let q = get_or runs.spans k d in
        let z = later q ((runs.each q).0 (listed runs.spans k d g)) in
        rw (moved_at k d g) (omega arith)
    order (suc j) (suc k) d h l =
        let g : k < length runs.spans = omega (arith, length-map runs.spans moved) in
        rw (moved_at j d (omega arith), moved_at k d g) (omega (arith, runs.order j k d (omega arith) g))

    cut-runs : Runs text
    cut-runs = record { spans = spans; words = words; each = λ r. (is-run r, is-listed r); order = order }

-- ---- every text, by its length

runs-below : (n : ℕ) (text : List ℕ) → length text < n → Runs text
runs-below zero text h = absurd (omega arith)
runs-below (suc n) text h = by (dec_le (suc (cut_start text)) (cut_end text)) (runs-below n (text_behind text))
  where
    by : Dec (cut_start text < cut_end text) → (length (text_behind text) < n → Runs (text_behind text)) → Runs text
    by (yes c) below = cut-runs text c (below (omega (arith, rest-length text c, cut-within text)))
    by (no c) below =
        let none = keywords_none text (omega (arith, cut-within text)) in
        let parts = (no_keyword text).0 none in
        record {
          spans = [];
          words = none;
          each = λ r. (
            (λ m. absurd (Memᴰ.not-nil m)),
            (λ run. absurd (parts r.from (omega arith) (run.kept r.from (omega arith) run.some))),
          );
          order = λ j k d h l. absurd (omega arith);
        }

pub maximal_runs : MaximalRuns
maximal_runs text = runs-below (suc (length text)) text (omega arith)

-- ---- the bytes of a keyword: those of a run, in lower case

-- in lower case a digit or a letter is a digit or a small letter
lower-kept : (b : ℕ) → Kept b → Digit (lower b) ⊎ Small (lower b)
unfolding lower
lower-kept b k = by (leb 65 b && leb b 90) (and_iff (leb 65 b) (leb b 90) (most_iff 65 b) (most_iff b 90)) k
  where
    by : (t : Bool) → (t ≡ true) ↔ Capital b → Kept b → Digit (cond t (b + 32) b) ⊎ Small (cond t (b + 32) b)
    by true c k = let h = c.0 refl in inr (omega arith)
    by false c (inl digit) = inl digit
    by false c (inr (inl capital)) = absurd (false≢true (c.1 capital))
    by false c (inr (inr small)) = inr small

module _ (text : List ℕ) (r : Span) (run : Run text r) where
  word-length : length (word_at text r) ≡ r.to - r.from
  word-length = simp (length-map, length-take, length-drop) (omega arith)

  word-at : (i : ℕ) → i < length (word_at text r) → get_or (word_at text r) i 0 ≡ lower (get_or text (r.from + i) 0)
  word-at i h =
      let part = take (r.to - r.from) (drop r.from text) in
      map-get_or lower part i 0 0 (rw length-map at h)
      ∙ ap lower (get_or-take (r.to - r.from) (drop r.from text) i 0 (omega (arith, word-length))
      ∙ get_or-drop r.from text i 0)

  word_bytes : (0 < length (word_at text r)) × Throughout (λ b. Digit b ⊎ Small b) (word_at text r)
  word_bytes = (
    omega (arith, word-length),
    (λ i h. rw (word-at i h) (lower-kept _ (run.kept (r.from + i) (omega arith) (omega (arith, word-length))))),
  )

pub keyword_bytes : KeywordBytes
keyword_bytes text k m =
    let runs = maximal_runs text in
    let (r, mr, word) = Memᴰ.of_map (word_at text) runs.spans (rw runs.words at m) in
    rw word at (word_bytes text r ((runs.each r).0 mr))
