-- Laws of the cutter: the first piece that is not empty, and what is left of the text, are all the pieces. Over any
-- test of a separator.
use mathlib.Core.Path.{◌≡◌, refl, sym, ap, ap₂, subst, ◌∙◌}
use mathlib.Core.Bool.{Bool, true, false, cond, not, ◌||◌, ◌&&◌, beq}
use mathlib.Core.List.{List, [], ◌∷◌, map}
use mathlib.Core.Logic.{◌↔◌}
use Prim.Native.Nat.{ℕ, zero, suc, ◌+◌, ◌-◌, ◌≤◌, ◌<◌}
use native.Mathlib.Numerals.{add-one}
use native.Mathlib.Decide.{dec_le}
use native.Mathlib.Omega.{arith}
use lib.Dec.{ltb}
use lib.ListN.{length, get_or, take, drop, length-take, length-drop, drop_of_length-le}
use lib.Seq.{take-nil, length-take-le, drop-cons, drop-drop}
use borrow.Author.Tests.{lt-ltb, le-ltb}
use Rattle.std.specs.Prelude.{Option, Some, None, IfSome}
use Rattle.std.specs.Bool.{then_some}
use Rattle.laws.specs.Tests.{any, all}
use Rattle.laws.proofs.Parts.{part_tail}
use Rattle.laws.proofs.Refusals.{and_fst, and_snd}
use Rattle.keywords.specs.declared.cut.Cut.{Cut}
use Rattle.ascii.specs.Text.{lower, onto}
use Rattle.ascii.proofs.TextLaws.{run_length}
use Rattle.keywords.specs.Keywords.{is_separator, filled, leading, matching, pieces, start_by, end_by, keywords_of}
use Rattle.keywords.specs.Keywords.{cut_start, cut_end}
use Rattle.keywords.specs.Keywords.{cut_of, cut_told, keyword_at, text_behind, words_of}
use Rattle.keywords.specs.Blocks.{near, Reaching}
use Rattle.keywords.specs.Hash.{hash_of}
use Rattle.keywords.proofs.HashLaws.{hash-lower}

-- ---- runs at the front of a list

module _ (f : ℕ → Bool) where
  pub leading-within : (l : List ℕ) → leading f l ≤ length l
  leading-within = run_length (λ t. f (get_or t 0 0))

  on : (x : ℕ) (xs : List ℕ) → f x ≡ true → leading f (x ∷ xs) ≡ suc (leading f xs)
  on x xs e = rw e

  off : (x : ℕ) (xs : List ℕ) → f x ≡ false → leading f (x ∷ xs) ≡ 0
  off x xs e = rw e

  -- a run goes on by an element that meets the test, and stops at one that does not
  pub leading-on : (l : List ℕ) (i : ℕ) → i < length l → f (get_or l i 0) ≡ true → leading f (drop i l)
      ≡ suc (leading f (drop (i + 1) l))
  leading-on l i h e =
      ap (leading f) (drop-cons l i 0 h)
      ∙ on (get_or l i 0) (drop (suc i) l) e
      ∙ ap (λ (n : ℕ). suc (leading f (drop n l))) (sym (add-one i))

  pub leading-off : (l : List ℕ) (i : ℕ) → i < length l → f (get_or l i 0) ≡ false → leading f (drop i l) ≡ 0
  leading-off l i h e = ap (leading f) (drop-cons l i 0 h) ∙ off (get_or l i 0) (drop (suc i) l) e

  -- a run that stops within the front of a list is that of the list
  pub leading-front : (n : ℕ) (l : List ℕ) → leading f (take n l) < n → leading f (take n l) ≡ leading f l
  leading-front zero l h = absurd (omega arith)
  leading-front (suc n) [] h = refl
  leading-front (suc n) (x ∷ xs) h = by (f x) (leading-front n xs) h
    where
      by : (t : Bool) → (leading f (take n xs) < n → leading f (take n xs) ≡ leading f xs)
          → cond t (suc (leading f (take n xs))) 0 < suc n
          → cond t (suc (leading f (take n xs))) 0 ≡ cond t (suc (leading f xs)) 0
      by true rest h = ap suc (rest (omega arith))
      by false rest h = refl

  -- and one that reaches the end of the front goes on behind it
  pub leading-past : (n : ℕ) (l : List ℕ) → leading f (take n l) ≡ n → leading f l ≡ n + leading f (drop n l)
  leading-past zero l h = omega arith
  leading-past (suc n) [] h = absurd (omega arith)
  leading-past (suc n) (x ∷ xs) h = by (f x) (leading-past n xs) h
    where
      by : (t : Bool) → (leading f (take n xs) ≡ n → leading f xs ≡ n + leading f (drop n xs))
          → cond t (suc (leading f (take n xs))) 0 ≡ suc n
          → cond t (suc (leading f xs)) 0 ≡ suc n + leading f (drop n xs)
      by true rest h = let e = rest (omega arith) in omega arith
      by false rest h = absurd (omega arith)

  -- a list whose elements all meet the test is one run; so a run passes a block of such elements
  whole_run : (l : List ℕ) → all f l ≡ true → leading f l ≡ length l
  whole_run [] e = refl
  whole_run (x ∷ xs) e =
      on x xs (and_fst (f x) (all f xs) e) ∙ ap suc (whole_run xs (and_snd (f x) (all f xs) e))

  pub leading-block : (n : ℕ) (l : List ℕ) → n ≤ length l → all f (take n l) ≡ true
      → leading f l ≡ n + leading f (drop n l)
  leading-block n l h e = leading-past n l (whole_run (take n l) e ∙ length-take-le n l h)

drop-take : (k n : ℕ) (l : List ℕ) → drop k (take n l) ≡ take (n - k) (drop k l)
drop-take zero n l = let e : n ≡ n - 0 = omega arith in ap (λ m. take m l) e
drop-take (suc k) zero l = let e : 0 ≡ 0 - suc k = omega arith in ap (λ m. take m (drop (suc k) l)) e
drop-take (suc k) (suc n) [] = sym (take-nil (suc n - suc k))
drop-take (suc k) (suc n) (x ∷ xs) =
    let e : n - k ≡ suc n - suc k = omega arith in
    drop-take k n xs ∙ ap (λ m. take m (drop k xs)) e

-- ---- the pieces of a text, for any test of a separator

-- only what is not empty among the pieces behind the first counts
filled-behind : (p : List ℕ) (ps qs : List (List ℕ)) → filled ps ≡ filled qs → filled (p ∷ ps) ≡ filled (p ∷ qs)
unfolding filled
filled-behind [] ps qs e = e
filled-behind (b ∷ p) ps qs e = ap (λ (r : List (List ℕ)). (b ∷ p) ∷ r) e

filled-full : (p : List ℕ) (ps : List (List ℕ)) → 0 < length p → filled (p ∷ ps) ≡ p ∷ filled ps
unfolding filled
filled-full [] ps h = absurd (omega arith)
filled-full (b ∷ p) ps h = refl

module _ (s : ℕ → Bool) where
  abbrev other : ℕ → Bool
  other b = not (s b)

  -- separators at the front part empty pieces only
  skip : (l : List ℕ) → filled (pieces s l) ≡ filled (pieces s (drop (leading s l) l))
  unfolding filled pieces
  skip [] = refl
  skip (b ∷ bs) = by (s b) refl (skip bs)
    where
      by : (t : Bool) → s b ≡ t → filled (pieces s bs) ≡ filled (pieces s (drop (leading s bs) bs))
          → filled (pieces s (b ∷ bs)) ≡ filled (pieces s (drop (leading s (b ∷ bs)) (b ∷ bs)))
      by true e h = rw e h
      by false e h = rw e (rw e)

  -- the pieces behind the one that ends here
  behind : List ℕ → List (List ℕ)
  behind [] = []
  behind (b ∷ bs) = pieces s bs

  -- the first piece is what stands before the first separator
  first : (l : List ℕ) → pieces s l ≡ take (leading other l) l ∷ behind (drop (leading other l) l)
  unfolding pieces behind
  first [] = refl
  first (b ∷ bs) = by (s b) refl (first bs)
    where
      by : (t : Bool) → s b ≡ t → pieces s bs ≡ take (leading other bs) bs ∷ behind (drop (leading other bs) bs)
          → pieces s (b ∷ bs) ≡ take (leading other (b ∷ bs)) (b ∷ bs) ∷ behind (drop (leading other (b ∷ bs)) (b ∷ bs))
      by true e h = rw e
      by false e h = rw e (ap (onto b) h)

  -- the separator behind a piece adds an empty piece at most
  rest : (l : List ℕ) → filled (behind (drop (leading other l) l)) ≡ filled (pieces s (drop (leading other l) l))
  unfolding filled pieces behind
  rest [] = refl
  rest (b ∷ bs) = by (s b) refl (rest bs)
    where
      by : (t : Bool) → s b ≡ t → filled (behind (drop (leading other bs) bs))
          ≡ filled (pieces s (drop (leading other bs) bs))
          → filled (behind (drop (leading other (b ∷ bs)) (b ∷ bs)))
          ≡ filled (pieces s (drop (leading other (b ∷ bs)) (b ∷ bs)))
      by true e h = rw e (rw e)
      by false e h = rw e h

  -- where separators are followed by nothing else, the text ends
  ends : (l : List ℕ) → leading other (drop (leading s l) l) ≡ 0 → leading s l ≡ length l
  ends [] h = refl
  ends (b ∷ bs) h = by (s b) refl (ends bs) h
    where
      by : (t : Bool) → s b ≡ t → (leading other (drop (leading s bs) bs) ≡ 0 → leading s bs ≡ length bs)
          → leading other (drop (leading s (b ∷ bs)) (b ∷ bs)) ≡ 0 → leading s (b ∷ bs) ≡ suc (length bs)
      by true e ih g = rw e (ap suc (ih (rw e at g)))
      by false e ih g = absurd (let z = rw e at (rw e at g) in omega arith)

  -- a piece lies within the text
  pub end-within : (l : List ℕ) → end_by s l ≤ length l
  end-within l =
      let a = leading-within s l in
      let m = leading-within other (drop (leading s l) l) in
      let d = length-drop (leading s l) l in
      omega arith

  -- a piece that starts within the front of a text starts there in the text; so much of it as the front has
  front-start : (n : ℕ) (l : List ℕ) → start_by s (take n l) < n
      → (start_by s (take n l) ≡ start_by s l)
      × (end_by s (take n l) ≡ start_by s l + leading other (take (n - start_by s l) (drop (start_by s l) l)))
  front-start n l h =
      let start = leading-front s n l h in
      let behind = ap (λ k. drop k (take n l)) start ∙ drop-take (start_by s l) n l in
      (start, ap₂ (λ a r. a + leading other r) start behind)

  -- where it ends within the front, it ends there in the text
  pub cut-front : (n : ℕ) (l : List ℕ) → end_by s (take n l) < n
      → (start_by s (take n l) ≡ start_by s l) × (end_by s (take n l) ≡ end_by s l)
  cut-front n l h =
      let a = start_by s l in
      let e = front-start n l (omega arith) in
      (e.0, omega (arith, e.1, leading-front other (n - a) (drop a l) (omega (arith, e.0, e.1))))

  -- where it reaches the end of the front, it goes on behind it
  pub cut-past : (n : ℕ) (l : List ℕ) → start_by s (take n l) < n → n ≤ end_by s (take n l)
      → (start_by s (take n l) ≡ start_by s l) × (n + leading other (drop n l) ≡ end_by s l) × (n ≤ length l)
  cut-past n l h g =
      let a = start_by s l in
      let e = front-start n l h in
      let most = end-within (take n l) in
      let long = length-take n l in
      let full = leading-past other (n - a) (drop a l) (omega (arith, e.0, e.1)) in
      let at : a + (n - a) ≡ n = omega (arith, e.0) in
      let rest = ap (leading other) (drop-drop (n - a) a l ∙ ap (λ k. drop k l) at) in
      (e.0, omega arith, omega arith)

  -- the first piece that is not empty, and the pieces of what is left
  pub pieces-cut : (l : List ℕ) → start_by s l < end_by s l
      → filled (pieces s l) ≡ take (end_by s l - start_by s l) (drop (start_by s l) l)
      ∷ filled (pieces s (drop (end_by s l) l))
  pieces-cut l h =
      let a = start_by s l in
      let t = drop a l in
      let m = leading other t in
      let some : 0 < length (take m t) = omega (arith, length-take m t, leading-within other t) in
      let size : m ≡ end_by s l - start_by s l = omega arith in
      skip l
      ∙ ap filled (first t)
      ∙ filled-behind (take m t) (behind (drop m t)) (pieces s (drop m t)) (rest t)
      ∙ filled-full (take m t) (pieces s (drop m t)) some
      ∙ ap₂ (λ (n : ℕ) (r : List ℕ). take n t ∷ filled (pieces s r)) size (drop-drop m a l)

  pub pieces_end : (l : List ℕ) → start_by s l ≡ end_by s l → end_by s l ≡ length l
  pieces_end l h = let e = ends l (omega arith) in omega arith

  pub pieces_none : (l : List ℕ) → start_by s l ≡ end_by s l → filled (pieces s l) ≡ []
  unfolding filled pieces
  pieces_none l h =
      let e = pieces_end l h in
      let past : length l ≤ start_by s l = omega arith in
      skip l ∙ ap (λ (r : List ℕ). filled (pieces s r)) (drop_of_length-le l past)

-- ---- the keywords of a text

-- as the text has them, and in lower case
pub words_cut : (text : List ℕ) → cut_start text < cut_end text → words_of text ≡ keyword_at text
    ∷ words_of (text_behind text)
unfolding words_of
words_cut = pieces-cut is_separator

pub words_none : (text : List ℕ) → cut_start text ≡ cut_end text → words_of text ≡ []
unfolding words_of
words_none = pieces_none is_separator

pub keywords_words : (text : List ℕ) → keywords_of text ≡ map (map lower) (words_of text)
unfolding keywords_of words_of
keywords_words text = refl

pub keywords_cut : (text : List ℕ) → cut_start text < cut_end text → keywords_of text ≡ map lower (keyword_at text)
    ∷ keywords_of (text_behind text)
unfolding keywords_of
keywords_cut text h = ap (map (map lower)) (pieces-cut is_separator text h)

pub keywords_none : (text : List ℕ) → cut_start text ≡ cut_end text → keywords_of text ≡ []
unfolding keywords_of
keywords_none text h = ap (map (map lower)) (pieces_none is_separator text h)

pub cut-end : (text : List ℕ) → cut_start text ≡ cut_end text → cut_end text ≡ length text
cut-end = pieces_end is_separator

pub cut-within : (text : List ℕ) → (cut_start text ≤ cut_end text) × (cut_end text ≤ length text)
cut-within text = (omega arith, end-within is_separator text)

-- a run of separators, and the run of other bytes in `&text[start..]`, are the first cut
module _ (text : List ℕ) (start size : ℕ) (a : start ≡ leading (matching true) text)
    (b : size ≡ leading (matching false) (take (length text - start) (drop start text))) where
  pub runs-end : start + size ≡ cut_end text
  runs-end =
      ap₂ (λ x y. x + y) a
      (b ∙ ap (leading (matching false)) (part_tail start text) ∙ ap (λ x. leading (matching false) (drop x text)) a)

  pub runs-cut : ◌≡◌ {A = Cut} (record { start = start; end = start + size }) (cut_of text)
  runs-cut = ap₂ {C = Cut} (λ x y. record { start = x; end = y }) a runs-end

-- a keyword that starts at `begin`, and goes on for sure up to `from`
pub record Onward (text : List ℕ) (begin from : ℕ) : Type 0 where
  pub start : begin ≡ cut_start text
  pub inside : from ≤ length text
  pub end : from + leading (matching false) (drop from text) ≡ cut_end text

module _ (text : List ℕ) (begin from : ℕ) where
  pub onward_near : (start : ℕ) → Reaching start text → start < near → begin ≡ start → from ≡ near
      → Onward text begin from
  onward_near start h g b f =
      let on = cut-past is_separator near text (omega arith) h.1 in
      record {
        start = b ∙ h.0 ∙ on.0;
        inside = rw f on.2;
        end = ap (λ k. k + leading (matching false) (drop k text)) f ∙ on.1;
      }

  pub onward-far : (start : ℕ) → start ≡ leading (matching true) text → begin ≡ start → from ≡ begin
      → Onward text begin from
  onward-far start e b f =
      let at = f ∙ b ∙ e in
      record {
        start = b ∙ e;
        inside = rw at (leading-within is_separator text);
        end = ap (λ k. k + leading (matching false) (drop k text)) at;
      }

-- a cut is empty exactly where the text has no keyword
pub cut-empty : (text : List ℕ) → (cut_start text ≡ cut_end text) ↔ (keywords_of text ≡ [])
cut-empty text = (keywords_none text, λ e. by e (dec_le (suc (cut_start text)) (cut_end text)))
  where
    by : keywords_of text ≡ [] → Dec (cut_start text < cut_end text) → cut_start text ≡ cut_end text
    by e (yes h) = let z : ◌≡◌ {A = ℕ} 0 1 = cc (keywords_cut text h) in absurd (omega arith)
    by e (no h) = omega arith

-- one step of a loop over the keywords, seen through any function of them
pub keywords_step : {B : Type 0} (g : List (List ℕ) → B) (text : List ℕ)
    → g (keywords_of text) ≡ cond (ltb (cut_start text) (cut_end text))
    (g (map lower (keyword_at text) ∷ keywords_of (text_behind text))) (g [])
keywords_step g text = by (dec_le (suc (cut_start text)) (cut_end text))
  where
    by : Dec (cut_start text < cut_end text)
        → g (keywords_of text) ≡ cond (ltb (cut_start text) (cut_end text))
        (g (map lower (keyword_at text) ∷ keywords_of (text_behind text))) (g [])
    by (yes h) = rw (lt-ltb (cut_start text) (cut_end text) h) (ap g (keywords_cut text h))
    by (no h) = rw (le-ltb (cut_start text) (cut_end text) (omega arith)) (ap g (keywords_none text (omega arith)))

-- the same for a test of the hashes, which are those of the bytes as they stand in the text
module _ (f : ℕ → Bool) where
  abbrev test : List ℕ → Bool
  test k = f (hash_of k)

  pub any_step : (text : List ℕ) → any (λ k. f (hash_of k)) (keywords_of text)
      ≡ cond (ltb (cut_start text) (cut_end text)) (f (hash_of (keyword_at text)) || any (λ k. f (hash_of k))
      (keywords_of (text_behind text))) false
  any_step text =
      keywords_step (any test) text
      ∙ ap (λ (h : ℕ). cond (ltb (cut_start text) (cut_end text)) (f h || any test (keywords_of (text_behind text))) false)
      (hash-lower (keyword_at text))

  pub all-step : (text : List ℕ) → all (λ k. f (hash_of k)) (keywords_of text)
      ≡ cond (ltb (cut_start text) (cut_end text)) (f (hash_of (keyword_at text)) && all (λ k. f (hash_of k))
      (keywords_of (text_behind text))) true
  all-step text =
      keywords_step (all test) text
      ∙ ap (λ (h : ℕ). cond (ltb (cut_start text) (cut_end text)) (f h && all test (keywords_of (text_behind text))) true)
      (hash-lower (keyword_at text))

-- ---- a loop over the keywords, in the terms of its code: `cut` is what the cutter gave of `text`

module _ (text : List ℕ) (c : Cut) (e : c ≡ cut_of text) where
  pub cut-bounds : (c.start ≤ c.end) × (c.end ≤ length text)
  cut-bounds = rw e (cut-within text)

  -- the keyword is `&text[start..end]`, and the loop goes on with `&text[end..]`
  pub cut-found : c.start < c.end
      → keywords_of text ≡ map lower (take (c.end - c.start) (drop c.start text)) ∷ keywords_of
      (take (length text - c.end) (drop c.end text))
  cut-found h =
      rw e (keywords_cut text (rw e at h) ∙ ap (λ (r : List ℕ). map lower (keyword_at text) ∷ keywords_of r)
      (sym (part_tail (cut_end text) text)))

  pub cut-done : c.end ≤ c.start → keywords_of text ≡ []
  cut-done h = let g = rw e at h in keywords_none text (omega arith)

  module _ (f : ℕ → Bool) where
    pub any_found : c.start < c.end → any (λ k. f (hash_of k)) (keywords_of text)
        ≡ (f (hash_of (take (c.end - c.start) (drop c.start text))) || any (λ k. f (hash_of k))
        (keywords_of (take (length text - c.end) (drop c.end text))))
    any_found h = rw (cut-found h, hash-lower)

    pub any-done : c.end ≤ c.start → any (λ k. f (hash_of k)) (keywords_of text) ≡ false
    any-done h = rw (cut-done h)

-- ---- what the code tests

-- a byte is passed where the answer of the separator test is the one wanted
pub matching-is : (w s : Bool) (b : ℕ) → s ≡ is_separator b → matching w b ≡ beq s w
matching-is true s b e = sym e ∙ by s
  where
    by : (t : Bool) → t ≡ beq t true
    by true = refl
    by false = refl
matching-is false s b e = ap not (sym e) ∙ by s
  where
    by : (t : Bool) → not t ≡ beq t false
    by true = refl
    by false = refl

-- a cut is told where it is not empty
module _ (text : List ℕ) (cut : Cut) (r : Option Cut) (is : cut ≡ cut_of text)
    (told : r ≡ then_some (ltb cut.start cut.end) cut) where
  abbrev Told : Type 0
  Told = (cut_told text r ≡ cut_of text) × IfSome r (λ x. (x.start < x.end) × (x.end ≤ length text))

  pub cut-told : Told
  cut-told = by (dec_le (suc (cut_start text)) (cut_end text))
    where
      start : cut.start ≡ cut_start text
      start = ap (λ x. x.start) is

      end : cut.end ≡ cut_end text
      end = ap (λ x. x.end) is

      by : Dec (cut_start text < cut_end text) → Told
      by (yes h) =
          let some : r ≡ Some cut = told ∙ ap (λ b. then_some b cut) (lt-ltb cut.start cut.end (omega (arith, start, end))) in
          let e = cut-within text in
          (ap (cut_told text) some ∙ is, rw some (omega (arith, start, end), omega (arith, end, e.1)))
      by (no h) =
          let none : r ≡ None = told ∙ ap (λ b. then_some b cut) (le-ltb cut.start cut.end (omega (arith, start, end))) in
          let e = cut-within text in
          let size = cut-end text (omega arith) in
          let start-size : length text ≡ cut_start text = omega arith in
          let end-size : length text ≡ cut_end text = omega arith in
          (ap (cut_told text) none ∙ ap₂ {C = Cut} (λ x y. record { start = x; end = y }) start-size end-size, rw none tt)

-- what an iterator over the keywords gives, where a cut is told, and where none is
pub words-next : (text : List ℕ) (cut : Cut) → cut ≡ cut_of text → cut.start < cut.end
    → words_of text ≡ take (cut.end - cut.start) (drop cut.start text)
    ∷ words_of (take (length text - cut.end) (drop cut.end text))
words-next text cut is h =
    let some : cut_start text < cut_end text = subst (λ (k : Cut). k.start < k.end) is h in
    words_cut text some
    ∙ ap (λ (k : Cut). take (k.end - k.start) (drop k.start text) ∷ words_of (drop k.end text)) (sym is)
    ∙ ap (λ t. take (cut.end - cut.start) (drop cut.start text) ∷ words_of t) (sym (part_tail cut.end text))

pub words-over : (text : List ℕ) → cut_told text None ≡ cut_of text → words_of text ≡ []
words-over text is = words_none text (sym (ap (λ (k : Cut). k.start) is) ∙ ap (λ (k : Cut). k.end) is)
