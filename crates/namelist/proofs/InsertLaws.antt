-- A text behind the others, a pair that tells of it behind the listed ones, and a count of one more: the name is the
-- last.
use Prim.Native.Nat.{ℕ, ◌+◌, ◌≤◌, ◌<◌}
use mathlib.Core.Path.{◌≡◌, refl, sym, ap, ◌∙◌}
use mathlib.Core.Bool.{true, false}
use mathlib.Core.Logic.{◌⊎◌, inl, ⊎_elim}
use mathlib.Core.List.{List, [], ◌∷◌}
use native.Mathlib.Omega.{arith}
use lib.ListN.{length, get_or, drop, length-append, get_or-append}
use lib.Seq.{get_or_at}
use Rattle.laws.proofs.Refusals.{all_append, and_intro}
use Rattle.namearea.specs.Area.{most_names, text_from, count_in, span_at, end_of, name_of, name_at, names_in}
use Rattle.namearea.specs.Good.{good_name, differ}
use Rattle.namearea.specs.Calls.{is_listed, with_last, Relisted}
use Rattle.namearea.proofs.GoodLaws.{Listed, listed, of_listed, names-length, names_at}
use Rattle.namelist.specs.Moves.{CountPut, PairPut, TextPut, Placed}
use Rattle.namelist.proofs.ListLaws.{last_or, same_name, names-are, snoc_pairwise, unlisted_differs}

-- b has room at `at`; c has the text x there, d has the pair that tells of it, and e counts it
module _ (b c d e x : List ℕ) (at : ℕ) (l : Listed b) (low : text_from ≤ at) (fits : at + length x ≤ length b)
    (above : (k : ℕ) → k < count_in b → end_of (span_at b k) ≤ at) (few : count_in b < most_names)
    (named : good_name x ≡ true) (new : is_listed x (names_in b) ≡ false)
    (t : TextPut b at x c) (p : PairPut c (count_in b) (record { offset = at; size = length x }) d)
    (n : CountPut d (count_in b + 1) e) where
  long : length e ≡ length b
  long = n.long ∙ p.long ∙ t.long

  text : drop text_from e ≡ drop text_from c
  text = n.text ∙ p.text

  span_kept : (k : ℕ) → k < count_in b → span_at e k ≡ span_at b k
  span_kept k h =
      let m : k < most_names = omega arith in
      let ne : k ≡ count_in b → ⊥ = λ q. omega arith in
      n.pairs k m ∙ p.others k m ne ∙ t.pairs k m

  span_last : (k : ℕ) → k ≡ count_in b → span_at e k ≡ record { offset = at; size = length x }
  span_last k q = ap (span_at e) q ∙ n.pairs (count_in b) few ∙ p.here

  name-kept : (k : ℕ) → k < count_in b → name_at e k ≡ name_at b k
  name-kept k h =
      ap (name_of e) (span_kept k h)
      ∙ same_name c e (span_at b k) text (l.inside k h).0
      ∙ t.others (span_at b k) (inl (above k h))

  name-last : (k : ℕ) → k ≡ count_in b → name_at e k ≡ x
  name-last k q =
      ap (name_of e) (span_last k q)
      ∙ same_name c e (record { offset = at; size = length x }) text low
      ∙ t.here

  inserted-names : names_in e ≡ with_last (names_in b) x
  inserted-names =
      names-are e (with_last (names_in b) x)
      (n.count ∙ sym (simp length-append (ap (λ k. k + 1) (names-length (count_in b) b))))
      (λ i h. let g : i < count_in b + 1 = rw n.count at h in ⊎_elim (before i) (behind i) (last_or i (count_in b) g))
    where
      before : (i : ℕ) → i < count_in b → name_at e i ≡ get_or (with_last (names_in b) x) i []
      before i h =
          let g : i < length (names_in b) = rw names-length h in
          name-kept i h
          ∙ sym (get_or-append (names_in b) (x ∷ []) [] i g ∙ names_at (count_in b) b i h)

      behind : (i : ℕ) → i ≡ count_in b → name_at e i ≡ get_or (with_last (names_in b) x) i []
      behind i q =
          name-last i q
          ∙ sym (get_or_at (names_in b) x [] [] i (names-length (count_in b) b ∙ sym q))

  inserted-listed : Listed e
  inserted-listed =
      record {
        few = rw n.count (omega arith);
        inside = λ i h.
            let g : i < count_in b + 1 = rw n.count at h in
            ⊎_elim {C = (text_from ≤ (span_at e i).offset) × (end_of (span_at e i) ≤ length e)}
            (λ q. rw (span_kept i q, long) (l.inside i q))
            (λ q. rw (span_last i q, long) (low, fits))
            (last_or i (count_in b) g);
        apart = λ i k h g.
            let j : k < count_in b + 1 = rw n.count at g in
            ⊎_elim {C = (end_of (span_at e i) ≤ (span_at e k).offset) ⊎ (end_of (span_at e k) ≤ (span_at e i).offset)}
            (λ q. let m : i < count_in b = omega arith in rw (span_kept i m, span_kept k q) (l.apart i k h q))
            (λ q. let m : i < count_in b = omega arith in rw (span_kept i m, span_last k q) (inl (above i m)))
            (last_or k (count_in b) j);
        named = rw inserted-names (all_append good_name (names_in b) (x ∷ []) l.named
            (and_intro (good_name x) true named refl));
        distinct = rw inserted-names (snoc_pairwise differ (names_in b) x l.distinct
            (unlisted_differs x (names_in b) new));
      }

pub inserted : (a : List ℕ) (count : ℕ) (x : List ℕ) (at : ℕ) (b c d e : List ℕ) → count ≡ count_in a
    → count < most_names → good_name x ≡ true → is_listed x (names_in a) ≡ false → Placed a (length x) at b
    → TextPut b at x c → PairPut c count (record { offset = at; size = length x }) d → CountPut d (count + 1) e
    → Relisted a e (with_last (names_in a) x)
inserted a count x at b c d e q few named new o t p n =
    let l = listed b o.good in
    let k : count ≡ count_in b = q ∙ sym o.count in
    let few' : count_in b < most_names = omega arith in
    let new' : is_listed x (names_in b) ≡ false = rw o.listed new in
    let p' = rw k at p in
    let n' = rw k at n in
    record {
      long = long b c d e x at l o.low o.fits o.above few' named new' t p' n' ∙ o.long;
      good = of_listed e (inserted-listed b c d e x at l o.low o.fits o.above few' named new' t p' n');
      listed = inserted-names b c d e x at l o.low o.fits o.above few' named new' t p' n'
          ∙ ap (λ names. with_last names x) o.listed;
    }
