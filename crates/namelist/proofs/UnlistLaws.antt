-- Pairs behind a place moved up by one place, and a count of one less: the names are those without the one at the
-- place.
use Prim.Native.Nat.{ℕ, ◌+◌, ◌-◌, ◌*◌, ◌≤◌, ◌<◌}
use mathlib.Core.Path.{◌≡◌, refl, sym, ap, ◌∙◌}
use mathlib.Core.Bool.{true}
use mathlib.Core.Logic.{⊎_elim}
use mathlib.Core.List.{List, [], ◌++◌}
use native.Mathlib.Omega.{arith}
use lib.ListN.{length, take, drop, length-take, length-drop}
use lib.Seq.{drop-drop, take-take, paste}
use Rattle.std.proofs.Common.{append_assoc}
use Rattle.std.proofs.lemmas.List.{drop-take}
use Rattle.laws.specs.Bytes.{little}
use Rattle.laws.specs.Parts.{over}
use Rattle.laws.proofs.Over.{over-length}
use Rattle.laws.proofs.Overlay.{over-read, over-ahead, over-behind}
use Rattle.namearea.specs.Area.{most_names, text_from, count_in, span_at, name_of, name_at, names_in}
use Rattle.namearea.specs.Good.{good_name, differ, good_list}
use Rattle.namearea.specs.Calls.{Relisted}
use Rattle.namearea.proofs.SpanLaws.{span_same}
use Rattle.namearea.proofs.GoodLaws.{Listed, listed, of_listed, names-length, names_at}
use Rattle.namelist.specs.Moves.{CountPut}
use Rattle.namelist.proofs.ListLaws.{last_or, same_name, names-are, was, was-is, was-less, was-order}
use Rattle.namelist.proofs.ListLaws.{less, less-length, less-at, less-all, less-pairwise}

-- the pairs behind `place`, of the first `count`, stand one place further up
pub record Shifted (a : List ℕ) (place count : ℕ) (b : List ℕ) : Type 0 where
  pub long : length b ≡ length a
  pub count_kept : count_in b ≡ count_in a
  pub text : drop text_from b ≡ drop text_from a
  pub before : (k : ℕ) → k < place → span_at b k ≡ span_at a k
  pub moved : (k : ℕ) → place ≤ k → k + 1 < count → span_at b k ≡ span_at a (k + 1)

-- eight bytes within the first n of a list
eight_of : (n j : ℕ) (l : List ℕ) → j + 8 ≤ n → take 8 (drop j (take n l)) ≡ take 8 (drop j l)
eight_of n j l h =
    let e : n ≡ j + (n - j) = omega arith in
    ap (λ m. take 8 (drop j (take m l))) e ∙ ap (take 8) (drop-take j (n - j) l)
    ∙ take-take 8 (n - j) (drop j l) (omega arith)

-- their bytes, x, were moved up by eight, to `at`
module _ (a : List ℕ) (place count : ℕ) where
  abbrev at : ℕ
  at = 4 + 8 * place

  abbrev n : ℕ
  n = 4 + 8 * count - (at + 8)

  abbrev x : List ℕ
  x = take n (drop (at + 8) a)

  module _ (long : text_from ≤ length a) (few : count ≤ most_names) (some : place < count) where
    size : length x ≡ n
    size = simp (length-take, length-drop) (omega arith)

    fits : at + length x ≤ length a
    fits = omega (arith, size)

    within : (j : ℕ) → j + 8 ≤ n → take 8 (drop (at + j) (over at x a)) ≡ take 8 (drop (at + 8 + j) a)
    within j h =
        ap (take 8) (sym (drop-drop j at (over at x a)))
        ∙ sym (eight_of n j (drop at (over at x a)) h)
        ∙ ap (λ l. take 8 (drop j l))
        (ap (λ m. take m (drop at (over at x a))) (sym size) ∙ over-read at x a (omega arith))
        ∙ eight_of n j (drop (at + 8) a) h
        ∙ ap (take 8) (drop-drop j (at + 8) a)

    moved_up : (k : ℕ) → place ≤ k → k + 1 < count → span_at (over at x a) k ≡ span_at a (k + 1)
    moved_up k h g =
        let p : 4 + 8 * k ≡ at + 8 * (k - place) = omega arith in
        let q : at + 8 + 8 * (k - place) ≡ 4 + 8 * (k + 1) = omega arith in
        span_same (drop (4 + 8 * k) (over at x a)) (drop (4 + 8 * (k + 1)) a)
        (ap (λ m. take 8 (drop m (over at x a))) p
        ∙ within (8 * (k - place)) (omega arith)
        ∙ ap (λ m. take 8 (drop m a)) q)

    put : Shifted a place count (over at x a)
    unfolding count_in
    put = record {
      long = over-length at x a fits;
      count_kept = ap little (over-ahead at x a 0 4 (omega arith) (omega arith));
      text = over-behind at x a text_from fits (omega (arith, size));
      before = λ k h. span_same (drop (4 + 8 * k) (over at x a)) (drop (4 + 8 * k) a)
          (over-ahead at x a (4 + 8 * k) 8 (omega arith) (omega arith));
      moved = moved_up;
    }

    pub shifted : (b : List ℕ) → b ≡ paste a at (drop (at + 8) a) n → Shifted a place count b
    shifted b e =
        rw (e ∙ append_assoc (take at a) x (drop (at + n) a) ∙ ap (λ m. take at a ++ (x ++ drop (at + m) a)) (sym size))
        put

-- a is good and lists a name at `place`, in b the pairs behind it stand one place further up, and c counts one less
module _ (a b c : List ℕ) (place : ℕ) (l : Listed a) (h : place < count_in a) (f : Shifted a place (count_in a) b)
    (n : CountPut b (count_in a - 1) c) where
  -- each pair is the one that it was, and so is each name
  span_was : (k : ℕ) → k < count_in a - 1 → span_at c k ≡ span_at a (was place k)
  span_was k g =
      let m : k < most_names = omega (arith, l.few) in
      n.pairs k m
      ∙ ⊎_elim (λ q. f.before k q.0 ∙ ap (span_at a) (sym q.1))
      (λ q. f.moved k q.0 (omega arith) ∙ ap (span_at a) (sym q.1))
      (was-is place k)

  name-was : (k : ℕ) → k < count_in a - 1 → name_at c k ≡ name_at a (was place k)
  name-was k g =
      ap (name_of c) (span_was k g)
      ∙ same_name a c (span_at a (was place k)) (n.text ∙ f.text)
      (l.inside (was place k) (was-less place k (count_in a) g)).0

  unlisted-names : names_in c ≡ less place (names_in a)
  unlisted-names =
      let some : place < length (names_in a) = rw names-length h in
      names-are c (less place (names_in a))
      (n.count ∙ sym (less-length place (names_in a) some ∙ ap (λ k. k - 1) (names-length (count_in a) a)))
      (λ i g.
      let m : i < count_in a - 1 = rw n.count at g in
      name-was i m
      ∙ sym (less-at place (names_in a) i [] some
      ∙ names_at (count_in a) a (was place i) (was-less place i (count_in a) m)))

  unlisted-long : length c ≡ length a
  unlisted-long = n.long ∙ f.long

  unlisted-listed : Listed c
  unlisted-listed =
      record {
        few = rw n.count (omega (arith, l.few));
        inside = λ i g.
            let m : i < count_in a - 1 = rw n.count at g in
            rw (span_was i m, unlisted-long) (l.inside (was place i) (was-less place i (count_in a) m));
        apart = λ i k o g.
            let m : k < count_in a - 1 = rw n.count at g in
            let j : i < count_in a - 1 = omega arith in
            rw (span_was i j, span_was k m)
            (l.apart (was place i) (was place k) (was-order place i k o) (was-less place k (count_in a) m));
        named = rw unlisted-names (less-all good_name place (names_in a) l.named);
        distinct = rw unlisted-names (less-pairwise differ place (names_in a) l.distinct);
      }

pub unlisted : (a : List ℕ) (count place : ℕ) (b c : List ℕ) → good_list a ≡ true → count ≡ count_in a
    → place < count → Shifted a place count b → CountPut b (count - 1) c
    → Relisted a c (less place (names_in a))
unlisted a count place b c g q h f n =
    let l = listed a g in
    let k : place < count_in a = omega arith in
    let f' = rw q at f in
    let n' = rw q at n in
    record {
      long = unlisted-long a b c place l k f' n';
      good = of_listed c (unlisted-listed a b c place l k f' n');
      listed = unlisted-names a b c place l k f' n';
    }
