-- Results laid one behind another: those that were written and what is left of the places make the whole.
use Prim.Native.Nat.{ℕ, zero, suc, ◌+◌, ◌-◌, ◌≤◌, ◌<◌}
use Rattle.std.proofs.Common.{Option, Some, None}
use Rattle.std.specs.Prelude.{unwrap_or}
use mathlib.Core.Path.{◌≡◌, refl, sym, ap, ap₂, ◌∙◌}
use mathlib.Core.Bool.{Bool, true, false, cond}
use mathlib.Core.List.{List, [], ◌∷◌, ◌++◌, append_assoc, append-nil}
use native.Mathlib.Nat.{sub-zero}
use native.Mathlib.Numerals.{add-one}
use native.Mathlib.Omega.{arith}
use lib.Dec.{leb}
use lib.ListN.{length, get_or, take, drop, length-append, length-take, length-drop}
use borrow.Rule.Slice.PartMut.{put_mid, put_same}
use borrow.Author.Tests.{le-leb, lt-leb, leb-true, leb-false}
use Rattle.laws.specs.Numbers.{counting}
use Rattle.laws.specs.Parts.{over}
use Rattle.laws.proofs.Over.{over-length}
use Rattle.laws.proofs.Writing.{written_next, lent-part}
use Rattle.namearea.specs.Area.{count_in, name_at, name_of, pair_in}
use Rattle.namearea.specs.declared.Span.{Span}
use Rattle.namearea.proofs.SpanLaws.{pair-there}
use Rattle.hits.specs.Results.{HitResult, without_extension, result_bytes, results_bytes}
use Rattle.hits.specs.Writing.{result_into}
use Rattle.hits.proofs.WriteLaws.{result-long, no_room, has_room}
use Rattle.answering.specs.Writing.{result_at, picked_results, fitting}
use Rattle.answerer.specs.Filling.{filling_of, Laid}

-- one result more
bytes-more : (rs : List HitResult) (r : HitResult)
    → results_bytes (rs ++ (r ∷ [])) ≡ results_bytes rs ++ result_bytes r
unfolding results_bytes
bytes-more [] r = append-nil (result_bytes r)
bytes-more (x ∷ rs) r =
    ap (λ l. result_bytes x ++ l) (bytes-more rs r)
    ∙ sym (append_assoc (result_bytes x) (results_bytes rs) (result_bytes r))

-- of no results none fit
fitting-none : (n room : ℕ) → fitting n room [] ≡ []
unfolding fitting
fitting-none zero room = refl
fitting-none (suc n) room = refl

-- what the code tells of a result: no byte where there is no room
module _ (k m n : ℕ) (e : n ≡ cond (leb (10 + k) m) (10 + k) 0) where
  put-none : n ≡ 0 → m < 10 + k
  put-none z = by (leb (10 + k) m) refl
    where
      by : (b : Bool) → leb (10 + k) m ≡ b → m < 10 + k
      by true q = let v : n ≡ 10 + k = e ∙ rw q in absurd (omega arith)
      by false q = leb-false (10 + k) m q

  put_some : (n ≡ 0 → ⊥) → (10 + k ≤ m) × (n ≡ 10 + k)
  put_some z = by (leb (10 + k) m) refl
    where
      by : (b : Bool) → leb (10 + k) m ≡ b → (10 + k ≤ m) × (n ≡ 10 + k)
      by true q = (leb-true (10 + k) m q, e ∙ rw q)
      by false q = absurd (z (e ∙ rw q))

-- the results for the places from i on
abbrev left : List Bool → List ℕ → List ℕ → ℕ → List HitResult
left found a sizes i = picked_results (λ k. get_or found k false) (result_at a sizes) (counting (count_in a - i) i)

-- some results are laid, and with as many of those left as fit they are all
pub record Laying (found : List Bool) (a sizes part₀ : List ℕ) (results size : ℕ) (part : List ℕ)
    (i : ℕ) : Type 0 where
  pub done : List HitResult
  pub counted : results ≡ length done
  pub few : results ≤ 255
  pub long : size ≡ length (results_bytes done)
  pub bytes : part ≡ over 0 (results_bytes done) part₀
  pub inside : size ≤ length part₀
  pub whole : done ++ fitting (255 - results) (length part₀ - size) (left found a sizes i)
      ≡ filling_of found a sizes (length part₀)

-- how many bytes a result has that was put, and 0 where there was no room for it
pub room-told : (room : Bool) (k : ℕ) (o : Option ℕ) → o ≡ cond room (Some k) None → unwrap_or o 0 ≡ cond room k 0
room-told true k o e = ap (λ p. unwrap_or p 0) e
room-told false k o e = ap (λ p. unwrap_or p 0) e

pub some-told : (room : Bool) (k n : ℕ) → Some n ≡ cond room (Some k) None → n ≡ k
some-told true k n e = cc
some-told false k n e = cc

-- a result was put behind them, and n bytes of it are told: none, and the results end, or they are one more
pub record Turned (found : List Bool) (a sizes part₀ : List ℕ) (results size n : ℕ) (part : List ℕ) (i : ℕ) : Type 0
  where
    pub stop : n ≡ 0 → Laid (filling_of found a sizes (length part₀)) results size part₀ part
    pub more : (n ≡ 0 → ⊥) → Laying found a sizes part₀ (results + 1) (size + n) part (i + 1)

pub lay_none : (found : List Bool) (a sizes part : List ℕ) → Laying found a sizes part 0 0 part 0
unfolding filling_of results_bytes
lay_none found a sizes part =
    record {
      done = [];
      counted = refl;
      few = omega arith;
      long = refl;
      bytes = refl;
      inside = omega arith;
      whole = simp sub-zero;
    }

module _ (found : List Bool) (a sizes part₀ : List ℕ) (results size : ℕ) (part : List ℕ) (i : ℕ)
    (l : Laying found a sizes part₀ results size part i) where
  pub lay_long : length part ≡ length part₀
  lay_long = ap length l.bytes ∙ over-length 0 (results_bytes l.done) part₀ (omega (arith, l.long, l.inside))

  -- none of those left fit: all are laid
  all_laid : fitting (255 - results) (length part₀ - size) (left found a sizes i) ≡ []
      → Laid (filling_of found a sizes (length part₀)) results size part₀ part
  all_laid e =
      let same : l.done ≡ filling_of found a sizes (length part₀) =
      sym (append-nil l.done) ∙ ap (λ rs. l.done ++ rs) (sym e) ∙ l.whole in
      record {
        counted = l.counted ∙ ap length same;
        long = l.long ∙ ap (λ rs. length (results_bytes rs)) same;
        inside = l.inside;
        bytes = l.bytes ∙ ap (λ rs. over 0 (results_bytes rs) part₀) same;
      }

  -- there are 255
  pub lay_full : results ≡ 255 → Laid (filling_of found a sizes (length part₀)) results size part₀ part
  unfolding fitting
  lay_full e =
      let z : 255 - results ≡ 0 = omega arith in
      all_laid (ap (λ n. fitting n (length part₀ - size) (left found a sizes i)) z)

  -- all places are passed
  pub lay_end : count_in a ≤ i → Laid (filling_of found a sizes (length part₀)) results size part₀ part
  unfolding picked_results
  lay_end h =
      let z : count_in a - i ≡ 0 = omega arith in
      all_laid
      (ap (λ n. fitting (255 - results) (length part₀ - size)
      (picked_results (λ k. get_or found k false) (result_at a sizes) (counting n i))) z
      ∙ fitting-none (255 - results) (length part₀ - size))

  module _ (h : i < count_in a) where
    next : left found a sizes i
        ≡ cond (get_or found i false) (result_at a sizes i ∷ left found a sizes (i + 1)) (left found a sizes (i + 1))
    unfolding picked_results
    next =
        let e : count_in a - i ≡ suc (count_in a - (i + 1)) = omega arith in
        ap (λ n. picked_results (λ k. get_or found k false) (result_at a sizes) (counting n i)) e
        ∙ ap (λ n. let more = picked_results (λ k. get_or found k false) (result_at a sizes)
        (counting (count_in a - (i + 1)) n) in cond (get_or found i false) (result_at a sizes i ∷ more) more)
        (sym (add-one i))

    -- the place is not found
    pub lay_pass : get_or found i false ≡ false → Laying found a sizes part₀ results size part (i + 1)
    lay_pass f =
        record {
          done = l.done;
          counted = l.counted;
          few = l.few;
          long = l.long;
          bytes = l.bytes;
          inside = l.inside;
          whole = let rs : left found a sizes i ≡ left found a sizes (i + 1) = next ∙ rw f in
              ap (λ rs. l.done ++ fitting (255 - results) (length part₀ - size) rs) (sym rs) ∙ l.whole;
        }

    module _ (f : get_or found i false ≡ true) (more : results ≡ 255 → ⊥) where
      abbrev here : HitResult
      here = result_at a sizes i

      here-long : length (result_bytes here) ≡ 10 + length (name_at a i)
      here-long = result-long i (get_or sizes i 0) (name_at a i)

      step : fitting (255 - results) (length part₀ - size) (left found a sizes i)
          ≡ cond (leb (length (result_bytes here)) (length part₀ - size))
          (here ∷ fitting (255 - (results + 1)) (length part₀ - size - length (result_bytes here))
          (left found a sizes (i + 1))) []
      unfolding fitting
      step =
          let n : 255 - results ≡ suc (255 - (results + 1)) = omega (arith, l.few) in
          let rs : left found a sizes i ≡ here ∷ left found a sizes (i + 1) = next ∙ rw f in
          ap₂ (λ k rs. fitting k (length part₀ - size) rs) n rs

      -- it was put behind those that are there, if it fits: x is its name, and n is what is told
      module _ (x : List ℕ) (ex : x ≡ name_at a i) (n : ℕ)
          (en : n ≡ cond (leb (10 + length x) (length (take (length part - size) (drop size part)))) (10 + length x) 0)
          (lent : List ℕ)
          (el : lent
          ≡ result_into (without_extension i (get_or sizes i 0) x) (take (length part - size) (drop size part))) where
        abbrev behind : List ℕ
        behind = take (length part - size) (drop size part)

        behind-long : length behind ≡ length part₀ - size
        behind-long = simp (length-take, length-drop) (omega (arith, lay_long))

        put : lent ≡ result_into here behind
        put = el ∙ ap (λ y. result_into (without_extension i (get_or sizes i 0) y) behind) ex

        name-long : length x ≡ length (name_at a i)
        name-long = ap length ex

        -- it does not: nothing is written, and the results end
        lay_stop : n ≡ 0
            → Laid (filling_of found a sizes (length part₀)) results size part₀
            (put_mid size (length part - size) part lent)
        lay_stop z =
            let g : length behind < 10 + length x = put-none (length x) (length behind) n en z in
            let ended = all_laid
            (step ∙ rw (lt-leb (length (result_bytes here)) (length part₀ - size)
            (omega (arith, here-long, behind-long, name-long)))) in
            let same : put_mid size (length part - size) part lent ≡ part =
            ap (put_mid size (length part - size) part)
            (put ∙ no_room i (get_or sizes i 0) (name_at a i) behind (omega (arith, name-long)))
            ∙ put_same size (length part - size) part in
            record { counted = ended.counted; long = ended.long; inside = l.inside; bytes = same ∙ ended.bytes }

        -- it does
        module _ (some : n ≡ 0 → ⊥) where
          fits : 10 + length (name_at a i) ≤ length part₀ - size
          fits = omega (arith, (put_some (length x) (length behind) n en some).0, behind-long, name-long)

          size_is : n ≡ length (result_bytes here)
          size_is = (put_some (length x) (length behind) n en some).1 ∙ ap (λ k. 10 + k) name-long ∙ sym here-long

          written : put_mid size (length part - size) part lent ≡ over 0 (results_bytes (l.done ++ (here ∷ []))) part₀
          written =
              lent-part size (length part - size) (result_bytes here) part lent
              (omega (arith, here-long, lay_long, fits))
              (omega (arith, lay_long, l.inside))
              (put ∙ has_room i (get_or sizes i 0) (name_at a i) behind (omega (arith, behind-long, fits)))
              ∙ ap (over size (result_bytes here)) l.bytes
              ∙ written_next size (results_bytes l.done) (result_bytes here) part₀ (sym l.long)
              ∙ ap (λ bs. over 0 bs part₀) (sym (bytes-more l.done here))

          all : (l.done ++ (here ∷ []))
              ++ fitting (255 - (results + 1)) (length part₀ - (size + n)) (left found a sizes (i + 1))
              ≡ filling_of found a sizes (length part₀)
          all =
              let m : length part₀ - (size + n) ≡ length part₀ - size - length (result_bytes here) =
              omega (arith, size_is) in
              let h : length (result_bytes here) ≤ length part₀ - size = omega (arith, here-long, fits) in
              append_assoc l.done (here ∷ [])
              (fitting (255 - (results + 1)) (length part₀ - (size + n)) (left found a sizes (i + 1)))
              ∙ ap (λ k. l.done ++ (here ∷ fitting (255 - (results + 1)) k (left found a sizes (i + 1)))) m
              ∙ ap (λ rs. l.done ++ rs)
              (sym (step ∙ rw (le-leb (length (result_bytes here)) (length part₀ - size) h)))
              ∙ l.whole

          lay_more : Laying found a sizes part₀ (results + 1) (size + n)
              (put_mid size (length part - size) part lent) (i + 1)
          lay_more =
              record {
                done = l.done ++ (here ∷ []);
                counted = ap (λ k. k + 1) l.counted ∙ sym (length-append l.done (here ∷ []));
                few = omega (arith, l.few);
                long = ap₂ ◌+◌ l.long size_is
                    ∙ sym (ap length (bytes-more l.done here)
                    ∙ length-append (results_bytes l.done) (result_bytes here));
                bytes = written;
                inside = omega (arith, l.inside, fits, size_is, here-long);
                whole = all;
              }

        pub lay_put : Turned found a sizes part₀ results size n (put_mid size (length part - size) part lent) i
        lay_put = record { stop = lay_stop; more = lay_more }

-- the name that the code reads
pub name-here : (a : List ℕ) (i : ℕ) (s : Span) (x : List ℕ) → s ≡ pair_in a i → x ≡ name_of a s → 4100 ≤ length a
    → i < 512 → x ≡ name_at a i
name-here a i s x es ex h g = ex ∙ ap (name_of a) (es ∙ pair-there a i h g)
