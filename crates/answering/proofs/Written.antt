-- A hit that was written: its header is the query's, at least one result is chosen, and its payload reads back as who
-- answers, the chosen results and the end.
use Prim.Native.Nat.{ℕ, zero, suc, ◌+◌, ◌≤◌, ◌<◌}
use mathlib.Core.Path.{◌≡◌, refl, sym, ap, subst, ◌∙◌}
use mathlib.Core.Bool.{Bool, true, false, cond, not}
use mathlib.Core.Logic.{⊎_elim}
use mathlib.Core.List.Memᴰ
use mathlib.Core.List.{List, [], ◌∷◌, Memᴰ}
use native.Mathlib.Omega.{arith}
use lib.Dec.{eqb, leb, ltb}
use lib.ListN.{length, get_or, take, length-append, length-map}
use borrow.Author.Tests.{ltb-true, not-true, leb-true}
use Rattle.laws.specs.Tests.{any}
use Rattle.laws.specs.Numbers.{counting}
use Rattle.laws.proofs.Refusals.{each, get_d_any}
use Rattle.laws.proofs.Fronts.{front_read, front-behind}
use Rattle.wire.specs.Header.{hit_type, number_of, kind_of, ttl_of, hops_of, size_of, payload_of}
use Rattle.wire.proofs.HeaderLaws.{message-length, message-number, message-kind, message-ttl, message-hops}
use Rattle.wire.proofs.HeaderLaws.{message-size, message-payload}
use Rattle.namearea.specs.Area.{count_in, name_at, names_in}
use Rattle.namearea.specs.Good.{good_name}
use Rattle.namearea.proofs.GoodLaws.{names-length, names_at, Listed, named-at}
use Rattle.namearea.proofs.PlaceLaws.{any_at}
use Rattle.namearea.proofs.Words.{of_well}
use Rattle.hits.specs.declared.writing.Responder.{Responder}
use Rattle.hits.specs.Results.{HitResult, result_bytes, results_bytes}
use Rattle.hits.specs.Writing.{hit_payload}
use Rattle.hits.specs.Words.{Tellable, AllTellable, Typed, WrittenRead}
use Rattle.hits.proofs.ResultLaws.{result-length}
use Rattle.hits.proofs.WrittenRead.{reads-written}
use Rattle.matching.specs.Matching.{matches}
use Rattle.answering.specs.Writing.{hit_ttl, result_at, picked_results, candidates, asked_text, chosen, hit_for, writing}
use Rattle.answering.specs.Words.{FourBytes, HitWritten, WritesBack}
use Rattle.answering.proofs.Chosen.{picked-here, match_at, places_in, candidates-are, chosen-fits}
use Rattle.answering.proofs.Answers.{done_iff}
use Rattle.answering.proofs.Left.{payload-long, answer_of, hit_of, after_of, after_is, number-long}

-- ---- each result can be told, and is short

pub record Short (r : HitResult) : Type 0 where
  pub tellable : Tellable r
  pub short : length (result_bytes r) ≤ 265

abbrev pub AllShort : List HitResult → Type 0
AllShort [] = Unit {0}
AllShort (r ∷ rs) = Short r × AllShort rs

all-tellable : (rs : List HitResult) → AllShort rs → AllTellable rs
all-tellable [] h = tt
all-tellable (r ∷ rs) h = (h.0.tellable, all-tellable rs h.1)

short-take : (n : ℕ) (rs : List HitResult) → AllShort rs → AllShort (take n rs)
short-take zero rs h = tt
short-take (suc n) [] h = tt
short-take (suc n) (r ∷ rs) h = (h.0, short-take n rs h.1)

-- the first of some fits
first_short : (rs : List HitResult) → AllShort rs → length (results_bytes (take 1 rs)) ≤ 265
unfolding results_bytes
first_short [] h = omega arith
first_short (r ∷ rs) h = omega (arith, h.0.short, length-append (result_bytes r) [])

-- the tests of a name that may be listed
abbrev name_tests : List ℕ → List Bool
name_tests x = leb 1 (length x) ∷ leb (length x) 255 ∷ not (any (eqb 0) x) ∷ []

module _ (a sizes : List ℕ) (l : Listed a) (four : FourBytes sizes) where
  named : (i : ℕ) → i < count_in a
      → (length (name_at a i) ≤ 255) × (any (eqb 0) (name_at a i) ≡ false)
  unfolding good_name
  named i h =
      let t = each (name_tests (name_at a i)) (named-at a l.named i h) in
      (leb-true (length (name_at a i)) 255 t.1.0, not-true (any (eqb 0) (name_at a i)) t.1.1.0)

  short-at : (i : ℕ) → i < count_in a → Short (result_at a sizes i)
  short-at i h =
      let v = named i h in
      record {
        tellable =
            record {
              index = omega (arith, l.few);
              size =
                  ltb-true (get_or sizes i 0) 4294967296
                  (get_d_any (λ n. ltb n 4294967296) sizes i 0 four refl);
              name = v.1;
              extension = refl;
            };
        short = omega (arith, v.0, result-length (result_at a sizes i));
      }

  short-picked : (f : ℕ → Bool) (n from : ℕ) → from + n ≤ count_in a
      → AllShort (picked_results f (result_at a sizes) (counting n from))
  unfolding picked_results
  short-picked f zero from h = tt
  short-picked f (suc n) from h = by (f from) (short-picked f n (suc from) (omega arith))
    where
      by : (t : Bool) → AllShort (picked_results f (result_at a sizes) (counting n (suc from)))
          → AllShort (cond t (result_at a sizes from ∷ picked_results f (result_at a sizes) (counting n (suc from)))
          (picked_results f (result_at a sizes) (counting n (suc from))))
      by true g = (short-at from (omega arith), g)
      by false g = g

  module _ (text : List ℕ) where
    candidates-short : AllShort (candidates text a sizes)
    candidates-short = short-picked (match_at text a) (count_in a) 0 (omega arith)

    chosen-short : AllShort (chosen text a sizes)
    chosen-short =
        subst AllShort (sym (chosen-fits text a sizes).front)
        (short-take (length (chosen text a sizes)) (candidates text a sizes) candidates-short)

    -- where a name matches, there is a candidate, and the first one always fits
    some-chosen : any (matches text) (names_in a) ≡ true → 1 ≤ length (chosen text a sizes)
    some-chosen e = by (length (chosen text a sizes)) refl
      where
        one : 1 ≤ length (candidates text a sizes)
        one =
            let s = any_at (matches text) [] (names_in a) e in
            let h : s.place < count_in a = omega (arith, s.within, names-length (count_in a) a) in
            let m = rw (names_at (count_in a) a s.place h) at s.holds in
            let there = picked-here (match_at text a) s.place (count_in a) 0 (omega arith) (omega arith) m in
            omega (
              arith,
              some-there (places_in text a) there,
              ap length (candidates-are text a sizes),
              length-map (places_in text a) (result_at a sizes),
            )
          where
            some-there : {i : ℕ} (is : List ℕ) → Memᴰ i is → 1 ≤ length is
            some-there [] m = absurd (Memᴰ.not-nil m)
            some-there (j ∷ is) m = omega arith

        by : (k : ℕ) → length (chosen text a sizes) ≡ k → 1 ≤ length (chosen text a sizes)
        by zero q =
            absurd
            (⊎_elim (λ v. omega arith) (λ v. omega (arith, first_short (candidates text a sizes) candidates-short))
            ((chosen-fits text a sizes).longest 1 (omega arith) one))
        by (suc k) q = omega arith

-- ---- the hit

module _ (limit : ℕ) (q a sizes : List ℕ) (from : Responder) (out : List ℕ) (t : Typed from)
    (four : FourBytes sizes) (e : answer_of limit q a sizes from out ≡ 0) where
  abbrev rs : List HitResult
  rs = chosen (asked_text q) a sizes

  abbrev hit : List ℕ
  hit = hit_of limit q a sizes from out

  abbrev after : List ℕ
  after = after_of limit q a sizes from out

  abbrev payload : List ℕ
  payload = hit_payload from rs

  -- the hit stands at the front
  front : take (length hit) after ≡ hit
  front = front_read (answer_of limit q a sizes from out) (length hit) hit out after refl
      (after_is limit q a sizes from out) e

  good : Listed a
  good = of_well a ((done_iff limit q a (length sizes) (length out)).0 e).0.lent.names.good

  number : length (number_of q) ≡ 16
  number = number-long limit q a sizes from out e

  size : length payload ≤ 4096
  size = omega (arith, payload-long from rs t, (chosen-fits (asked_text q) a sizes).fits)

  sized : size_of (take (length hit) after) ≡ length payload
  unfolding hit_for
  sized =
      let h = size in
      ap size_of front ∙ message-size (number_of q) hit_type (hit_ttl q) 0 payload number (omega arith)

  carried : payload_of (take (length hit) after) ≡ payload
  unfolding hit_for
  carried =
      let h = size in
      ap payload_of front ∙ message-payload (number_of q) hit_type (hit_ttl q) 0 payload number (omega arith)

  read : WrittenRead from rs payload
  read =
      reads-written from rs t (all-tellable rs (chosen-short a sizes good four (asked_text q)))
      (omega (arith, (chosen-fits (asked_text q) a sizes).few))

  written : HitWritten q from rs (length rs) (length hit) out after
  unfolding hit_for
  written =
      let ttl : ℕ = hit_ttl q in
      record {
        long = ap length front;
        number = ap number_of front ∙ message-number (number_of q) hit_type ttl 0 payload number;
        kind = ap kind_of front ∙ message-kind (number_of q) hit_type ttl 0 payload number;
        ttl = ap ttl_of front ∙ message-ttl (number_of q) hit_type ttl 0 payload number;
        hops = ap hops_of front ∙ message-hops (number_of q) hit_type ttl 0 payload number;
        size = ap (λ n. 23 + n) sized ∙ sym (message-length (number_of q) hit_type ttl 0 payload number);
        least = omega (arith, sized, payload-long from rs t);
        most = omega (arith, sized, size);
        reads = subst (WrittenRead from rs) (sym carried) read;
        some = some-chosen a sizes good four (asked_text q) ((done_iff limit q a (length sizes) (length out)).0 e).1;
        few = (chosen-fits (asked_text q) a sizes).few;
        counted = refl;
        behind = front-behind (answer_of limit q a sizes from out) (length hit) hit out after refl
            (after_is limit q a sizes from out) e;
      }

pub writes_back : WritesBack
unfolding writing
writes_back limit q a sizes from out t four e = rw e (written limit q a sizes from out t four e)
