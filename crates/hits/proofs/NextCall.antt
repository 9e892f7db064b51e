-- A call of the reader in words: what it hands out, when it hands out none, and that it tells of nothing outside the
-- payload.
use Prim.Native.Nat.{ℕ, ◌+◌, ◌-◌, ◌≤◌, ◌<◌}
use mathlib.Core.Path.{◌≡◌, refl, sym, ap, ap₂, subst, ◌∙◌}
use mathlib.Core.Bool.{Bool, true, false}
use mathlib.Core.Logic.{◌⊎◌, inl, inr}
use mathlib.Core.List.{List, ◌++◌, append_assoc}
use native.Mathlib.Omega.{arith}
use lib.Dec.{ltb, leb}
use lib.ListN.{length, get_or, take, drop, length-append, length-drop}
use lib.Seq.{take_at, take-append_seam, drop-append-le, drop-drop}
use borrow.Author.Tests.{ltb-true, ltb-false, leb-true, leb-false, lt-ltb}
use Rattle.laws.proofs.Refusals.{clash, get_d_any, all_take}
use Rattle.hits.specs.declared.reading.HitCursor.{HitCursor}
use Rattle.hits.specs.Results.{HitResult, result_bytes, is_whole}
use Rattle.hits.specs.Reading.{body_from, stays, hands, next_of}
use Rattle.hits.specs.Words.{Bytes, Tellable, NoResult, Marked, HandsOut, HandsNone, NextExactly, NextWithin}
use Rattle.hits.proofs.ResultLaws.{behind-numbers, behind-zero, read-index, read-size, read_name}
use Rattle.hits.proofs.ResultLaws.{read-extension, read_whole, read_length, result-length, Small, whole-begins}
use Rattle.hits.proofs.ResultLaws.{drop-small, not-whole, none-whole}
use Rattle.hits.proofs.NextLaws.{next-short, next-ended, next-none, next-hands, whole-within}

-- bytes are small by place, also those of a part
pub small_bytes : (p : List ℕ) → Bytes p → Small p
small_bytes p h i = ltb-true (get_or p i 0) 256 (get_d_any (λ b. ltb b 256) p i 0 h (lt-ltb 0 256 (omega arith)))

pub handed-none : (p : List ℕ) (c : HitCursor) (answer : ℕ) → next_of c p ≡ stays answer c → HandsNone p c answer
handed-none p c answer e =
    record {
      answers = ap (λ n. n.answer) e;
      found = ap (λ n. n.found) e;
      zeros = ap (λ n. n.result) e;
      stays = ap (λ n. n.cursor) e;
    }

module _ (p before mark : List ℕ) (k : Marked p before mark) where
  pub marked-length : length p ≡ length before + 16
  marked-length = omega (arith, ap length k.is, length-append before mark, k.sixteen)

  long : 27 ≤ length p
  long = omega (arith, marked-length, k.eleven)

  -- what the reader looks at
  body_is : (at : ℕ) → body_from at p ≡ drop at before
  body_is at =
      let n : length before ≡ length p - 16 = omega (arith, marked-length) in
      ap (λ l. drop at (take (length p - 16) l)) k.is ∙ ap (drop at) (take_at before mark (length p - 16) n)

  before_small : Bytes p → (at : ℕ) → Small (drop at before)
  before_small b at =
      subst Small (body_is at)
      (drop-small at (take (length p - 16) p)
      (small_bytes (take (length p - 16) p) (all_take (λ b. ltb b 256) (length p - 16) p b)))

  -- a result, or none: as the bytes begin with a whole one
  pub call-cases : Bytes p → (at : ℕ)
      → ((r : HitResult) × ((rest : List ℕ) × (Tellable r × (drop at before ≡ result_bytes r ++ rest))))
      ⊎ NoResult (drop at before)
  call-cases b at = go (is_whole (drop at before)) refl
    where
      go : (w : Bool) → is_whole (drop at before) ≡ w
          → ((r : HitResult) × ((rest : List ℕ) × (Tellable r × (drop at before ≡ result_bytes r ++ rest))))
          ⊎ NoResult (drop at before)
      go true e = let b = whole-begins (drop at before) (before_small b at) e in
          inl (b.result, (b.rest, (b.tellable, b.is)))
      go false e = inr (not-whole (drop at before) e)

  module _ (c : HitCursor) where
    pub call-ended : c.left ≡ 0 → HandsNone p c 0
    call-ended e = handed-none p c 0 (next-ended c p long e)

    pub call_none : Bytes p → 1 ≤ c.left → NoResult (drop c.at before) → HandsNone p c 6
    call_none b some n =
        handed-none p c 6
        (next-none c p long some
        (ap is_whole (body_is c.at) ∙ none-whole (drop c.at before) (before_small b c.at) n))

    -- a result that stands there
    module _ (some : 1 ≤ c.left) (r : HitResult) (rest : List ℕ) (t : Tellable r)
        (e : drop c.at before ≡ result_bytes r ++ rest) where
      within : c.at ≤ length before
      within =
          omega (arith, ap length e, length-drop c.at before, length-append (result_bytes r) rest, result-length r)

      -- in the whole payload
      there : drop c.at p ≡ result_bytes r ++ (rest ++ mark)
      there =
          ap (drop c.at) k.is
          ∙ drop-append-le c.at before mark within
          ∙ ap (λ l. l ++ mark) e
          ∙ append_assoc (result_bytes r) rest mark

      body : body_from c.at p ≡ result_bytes r ++ rest
      body = body_is c.at ∙ e

      call : next_of c p ≡ hands c (result_bytes r ++ rest)
      call = next-hands c p long some (ap is_whole body ∙ read_whole r rest t) ∙ ap (hands c) body

      name-there : take (length r.name) (drop (c.at + 8) p) ≡ r.name
      name-there =
          ap (take (length r.name))
          (sym (drop-drop 8 c.at p) ∙ ap (drop 8) there ∙ behind-numbers r (rest ++ mark))
          ∙ take-append_seam r.name _

      extension-there : take (length r.extension) (drop (c.at + 9 + length r.name) p) ≡ r.extension
      extension-there =
          let a : c.at + 9 + length r.name ≡ c.at + (9 + length r.name) = omega arith in
          ap (take (length r.extension))
          (ap (λ n. drop n p) a
          ∙ sym (drop-drop (9 + length r.name) c.at p)
          ∙ ap (drop (9 + length r.name)) there
          ∙ behind-zero r (rest ++ mark))
          ∙ take-append_seam r.extension _

      pub call-hands : HandsOut p c r (hands c (result_bytes r ++ rest)).cursor
      call-hands =
          let name = ap length (read_name r rest t) in
          record {
            answer = ap (λ n. n.answer) call;
            found = ap (λ n. n.found) call;
            index = ap (λ n. n.result.index) call ∙ read-index r rest t;
            size = ap (λ n. n.result.size) call ∙ read-size r rest t;
            name =
                ap₂ (λ n a. take n (drop a p)) (ap (λ n. n.result.namelen) call ∙ name)
                (ap (λ n. n.result.nameat) call)
                ∙ name-there;
            extension =
                ap₂ (λ n a. take n (drop a p)) (ap (λ n. n.result.extlen) call ∙ ap length (read-extension r rest t))
                (ap (λ n. n.result.extat) call ∙ ap (λ n. c.at + 9 + n) name)
                ∙ extension-there;
            moved = ap (λ n. n.cursor) call;
            behind = ap (λ n. c.at + n) (read_length r rest t);
            fewer = omega arith;
          }

pub next-exactly : NextExactly
next-exactly p c =
    record {
      short = (λ h. handed-none p c 6 (next-short c p h));
      ended = (λ before mark k e. call-ended p before mark k c e);
      result = (λ before mark k some r rest t e. (
        (hands c (result_bytes r ++ rest)).cursor,
        call-hands p before mark k c some r rest t e,
      ));
      none = (λ b before mark k some n. call_none p before mark k c b some n);
      cases = (λ b before mark k. call-cases p before mark k b c.at);
    }

-- ---- within the payload

-- where a result was found, the call handed one out that stands before the mark
pub record Found (c : HitCursor) (p : List ℕ) : Type 0 where
  pub long : 27 ≤ length p
  pub whole : is_whole (body_from c.at p) ≡ true
  pub is : next_of c p ≡ hands c (body_from c.at p)

pub found-is : (c : HitCursor) (p : List ℕ) → (next_of c p).found ≡ true → Found c p
found-is c p f = by_length (ltb (length p) 27) refl
  where
    not_found : (answer : ℕ) → next_of c p ≡ stays answer c → ⊥
    not_found answer e = clash f (ap (λ n. n.found) e)

    by_whole : 27 ≤ length p → 1 ≤ c.left → (w : Bool) → is_whole (body_from c.at p) ≡ w → Found c p
    by_whole h some true e = record { long = h; whole = e; is = next-hands c p h some e }
    by_whole h some false e = absurd (not_found 6 (next-none c p h some e))

    by_left : 27 ≤ length p → (b : Bool) → leb 1 c.left ≡ b → Found c p
    by_left h true e = by_whole h (leb-true 1 c.left e) (is_whole (body_from c.at p)) refl
    by_left h false e =
        let none : c.left < 1 = leb-false 1 c.left e in
        absurd (not_found 0 (next-ended c p h (omega arith)))

    by_length : (b : Bool) → ltb (length p) 27 ≡ b → Found c p
    by_length true e = absurd (not_found 6 (next-short c p (ltb-true (length p) 27 e)))
    by_length false e = by_left (ltb-false (length p) 27 e) (leb 1 c.left) refl

pub next-within : NextWithin
next-within p c f =
    let w = found-is c p f in
    let ends = whole-within c.at p w.long w.whole in
    rw w.is (omega arith, (omega arith, ends))
