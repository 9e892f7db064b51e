-- The cases of a call of the reader.
use Prim.Native.Nat.{ℕ, ◌+◌, ◌-◌, ◌≤◌, ◌<◌}
use mathlib.Core.Path.{◌≡◌, refl, sym, ap, ◌∙◌}
use mathlib.Core.Bool.{Bool, true, false, cond}
use mathlib.Core.List.{List}
use native.Mathlib.Omega.{arith}
use lib.ListN.{length, take, drop, length-take, length-drop}
use Rattle.std.proofs.lemmas.List.{drop-take}
use borrow.Author.Tests.{lt-ltb, le-ltb, le-leb}
use Rattle.laws.proofs.Words.{refuted}
use Rattle.hits.specs.declared.reading.HitCursor.{HitCursor}
use Rattle.hits.specs.declared.reading.HitRecord.{HitRecord}
use Rattle.std.proofs.Common.{Some, None, Ok}
use Rattle.hits.specs.Results.{is_whole, result_size, name_in, extension_in}
use Rattle.hits.specs.Reading.{cursor_at, body_from, record_in, stays, hands, next_of, record_of, told_of}
use Rattle.hits.proofs.ResultLaws.{whole-fits}

-- a whole result ends before the mark
pub whole-within : (at : ℕ) (p : List ℕ) → 27 ≤ length p → is_whole (body_from at p) ≡ true
    → at + result_size (body_from at p) + 16 ≤ length p
whole-within at p h e =
    let fits = whole-fits (body_from at p) e in
    omega (arith, length-drop at (take (length p - 16) p), length-take (length p - 16) p)

-- what the code's `&l[at..end]` holds
pub part_of : (at end : ℕ) (l : List ℕ) → at ≤ end → take (end - at) (drop at l) ≡ drop at (take end l)
part_of at end l h =
    let e : at + (end - at) ≡ end = omega arith in
    sym (drop-take at (end - at) l) ∙ ap (λ n. drop at (take n l)) e

-- ---- the cases
module _ (c : HitCursor) (p : List ℕ) where
  pub next-short : length p < 27 → next_of c p ≡ stays 6 c
  unfolding next_of
  next-short h = rw (lt-ltb (length p) 27 h)

  pub next-ended : 27 ≤ length p → c.left ≡ 0 → next_of c p ≡ stays 0 c
  unfolding next_of
  next-ended h e = rw (le-ltb (length p) 27 h, e)

  module _ (h : 27 ≤ length p) (some : 1 ≤ c.left) where
    pub next-none : is_whole (body_from c.at p) ≡ false → next_of c p ≡ stays 6 c
    unfolding next_of
    next-none e = rw (le-ltb (length p) 27 h, le-leb 1 c.left some, e)

    pub next-hands : is_whole (body_from c.at p) ≡ true → next_of c p ≡ hands c (body_from c.at p)
    unfolding next_of
    next-hands e = rw (le-ltb (length p) 27 h, le-leb 1 c.left some, e)

-- as the code has it: the bytes before the mark from the cursor on
module _ (c : HitCursor) (p : List ℕ) (h : 27 ≤ length p) (some : 1 ≤ c.left) where
  -- the cursor is past the mark
  pub next-past : length p - 16 < c.at → next_of c p ≡ stays 6 c
  next-past l =
      next-none c p h some
      (refuted (is_whole (body_from c.at p)) (λ e. let w = whole-within c.at p h e in omega arith))

  -- none stands there
  pub next-nothing : record_of c.at (body_from c.at p) ≡ None → next_of c p ≡ stays 6 c
  next-nothing e = by (is_whole (body_from c.at p)) refl e
    where
      by : (w : Bool) → is_whole (body_from c.at p) ≡ w
          → cond w (Some (record_in c.at (body_from c.at p))) None ≡ None → next_of c p ≡ stays 6 c
      by true q e = cc
      by false q e = next-none c p h some q

  -- one stands there: its places are before the mark
  pub next-one : (r : HitRecord) → record_of c.at (body_from c.at p) ≡ Some r
      → (told_of (Ok (Some r)) (cursor_at (r.extat + r.extlen + 1) (c.left - 1)) ≡ next_of c p)
      × (r.extat + r.extlen + 1 + 16 ≤ length p)
  next-one r e = by (is_whole (body_from c.at p)) refl e
    where
      by : (w : Bool) → is_whole (body_from c.at p) ≡ w
          → cond w (Some (record_in c.at (body_from c.at p))) None ≡ Some r
          → (told_of (Ok (Some r)) (cursor_at (r.extat + r.extlen + 1) (c.left - 1)) ≡ next_of c p)
          × (r.extat + r.extlen + 1 + 16 ≤ length p)
      by false q e = cc
      by true q e =
          let d = body_from c.at p in
          let is : record_in c.at d ≡ r = cc in
          let n = length (name_in d) in
          let m = length (extension_in d) in
          let behind : c.at + 9 + n + m + 1 ≡ c.at + result_size d = omega arith in (
            rw (← is) (ap (λ k. told_of (Ok (Some (record_in c.at d))) (cursor_at k (c.left - 1))) behind)
                ∙ sym (next-hands c p h some q),
            rw (← is) (omega (arith, whole-within c.at p h q)),
          )
