-- Laws of a group's end and of its lines.
use mathlib.Core.Path.{◌≡◌, refl, sym, ap, ◌∙◌}
use mathlib.Core.Bool.{Bool, true, false, cond, not, ◌&&◌, ◌||◌, and-false}
use mathlib.Core.List.{List, [], ◌∷◌}
use Prim.Native.Nat.{ℕ, suc, ◌+◌, ◌-◌, ◌≤◌, ◌<◌}
use native.Mathlib.Nat.{add-zero, add_assoc}
use native.Mathlib.Omega.{arith}
use lib.Dec.{leb, eqb}
use lib.ListN.{length, get_or, take, drop, length-drop, drop_of_length-le}
use lib.Seq.{drop-cons, drop-drop, get_or-drop, length-take-le}
use borrow.Author.Tests.{ne_eqb, leb-true, leb-false}
use Rattle.laws.specs.Tests.{all}
use Rattle.ascii.specs.Text.{run, leading, is_text, onto}
use Rattle.groups.specs.Lines.{pair_at, ends_at, in_line, first_from, line_length, line_ends, line_at, lines_of}
use Rattle.groups.specs.Lines.{first_line, other_lines}
use Rattle.ascii.proofs.TextLaws.{run_length}

-- CR and LF at the front of what is left stand at that place of the whole
pub pair-drop : (s : List ℕ) (i : ℕ) → pair_at (drop i s) 0 ≡ pair_at s i
pair-drop s i = simp (get_or-drop, add-zero)

-- where something is left at a place, a line ends there with CR and LF
pub ends-pair : (s : List ℕ) (i : ℕ) → i < length s → line_ends (drop i s) ≡ pair_at s i
ends-pair s i h = ap line_ends (drop-cons s i 0 h) ∙ ap (λ t. pair_at t 0) (sym (drop-cons s i 0 h)) ∙ pair-drop s i

module _ (f : ℕ → Bool) (last : ℕ) where
  -- a turn of a search up to `last`: n is the first
  pub first-here : (n : ℕ) → n ≤ last → f n ≡ true → first_from f (last + 1 - n) n ≡ n
  first-here n h t =
      let e : last + 1 - n ≡ suc (last + 1 - (n + 1)) = omega arith in
      rw (e, t)

  -- none is
  pub first-end : (n : ℕ) → last < n → first_from f (last + 1 - n) n ≡ 0
  first-end n h =
      let e : last + 1 - n ≡ 0 = omega arith in
      rw e

  -- n is not
  pub first_on : (n : ℕ) → f n ≡ false → first_from f (last + 1 - n) n ≡ first_from f (last + 1 - (n + 1)) (n + 1)
  first_on n t = one (leb n last) refl
    where
      one : (u : Bool) → leb n last ≡ u → first_from f (last + 1 - n) n ≡ first_from f (last + 1 - (n + 1)) (n + 1)
      one true h =
          let k : n ≤ last = leb-true n last h in
          let e : last + 1 - n ≡ suc (last + 1 - (n + 1)) = omega arith in
          rw (e, t)
      one false h =
          let k : last < n = leb-false n last h in
          first-end n k ∙ sym (first-end (n + 1) (omega arith))

  -- none of four is
  pub first-four : (n : ℕ) → f n ≡ false → f (n + 1) ≡ false → f (n + 2) ≡ false → f (n + 3) ≡ false
      → first_from f (last + 1 - n) n ≡ first_from f (last + 1 - (n + 4)) (n + 4)
  first-four n t u v w =
      let e2 : n + 1 + 1 ≡ n + 2 = omega arith in
      let e3 : n + 2 + 1 ≡ n + 3 = omega arith in
      let e4 : n + 3 + 1 ≡ n + 4 = omega arith in
      first_on n t ∙ (rw e2 at (first_on (n + 1) u)) ∙ (rw e3 at (first_on (n + 2) v)) ∙ (rw e4 at (first_on (n + 3) w))

-- ---- a byte of text rules out four ends

-- CR and LF do not stand where text does
text-not-pair : (b : ℕ) (t : Bool) → is_text b ≡ true → (eqb b 13 && t) ≡ false
text-not-pair b t h = one (eqb b 13) (eqb b 10) h
  where
    one : (u v : Bool) → not (u || v) ≡ true → (u && t) ≡ false
    one false v e = refl
    one true v e = let z : ◌≡◌ {A = Bool} false true = e in cc

lf_not : (t : Bool) (b : ℕ) → is_text b ≡ true → (t && eqb b 10) ≡ false
lf_not t b h = one (eqb b 13) (eqb b 10) h
  where
    one : (u v : Bool) → not (u || v) ≡ true → (t && v) ≡ false
    one u false e = and-false t
    one false true e = let z : ◌≡◌ {A = Bool} false true = e in cc
    one true true e = let z : ◌≡◌ {A = Bool} false true = e in cc

no_cr : (m : List ℕ) (i : ℕ) → is_text (get_or m i 0) ≡ true → pair_at m i ≡ false
no_cr m i h = text-not-pair (get_or m i 0) (eqb (get_or m (i + 1) 0) 10) h

late-not : (m : List ℕ) (n : ℕ) → pair_at m (n - 2) ≡ false → ends_at m n ≡ false
unfolding ends_at
late-not m n e = rw e

early-not : (m : List ℕ) (n : ℕ) → (n ≡ 2 → ⊥) → pair_at m (n - 4) ≡ false → ends_at m n ≡ false
unfolding ends_at
early-not m n h e = rw (ne_eqb n 2 h, e, and-false (leb 4 n)) (and-false (pair_at m (n - 2)))

module _ (m : List ℕ) (n : ℕ) (h : 2 ≤ n) (t : is_text (get_or m (n - 1) 0) ≡ true) where
  no_lf : pair_at m (n - 2) ≡ false
  no_lf =
      let e : n - 2 + 1 ≡ n - 1 = omega arith in
      rw e (lf_not (eqb (get_or m (n - 2) 0) 13) (get_or m (n - 1) 0) t)

  -- the last byte of n is text: no group ends with it or with one of the next three
  pub ends-not : (ends_at m n ≡ false) × (ends_at m (n + 1) ≡ false) × (ends_at m (n + 2) ≡ false)
      × (ends_at m (n + 3) ≡ false)
  ends-not =
      let e1 : n + 1 - 2 ≡ n - 1 = omega arith in
      let e2 : n + 2 - 4 ≡ n - 2 = omega arith in
      let e3 : n + 3 - 4 ≡ n - 1 = omega arith in (
        late-not m n no_lf,
        late-not m (n + 1) (rw e1 (no_cr m (n - 1) t)),
        early-not m (n + 2) (λ k. omega arith) (rw e2 no_lf),
        early-not m (n + 3) (λ k. omega arith)
            (rw e3 (no_cr m (n - 1) t)),
      )

-- the lines are the first line and those of what stands behind its end
pub lines_step : (s : List ℕ) → 0 < length s → lines_of s ≡ take (line_length s) s ∷ lines_of (drop (line_length s + 2) s)
lines_step [] h = let z : ◌≡◌ {A = ℕ} 0 1 = omega arith in cc
lines_step (a ∷ []) h = one (eqb a 13)
  where
    one : (t : Bool) → (a ∷ []) ∷ [] ≡ take (cond (not (t && eqb 0 10)) 1 0) (a ∷ [])
        ∷ lines_of (drop (cond (not (t && eqb 0 10)) 1 0 + 2) (a ∷ []))
    one true = refl
    one false = refl
lines_step (a ∷ (b ∷ bs)) h = more (eqb a 13 && eqb b 10) (run in_line (b ∷ bs)) (lines_step (b ∷ bs) (omega arith))
  where
    more : (t : Bool) (n : ℕ) → lines_of (b ∷ bs) ≡ take n (b ∷ bs) ∷ lines_of (drop (n + 2) (b ∷ bs))
        → cond t ([] ∷ lines_of bs) (onto a (lines_of (b ∷ bs)))
        ≡ take (cond (not t) (suc n) 0) (a ∷ (b ∷ bs)) ∷ lines_of (drop (cond (not t) (suc n) 0 + 2) (a ∷ (b ∷ bs)))
    more true n e = refl
    more false n e =
        let g : suc n + 2 ≡ suc (n + 2) = omega arith in
        rw (g, e)

pub lines-first : (s : List ℕ) → first_line (lines_of s) ≡ take (line_length s) s
lines-first [] = refl
lines-first (a ∷ s) = ap first_line (lines_step (a ∷ s) (omega arith))

pub lines-others : (s : List ℕ) → other_lines (lines_of s) ≡ lines_of (drop (line_length s + 2) s)
lines-others [] = refl
lines-others (a ∷ s) = ap other_lines (lines_step (a ∷ s) (omega arith))

-- ---- the text at the front of the bytes, and the first line

-- the bytes of a run pass its test
pub leading-all : (f : ℕ → Bool) (s : List ℕ) → all f (take (leading f s) s) ≡ true
leading-all f [] = refl
leading-all f (b ∷ bs) = one (f b) refl (leading-all f bs)
  where
    one : (t : Bool) → f b ≡ t → all f (take (leading f bs) bs) ≡ true → all f
        (take (cond t (suc (leading f bs)) 0) (b ∷ bs)) ≡ true
    one true e h = rw e h
    one false e h = refl

-- the text at the front ends as a line does
abbrev pub text_ends : List ℕ → Bool
text_ends s = line_ends (drop (leading is_text s) s)

-- where it does, it is the first line
pub text-line : (s : List ℕ) → text_ends s ≡ true → leading is_text s ≡ line_length s
text-line [] h = refl
text-line (b ∷ bs) h = one (is_text b) refl (text-line bs) h
  where
    one : (t : Bool) → is_text b ≡ t → (text_ends bs ≡ true → leading is_text bs ≡ line_length bs)
        → line_ends (drop (cond t (suc (leading is_text bs)) 0) (b ∷ bs)) ≡ true → cond t (suc (leading is_text bs)) 0
        ≡ line_length (b ∷ bs)
    one true e f k = rw (text-not-pair b (eqb (get_or bs 0 0) 10) e, f k)
    one false e f k = rw k

-- where it does not, the first line has a CR or LF by itself
pub text-broken : (s : List ℕ) → text_ends s ≡ false → all is_text (take (line_length s) s) ≡ false
text-broken [] h = let z : ◌≡◌ {A = Bool} true false = h in cc
text-broken (b ∷ bs) h = one (is_text b) refl (text-broken bs) h
  where
    one : (t : Bool) → is_text b ≡ t → (text_ends bs ≡ false → all is_text (take (line_length bs) bs) ≡ false)
        → line_ends (drop (cond t (suc (leading is_text bs)) 0) (b ∷ bs)) ≡ false → all is_text
        (take (line_length (b ∷ bs)) (b ∷ bs)) ≡ false
    one true e f k = rw (text-not-pair b (eqb (get_or bs 0 0) 10) e, e) (f k)
    one false e f k = rw (k, e)

-- ---- a line of the lines from a place on

pub line-size : (s : List ℕ) (at : ℕ) → length (line_at s at) ≡ line_length (drop at s)
unfolding line_at
line-size s at = length-take-le (line_length (drop at s)) (drop at s) (run_length in_line (drop at s))

-- the line ends in the text
pub line-fits : (s : List ℕ) (at : ℕ) → at ≤ length s → at + length (line_at s at) ≤ length s
line-fits s at h = omega (arith, line-size s at, run_length in_line (drop at s), length-drop at s)

pub line-next : (s : List ℕ) (at : ℕ) → at < length s → lines_of (drop at s)
    ≡ line_at s at ∷ lines_of (drop (at + length (line_at s at) + 2) s)
unfolding line_at
line-next s at h =
    lines_step (drop at s) (simp length-drop (omega arith))
    ∙ ap (λ x. line_at s at ∷ lines_of x)
    (drop-drop (line_length (drop at s) + 2) at s
    ∙ ap (λ k. drop k s) (sym (add_assoc at (line_length (drop at s)) 2) ∙ ap (λ k. at + k + 2) (sym (line-size s at))))

pub line-none : (s : List ℕ) (at : ℕ) → length s ≤ at → lines_of (drop at s) ≡ []
line-none s at h = ap lines_of (drop_of_length-le s h)

-- ---- the first line and the others

pub first-at : (s : List ℕ) → line_at s 0 ≡ first_line (lines_of s)
unfolding line_at
first-at s = sym (lines-first s)

pub others-at : (s : List ℕ) → lines_of (drop (length (line_at s 0) + 2) s) ≡ other_lines (lines_of s)
others-at s = ap (λ k. lines_of (drop (k + 2) s)) (line-size s 0) ∙ sym (lines-others s)
