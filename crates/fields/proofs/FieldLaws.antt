-- Laws of the lines behind the first, and of going through them for the value of a name.
use mathlib.Core.Path.{◌≡◌, refl, sym, ap, ap₂, ◌∙◌}
use mathlib.Core.Bool.{Bool, true, false, cond, not, ◌&&◌, ◌||◌}
use mathlib.Core.List.{List, [], ◌∷◌, ◌++◌, append_assoc}
use Prim.Native.Nat.{ℕ, suc, ◌+◌, ◌≤◌, ◌<◌}
use native.Mathlib.Omega.{arith}
use lib.Dec.{ltb, eqb}
use lib.ListN.{length, take, drop, length-drop, length-append}
use lib.Seq.{drop-drop, drop-length}
use borrow.Rule.Slice.PartMut.{put_mid}
use borrow.Author.Tests.{ltb-true, ltb-false, not-false}
use Rattle.laws.specs.Tests.{all}
use Rattle.laws.specs.Parts.{over}
use Rattle.laws.proofs.Text.{over_append, over_none}
use Rattle.laws.proofs.Refusals.{clash}
use Rattle.ascii.specs.Text.{leading, is_blank, is_text, same_name, onto}
use Rattle.groups.specs.Lines.{line_length, line_ends, line_at, lines_of}
use Rattle.fields.specs.Fields.{continues, name_of, name_length, value_of, without_blanks, continued, fields_of}
use Rattle.fields.specs.Fields.{values_of, comma_each, comma_between, is_none, is_absent, value_for, field_ok, line_ok}
use Rattle.fields.specs.Fields.{lines_ok}
use Rattle.fields.specs.Step.{step_from, step_of, value_start, separated, added_by, no_fields, found_in}
use Rattle.fields.specs.Step.{WholeFrom}
use Rattle.fields.specs.declared.Step.{Step}
use Rattle.fields.specs.Step.{Found}
use Rattle.std.proofs.Common.{Option, Some, None, is_some}
use Rattle.std.specs.Option.{option_or}
use Rattle.std.specs.Bool.{then_some}
use mir.Val.{bool_byte}
use Rattle.groups.proofs.LineLaws.{line-fits, line-next, line-none, leading-all, text-line, text-broken}

-- ---- going through the lines for a name

-- what is still to be added to the value
abbrev pub streamed : List ℕ → Bool → Bool → List (List ℕ) → List ℕ
streamed name mine found [] = []
streamed name mine found (l ∷ ls) =
    added_by (step_of name mine found l) l ++ streamed name (step_of name mine found l).mine
    (step_of name mine found l).found ls

-- whether the name is found in the end
abbrev pub found_after : List ℕ → Bool → Bool → List (List ℕ) → Bool
found_after name mine found [] = found
found_after name mine found (l ∷ ls) = found_after name (step_of name mine found l).mine (step_of name mine found l).found
    ls

-- the value starts behind the colon and the blanks
value-start : (l : List ℕ) → drop (value_start l) l ≡ value_of l
value-start l = sym (drop-drop (leading is_blank (drop (name_length l + 1) l)) (name_length l + 1) l)

module _ (name l : List ℕ) (ls : List (List ℕ)) where
  values : List (List ℕ)
  values = values_of name (fields_of ls)

  -- what is left to be added, by cases on the line
  added-case : (goes_on named mine found : Bool) → same_name (name_of l) name ≡ named
      → ((m f : Bool) → streamed name m f ls ≡ cond m (continued ls) [] ++ cond f
      (comma_each (values_of name (fields_of ls))) (comma_between (values_of name (fields_of ls))))
      → added_by (step_from goes_on named mine found (leading is_blank l) (value_start l) (length l)) l
      ++ streamed name (step_from goes_on named mine found (leading is_blank l) (value_start l) (length l)).mine
      (step_from goes_on named mine found (leading is_blank l) (value_start l) (length l)).found ls
      ≡ cond mine (cond goes_on (32 ∷ (without_blanks l ++ continued ls)) []) []
      ++ cond found
      (comma_each (values_of name (cond goes_on (fields_of ls) ((name_of l, value_of l ++ continued ls) ∷ fields_of ls))))
      (comma_between
      (values_of name (cond goes_on (fields_of ls) ((name_of l, value_of l ++ continued ls) ∷ fields_of ls))))
  unfolding step_from
  added-case true named true found e h = rw (h true found, append_assoc)
  added-case true named false found e h = rw (drop-length l, h false found)
  added-case false true true true e h = rw (e, value-start l, h true true, append_assoc)
  added-case false true false true e h = rw (e, value-start l, h true true, append_assoc)
  added-case false true true false e h = rw (e, value-start l, h true true, append_assoc)
  added-case false true false false e h = rw (e, value-start l, h true true, append_assoc)
  added-case false false true found e h = rw (e, drop-length l, h false found)
  added-case false false false found e h = rw (e, drop-length l, h false found)

  -- whether the name is found, by cases on the line
  found-case : (goes_on named mine found : Bool) → same_name (name_of l) name ≡ named
      → ((m f : Bool) → found_after name m f ls ≡ (f || not (is_none (values_of name (fields_of ls)))))
      → found_after name (step_from goes_on named mine found (leading is_blank l) (value_start l) (length l)).mine
      (step_from goes_on named mine found (leading is_blank l) (value_start l) (length l)).found ls
      ≡ (found || not
      (is_none (values_of name (cond goes_on (fields_of ls) ((name_of l, value_of l ++ continued ls) ∷ fields_of ls)))))
  unfolding step_from
  found-case true named true found e h = h true found
  found-case true named false found e h = h false found
  found-case false true mine true e h = h true true
  found-case false true mine false e h = rw e (h true true)
  found-case false false mine found e h = rw e (h false found)

pub value-streamed : (name : List ℕ) (ls : List (List ℕ)) (mine found : Bool)
    → streamed name mine found ls ≡ cond mine (continued ls) [] ++ cond found (comma_each (values_of name (fields_of ls)))
    (comma_between (values_of name (fields_of ls)))
value-streamed name [] true true = refl
value-streamed name [] true false = refl
value-streamed name [] false true = refl
value-streamed name [] false false = refl
value-streamed name (l ∷ ls) mine found =
    added-case name l ls (continues l) (same_name (name_of l) name) mine found refl (value-streamed name ls)

found-streamed : (name : List ℕ) (ls : List (List ℕ)) (mine found : Bool) → found_after name mine found ls
    ≡ (found || not (is_none (values_of name (fields_of ls))))
found-streamed name [] mine true = refl
found-streamed name [] mine false = refl
found-streamed name (l ∷ ls) mine found = found-case name l ls (continues l) (same_name (name_of l) name) mine found refl
    (found-streamed name ls)

-- from the first line on, all of the value is to be added
pub streamed-all : (name : List ℕ) (ls : List (List ℕ)) → streamed name false false ls ≡ value_for name ls
unfolding value_for
streamed-all name ls = value-streamed name ls false false

pub found_all : (name : List ℕ) (ls : List (List ℕ)) → found_after name false false ls ≡ not (is_absent name ls)
unfolding is_absent
found_all name ls = found-streamed name ls false false

-- ---- a name that is absent has no value

none-value : (vs : List (List ℕ)) → is_none vs ≡ true → comma_between vs ≡ []
none-value [] h = refl
none-value (v ∷ vs) h = let z : ◌≡◌ {A = Bool} false true = h in cc

pub absent-value : (name : List ℕ) (ls : List (List ℕ)) → is_absent name ls ≡ true → value_for name ls ≡ []
unfolding is_absent value_for
absent-value name ls h = none-value (values_of name (fields_of ls)) h

-- ---- a value is no longer than its lines with their ends

-- the bytes of the lines with two for the end of each
abbrev sizes : List (List ℕ) → ℕ
sizes [] = 0
sizes (l ∷ ls) = length l + 2 + sizes ls

separated-short : (b : Option ℕ) → length (separated b) ≤ 1
separated-short None = omega arith
separated-short (Some b) = omega arith

added-short : (st : Step) (l : List ℕ) → length (added_by st l) ≤ length l + 2
added-short st l =
    simp (length-append, length-drop) (omega (arith, separated-short st.separator))

short_append : (a b : List ℕ) (m n : ℕ) → length a ≤ m → length b ≤ n → length (a ++ b) ≤ m + n
short_append a b m n h k = simp length-append (omega arith)

streamed-short : (name : List ℕ) (ls : List (List ℕ)) (mine found : Bool)
    → length (streamed name mine found ls) ≤ sizes ls
streamed-short name [] mine found = omega arith
streamed-short name (l ∷ ls) mine found =
    let st = step_of name mine found l in
    short_append (added_by st l) (streamed name st.mine st.found ls) (length l + 2) (sizes ls) (added-short st l)
    (streamed-short name ls st.mine st.found)

sizes-onto : (a : ℕ) (ls : List (List ℕ)) (n : ℕ) → 1 ≤ n → sizes ls ≤ n + 2 → sizes (onto a ls) ≤ suc n + 2
sizes-onto a [] n k h = le_three n k
  where
    le_three : (n : ℕ) → 1 ≤ n → 1 + 2 + 0 ≤ suc n + 2
    le_three n k = omega arith
sizes-onto a (l ∷ ls) n k h = le_more (length l) (sizes ls) n h
  where
    le_more : (x y n : ℕ) → x + 2 + y ≤ n + 2 → suc x + 2 + y ≤ suc n + 2
    le_more x y n h = omega arith

sizes-lines : (s : List ℕ) → sizes (lines_of s) ≤ length s + 2
sizes-lines [] = omega arith
sizes-lines (a ∷ []) = omega arith
sizes-lines (a ∷ (b ∷ bs)) = case (eqb a 13 && eqb b 10) (sizes-lines bs) (sizes-lines (b ∷ bs))
  where
    case : (t : Bool) → sizes (lines_of bs) ≤ length bs + 2 → sizes (lines_of (b ∷ bs)) ≤ suc (length bs) + 2
        → sizes (cond t ([] ∷ lines_of bs) (onto a (lines_of (b ∷ bs)))) ≤ suc (suc (length bs)) + 2
    case true h k = omega arith
    case false h k = sizes-onto a (lines_of (b ∷ bs)) (suc (length bs)) (omega arith) k

pub value-short : (name s : List ℕ) → length (value_for name (lines_of s)) ≤ length s + 2
value-short name s =
    omega (arith, ap length (streamed-all name (lines_of s)), streamed-short name (lines_of s) false false, sizes-lines s)

-- ---- turns of the loops over the lines

module _ (s line : List ℕ) (next : ℕ) (h : next < length s) (e : line ≡ line_at s next) where
  -- what stands behind the line
  abbrev behind : List (List ℕ)
  behind = lines_of (drop (next + length line + 2) s)

  next-lines : lines_of (drop next s) ≡ line ∷ behind
  next-lines = rw e (line-next s next h)

  ok_on : (before : Bool) → lines_ok before (lines_of (drop next s)) ≡ (line_ok before line && lines_ok true behind)
  ok_on before = ap (lines_ok before) next-lines

  pub next_fits : next + length line ≤ length s
  next_fits = rw e (line-fits s next (omega arith))

  module _ (name : List ℕ) (mine found : Bool) (st : Step) (step : st ≡ step_of name mine found line) (part : List ℕ)
      (g : part ≡ drop st.from line) where
    -- what is added by the line, and what is left behind it
    abbrev pub added : List ℕ
    added = separated st.separator ++ part

    abbrev pub later : List ℕ
    later = streamed name st.mine st.found behind

    streamed-on : streamed name mine found (lines_of (drop next s)) ≡ added ++ later
    streamed-on = ap (streamed name mine found) next-lines ∙ rw (g, step)

    found-on : found_after name mine found (lines_of (drop next s)) ≡ found_after name st.mine st.found behind
    found-on = ap (found_after name mine found) next-lines ∙ rw step

    streamed-size : length (streamed name mine found (lines_of (drop next s))) ≡ length (separated st.separator)
        + length part + length later
    streamed-size = ap length streamed-on ∙ simp length-append

-- ---- the lines gone through once

-- what was found up to a place, where all lines up to there are right, and what is left make the whole
pub record Left (s name : List ℕ) (next : ℕ) (before mine there : Bool) (total : ℕ) : Type 0 where
  pub good : lines_ok before (lines_of (drop next s)) ≡ lines_ok false (lines_of s)
  pub size : total + length (streamed name mine there (lines_of (drop next s))) ≡ length (value_for name (lines_of s))
  pub found : found_after name mine there (lines_of (drop next s)) ≡ not (is_absent name (lines_of s))

pub left-all : (s name : List ℕ) → Left s name 0 false false false 0
left-all s name =
    record {
      good = refl;
      size = omega (arith, ap length (streamed-all name (lines_of s)));
      found = found_all name (lines_of s);
    }

pub not-fields : (s name : List ℕ) → lines_ok false (lines_of s) ≡ false → no_fields ≡ found_in name (lines_of s)
unfolding found_in
not-fields s name e = rw e

-- a line that ends as lines do: the text from a place on, of `size` bytes
pub record Ended (s : List ℕ) (next : ℕ) (line : List ℕ) : Type 0 where
  pub rest : List ℕ
  pub size : ℕ
  pub inside : next < length s
  pub is-rest : rest ≡ drop next s
  pub is-size : size ≡ leading is_text rest
  pub ends : line_ends (drop size rest) ≡ true
  pub is-line : line ≡ take size rest

module _ {s : List ℕ} {next : ℕ} {line : List ℕ} (d : Ended s next line) where
  pub ended-line : line ≡ line_at s next
  unfolding line_at
  ended-line =
      let z : d.size ≡ line_length (drop next s)
      = d.is-size ∙ text-line d.rest (rw (← d.is-size) d.ends) ∙ ap line_length d.is-rest in
      d.is-line ∙ rw (d.is-rest, z)

  ended-text : all is_text line ≡ true
  ended-text = rw (d.is-line, d.is-size) (leading-all is_text d.rest)

module _ {s name : List ℕ} {next : ℕ} {before mine there : Bool} {total : ℕ}
    (l : Left s name next before mine there total) where
  -- all lines were fields
  pub left-good : length s ≤ next → lines_ok false (lines_of s) ≡ true
  left-good h = sym l.good ∙ ap (lines_ok before) (line-none s next h)

  -- and nothing was added for a name that is absent
  pub left-none : length s ≤ next → there ≡ false → total ≡ 0
  left-none h t =
      let e = line-none s next h in
      let f : there ≡ not (is_absent name (lines_of s)) = sym (ap (found_after name mine there) e) ∙ l.found in
      let absent = absent-value name (lines_of s) (not-false (is_absent name (lines_of s)) (sym f ∙ t)) in
      omega (arith, ap (λ ls. length (streamed name mine there ls)) e, l.size, ap length absent)

  pub left_end : length s ≤ next → ◌≡◌ {A = Found} (record { good = true; there = there; length = total })
      (found_in name (lines_of s))
  unfolding found_in
  left_end h =
      let e = line-none s next h in
      let g : lines_ok false (lines_of s) ≡ true = sym l.good ∙ ap (lines_ok before) e in
      let f : there ≡ not (is_absent name (lines_of s)) = sym (ap (found_after name mine there) e) ∙ l.found in
      let n : total ≡ length (value_for name (lines_of s)) =
      omega (arith, ap (λ ls. length (streamed name mine there ls)) e, l.size) in
      rw (g, f, n)

  -- the text from the place on, of n bytes
  module _ (rest : List ℕ) (n : ℕ) (h : next < length s) (e : rest ≡ drop next s) (k : n ≡ leading is_text rest) where
    -- it does not end as a line does
    pub left-broken : line_ends (drop n rest) ≡ false → lines_ok false (lines_of s) ≡ false
    unfolding line_at
    left-broken t =
        let u : all is_text (line_at s next) ≡ false = text-broken (drop next s) (rw (← e, ← k) t) in
        sym l.good ∙ ok_on s (line_at s next) next h refl before ∙ rw u

  module _ {line : List ℕ} (d : Ended s next line) where
    lines_ok_lem : (b : Bool) → field_ok before line ≡ b → lines_ok before (lines_of (drop next s))
        ≡ (b && lines_ok true (lines_of (drop (next + length line + 2) s)))
    lines_ok_lem b v = ok_on s line next d.inside (ended-line d) before ∙ rw (ended-text d, v)

    pub left-bad : field_ok before line ≡ false → lines_ok false (lines_of s) ≡ false
    left-bad v = sym l.good ∙ lines_ok_lem false v

    module _ (st : Step) (step : st ≡ step_of name mine there line) (part : List ℕ) (p : part ≡ drop st.from line)
        (b : ℕ) (q : b ≡ length (separated st.separator)) where
      pub left-on : field_ok before line ≡ true → Left s name (next + length line + 2) true st.mine st.found
          (total + b + length part)
      left-on v =
          record {
            good = sym (lines_ok_lem true v) ∙ l.good;
            size = omega (
              arith,
              streamed-size s line next d.inside (ended-line d) name mine there st step part p,
              l.size,
            );
            found = sym (found-on s line next d.inside (ended-line d) name mine there st step part p) ∙ l.found;
          }

      pub left-small : total + b + length part ≤ length s + 2
      left-small = omega (
        arith,
        streamed-size s line next d.inside (ended-line d) name mine there st step part p,
        l.size,
        value-short name s,
      )

-- ---- the first line of the name

module _ (name l : List ℕ) (ls : List (List ℕ)) where
  unmet-case : (goes_on named mine there : Bool) (blanks start size : ℕ) → same_name (name_of l) name ≡ named
      → (step_from goes_on named mine there blanks start size).found ≡ false
      → (there ≡ false)
      × (comma_between (values_of name (fields_of ls))
      ≡ comma_between (values_of name (cond goes_on (fields_of ls) ((name_of l, value_of l ++ continued ls) ∷ fields_of ls))))
  unfolding step_from
  unmet-case true named true there blanks start size e u = (u, refl)
  unmet-case true named false there blanks start size e u = (u, refl)
  unmet-case false false mine there blanks start size e u = (u, rw e)
  unmet-case false true mine there blanks start size e u = absurd (clash refl u)

  -- a line behind which the name is not met adds nothing to the value
  unmet : (mine there : Bool) → (step_of name mine there l).found ≡ false
      → (there ≡ false) × (value_for name ls ≡ value_for name (l ∷ ls))
  unfolding value_for
  unmet mine there =
      unmet-case (continues l) (same_name (name_of l) name) mine there (leading is_blank l) (value_start l) (length l) refl

-- the lines from the first of the name on have the whole value, and those from the next on do while it is not met
abbrev pub Begun : List ℕ → List ℕ → ℕ → Option ℕ → Type 0
Begun s name next None = WholeFrom name s next
Begun s name next (Some first) = WholeFrom name s first

pub begun-on : (s name : List ℕ) {next : ℕ} (first : Option ℕ) → Begun s name next first → {line : List ℕ}
    → Ended s next line → (mine : Bool) (st : Step) → st ≡ step_of name mine (is_some first) line
    → Begun s name (next + length line + 2) (option_or first (then_some st.found next))
begun-on s name (Some first) b d mine st step = b
begun-on s name {next} None b {line} d mine st step = go st.found refl
  where
    go : (t : Bool) → st.found ≡ t → Begun s name (next + length line + 2) (option_or None (then_some t next))
    go true e = b
    go false e =
        let n = unmet name line (lines_of (drop (next + length line + 2) s)) mine false (rw step at e) in
        n.1 ∙ ap (value_for name) (sym (next-lines s line next d.inside (ended-line d))) ∙ b

-- once the name was met it stays so
stays-met : (goes_on named mine : Bool) (blanks start size : ℕ) → (step_from goes_on named mine true blanks start size).found
    ≡ true
unfolding step_from
stays-met true named true blanks start size = refl
stays-met true named false blanks start size = refl
stays-met false true mine blanks start size = refl
stays-met false false mine blanks start size = refl

-- the name was met where its first place is known
pub met-on : (first : Option ℕ) (next : ℕ) (name line : List ℕ) (mine : Bool) (st : Step)
    → st ≡ step_of name mine (is_some first) line → is_some (option_or first (then_some st.found next)) ≡ st.found
met-on (Some first) next name line mine st step =
    sym (ap (λ (x : Step). x.found) step
    ∙ stays-met (continues line) (same_name (name_of line) name) mine (leading is_blank line) (value_start line) (length line))
met-on None next name line mine st step = go st.found
  where
    go : (t : Bool) → is_some (option_or None (then_some t next)) ≡ t
    go true = refl
    go false = refl

-- a separator has one byte
pub separated-count : (b : Option ℕ) (t : Bool) → t ≡ is_some b → bool_byte t ≡ length (separated b)
separated-count None t e = rw e
separated-count (Some b) t e = rw e

-- ---- the value written line by line

-- what was written up to a place and what is still to be written make the whole value
pub record Writing (s name : List ℕ) (long : ℕ) (area : List ℕ) (next : ℕ) (mine there : Bool) (at : ℕ)
    (out : List ℕ) : Type 0 where
  pub left : over at (streamed name mine there (lines_of (drop next s))) out ≡ over 0 (value_for name (lines_of s)) area
  pub count : at + length (streamed name mine there (lines_of (drop next s))) ≡ long
  pub size : length out ≡ length area
  pub room : long ≤ length out

pub writing-all : (s name : List ℕ) (long first : ℕ) (area : List ℕ) → WholeFrom name s first
    → (long ≡ length (value_for name (lines_of s))) × (long ≤ length area)
    → Writing s name long area first false false 0 area
writing-all s name long first area w h =
    let e = streamed-all name (lines_of (drop first s)) ∙ w in
    record { left = ap (λ v. over 0 v area) e; count = omega (arith, ap length e, h.0); size = refl; room = h.1 }

none_over : (at : ℕ) (v out : List ℕ) → length v ≡ 0 → over at v out ≡ out
none_over at [] out e = over_none at out
none_over at (b ∷ v) out e = let z : ◌≡◌ {A = ℕ} 0 1 = omega arith in cc

module _ {s name : List ℕ} {long : ℕ} {area : List ℕ} {next : ℕ} {mine there : Bool} {at : ℕ} {out : List ℕ}
    (w : Writing s name long area next mine there at out) where
  -- where bytes of the value are left, lines are
  pub writing-here : at < long → next < length s
  writing-here h = one (ltb next (length s)) refl
    where
      one : (t : Bool) → ltb next (length s) ≡ t → next < length s
      one true k = ltb-true next (length s) k
      one false k =
          let none = ap (λ ls. length (streamed name mine there ls)) (line-none s next (ltb-false next (length s) k)) in
          omega (arith, none, w.count)

  pub writing-end : long ≤ at → out ≡ over 0 (value_for name (lines_of s)) area
  writing-end h = sym (none_over at (streamed name mine there (lines_of (drop next s))) out (omega (arith, w.count)))
      ∙ w.left

  module _ (h : at < long) (line : List ℕ) (e : line ≡ line_at s next) (st : Step)
      (step : st ≡ step_of name mine there line) (part : List ℕ) (p : part ≡ drop st.from line) where
    counted : length (streamed name mine there (lines_of (drop next s))) ≡ length (separated st.separator) + length
        part + length (later s line next (writing-here h) e name mine there st step part p)
    counted = streamed-size s line next (writing-here h) e name mine there st step part p

    pub writing-room : at + length (separated st.separator ++ part) ≤ length out
    writing-room = omega (arith, counted, w.count, w.room, length-append (separated st.separator) part)

    pub writing-on : (to : ℕ) (after : List ℕ) → to ≡ at + length (separated st.separator ++ part)
        → after ≡ over at (separated st.separator ++ part) out → length after ≡ length out
        → Writing s name long area (next + length line + 2) st.mine st.found to after
    writing-on to after m o z =
        let rest = later s line next (writing-here h) e name mine there st step part p in
        record {
          left =
              ap₂ (λ k a. over k rest a) m o
              ∙ over_append at (separated st.separator ++ part) rest out writing-room
              ∙ ap (λ x. over at x out)
              (sym (streamed-on s line next (writing-here h) e name mine there st step part p))
              ∙ w.left;
          count = omega (arith, counted, w.count, m, length-append (separated st.separator) part);
          size = z ∙ w.size;
          room = omega (arith, w.room);
        }

-- `l[at..at + part.len()].copy_from_slice(part)`
pub over-part : (at : ℕ) (part l ys : List ℕ) (k : ℕ) → k ≡ length part → ys ≡ part
    → put_mid at k l ys ≡ over at part l
over-part at part l ys k h y =
    ap (λ z. take at l ++ (ys ++ z)) (drop-drop k at l ∙ ap (λ j. drop (at + j) l) h)
    ∙ ap (λ x. take at l ++ (x ++ drop (at + length part) l)) y

-- whether the lines are fields, whichever name was looked for
pub found-good : (name : List ℕ) (ls : List (List ℕ)) → (found_in name ls).good ≡ lines_ok false ls
unfolding found_in
found-good name ls = go (lines_ok false ls)
  where
    go : (t : Bool)
        → ◌≡◌ {A = Bool}
        (cond {A = Found} t (record { good = true; there = not (is_absent name ls); length = length (value_for name ls) })
        no_fields).good t
    go true = refl
    go false = refl
