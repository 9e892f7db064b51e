-- Each keyword of a text stands in it: a run of its bytes, in lower case.
use Prim.Native.Nat.{ℕ, zero, suc, ◌+◌, ◌-◌, ◌≤◌, ◌<◌}
use native.Mathlib.Decide.{dec_le}
use native.Mathlib.Omega.{arith}
use mathlib.Core.Path.{◌≡◌, ap, ◌∙◌}
use mathlib.Core.Logic.{⊎_elim}
use mathlib.Core.List.Memᴰ
use mathlib.Core.List.{List, map, Memᴰ}
use lib.ListN.{length, get_or, drop, length-take, length-drop, length-map}
use lib.Seq.{get_or-take, get_or-drop}
use Rattle.laws.proofs.Rings.{map-get_or}
use Rattle.ascii.specs.Text.{lower}
use Rattle.keywords.specs.Keywords.{keywords_of, cut_start, cut_end, keyword_at, text_behind}
use Rattle.keywords.proofs.CutLaws.{keywords_cut, keywords_none, cut-within}

pub record Stands (k text : List ℕ) : Type 0 where
  pub at : ℕ
  pub some : 0 < length k
  pub inside : at + length k ≤ length text
  pub each : (j : ℕ) → j < length k → get_or k j 0 ≡ lower (get_or text (at + j) 0)

module _ (text k : List ℕ) (c : cut_start text < cut_end text) where
  -- the first does
  first : k ≡ map lower (keyword_at text) → Stands k text
  first e =
      let word = keyword_at text in
      let from = drop (cut_start text) text in
      let size = ap length e ∙ length-map word lower in
      let most = length-take (cut_end text - cut_start text) from in
      let left = length-drop (cut_start text) text in
      let w = cut-within text in
      record {
        at = cut_start text;
        some = omega arith;
        inside = omega arith;
        each = λ j h.
            ap (λ l. get_or l j 0) e
            ∙ map-get_or lower word j 0 0 (omega arith)
            ∙ ap lower (get_or-take (cut_end text - cut_start text) from j 0 (omega arith)
            ∙ get_or-drop (cut_start text) text j 0);
      }

  -- and so does one that stands in the text behind it
  later : Stands k (text_behind text) → Stands k text
  later s =
      let left = length-drop (cut_end text) text in
      let w = cut-within text in
      record {
        at = cut_end text + s.at;
        some = s.some;
        inside = omega (arith, s.inside, s.some);
        each = λ j h.
            let e : cut_end text + (s.at + j) ≡ cut_end text + s.at + j = omega arith in
            s.each j h ∙ ap lower (get_or-drop (cut_end text) text (s.at + j) 0 ∙ ap (λ n. get_or text n 0) e);
      }

-- by the text's length
stands-below : (n : ℕ) (text k : List ℕ) → length text < n → Memᴰ k (keywords_of text) → Stands k text
stands-below zero text k h m = absurd (omega arith)
stands-below (suc n) text k h m = by (dec_le (suc (cut_start text)) (cut_end text)) (stands-below n (text_behind text) k)
  where
    by : Dec (cut_start text < cut_end text)
        → (length (text_behind text) < n → Memᴰ k (keywords_of (text_behind text)) → Stands k (text_behind text))
        → Stands k text
    by (yes c) below =
        let shorter : length (text_behind text) < n =
        omega (arith, length-drop (cut_end text) text, cut-within text) in
        ⊎_elim (first text k c) (λ t. later text k c (below shorter t))
        (Memᴰ.cases_cons (rw (keywords_cut text c) at m))
    by (no c) below =
        absurd (Memᴰ.not-nil (rw (keywords_none text (omega (arith, cut-within text))) at m))

pub keyword_stands : (text k : List ℕ) → Memᴰ k (keywords_of text) → Stands k text
keyword_stands text k = stands-below (suc (length text)) text k (omega arith)
