-- Laws of the last two columns and of a row.
use Prim.Native.Nat.{ℕ, ◌+◌, ◌*◌, ◌≤◌, ◌<◌}
use mathlib.Core.Path.{◌≡◌, refl, sym, ap, ◌∙◌}
use mathlib.Core.Bool.{Bool, true, false, cond, ◌||◌}
use mathlib.Core.List.{List, [], ◌∷◌, ◌++◌, append_assoc}
use native.Mathlib.Numerals.{add-one}
use native.Mathlib.Omega.{arith}
use lib.ListN.{length, get_or, drop}
use lib.Seq.{drop-cons}
use Rattle.laws.specs.Parts.{Put}
use Rattle.laws.proofs.Text.{put_then}
use Rattle.digits.specs.Decimal.{decimal}
use Rattle.protocol.specs.declared.Age.{Age}
use Rattle.transcript.specs.Rows.{space, dash, newline, flagged, further_lines, line_list, flag_text}
use Rattle.transcript.specs.Rows.{sent_text, column_text, age_text, row_text}
use Rattle.transcript.proofs.Putting.{Left, left-start, left-on}

-- what is still to be listed, of the flags from line k on
abbrev pub left_text : Bool → ℕ → List Bool → List ℕ
left_text started k flags = cond started (further_lines (flagged k flags)) (line_list (flagged k flags))

flag-next : (started flag : Bool) (k : ℕ) (flags : List Bool) → left_text started k (flag ∷ flags)
    ≡ flag_text started flag k ++ left_text (started || flag) (k + 1) flags
flag-next true true k flags = refl
flag-next true false k flags = refl
flag-next false true k flags = refl
flag-next false false k flags = refl

pub flag-size : (started flag : Bool) (k : ℕ) → length (flag_text started flag k) ≤ 2
flag-size true true k = omega arith
flag-size true false k = omega arith
flag-size false true k = omega arith
flag-size false false k = omega arith

pub record Listing (to : List Bool) (before : List ℕ) (at : ℕ) (area : List ℕ) (next : ℕ) (started : Bool)
    (k : ℕ) : Type 0 where
  pub within : k ≤ 8
  pub near : next ≤ at + 2 * k
  pub rest : Left at (sent_text to) before next (left_text started k (drop k to)) area

pub listing_start : (to : List Bool) (at : ℕ) (area : List ℕ) → Listing to area at area at false 0
unfolding sent_text
listing_start to at area = record { within = omega arith; near = omega arith; rest = left-start at (sent_text to) area }

module _ {to : List Bool} {before : List ℕ} {at : ℕ} {area : List ℕ} {next : ℕ} {started : Bool} {k : ℕ}
    (l : Listing to before at area next started k)
    (eight : length to ≡ 8) (room : at + 17 ≤ length before) where
  pub listing_on : {after : List ℕ} {j : ℕ} → k < 8 → Put next (flag_text started (get_or to k false) k) area after j
      → Listing to before at after j (started || get_or to k false) (k + 1)
  listing_on h p =
      let f = get_or to k false in
      let x : drop k to ≡ f ∷ drop (k + 1) to = drop-cons to k false (omega arith) ∙ ap (λ n. f ∷ drop n to)
      (sym (add-one k)) in
      let y = ap (left_text started k) x ∙ flag-next started f k (drop (k + 1) to) in
      let z : Left at (sent_text to) before next (flag_text started f k ++ left_text (started || f) (k + 1)
      (drop (k + 1) to)) area = rw y at l.rest in
      let s = l.rest.size in
      let n = l.near in
      let b = flag-size started f k in
      let m = p.moved in
      record {
        within = omega arith;
        near = omega arith;
        rest = left-on (flag_text started f k) (left_text (started || f) (k + 1) (drop (k + 1) to)) z p (omega arith);
      }

-- ---- a row, each part put where the one before it ends

pub column_put : (n : ℕ) {at : ℕ} {area mid after : List ℕ} {i j : ℕ} → at + 6 ≤ length area
    → Put at (decimal n) area mid i → i ≤ at + 5
    → Put i (space ∷ []) mid after j → Put at (column_text n) area after j × (j ≤ at + 6)
column_put n room p near q = let m = q.moved in (put_then p q (omega arith), omega arith)

-- the age's column: a dash, or its number
module _ (age : Age) {at : ℕ} {area after : List ℕ} {j : ℕ} where
  pub age-none : age.known ≡ false → Put at (dash ∷ []) area after j → Put at (age_text age) area after j × (j ≤ at + 5)
  unfolding age_text
  age-none e p = let m = p.moved in (rw e p, omega arith)

  pub age-some : age.known ≡ true → Put at (decimal age.after) area after j → Put at (age_text age) area after j
  unfolding age_text
  age-some e p = rw e p

pub row_put : (i answer : ℕ) (to : List Bool) (age : Age) {at : ℕ} {a₀ a₁ a₂ a₃ a₄ a₅ a₆ : List ℕ} {p q r s t u : ℕ}
    → at + 36 ≤ length a₀ → Put at (column_text i) a₀ a₁ p → p ≤ at + 6 → Put p (column_text answer) a₁ a₂ q → q ≤ p + 6
    → Put q (sent_text to) a₂ a₃ r → r ≤ q + 17 → Put r (space ∷ []) a₃ a₄ s → Put s (age_text age) a₄ a₅ t → t ≤ s + 5
    → Put t (newline ∷ []) a₅ a₆ u → Put at (row_text i answer to age) a₀ a₆ u × (u ≤ at + 36)
unfolding row_text
row_put i answer to age room p₁ n₁ p₂ n₂ p₃ n₃ p₄ p₅ n₅ p₆ =
    let m = p₄.moved in
    let n = p₆.moved in
    let sent = put_then (put_then (put_then p₁ p₂ (omega arith)) p₃ (omega arith)) p₄ (omega arith) in
    (simp append_assoc (simp append_assoc at (put_then (put_then sent p₅ (omega arith)) p₆ (omega arith))), omega arith)
