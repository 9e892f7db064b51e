-- Laws of a number of at most so many digits, read from a text of at most so many bytes.
use Prim.Native.Nat.{ℕ, ◌≤◌}
use mathlib.Core.Path.{◌≡◌, refl, sym, ap, ◌∙◌}
use mathlib.Core.Bool.{Bool, true, false}
use mathlib.Core.List.{List}
use native.Mathlib.Omega.{arith}
use lib.Dec.{eqb}
use lib.ListN.{length, take}
use lib.Seq.{take_all}
use borrow.Author.Tests.{eqb-true, eqb-false}
use Rattle.laws.specs.Tests.{all}
use Rattle.ascii.specs.Text.{is_digit, leading, decimal_from, digit_count, digit_value}
use Rattle.ascii.proofs.TextLaws.{all-run, not-all-run}
use Rattle.xtry.specs.Pairs.{number}

module _ (text : List ℕ) (few : length text ≤ 5) where
  -- all digits are looked at
  count-is : digit_count text ≡ leading is_digit text
  count-is = ap (leading is_digit) (take_all 6 text (omega arith))

  -- all bytes are digits exactly where as many digits are counted
  pub counted : eqb (digit_count text) (length text) ≡ all is_digit text
  counted = go (eqb (digit_count text) (length text)) refl
    where
      go : (t : Bool) → eqb (digit_count text) (length text) ≡ t → t ≡ all is_digit text
      go true e = sym (all-run is_digit text (sym count-is ∙ eqb-true (digit_count text) (length text) e))
      go false e = sym (not-all-run is_digit text (λ k. eqb-false (digit_count text) (length text) e (count-is ∙ k)))

  pub value-is : digit_count text ≡ length text → digit_value text ≡ number text
  unfolding digit_value
  value-is h =
      ap (λ n. decimal_from 0 (take n text)) h ∙ ap (decimal_from 0) (take_all (length text) text (omega arith))
