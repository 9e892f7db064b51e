-- The digits counted are a run within the first six bytes, so that the value is taken of at most six.
use Prim.Native.Nat.{ℕ}
use mathlib.Core.Path.{◌≡◌, ap, ap₂, ◌∙◌}
use native.Mathlib.Omega.{arith}
use lib.ListN.{get_or, take, length-take}
use Rattle.ascii.specs.declared.Decimal.{Decimal}
use Rattle.ascii.specs.Text.{leading, is_digit, digit_count, digit_value, decimal_from}
use Rattle.ascii.proofs.TextLaws.{run_length}
use Rattle.ascii.proofs.leading_number.Goals as goal

abbrev number_of : ℕ → ℕ → Decimal
number_of n v = record { count = n; value = v }

pub value_of-requires : goal.value_of-requires
value_of-requires c =
    let s = c.args.s.now in
    let e : c.leading-count.result ≡ digit_count s = c.leading-count.ensures ∙ ap (leading is_digit)
    c.front.ensures in
    rw c.front-2.ensures
    (simp length-take (omega (arith, run_length (λ t. is_digit (get_or t 0 0)) (take 6 s), length-take 6 s)))

pub returns : goal.returns
unfolding digit_value
returns c =
    let s = c.args.s.now in
    let e : c.leading-count.result ≡ digit_count s = c.leading-count.ensures
    ∙ ap (leading is_digit) c.front.ensures in
    ap₂ number_of e (c.value_of.ensures ∙ ap (decimal_from 0) (c.front-2.ensures ∙ ap (λ n. take n s) e))
