-- As many digits as bytes: the text is a number, and its value is the one that was read.
use mathlib.Core.Path.{◌≡◌, sym, ap, ◌∙◌}
use mathlib.Core.Bool.{true}
use native.Mathlib.Omega.{arith}
use lib.ListN.{length}
use borrow.Author.Tests.{le-leb, eq-eqb}
use Rattle.std.proofs.Common.{Some}
use Rattle.laws.specs.Tests.{all}
use Rattle.ascii.specs.Text.{is_digit, digit_count}
use Rattle.ascii.specs.declared.Decimal.{Decimal}
use Rattle.xtry.specs.Reading.{number_in}
use Rattle.xtry.proofs.Numbers.{counted, value-is}
use Rattle.xtry.proofs.read.number.Goals as goal

pub returns-then-digits-text : goal.returns-then-digits-text
unfolding number_in
returns-then-digits-text c =
    let text = c.args.text.now in
    let d : digit_count text ≡ length text = sym (ap (λ (v : Decimal). v.count) c.leading_number-digits.ensures)
    ∙ c.if-digits-text.true in
    let digits : all is_digit text ≡ true = sym (counted text (omega arith)) ∙ eq-eqb _ _ d in
    rw (le-leb 1 (length text) (omega arith), le-leb (length text) c.args.widest (omega arith), digits)
    (ap Some (ap (λ (v : Decimal). v.value) c.leading_number-digits.ensures ∙ value-is text (omega arith) d))
