-- The place of the first zero byte is how many bytes stand before it.
use Rattle.std.proofs.Common.{rules, ◌≡◌, sym, ◌∙◌, refl, length}
use borrow.Author.Tests.{tests}
use Rattle.std.proofs.lemmas.Iterator.{YieldsList-from_slice, IsFirst-from_position, index_from_first}
use Rattle.laws.specs.Text.{until_zero}
use Rattle.forwarding.proofs.TextLaws.{zero_here, zero_on}
use Rattle.forwarding.proofs.texts.until_zero.Goals as goal

pub returns : goal.returns
unfolding until_zero
returns c =
    let part = c.args.part.now in
    let first =
    IsFirst-from_position _ _ c.position.result (λ b. b ≡ 0) (λ b. b ≡ 0 → ⊥) c.position.ensures.ran
    (YieldsList-from_slice part cc) (λ x q k. search (rules, tests)) (λ x q k. search (rules, tests)) in
    c.unwrap_or.ensures
    ∙ sym (index_from_first (λ l. length (until_zero l)) (λ b. b ≡ 0) (λ b. b ≡ 0 → ⊥) refl zero_here zero_on part c.position.result first)
