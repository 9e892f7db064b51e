-- The bytes at the first four places, and zeros past the end.
use Prim.Native.Nat.{◌+◌, ◌*◌}
use mathlib.Core.Path.{sym, ap₂, ◌∙◌}
use native.Mathlib.Nat.{add-zero}
use Rattle.laws.proofs.Writing.{little-four}
use Rattle.keywords.proofs.hash.chunk.Goals as goal

pub returns : goal.returns
returns c =
    c.four.ensures
    ∙ ap₂ (λ x y. x + 256 * y) c.byte_at.ensures
    (ap₂ (λ x y. x + 256 * y) c.byte_at-2.ensures
    (ap₂ (λ x y. x + 256 * y) c.byte_at-3.ensures (add-zero _ ∙ c.byte_at-4.ensures)))
    ∙ sym (little-four c.args.keyword.now)
