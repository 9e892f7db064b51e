-- The top bits of the hash.
use Prim.Native.Nat.{◌-◌, ◌/◌, ◌^◌}
use mathlib.Core.Path.{ap, ◌∙◌}
use Rattle.keywords.proofs.hash.place.Goals as goal

pub returns : goal.returns
returns c = c.top.ensures ∙ ap (λ h. h / 2 ^ (32 - c.args.bits)) c.hash.ensures
