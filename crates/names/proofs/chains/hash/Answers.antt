-- The key, mixed once more.
use mathlib.Core.Path.{ap, ◌∙◌}
use Rattle.names.specs.Chains.{mixed, hash_of}
use Rattle.names.proofs.chains.hash.Goals as goal

pub returns : goal.returns
unfolding hash_of
returns c = c.mix.ensures ∙ ap (λ k. mixed k 0) c.key.ensures
