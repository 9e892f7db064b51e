-- The words before the last two that are left give the key so far.
use mathlib.Core.Path.{◌≡◌}
use lib.ListN.{length}
use Rattle.names.specs.Chains.{key_from}
use Rattle.names.proofs.chains.key.Given as goal

abbrev pub invariant-loop-rest : goal.invariant-loop-rest
invariant-loop-rest l = key_from (length l.rest) l.n l.rest ≡ key_from (length l.name) 0 l.name

abbrev pub decreases-loop-rest : goal.decreases-loop-rest
decreases-loop-rest l = length l.rest
