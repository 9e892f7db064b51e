-- Each half is below 2^32.
use Prim.Native.Nat.{◌%◌, ◌/◌}
use mathlib.Core.Path.{refl}
use native.Mathlib.Omega.{arith}
use Rattle.names.specs.Chains.{spread}
use Rattle.names.proofs.KeyLaws.{spread-fits}
use Rattle.names.proofs.chains.spread.Goals as goal

pub overflow_add-result : goal.overflow_add-result
overflow_add-result c = spread-fits (c.args.x % 4294967296) (c.args.x / 4294967296) (omega arith) (omega (arith, c.well_formed))

pub returns : goal.returns
unfolding spread
returns c = refl
