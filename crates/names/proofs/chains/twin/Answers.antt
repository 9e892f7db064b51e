-- The second with its halves turned.
use mathlib.Core.Path.{ap, ◌∙◌}
use native.Mathlib.Omega.{arith}
use Rattle.std.specs.Int.Bits.{bit_xor}
use Rattle.names.specs.Chains.{twin_of}
use Rattle.names.proofs.KeyLaws.{turned-is}
use Rattle.names.proofs.chains.twin.Goals as goal

pub returns : goal.returns
unfolding twin_of
returns c = ap (bit_xor c.args.a) (c.rotate_left.ensures ∙ turned-is c.args.b (omega arith))
