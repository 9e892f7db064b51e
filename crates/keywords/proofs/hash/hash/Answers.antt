-- The product of the joined chunks, modulo 2 to the power 32.
use Prim.Native.Nat.{◌*◌, ◌%◌, ◌^◌}
use mathlib.Core.Path.{ap}
use Rattle.keywords.specs.Hash.{factor, hash_of}
use Rattle.keywords.proofs.hash.hash.Goals as goal

pub returns : goal.returns
unfolding hash_of
returns c = ap (λ n. n * factor % 2 ^ 32) c.joined.ensures
